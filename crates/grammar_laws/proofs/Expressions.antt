-- Expressions are read back in one way, before what doesn't go on with them.
use Rattle.std.specs.Prelude.{◌≡◌, ℕ, true, List, ◌∷◌, Some, None, refl}
use Rattle.std.proofs.Common.{sym, ◌∙◌, ap, arith}
use Rattle.ob_text.specs.declared.span.Span.{Span}
use Rattle.oberon_scan.specs.declared.token.Token.{Token}
use Rattle.oberon_scan.specs.declared.token.Word.TheVariants as words
use Rattle.oberon_scan.specs.declared.token.Symbol.TheVariants as symbols
use Rattle.oberon_tree.specs.declared.expression.Sign.{Sign}
use Rattle.oberon_tree.specs.declared.expression.Sign.TheVariants as signs
use Rattle.oberon_tree.specs.declared.expression.Signed.{Signed}
use Rattle.oberon_tree.specs.Tokens.{symbol_token, sign_token}
use Rattle.oberon_tree.specs.Trees.{expr_of, RelationTree, no_relation, relation_of, simple_of, AddendsTree, no_addends, more_addends, TermTree, term_of, MultipliersTree, no_multipliers, more_multipliers, FactorTree, integer_factor, string_factor, true_factor, false_factor, set_factor, designator_factor, group_factor, negation_factor, set_of, ElementsTree, no_elements, some_elements, MoreElementsTree, no_more_elements, more_elements, ElementTree, element_of, UpperTree, no_upper, upper_of, designator_of, no_selectors, more_selectors, SelectorTree, field_selector, index_selector, call_selector, ArgumentsTree, no_arguments, some_arguments, ExprsTree, exprs_of, MoreExprsTree, no_more_exprs, more_exprs}
use Rattle.oberon_tree.specs.Print.{print_sign, print_expr, print_relation, print_simple, print_addends, print_term, print_multipliers, print_factor, print_set, print_elements, print_more_elements, print_element, print_upper, print_designator, print_selectors, print_selector, print_arguments, print_exprs, print_more_exprs}
use Rattle.oberon_productions.specs.Tests.{is_symbol, is_sign, next_is}
use Rattle.oberon_productions.proofs.Follows.{next_reach}
use Rattle.oberon_productions.proofs.ForthExpressions.{relator_rank, add_rank, mul_rank, expr_opens}
use Rattle.grammar_laws.proofs.One.{One, Under, Lacks, Any, begins, head_one, rest_one, span_one}
use Rattle.grammar_laws.proofs.Leaves.{ident_code, integer_code, string_code, code_of_word, code_of_symbol, next_code, ident_one, integer_one, string_one, sign_one, relator_one, add_one, mul_one}
use Rattle.grammar_laws.proofs.Names.{member_one}

-- ---- what follows a part

relation_next : (x : RelationTree) (r : List Token) → Under 6 r → Under 7 (print_relation x r)
relation_next no_relation r h = omega arith
relation_next (relation_of op span right) r h = omega (arith, relator_rank op)

addends_next : (x : AddendsTree) (r : List Token) → Under 7 r → Under 8 (print_addends x r)
addends_next no_addends r h = omega arith
addends_next (more_addends op span t more) r h = omega (arith, add_rank op)

multipliers_next : (x : MultipliersTree) (r : List Token) → Under 8 r → Under 9 (print_multipliers x r)
multipliers_next no_multipliers r h = omega arith
multipliers_next (more_multipliers op span f more) r h = omega (arith, mul_rank op)

upper_next : (x : UpperTree) (r : List Token) → Under 5 r → Under 6 (print_upper x r)
upper_next no_upper r h = omega arith
upper_next (upper_of dots e) r h = omega arith

more_elements_next : (x : MoreElementsTree) (r : List Token) → Under 4 r → Under 5 (print_more_elements x r)
more_elements_next no_more_elements r h = omega arith
more_elements_next (more_elements comma e more) r h = omega arith

more_exprs_next : (x : MoreExprsTree) (r : List Token) → Under 4 r → Under 6 (print_more_exprs x r)
more_exprs_next no_more_exprs r h = omega arith
more_exprs_next (more_exprs comma e more) r h = omega arith

-- ---- the token that a factor or a selector begins with

abbrev factor_code : FactorTree → ℕ
factor_code (integer_factor n) = integer_code
factor_code (string_factor t) = string_code
factor_code (true_factor span) = code_of_word words.True
factor_code (false_factor span) = code_of_word words.False
factor_code (set_factor x) = code_of_symbol symbols.OpenBrace
factor_code (designator_factor d) = ident_code
factor_code (group_factor a e b) = code_of_symbol symbols.OpenParen
factor_code (negation_factor span f) = code_of_symbol symbols.Tilde

factor_begins : (f : FactorTree) (r : List Token) → next_code (print_factor f r) ≡ factor_code f
factor_begins (integer_factor n) r = refl
factor_begins (string_factor t) r = refl
factor_begins (true_factor span) r = refl
factor_begins (false_factor span) r = refl
factor_begins (set_factor (set_of a es b)) r = refl
factor_begins (designator_factor (designator_of name more)) r = refl
factor_begins (group_factor a e b) r = refl
factor_begins (negation_factor span f) r = refl

same_factor_code : (a b : FactorTree) (r s : List Token) → print_factor a r ≡ print_factor b s → factor_code a ≡ factor_code b
same_factor_code a b r s e = sym (factor_begins a r) ∙ ap next_code e ∙ factor_begins b s

-- no term begins with a sign
term_unsigned : (t : TermTree) (r : List Token) → Lacks is_sign (print_term t r)
term_unsigned (term_of (integer_factor n) m) r = refl
term_unsigned (term_of (string_factor t) m) r = refl
term_unsigned (term_of (true_factor span) m) r = refl
term_unsigned (term_of (false_factor span) m) r = refl
term_unsigned (term_of (set_factor (set_of a es b)) m) r = refl
term_unsigned (term_of (designator_factor (designator_of name more)) m) r = refl
term_unsigned (term_of (group_factor a e b) m) r = refl
term_unsigned (term_of (negation_factor span f) m) r = refl

sign_begins : (sign : Sign) (span : Span) (r : List Token) → next_is is_sign (sign_token sign span ∷ r) ≡ true
sign_begins signs.Plus span r = refl
sign_begins signs.Minus span r = refl

signed : (g : Signed) (t : TermTree) (q r : List Token) → ¬ (print_term t q ≡ print_sign g r)
signed g t q r = begins is_sign (print_term t q) (print_sign g r) (sign_begins g.sign g.span r) (term_unsigned t q)

selector_begins : (x : SelectorTree) (r : List Token) → next_reach (print_selector x r) ≡ 9
selector_begins (field_selector m) r = refl
selector_begins (index_selector a es b) r = refl
selector_begins (call_selector a es b) r = refl

-- no expression begins with a closing token
element_begins : (x : ElementTree) (q r : List Token) (b : Span) → ¬ (symbol_token symbols.CloseBrace b ∷ r ≡ print_element x q)
element_begins (element_of e last) q r b h = begins (is_symbol symbols.CloseBrace) (print_expr e (print_upper last q)) (symbol_token symbols.CloseBrace b ∷ r) refl (expr_opens e (print_upper last q)).1 (sym h)

exprs_begin : (x : ExprsTree) (q r : List Token) (b : Span) → ¬ (symbol_token symbols.CloseParen b ∷ r ≡ print_exprs x q)
exprs_begin (exprs_of e more) q r b h = begins (is_symbol symbols.CloseParen) (print_expr e (print_more_exprs more q)) (symbol_token symbols.CloseParen b ∷ r) refl (expr_opens e (print_more_exprs more q)).0 (sym h)

-- ---- the trees

mutual
  pub expr_one : One print_expr (Under 6)
  expr_one (expr_of a x) (expr_of b y) r s h k e =
      let p = simple_one a b (print_relation x r) (print_relation y s) (relation_next x r h) (relation_next y s k) e in
      let q = relation_one x y r s h k p.1 in
      (λ i. expr_of (p.0 i) (q.0 i), q.1)

  relation_one : One print_relation (Under 6)
  relation_one no_relation no_relation r s h k e = (refl, e)
  relation_one no_relation (relation_of op span b) r s h k e = absurd (omega (arith, relator_rank op, ap next_reach e))
  relation_one (relation_of op span a) no_relation r s h k e = absurd (omega (arith, relator_rank op, ap next_reach e))
  relation_one (relation_of op span a) (relation_of op₂ span₂ b) r s h k e =
      let o = relator_one op op₂ span span₂ (head_one e) in
      let p = simple_one a b r s (omega arith) (omega arith) (rest_one e) in
      (λ i. relation_of (o i) (span_one e i) (p.0 i), p.1)

  simple_one : One print_simple (Under 7)
  simple_one (simple_of None a x) (simple_of None b y) r s h k e =
      let p = term_one a b (print_addends x r) (print_addends y s) (addends_next x r h) (addends_next y s k) e in
      let q = addends_one x y r s h k p.1 in
      (λ i. simple_of None (p.0 i) (q.0 i), q.1)
  simple_one (simple_of None a x) (simple_of (Some g) b y) r s h k e = absurd (signed g a (print_addends x r) (print_term b (print_addends y s)) e)
  simple_one (simple_of (Some g) a x) (simple_of None b y) r s h k e = absurd (signed g b (print_addends y s) (print_term a (print_addends x r)) (sym e))
  simple_one (simple_of (Some f) a x) (simple_of (Some g) b y) r s h k e =
      let o = sign_one f g (print_term a (print_addends x r)) (print_term b (print_addends y s)) tt tt e in
      let p = term_one a b (print_addends x r) (print_addends y s) (addends_next x r h) (addends_next y s k) o.1 in
      let q = addends_one x y r s h k p.1 in
      (λ i. simple_of (Some (o.0 i)) (p.0 i) (q.0 i), q.1)

  addends_one : One print_addends (Under 7)
  addends_one no_addends no_addends r s h k e = (refl, e)
  addends_one no_addends (more_addends op span b y) r s h k e = absurd (omega (arith, add_rank op, ap next_reach e))
  addends_one (more_addends op span a x) no_addends r s h k e = absurd (omega (arith, add_rank op, ap next_reach e))
  addends_one (more_addends op span a x) (more_addends op₂ span₂ b y) r s h k e =
      let o = add_one op op₂ span span₂ (head_one e) in
      let p = term_one a b (print_addends x r) (print_addends y s) (addends_next x r h) (addends_next y s k) (rest_one e) in
      let q = addends_one x y r s h k p.1 in
      (λ i. more_addends (o i) (span_one e i) (p.0 i) (q.0 i), q.1)

  term_one : One print_term (Under 8)
  term_one (term_of a x) (term_of b y) r s h k e =
      let p = factor_one a b (print_multipliers x r) (print_multipliers y s) (multipliers_next x r h) (multipliers_next y s k) e in
      let q = multipliers_one x y r s h k p.1 in
      (λ i. term_of (p.0 i) (q.0 i), q.1)

  multipliers_one : One print_multipliers (Under 8)
  multipliers_one no_multipliers no_multipliers r s h k e = (refl, e)
  multipliers_one no_multipliers (more_multipliers op span b y) r s h k e = absurd (omega (arith, mul_rank op, ap next_reach e))
  multipliers_one (more_multipliers op span a x) no_multipliers r s h k e = absurd (omega (arith, mul_rank op, ap next_reach e))
  multipliers_one (more_multipliers op span a x) (more_multipliers op₂ span₂ b y) r s h k e =
      let o = mul_one op op₂ span span₂ (head_one e) in
      let p = factor_one a b (print_multipliers x r) (print_multipliers y s) (multipliers_next x r h) (multipliers_next y s k) (rest_one e) in
      let q = multipliers_one x y r s h k p.1 in
      (λ i. more_multipliers (o i) (span_one e i) (p.0 i) (q.0 i), q.1)

  factor_one : One print_factor (Under 9)
  factor_one (integer_factor a) (integer_factor b) r s h k e = (λ i. integer_factor (integer_one a b (head_one e) i), rest_one e)
  factor_one (string_factor a) (string_factor b) r s h k e = (λ i. string_factor (string_one a b (head_one e) i), rest_one e)
  factor_one (true_factor a) (true_factor b) r s h k e = (λ i. true_factor (span_one e i), rest_one e)
  factor_one (false_factor a) (false_factor b) r s h k e = (λ i. false_factor (span_one e i), rest_one e)
  factor_one (set_factor a) (set_factor b) r s h k e =
      let p = set_one a b r s tt tt e in
      (λ i. set_factor (p.0 i), p.1)
  factor_one (designator_factor a) (designator_factor b) r s h k e =
      let p = designator_one a b r s h k e in
      (λ i. designator_factor (p.0 i), p.1)
  factor_one (group_factor a x b) (group_factor c y d) r s h k e =
      let p = expr_one x y (symbol_token symbols.CloseParen b ∷ r) (symbol_token symbols.CloseParen d ∷ s) (omega arith) (omega arith) (rest_one e) in
      (λ i. group_factor (span_one e i) (p.0 i) (span_one p.1 i), rest_one p.1)
  factor_one (negation_factor span a) (negation_factor span₂ b) r s h k e =
      let p = factor_one a b r s h k (rest_one e) in
      (λ i. negation_factor (span_one e i) (p.0 i), p.1)
  factor_one a b r s h k e = absurd (omega (arith, same_factor_code a b r s e))

  set_one : One print_set Any
  set_one (set_of a x b) (set_of c y d) r s h k e =
      let p = elements_one x y b d r s (rest_one e) in
      (λ i. set_of (span_one e i) (p.0 i) (span_one p.1 i), rest_one p.1)

  elements_one : (x y : ElementsTree) (b d : Span) (r s : List Token) → print_elements x (symbol_token symbols.CloseBrace b ∷ r) ≡ print_elements y (symbol_token symbols.CloseBrace d ∷ s) → (x ≡ y) × (symbol_token symbols.CloseBrace b ∷ r ≡ symbol_token symbols.CloseBrace d ∷ s)
  elements_one no_elements no_elements b d r s e = (refl, e)
  elements_one no_elements (some_elements y m) b d r s e = absurd (element_begins y _ r b e)
  elements_one (some_elements x l) no_elements b d r s e = absurd (element_begins x _ s d (sym e))
  elements_one (some_elements x l) (some_elements y m) b d r s e =
      let u : List Token = symbol_token symbols.CloseBrace b ∷ r in
      let v : List Token = symbol_token symbols.CloseBrace d ∷ s in
      let p = element_one x y (print_more_elements l u) (print_more_elements m v) (more_elements_next l u (omega arith)) (more_elements_next m v (omega arith)) e in
      let q = more_elements_one l m u v (omega arith) (omega arith) p.1 in
      (λ i. some_elements (p.0 i) (q.0 i), q.1)

  more_elements_one : One print_more_elements (Under 4)
  more_elements_one no_more_elements no_more_elements r s h k e = (refl, e)
  more_elements_one no_more_elements (more_elements span b y) r s h k e = absurd (omega (arith, ap next_reach e))
  more_elements_one (more_elements span a x) no_more_elements r s h k e = absurd (omega (arith, ap next_reach e))
  more_elements_one (more_elements span a x) (more_elements span₂ b y) r s h k e =
      let p = element_one a b (print_more_elements x r) (print_more_elements y s) (more_elements_next x r h) (more_elements_next y s k) (rest_one e) in
      let q = more_elements_one x y r s h k p.1 in
      (λ i. more_elements (span_one e i) (p.0 i) (q.0 i), q.1)

  element_one : One print_element (Under 5)
  element_one (element_of a x) (element_of b y) r s h k e =
      let p = expr_one a b (print_upper x r) (print_upper y s) (upper_next x r h) (upper_next y s k) e in
      let q = upper_one x y r s h k p.1 in
      (λ i. element_of (p.0 i) (q.0 i), q.1)

  upper_one : One print_upper (Under 5)
  upper_one no_upper no_upper r s h k e = (refl, e)
  upper_one no_upper (upper_of span b) r s h k e = absurd (omega (arith, ap next_reach e))
  upper_one (upper_of span a) no_upper r s h k e = absurd (omega (arith, ap next_reach e))
  upper_one (upper_of span a) (upper_of span₂ b) r s h k e =
      let p = expr_one a b r s (omega arith) (omega arith) (rest_one e) in
      (λ i. upper_of (span_one e i) (p.0 i), p.1)

  pub designator_one : One print_designator (Under 9)
  designator_one (designator_of a x) (designator_of b y) r s h k e =
      let p = selectors_one x y r s h k (rest_one e) in
      (λ i. designator_of (ident_one a b (head_one e) i) (p.0 i), p.1)

  selectors_one : One print_selectors (Under 9)
  selectors_one no_selectors no_selectors r s h k e = (refl, e)
  selectors_one no_selectors (more_selectors b y) r s h k e = absurd (omega (arith, selector_begins b (print_selectors y s), ap next_reach e))
  selectors_one (more_selectors a x) no_selectors r s h k e = absurd (omega (arith, selector_begins a (print_selectors x r), ap next_reach e))
  selectors_one (more_selectors a x) (more_selectors b y) r s h k e =
      let p = selector_one a b (print_selectors x r) (print_selectors y s) tt tt e in
      let q = selectors_one x y r s h k p.1 in
      (λ i. more_selectors (p.0 i) (q.0 i), q.1)

  selector_one : One print_selector Any
  selector_one (field_selector a) (field_selector b) r s h k e =
      let p = member_one a b r s tt tt e in
      (λ i. field_selector (p.0 i), p.1)
  selector_one (index_selector a x b) (index_selector c y d) r s h k e =
      let p = exprs_one x y (symbol_token symbols.CloseBracket b ∷ r) (symbol_token symbols.CloseBracket d ∷ s) (omega arith) (omega arith) (rest_one e) in
      (λ i. index_selector (span_one e i) (p.0 i) (span_one p.1 i), rest_one p.1)
  selector_one (call_selector a x b) (call_selector c y d) r s h k e =
      let p = arguments_one x y b d r s (rest_one e) in
      (λ i. call_selector (span_one e i) (p.0 i) (span_one p.1 i), rest_one p.1)
  selector_one a b r s h k e = absurd (omega (arith, ap next_code e))

  arguments_one : (x y : ArgumentsTree) (b d : Span) (r s : List Token) → print_arguments x (symbol_token symbols.CloseParen b ∷ r) ≡ print_arguments y (symbol_token symbols.CloseParen d ∷ s) → (x ≡ y) × (symbol_token symbols.CloseParen b ∷ r ≡ symbol_token symbols.CloseParen d ∷ s)
  arguments_one no_arguments no_arguments b d r s e = (refl, e)
  arguments_one no_arguments (some_arguments y) b d r s e = absurd (exprs_begin y _ r b e)
  arguments_one (some_arguments x) no_arguments b d r s e = absurd (exprs_begin x _ s d (sym e))
  arguments_one (some_arguments x) (some_arguments y) b d r s e =
      let p = exprs_one x y (symbol_token symbols.CloseParen b ∷ r) (symbol_token symbols.CloseParen d ∷ s) (omega arith) (omega arith) e in
      (λ i. some_arguments (p.0 i), p.1)

  pub exprs_one : One print_exprs (Under 4)
  exprs_one (exprs_of a x) (exprs_of b y) r s h k e =
      let p = expr_one a b (print_more_exprs x r) (print_more_exprs y s) (more_exprs_next x r h) (more_exprs_next y s k) e in
      let q = more_exprs_one x y r s h k p.1 in
      (λ i. exprs_of (p.0 i) (q.0 i), q.1)

  more_exprs_one : One print_more_exprs (Under 4)
  more_exprs_one no_more_exprs no_more_exprs r s h k e = (refl, e)
  more_exprs_one no_more_exprs (more_exprs span b y) r s h k e = absurd (omega (arith, ap next_reach e))
  more_exprs_one (more_exprs span a x) no_more_exprs r s h k e = absurd (omega (arith, ap next_reach e))
  more_exprs_one (more_exprs span a x) (more_exprs span₂ b y) r s h k e =
      let p = expr_one a b (print_more_exprs x r) (print_more_exprs y s) (more_exprs_next x r h) (more_exprs_next y s k) (rest_one e) in
      let q = more_exprs_one x y r s h k p.1 in
      (λ i. more_exprs (span_one e i) (p.0 i) (q.0 i), q.1)
