-- The last token of a construct and what follows is the last of what follows, where something does.
use Rattle.std.specs.Prelude.{◌≡◌, ℕ, suc, ◌-◌, List, [], ◌∷◌, length, Option, Some, None, slice_get, refl}
use Rattle.std.proofs.Common.{subst, arith}
use Rattle.std.proofs.lemmas.Option.{slice_get-get_or}
use Rattle.ob_text.specs.declared.span.Span.{Span}
use Rattle.oberon_scan.specs.declared.token.Token.{Token}
use Rattle.oberon_tree.specs.declared.expression.Addend.{Addend, out-Addend}
use Rattle.oberon_tree.specs.declared.expression.Relator.{Relator}
use Rattle.oberon_tree.specs.declared.expression.Multiplier.{Multiplier}
use Rattle.oberon_tree.specs.declared.expression.Selector.{Selector}
use Rattle.oberon_scan.specs.declared.token.Symbol.TheVariants as symbols
use Rattle.oberon_tree.specs.declared.expression.Signed.{Signed}
use Rattle.oberon_tree.specs.Tokens.{symbol_token}
use Rattle.oberon_tree.specs.Print.{print_some, print_sign, print_expr, print_relation, print_simple, print_addends, print_term, print_multipliers, print_factor, print_set, print_elements, print_more_elements, print_element, print_upper, print_designator, print_selectors, print_selector, print_arguments, print_exprs, print_more_exprs}
use Rattle.oberon_tree.specs.FirstSpans.{first_token_span}
use Rattle.oberon_tree.specs.Spans.{last_token_span, EndsAt, whole_span}
use Rattle.oberon_tree.specs.Memory.{factor_tree, term_tree, selector_tree, addend_before, addends_list, multipliers_list, selectors_list}
use Rattle.oberon_tree.proofs.ExpressionMemory.{addend_out}
use Rattle.oberon_tree.specs.Trees.{ExprTree, expr_of, RelationTree, no_relation, relation_of, SimpleTree, simple_of, AddendsTree, no_addends, more_addends, TermTree, term_of, MultipliersTree, no_multipliers, more_multipliers, FactorTree, integer_factor, string_factor, true_factor, false_factor, set_factor, designator_factor, group_factor, negation_factor, SetTree, set_of, ElementsTree, no_elements, some_elements, MoreElementsTree, no_more_elements, more_elements, ElementTree, element_of, UpperTree, no_upper, upper_of, DesignatorTree, designator_of, SelectorsTree, no_selectors, more_selectors, SelectorTree, field_selector, index_selector, call_selector, ArgumentsTree, no_arguments, some_arguments, ExprsTree, exprs_of, MoreExprsTree, no_more_exprs, more_exprs}

pub one_more : (t : Token) (ts : List Token) (q : Span) → EndsAt ts q → EndsAt (t ∷ ts) q
one_more t ts q h = record { behind = λ p. h.behind t.span }

mutual
  pub expr_ends : (e : ExprTree) (rest : List Token) (q : Span) → EndsAt rest q → EndsAt (print_expr e rest) q
  expr_ends (expr_of left right) rest q h = simple_ends left _ q (relation_ends right rest q h)

  pub relation_ends : (r : RelationTree) (rest : List Token) (q : Span) → EndsAt rest q → EndsAt (print_relation r rest) q
  relation_ends no_relation rest q h = h
  relation_ends (relation_of op span right) rest q h = one_more _ _ q (simple_ends right rest q h)

  pub simple_ends : (s : SimpleTree) (rest : List Token) (q : Span) → EndsAt rest q → EndsAt (print_simple s rest) q
  simple_ends (simple_of None first more) rest q h = term_ends first _ q (addends_ends more rest q h)
  simple_ends (simple_of (Some s) first more) rest q h = one_more _ _ q (term_ends first _ q (addends_ends more rest q h))

  pub addends_ends : (m : AddendsTree) (rest : List Token) (q : Span) → EndsAt rest q → EndsAt (print_addends m rest) q
  addends_ends no_addends rest q h = h
  addends_ends (more_addends op span t more) rest q h = one_more _ _ q (term_ends t _ q (addends_ends more rest q h))

  pub term_ends : (t : TermTree) (rest : List Token) (q : Span) → EndsAt rest q → EndsAt (print_term t rest) q
  term_ends (term_of first more) rest q h = factor_ends first _ q (multipliers_ends more rest q h)

  pub multipliers_ends : (m : MultipliersTree) (rest : List Token) (q : Span) → EndsAt rest q → EndsAt (print_multipliers m rest) q
  multipliers_ends no_multipliers rest q h = h
  multipliers_ends (more_multipliers op span f more) rest q h = one_more _ _ q (factor_ends f _ q (multipliers_ends more rest q h))

  pub factor_ends : (f : FactorTree) (rest : List Token) (q : Span) → EndsAt rest q → EndsAt (print_factor f rest) q
  factor_ends (integer_factor n) rest q h = one_more _ _ q h
  factor_ends (string_factor s) rest q h = one_more _ _ q h
  factor_ends (true_factor span) rest q h = one_more _ _ q h
  factor_ends (false_factor span) rest q h = one_more _ _ q h
  factor_ends (set_factor s) rest q h = set_ends s rest q h
  factor_ends (designator_factor d) rest q h = designator_ends d rest q h
  factor_ends (group_factor a e b) rest q h = one_more _ _ q (expr_ends e _ q (one_more _ _ q h))
  factor_ends (negation_factor span f) rest q h = one_more _ _ q (factor_ends f rest q h)

  pub set_ends : (s : SetTree) (rest : List Token) (q : Span) → EndsAt rest q → EndsAt (print_set s rest) q
  set_ends (set_of a es b) rest q h = one_more _ _ q (elements_ends es _ q (one_more _ _ q h))

  pub elements_ends : (es : ElementsTree) (rest : List Token) (q : Span) → EndsAt rest q → EndsAt (print_elements es rest) q
  elements_ends no_elements rest q h = h
  elements_ends (some_elements first more) rest q h = element_ends first _ q (more_elements_ends more rest q h)

  pub more_elements_ends : (m : MoreElementsTree) (rest : List Token) (q : Span) → EndsAt rest q → EndsAt (print_more_elements m rest) q
  more_elements_ends no_more_elements rest q h = h
  more_elements_ends (more_elements comma e more) rest q h = one_more _ _ q (element_ends e _ q (more_elements_ends more rest q h))

  pub element_ends : (e : ElementTree) (rest : List Token) (q : Span) → EndsAt rest q → EndsAt (print_element e rest) q
  element_ends (element_of e last) rest q h = expr_ends e _ q (upper_ends last rest q h)

  pub upper_ends : (u : UpperTree) (rest : List Token) (q : Span) → EndsAt rest q → EndsAt (print_upper u rest) q
  upper_ends no_upper rest q h = h
  upper_ends (upper_of dots e) rest q h = one_more _ _ q (expr_ends e rest q h)

  pub designator_ends : (d : DesignatorTree) (rest : List Token) (q : Span) → EndsAt rest q → EndsAt (print_designator d rest) q
  designator_ends (designator_of name more) rest q h = one_more _ _ q (selectors_ends more rest q h)

  pub selectors_ends : (m : SelectorsTree) (rest : List Token) (q : Span) → EndsAt rest q → EndsAt (print_selectors m rest) q
  selectors_ends no_selectors rest q h = h
  selectors_ends (more_selectors one more) rest q h = selector_ends one _ q (selectors_ends more rest q h)

  pub selector_ends : (s : SelectorTree) (rest : List Token) (q : Span) → EndsAt rest q → EndsAt (print_selector s rest) q
  selector_ends (field_selector m) rest q h = one_more _ _ q (one_more _ _ q h)
  selector_ends (index_selector a es b) rest q h = one_more _ _ q (exprs_ends es _ q (one_more _ _ q h))
  selector_ends (call_selector a es b) rest q h = one_more _ _ q (arguments_ends es _ q (one_more _ _ q h))

  pub arguments_ends : (a : ArgumentsTree) (rest : List Token) (q : Span) → EndsAt rest q → EndsAt (print_arguments a rest) q
  arguments_ends no_arguments rest q h = h
  arguments_ends (some_arguments es) rest q h = exprs_ends es rest q h

  pub exprs_ends : (es : ExprsTree) (rest : List Token) (q : Span) → EndsAt rest q → EndsAt (print_exprs es rest) q
  exprs_ends (exprs_of first more) rest q h = expr_ends first _ q (more_exprs_ends more rest q h)

  pub more_exprs_ends : (m : MoreExprsTree) (rest : List Token) (q : Span) → EndsAt rest q → EndsAt (print_more_exprs m rest) q
  more_exprs_ends no_more_exprs rest q h = h
  more_exprs_ends (more_exprs comma e more) rest q h = one_more _ _ q (expr_ends e _ q (more_exprs_ends more rest q h))

pub relation_last : (left : SimpleTree) (op : Relator) (span : Span) (right : SimpleTree) (q : Span) → EndsAt (print_simple right []) q → EndsAt (print_expr (expr_of left (relation_of op span right)) []) q
relation_last left op span right q h = simple_ends left _ q (one_more _ _ q h)

pub negation_last : (span : Span) (f : FactorTree) (q : Span) → EndsAt (print_factor f []) q → EndsAt (print_factor (negation_factor span f) []) q
negation_last span f q h = one_more _ _ q h

pub signed_ends : (o : Option Signed) (ts : List Token) (q : Span) → EndsAt ts q → EndsAt (print_some print_sign o ts) q
signed_ends None ts q h = h
signed_ends (Some s) ts q h = one_more _ ts q h

one_last : (t : Token) → EndsAt (t ∷ []) t.span
one_last t = record { behind = λ p. refl }

pub set_last : (a : Span) (es : ElementsTree) (b : Span) → EndsAt (print_set (set_of a es b) []) b
set_last a es b = one_more _ _ b (elements_ends es _ b (one_last (symbol_token symbols.CloseBrace b)))

pub group_last : (a : Span) (e : ExprTree) (b : Span) → EndsAt (print_factor (group_factor a e b) []) b
group_last a e b = one_more _ _ b (expr_ends e _ b (one_last (symbol_token symbols.CloseParen b)))

pub index_last : (a : Span) (es : ExprsTree) (b : Span) → EndsAt (print_selector (index_selector a es b) []) b
index_last a es b = one_more _ _ b (exprs_ends es _ b (one_last (symbol_token symbols.CloseBracket b)))

pub call_last : (a : Span) (es : ArgumentsTree) (b : Span) → EndsAt (print_selector (call_selector a es b) []) b
call_last a es b = one_more _ _ b (arguments_ends es _ b (one_last (symbol_token symbols.CloseParen b)))

-- ---- the last item of a list

pub no_last : {A : Type 0} (xs : List A) → None ≡ slice_get xs (length xs - 1) → xs ≡ []
no_last [] e = refl
no_last (x ∷ xs) e = let s = slice_get-get_or (x ∷ xs) (length (x ∷ xs) - 1) x (omega arith) in absurd cc

-- behind the first of two or more
tail_last : {A : Type 0} (y z : A) (zs : List A) (x : A) → slice_get (y ∷ z ∷ zs) (length (y ∷ z ∷ zs) - 1) ≡ Some x → slice_get (z ∷ zs) (length (z ∷ zs) - 1) ≡ Some x
tail_last y z zs x e =
    let same : length (y ∷ z ∷ zs) - 1 ≡ suc (length (z ∷ zs) - 1) = omega arith in
    let moved : slice_get (y ∷ z ∷ zs) (suc (length (z ∷ zs) - 1)) ≡ Some x = subst (λ n. slice_get (y ∷ z ∷ zs) n ≡ Some x) same e in
    moved

pub addends_last : (xs : List Addend) (x : Addend) (q : Span) → slice_get xs (length xs - 1) ≡ Some x → EndsAt (print_term (term_tree (out-Addend x).term) []) q → EndsAt (print_addends (addends_list xs) []) q
addends_last [] x q e h = absurd cc
addends_last (y ∷ []) x q e h =
    let same : y ≡ x = cc in
    rw (same, addend_out x no_addends) (one_more _ _ q h)
addends_last (y ∷ z ∷ zs) x q e h =
    rw (addend_out y (addends_list (z ∷ zs))) (one_more _ _ q (term_ends (term_tree (out-Addend y).term) _ q (addends_last (z ∷ zs) x q (tail_last y z zs x e) h)))

pub multipliers_last : (xs : List Multiplier) (x : Multiplier) (q : Span) → slice_get xs (length xs - 1) ≡ Some x → EndsAt (print_factor (factor_tree x.factor) []) q → EndsAt (print_multipliers (multipliers_list xs) []) q
multipliers_last [] x q e h = absurd cc
multipliers_last (y ∷ []) x q e h =
    let same : y ≡ x = cc in
    rw same (one_more _ _ q h)
multipliers_last (y ∷ z ∷ zs) x q e h =
    one_more _ _ q (factor_ends (factor_tree y.factor) _ q (multipliers_last (z ∷ zs) x q (tail_last y z zs x e) h))

pub selectors_last : (xs : List Selector) (x : Selector) (q : Span) → slice_get xs (length xs - 1) ≡ Some x → EndsAt (print_selector (selector_tree x) []) q → EndsAt (print_selectors (selectors_list xs) []) q
selectors_last [] x q e h = absurd cc
selectors_last (y ∷ []) x q e h =
    let same : y ≡ x = cc in
    rw same h
selectors_last (y ∷ z ∷ zs) x q e h = selector_ends (selector_tree y) _ q (selectors_last (z ∷ zs) x q (tail_last y z zs x e) h)

-- ---- from the first token to the last

pub whole : (ts : List Token) (first last : Span) → first_token_span ts ≡ Some first → EndsAt ts last → whole_span ts ≡ record { start = first.start; end = last.end }
whole [] first last e h = absurd cc
whole (t ∷ ts) first last e h =
    let same : t.span ≡ first = cc in
    let behind : last_token_span t.span ts ≡ last = h.behind t.span in
    rw (behind, same) refl
