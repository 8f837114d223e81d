-- The machine takes an expression whole: what its tree prints leads it past the expression's parts, where
-- levels enough are left and the next token doesn't go on with the expression.
use Rattle.std.specs.Prelude.{◌≡◌, ℕ, zero, suc, ◌<◌, ◌≤◌, false, eqb, List, [], ◌∷◌, ◌++◌, Option, Some, None, refl}
use Rattle.std.proofs.Common.{◌∙◌, arith}
use Rattle.ob_text.specs.declared.span.Span.{Span}
use Rattle.oberon_scan.specs.declared.token.Token.{Token}
use Rattle.oberon_scan.specs.declared.token.Symbol.TheVariants as symbols
use Rattle.oberon_tree.specs.declared.expression.Relator.{Relator}
use Rattle.oberon_tree.specs.declared.expression.Relator.TheVariants as relators
use Rattle.oberon_tree.specs.declared.expression.Sign.{Sign}
use Rattle.oberon_tree.specs.declared.expression.Sign.TheVariants as signs
use Rattle.oberon_tree.specs.declared.expression.Signed.{Signed}
use Rattle.oberon_tree.specs.declared.expression.AddOperator.{AddOperator}
use Rattle.oberon_tree.specs.declared.expression.AddOperator.TheVariants as adds
use Rattle.oberon_tree.specs.declared.expression.MulOperator.{MulOperator}
use Rattle.oberon_tree.specs.declared.expression.MulOperator.TheVariants as muls
use Rattle.oberon_tree.specs.Tokens.{symbol_token, relator_kind, relator_token, sign_token, add_kind, add_token, mul_kind, mul_token}
use Rattle.oberon_tree.specs.Trees.{ExprTree, expr_of, RelationTree, no_relation, relation_of, SimpleTree, simple_of, AddendsTree, no_addends, more_addends, TermTree, term_of, MultipliersTree, no_multipliers, more_multipliers, FactorTree, integer_factor, string_factor, true_factor, false_factor, set_factor, designator_factor, group_factor, negation_factor, SetTree, set_of, ElementsTree, no_elements, some_elements, MoreElementsTree, no_more_elements, more_elements, ElementTree, element_of, UpperTree, no_upper, upper_of, DesignatorTree, designator_of, SelectorsTree, no_selectors, more_selectors, SelectorTree, field_selector, index_selector, call_selector, ArgumentsTree, no_arguments, some_arguments, ExprsTree, exprs_of, MoreExprsTree, no_more_exprs, more_exprs}
use Rattle.oberon_tree.specs.Print.{print_some, print_sign, print_expr, print_relation, print_simple, print_addends, print_term, print_multipliers, print_factor, print_set, print_elements, print_more_elements, print_element, print_upper, print_designator, print_selectors, print_selector, print_arguments, print_exprs, print_more_exprs}
use Rattle.oberon_tree.specs.Levels.{depth_of_expr, depth_of_relation, depth_of_simple, depth_of_addends, depth_of_term, depth_of_multipliers, depth_of_factor, depth_of_set, depth_of_elements, depth_of_more_elements, depth_of_element, depth_of_upper, depth_of_designator, depth_of_selectors, depth_of_selector, depth_of_arguments, depth_of_exprs, depth_of_more_exprs}
use Rattle.oberon_productions.specs.Expected.{Expected}
use Rattle.oberon_productions.specs.Expected as want
use Rattle.oberon_productions.specs.Tests.{is_symbol, reach, next_is}
use Rattle.oberon_productions.proofs.Follows.{next_reach}
use Rattle.oberon_productions.specs.Machine.{term_parts, simple_parts, expr_parts, exprs_parts, element_parts, feed, stops}
use Rattle.oberon_productions.proofs.Found.{no_symbol, no_rank}
use Rattle.oberon_productions.proofs.Steps.{skip, skip_selectors}
use Rattle.oberon_productions.proofs.Expand.{expand_call, expand_set}

-- ---- the operators

pub relator_rank : (op : Relator) → reach (relator_kind op) ≡ 6
relator_rank relators.Equal = refl
relator_rank relators.Unequal = refl
relator_rank relators.Less = refl
relator_rank relators.LessEqual = refl
relator_rank relators.Greater = refl
relator_rank relators.GreaterEqual = refl
relator_rank relators.In = refl
relator_rank relators.Is = refl

pub add_rank : (op : AddOperator) → reach (add_kind op) ≡ 7
add_rank adds.Add = refl
add_rank adds.Subtract = refl
add_rank adds.Or = refl

pub mul_rank : (op : MulOperator) → reach (mul_kind op) ≡ 8
mul_rank muls.Multiply = refl
mul_rank muls.Divide = refl
mul_rank muls.Div = refl
mul_rank muls.Mod = refl
mul_rank muls.And = refl

pub take_sign : (sign : Sign) (span : Span) (s : List Expected) (ts : List Token) → stops (want.some_sign ∷ s) (sign_token sign span ∷ ts) ≡ stops s ts
unfolding stops feed
take_sign signs.Plus span s ts = refl
take_sign signs.Minus span s ts = refl

pub take_relator : (op : Relator) (span : Span) (d : ℕ) (s : List Expected) (ts : List Token) → stops (want.some_relation d ∷ s) (relator_token op span ∷ ts) ≡ stops (simple_parts d ++ s) ts
unfolding stops feed
take_relator relators.Equal span d s ts = refl
take_relator relators.Unequal span d s ts = refl
take_relator relators.Less span d s ts = refl
take_relator relators.LessEqual span d s ts = refl
take_relator relators.Greater span d s ts = refl
take_relator relators.GreaterEqual span d s ts = refl
take_relator relators.In span d s ts = refl
take_relator relators.Is span d s ts = refl

pub take_add : (op : AddOperator) (span : Span) (d : ℕ) (s : List Expected) (ts : List Token) → stops (want.addends d ∷ s) (add_token op span ∷ ts) ≡ stops (term_parts d ++ want.addends d ∷ s) ts
unfolding stops feed
take_add adds.Add span d s ts = refl
take_add adds.Subtract span d s ts = refl
take_add adds.Or span d s ts = refl

pub take_mul : (op : MulOperator) (span : Span) (d : ℕ) (s : List Expected) (ts : List Token) → stops (want.multipliers d ∷ s) (mul_token op span ∷ ts) ≡ stops (term_parts d ++ s) ts
unfolding stops feed
take_mul muls.Multiply span d s ts = refl
take_mul muls.Divide span d s ts = refl
take_mul muls.Div span d s ts = refl
take_mul muls.Mod span d s ts = refl
take_mul muls.And span d s ts = refl

-- ---- what follows a part, by its reach

relation_next : (r : RelationTree) (rest : List Token) → next_reach rest < 6 → next_reach (print_relation r rest) < 7
relation_next no_relation rest h = omega arith
relation_next (relation_of op span right) rest h = omega (arith, relator_rank op)

addends_next : (r : AddendsTree) (rest : List Token) → next_reach rest < 7 → next_reach (print_addends r rest) < 8
addends_next no_addends rest h = omega arith
addends_next (more_addends op span t more) rest h = omega (arith, add_rank op)

multipliers_next : (r : MultipliersTree) (rest : List Token) → next_reach rest < 8 → next_reach (print_multipliers r rest) < 9
multipliers_next no_multipliers rest h = omega arith
multipliers_next (more_multipliers op span f more) rest h = omega (arith, mul_rank op)

upper_next : (r : UpperTree) (rest : List Token) → next_reach rest < 5 → next_reach (print_upper r rest) < 6
upper_next no_upper rest h = omega arith
upper_next (upper_of dots e) rest h = omega arith

more_elements_next : (r : MoreElementsTree) (rest : List Token) → next_reach rest < 4 → next_reach (print_more_elements r rest) < 5
more_elements_next no_more_elements rest h = omega arith
more_elements_next (more_elements comma e more) rest h = omega arith

more_exprs_next : (r : MoreExprsTree) (rest : List Token) → next_reach rest < 4 → next_reach (print_more_exprs r rest) < 6
more_exprs_next no_more_exprs rest h = omega arith
more_exprs_next (more_exprs comma e more) rest h = omega arith

-- no factor begins with a closing token
abbrev pub Opens : List Token → Type 0
Opens ts = (next_is (is_symbol symbols.CloseParen) ts ≡ false) × (next_is (is_symbol symbols.CloseBrace) ts ≡ false)

factor_opens : (f : FactorTree) (rest : List Token) → Opens (print_factor f rest)
factor_opens (integer_factor n) rest = (refl, refl)
factor_opens (string_factor t) rest = (refl, refl)
factor_opens (true_factor span) rest = (refl, refl)
factor_opens (false_factor span) rest = (refl, refl)
factor_opens (set_factor (set_of a es b)) rest = (refl, refl)
factor_opens (designator_factor (designator_of name more)) rest = (refl, refl)
factor_opens (group_factor a e b) rest = (refl, refl)
factor_opens (negation_factor span f) rest = (refl, refl)

sign_opens : (sign : Sign) (span : Span) (rest : List Token) → Opens (sign_token sign span ∷ rest)
sign_opens signs.Plus span rest = (refl, refl)
sign_opens signs.Minus span rest = (refl, refl)

pub expr_opens : (e : ExprTree) (rest : List Token) → Opens (print_expr e rest)
expr_opens (expr_of (simple_of None (term_of f m) more) r) rest = factor_opens f (print_multipliers m (print_addends more (print_relation r rest)))
expr_opens (expr_of (simple_of (Some sg) t more) r) rest = sign_opens sg.sign sg.span (print_term t (print_addends more (print_relation r rest)))

-- no factor begins with a sign
factor_unsigned : (f : FactorTree) (s : List Expected) (rest : List Token) → stops (want.some_sign ∷ s) (print_factor f rest) ≡ stops s (print_factor f rest)
unfolding stops feed
factor_unsigned (integer_factor n) s rest = refl
factor_unsigned (string_factor t) s rest = refl
factor_unsigned (true_factor span) s rest = refl
factor_unsigned (false_factor span) s rest = refl
factor_unsigned (set_factor (set_of a es b)) s rest = refl
factor_unsigned (designator_factor (designator_of name more)) s rest = refl
factor_unsigned (group_factor a e b) s rest = refl
factor_unsigned (negation_factor span f) s rest = refl

over_sign : (o : Option Signed) (t : TermTree) (s : List Expected) (rest : List Token) → stops (want.some_sign ∷ s) (print_some print_sign o (print_term t rest)) ≡ stops s (print_term t rest)
over_sign None (term_of f m) s rest = factor_unsigned f s _
over_sign (Some sg) t s rest = take_sign sg.sign sg.span s _

-- ---- the trees

mutual
  unfolding stops feed

  pub over_expr : (e : ExprTree) (d : ℕ) (s : List Expected) (rest : List Token) → depth_of_expr e ≤ d → next_reach rest < 6 → stops (expr_parts d ++ s) (print_expr e rest) ≡ stops s rest
  over_expr (expr_of left right) d s rest h q = over_simple left d (want.some_relation d ∷ s) (print_relation right rest) (omega arith) (relation_next right rest q) ∙ over_relation right d s rest (omega arith) q

  pub over_relation : (r : RelationTree) (d : ℕ) (s : List Expected) (rest : List Token) → depth_of_relation r ≤ d → next_reach rest < 6 → stops (want.some_relation d ∷ s) (print_relation r rest) ≡ stops s rest
  over_relation no_relation d s rest h q = skip (want.some_relation d) (λ k. eqb (reach k) 6) (simple_parts d) s rest refl (λ k. refl) (no_rank 6 rest q)
  over_relation (relation_of op span right) d s rest h q = take_relator op span d s (print_simple right rest) ∙ over_simple right d s rest h (omega arith)

  pub over_simple : (x : SimpleTree) (d : ℕ) (s : List Expected) (rest : List Token) → depth_of_simple x ≤ d → next_reach rest < 7 → stops (simple_parts d ++ s) (print_simple x rest) ≡ stops s rest
  over_simple (simple_of sign first more) d s rest h q =
      over_sign sign first (term_parts d ++ want.addends d ∷ s) (print_addends more rest) ∙ over_term first d (want.addends d ∷ s) (print_addends more rest) (omega arith) (addends_next more rest q) ∙ over_addends more d s rest (omega arith) q

  pub over_addends : (x : AddendsTree) (d : ℕ) (s : List Expected) (rest : List Token) → depth_of_addends x ≤ d → next_reach rest < 7 → stops (want.addends d ∷ s) (print_addends x rest) ≡ stops s rest
  over_addends no_addends d s rest h q = skip (want.addends d) (λ k. eqb (reach k) 7) (term_parts d ++ want.addends d ∷ []) s rest refl (λ k. refl) (no_rank 7 rest q)
  over_addends (more_addends op span t more) d s rest h q =
      take_add op span d s (print_term t (print_addends more rest)) ∙ over_term t d (want.addends d ∷ s) (print_addends more rest) (omega arith) (addends_next more rest q) ∙ over_addends more d s rest (omega arith) q

  pub over_term : (x : TermTree) (d : ℕ) (s : List Expected) (rest : List Token) → depth_of_term x ≤ d → next_reach rest < 8 → stops (term_parts d ++ s) (print_term x rest) ≡ stops s rest
  over_term (term_of first more) d s rest h q = over_factor first d (want.multipliers d ∷ s) (print_multipliers more rest) (omega arith) (multipliers_next more rest q) ∙ over_multipliers more d s rest (omega arith) q

  pub over_multipliers : (x : MultipliersTree) (d : ℕ) (s : List Expected) (rest : List Token) → depth_of_multipliers x ≤ d → next_reach rest < 8 → stops (want.multipliers d ∷ s) (print_multipliers x rest) ≡ stops s rest
  over_multipliers no_multipliers d s rest h q = skip (want.multipliers d) (λ k. eqb (reach k) 8) (term_parts d) s rest refl (λ k. refl) (no_rank 8 rest q)
  over_multipliers (more_multipliers op span f more) d s rest h q =
      take_mul op span d s (print_factor f (print_multipliers more rest)) ∙ over_factor f d (want.multipliers d ∷ s) (print_multipliers more rest) (omega arith) (multipliers_next more rest q) ∙ over_multipliers more d s rest (omega arith) q

  pub over_factor : (x : FactorTree) (d : ℕ) (s : List Expected) (rest : List Token) → depth_of_factor x ≤ d → next_reach rest < 9 → stops (want.factor d ∷ s) (print_factor x rest) ≡ stops s rest
  over_factor (integer_factor n) d s rest h q = refl
  over_factor (string_factor t) d s rest h q = refl
  over_factor (true_factor span) d s rest h q = refl
  over_factor (false_factor span) d s rest h q = refl
  over_factor (set_factor x) d s rest h q = over_set x d s rest h
  over_factor (designator_factor (designator_of name more)) d s rest h q = over_selectors more d s rest h q
  over_factor (group_factor a e b) zero s rest h q = absurd (omega arith)
  over_factor (group_factor a e b) (suc d) s rest h q = over_expr e d (want.symbol symbols.CloseParen ∷ s) (symbol_token symbols.CloseParen b ∷ rest) (omega arith) (omega arith)
  over_factor (negation_factor span f) zero s rest h q = absurd (omega arith)
  over_factor (negation_factor span f) (suc d) s rest h q = over_factor f d s rest (omega arith) q

  pub over_set : (x : SetTree) (d : ℕ) (s : List Expected) (rest : List Token) → depth_of_set x ≤ d → stops (want.factor d ∷ s) (print_set x rest) ≡ stops s rest
  over_set (set_of a es b) zero s rest h = absurd (omega arith)
  over_set (set_of a es b) (suc d) s rest h = over_elements es d b s rest (omega arith)

  pub over_elements : (x : ElementsTree) (d : ℕ) (b : Span) (s : List Expected) (rest : List Token) → depth_of_elements x ≤ d → stops (want.rest_of_set d ∷ s) (print_elements x (symbol_token symbols.CloseBrace b ∷ rest)) ≡ stops s rest
  over_elements no_elements d b s rest h = refl
  over_elements (some_elements (element_of e last) more) d b s rest h =
      expand_set d s (print_expr e (print_upper last (print_more_elements more (symbol_token symbols.CloseBrace b ∷ rest)))) (expr_opens e _).1 ∙ over_element (element_of e last) d (want.elements d ∷ want.symbol symbols.CloseBrace ∷ s) (print_more_elements more (symbol_token symbols.CloseBrace b ∷ rest)) (omega arith) (more_elements_next more (symbol_token symbols.CloseBrace b ∷ rest) (omega arith)) ∙ over_more_elements more d (want.symbol symbols.CloseBrace ∷ s) (symbol_token symbols.CloseBrace b ∷ rest) (omega arith) (omega arith)

  pub over_more_elements : (x : MoreElementsTree) (d : ℕ) (s : List Expected) (rest : List Token) → depth_of_more_elements x ≤ d → next_reach rest < 4 → stops (want.elements d ∷ s) (print_more_elements x rest) ≡ stops s rest
  over_more_elements no_more_elements d s rest h q = skip (want.elements d) (is_symbol symbols.Comma) (element_parts d ++ want.elements d ∷ []) s rest refl (λ k. refl) (no_symbol symbols.Comma rest q)
  over_more_elements (more_elements comma e more) d s rest h q = over_element e d (want.elements d ∷ s) (print_more_elements more rest) (omega arith) (more_elements_next more rest q) ∙ over_more_elements more d s rest (omega arith) q

  pub over_element : (x : ElementTree) (d : ℕ) (s : List Expected) (rest : List Token) → depth_of_element x ≤ d → next_reach rest < 5 → stops (element_parts d ++ s) (print_element x rest) ≡ stops s rest
  over_element (element_of e last) d s rest h q = over_expr e d (want.some_upper d ∷ s) (print_upper last rest) (omega arith) (upper_next last rest q) ∙ over_upper last d s rest (omega arith) q

  pub over_upper : (x : UpperTree) (d : ℕ) (s : List Expected) (rest : List Token) → depth_of_upper x ≤ d → next_reach rest < 5 → stops (want.some_upper d ∷ s) (print_upper x rest) ≡ stops s rest
  over_upper no_upper d s rest h q = skip (want.some_upper d) (is_symbol symbols.DotDot) (expr_parts d) s rest refl (λ k. refl) (no_symbol symbols.DotDot rest q)
  over_upper (upper_of dots e) d s rest h q = over_expr e d s rest h (omega arith)

  pub over_selectors : (x : SelectorsTree) (d : ℕ) (s : List Expected) (rest : List Token) → depth_of_selectors x ≤ d → next_reach rest < 9 → stops (want.selectors d ∷ s) (print_selectors x rest) ≡ stops s rest
  over_selectors no_selectors d s rest h q = skip_selectors d s rest (no_symbol symbols.Period rest q) (no_symbol symbols.OpenBracket rest q) (no_symbol symbols.OpenParen rest q)
  over_selectors (more_selectors one more) d s rest h q = over_selector one d s (print_selectors more rest) (omega arith) ∙ over_selectors more d s rest (omega arith) q

  pub over_selector : (x : SelectorTree) (d : ℕ) (s : List Expected) (rest : List Token) → depth_of_selector x ≤ d → stops (want.selectors d ∷ s) (print_selector x rest) ≡ stops (want.selectors d ∷ s) rest
  over_selector (field_selector m) d s rest h = refl
  over_selector (index_selector a es b) zero s rest h = absurd (omega arith)
  over_selector (index_selector a es b) (suc d) s rest h = over_exprs es d (want.symbol symbols.CloseBracket ∷ want.selectors (suc d) ∷ s) (symbol_token symbols.CloseBracket b ∷ rest) (omega arith) (omega arith)
  over_selector (call_selector a es b) zero s rest h = absurd (omega arith)
  over_selector (call_selector a es b) (suc d) s rest h = over_arguments es d b (want.selectors (suc d) ∷ s) rest (omega arith)

  pub over_arguments : (x : ArgumentsTree) (d : ℕ) (b : Span) (s : List Expected) (rest : List Token) → depth_of_arguments x ≤ d → stops (want.rest_of_call d ∷ s) (print_arguments x (symbol_token symbols.CloseParen b ∷ rest)) ≡ stops s rest
  over_arguments no_arguments d b s rest h = refl
  over_arguments (some_arguments (exprs_of e more)) d b s rest h =
      expand_call d s (print_expr e (print_more_exprs more (symbol_token symbols.CloseParen b ∷ rest))) (expr_opens e _).0 ∙ over_exprs (exprs_of e more) d (want.symbol symbols.CloseParen ∷ s) (symbol_token symbols.CloseParen b ∷ rest) h (omega arith)

  pub over_exprs : (x : ExprsTree) (d : ℕ) (s : List Expected) (rest : List Token) → depth_of_exprs x ≤ d → next_reach rest < 4 → stops (exprs_parts d ++ s) (print_exprs x rest) ≡ stops s rest
  over_exprs (exprs_of e more) d s rest h q = over_expr e d (want.exprs d ∷ s) (print_more_exprs more rest) (omega arith) (more_exprs_next more rest q) ∙ over_more_exprs more d s rest (omega arith) q

  pub over_more_exprs : (x : MoreExprsTree) (d : ℕ) (s : List Expected) (rest : List Token) → depth_of_more_exprs x ≤ d → next_reach rest < 4 → stops (want.exprs d ∷ s) (print_more_exprs x rest) ≡ stops s rest
  over_more_exprs no_more_exprs d s rest h q = skip (want.exprs d) (is_symbol symbols.Comma) (exprs_parts d) s rest refl (λ k. refl) (no_symbol symbols.Comma rest q)
  over_more_exprs (more_exprs comma e more) d s rest h q = over_expr e d (want.exprs d ∷ s) (print_more_exprs more rest) (omega arith) (more_exprs_next more rest q) ∙ over_more_exprs more d s rest (omega arith) q

pub over_designator : (x : DesignatorTree) (d : ℕ) (s : List Expected) (rest : List Token) → depth_of_designator x ≤ d → next_reach rest < 9 → stops (want.ident ∷ want.selectors d ∷ s) (print_designator x rest) ≡ stops s rest
unfolding stops feed
over_designator (designator_of name more) d s rest h q = over_selectors more d s rest h q
