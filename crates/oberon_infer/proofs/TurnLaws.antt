-- What is said of operands, selectors, indices and arguments, one after the other.
use Rattle.std.specs.Prelude.{◌≡◌, ℕ, Bool, not, List, Option, refl}
use Rattle.std.proofs.Common.{ap, sym, ◌∙◌}
use Rattle.ob_text.specs.declared.code.Code.TheVariants as codes_of
use Rattle.ob_text.specs.declared.span.Span.{Span}
use Rattle.oberon_tree.specs.declared.expression.Signed.{Signed}
use Rattle.oberon_tree.specs.declared.expression.AddOperator.{AddOperator}
use Rattle.oberon_tree.specs.declared.expression.MulOperator.{MulOperator}
use Rattle.oberon_tree.specs.FirstSpans.{first_of_expr, first_of_term, first_of_factor}
use Rattle.oberon_tree.specs.Trees.{ExprTree, simple_of, AddendsTree, no_addends, more_addends, TermTree, term_of, MultipliersTree, no_multipliers, more_multipliers, FactorTree, SelectorTree, SelectorsTree, more_selectors, exprs_of, MoreExprsTree, no_more_exprs, more_exprs}
use Rattle.oberon_types.specs.Types.{TyTree}
use Rattle.oberon_rules.specs.Scopes.{Scopes, Said, row}
use Rattle.oberon_rules.specs.Operators.{add_fits, mul_fits, is_bad}
use Rattle.oberon_rules.specs.Expressions.{Ex, class_of, outcome_is, signed_is, element_type, or_unknown, expr_is, simple_is, addends_are, term_is, multipliers_are, factor_is, selected, selectors_are}
use Rattle.oberon_rules.specs.ExpressionRules.{Wanted, first_wanted, later_wanted, value_row, sign_row, index_rows, argument_rows, expr_says, simple_says, addends_say, term_says, multipliers_say, factor_says, selector_says, selectors_say, indices_say, more_indices_say, exprs_say, more_exprs_say}
use Rattle.oberon_infer.specs.declared.said.Said.{Said as OwnSaid}
use Rattle.oberon_infer.specs.Adds.{Goes, Adds}
use Rattle.oberon_infer.specs.Bare.{is_alone, has_multipliers}
use Rattle.oberon_infer.specs.Parts.{operand_rows}
use Rattle.oberon_infer.proofs.AddsLaws.{adds_then, adds_as, goes_on, goes_end}
use Rattle.oberon_infer.proofs.PartLaws.{simple_parts, term_parts}

module _ (me : List ℕ) (s : Scopes) where
  -- ---- addends

  pub simple_done : (sign : Option Signed) (first : TermTree) (more : AddendsTree) (f x z : Ex) → f ≡ term_is me s first → x ≡ signed_is sign f → addends_are me s x more ≡ z → z ≡ simple_is me s (simple_of sign first more)
  simple_done sign first more f x z p q r = sym r ∙ ap (λ y. addends_are me s y more) (q ∙ ap (signed_is sign) p)

  pub simple_said : (sign : Option Signed) (first : TermTree) (more : AddendsTree) (alone : Bool) (f x z : Ex) (place : Span) {a b c d e : List OwnSaid} → alone ≡ is_alone sign more → f ≡ term_is me s first → x ≡ signed_is sign f → place ≡ first_of_term first → Adds a b (term_says me s first) → Adds b c (operand_rows alone f place) → Adds c d (sign_row sign f) → Goes d e (addends_say me s x more) (addends_say me s z no_addends) → Adds a e (simple_says me s (simple_of sign first more))
  simple_said sign first more alone f x z place o p q at t v w g =
      adds_as (adds_then t (adds_then v (adds_then w (goes_end g (λ rest. refl))))) (λ rest.
      ap (λ y. term_says me s first (operand_rows alone f y (sign_row sign f (addends_say me s x more rest)))) at
      ∙ ap (λ y. term_says me s first (operand_rows alone f (first_of_term first) (sign_row sign f (addends_say me s y more rest)))) q
      ∙ ap (λ y. term_says me s first (operand_rows alone y (first_of_term first) (sign_row sign y (addends_say me s (signed_is sign y) more rest)))) p
      ∙ ap (λ b. term_says me s first (operand_rows b (term_is me s first) (first_of_term first) (sign_row sign (term_is me s first) (addends_say me s (signed_is sign (term_is me s first)) more rest)))) o
      ∙ simple_parts me s sign first more rest)

  pub addend_is : (o : AddOperator) (place : Span) (t : TermTree) (more : AddendsTree) (x y z : Ex) → y ≡ term_is me s t → z ≡ outcome_is (add_fits o (class_of x) (class_of y)) → addends_are me s x (more_addends o place t more) ≡ addends_are me s z more
  addend_is o place t more x y z p q = ap (λ v. addends_are me s v more) (sym (q ∙ ap (λ v. outcome_is (add_fits o (class_of x) (class_of v))) p))

  pub addend_said : (o : AddOperator) (place : Span) (t : TermTree) (more : AddendsTree) (x y z : Ex) (at : Span) {f : List Said → List Said} {a b c d : List OwnSaid} → y ≡ term_is me s t → at ≡ first_of_term t → z ≡ outcome_is (add_fits o (class_of x) (class_of y)) → Goes a b f (addends_say me s x (more_addends o place t more)) → Adds b c (term_says me s t) → Adds c d (λ rest. value_row y at (row (is_bad (add_fits o (class_of x) (class_of y))) place codes_of.BadOperand rest)) → Goes a d f (addends_say me s z more)
  addend_said o place t more x y z at p e q g v w =
      goes_on g (adds_then v w) (λ rest. sym (
      ap (λ u. term_says me s t (value_row y u (row (is_bad (add_fits o (class_of x) (class_of y))) place codes_of.BadOperand (addends_say me s z more rest)))) e
      ∙ ap (λ u. term_says me s t (value_row y (first_of_term t) (row (is_bad (add_fits o (class_of x) (class_of y))) place codes_of.BadOperand (addends_say me s u more rest)))) q
      ∙ ap (λ u. term_says me s t (value_row u (first_of_term t) (row (is_bad (add_fits o (class_of x) (class_of u))) place codes_of.BadOperand (addends_say me s (outcome_is (add_fits o (class_of x) (class_of u))) more rest)))) p))

  -- ---- multipliers

  pub term_done : (first : FactorTree) (more : MultipliersTree) (f z : Ex) → f ≡ factor_is me s first → multipliers_are me s f more ≡ z → z ≡ term_is me s (term_of first more)
  term_done first more f z p r = sym r ∙ ap (λ y. multipliers_are me s y more) p

  pub term_said : (first : FactorTree) (more : MultipliersTree) (alone : Bool) (f z : Ex) (place : Span) {a b c d : List OwnSaid} → alone ≡ not (has_multipliers more) → f ≡ factor_is me s first → place ≡ first_of_factor first → Adds a b (factor_says me s first) → Adds b c (operand_rows alone f place) → Goes c d (multipliers_say me s f more) (multipliers_say me s z no_multipliers) → Adds a d (term_says me s (term_of first more))
  term_said first more alone f z place o p at t v g =
      adds_as (adds_then t (adds_then v (goes_end g (λ rest. refl)))) (λ rest.
      ap (λ y. factor_says me s first (operand_rows alone f y (multipliers_say me s f more rest))) at
      ∙ ap (λ y. factor_says me s first (operand_rows alone y (first_of_factor first) (multipliers_say me s y more rest))) p
      ∙ ap (λ b. factor_says me s first (operand_rows b (factor_is me s first) (first_of_factor first) (multipliers_say me s (factor_is me s first) more rest))) o
      ∙ term_parts me s first more rest)

  pub multiplier_is : (o : MulOperator) (place : Span) (t : FactorTree) (more : MultipliersTree) (x y z : Ex) → y ≡ factor_is me s t → z ≡ outcome_is (mul_fits o (class_of x) (class_of y)) → multipliers_are me s x (more_multipliers o place t more) ≡ multipliers_are me s z more
  multiplier_is o place t more x y z p q = ap (λ v. multipliers_are me s v more) (sym (q ∙ ap (λ v. outcome_is (mul_fits o (class_of x) (class_of v))) p))

  pub multiplier_said : (o : MulOperator) (place : Span) (t : FactorTree) (more : MultipliersTree) (x y z : Ex) (at : Span) {f : List Said → List Said} {a b c d : List OwnSaid} → y ≡ factor_is me s t → at ≡ first_of_factor t → z ≡ outcome_is (mul_fits o (class_of x) (class_of y)) → Goes a b f (multipliers_say me s x (more_multipliers o place t more)) → Adds b c (factor_says me s t) → Adds c d (λ rest. value_row y at (row (is_bad (mul_fits o (class_of x) (class_of y))) place codes_of.BadOperand rest)) → Goes a d f (multipliers_say me s z more)
  multiplier_said o place t more x y z at p e q g v w =
      goes_on g (adds_then v w) (λ rest. sym (
      ap (λ u. factor_says me s t (value_row y u (row (is_bad (mul_fits o (class_of x) (class_of y))) place codes_of.BadOperand (multipliers_say me s z more rest)))) e
      ∙ ap (λ u. factor_says me s t (value_row y (first_of_factor t) (row (is_bad (mul_fits o (class_of x) (class_of y))) place codes_of.BadOperand (multipliers_say me s u more rest)))) q
      ∙ ap (λ u. factor_says me s t (value_row u (first_of_factor t) (row (is_bad (mul_fits o (class_of x) (class_of u))) place codes_of.BadOperand (multipliers_say me s (outcome_is (mul_fits o (class_of x) (class_of u))) more rest)))) p))

  -- ---- selectors

  pub selector_is : (sel : SelectorTree) (more : SelectorsTree) (x z : Ex) → z ≡ selected me s x sel → selectors_are me s x (more_selectors sel more) ≡ selectors_are me s z more
  selector_is sel more x z p = ap (λ y. selectors_are me s y more) (sym p)

  pub selector_said : (place : Span) (sel : SelectorTree) (more : SelectorsTree) (x z : Ex) {f : List Said → List Said} {a b c : List OwnSaid} → z ≡ selected me s x sel → Goes a b f (selectors_say me s place x (more_selectors sel more)) → Adds b c (selector_says me s place x sel) → Goes a c f (selectors_say me s place z more)
  selector_said place sel more x z p g v = goes_on g v (λ rest. ap (λ y. selector_says me s place x sel (selectors_say me s place y more rest)) (sym p))

  -- ---- indices

  pub index_said : (bracket comma : Span) (e : ExprTree) (more : MoreExprsTree) (t : TyTree) (element : Option TyTree) (x : Ex) (at : Span) {f : List Said → List Said} {a b c d : List OwnSaid} → x ≡ expr_is me s e → at ≡ first_of_expr e → element ≡ element_type t → Goes a b f (more_indices_say me s bracket t (more_exprs comma e more)) → Adds b c (expr_says me s e) → Adds c d (index_rows element t x at bracket) → Goes a d f (more_indices_say me s bracket (or_unknown element) more)
  index_said bracket comma e more t element x at p i q g v w =
      goes_on g (adds_then v w) (λ rest. sym (
      ap (λ y. expr_says me s e (index_rows element t x y bracket (more_indices_say me s bracket (or_unknown element) more rest))) i
      ∙ ap (λ y. expr_says me s e (index_rows element t y (first_of_expr e) bracket (more_indices_say me s bracket (or_unknown element) more rest))) p
      ∙ ap (λ y. expr_says me s e (index_rows y t (expr_is me s e) (first_of_expr e) bracket (more_indices_say me s bracket (or_unknown y) more rest))) q))

  pub indices_said : (bracket : Span) (e : ExprTree) (more : MoreExprsTree) (t : TyTree) (element : Option TyTree) (u : TyTree) (x : Ex) (at : Span) {a b c d : List OwnSaid} → x ≡ expr_is me s e → at ≡ first_of_expr e → element ≡ element_type t → Adds a b (expr_says me s e) → Adds b c (index_rows element t x at bracket) → Goes c d (more_indices_say me s bracket (or_unknown element) more) (more_indices_say me s bracket u no_more_exprs) → Adds a d (indices_say me s bracket t (exprs_of e more))
  indices_said bracket e more t element u x at p i q v w g =
      adds_as (adds_then v (adds_then w (goes_end g (λ rest. refl)))) (λ rest.
      ap (λ y. expr_says me s e (index_rows element t x y bracket (more_indices_say me s bracket (or_unknown element) more rest))) i
      ∙ ap (λ y. expr_says me s e (index_rows element t y (first_of_expr e) bracket (more_indices_say me s bracket (or_unknown element) more rest))) p
      ∙ ap (λ y. expr_says me s e (index_rows y t (expr_is me s e) (first_of_expr e) bracket (more_indices_say me s bracket (or_unknown y) more rest))) q)

  -- ---- arguments

  pub argument_said : (comma : Span) (e : ExprTree) (more : MoreExprsTree) (wanted : List Wanted) (w : Option Wanted) (later : List Wanted) (x : Ex) (at : Span) {f : List Said → List Said} {a b c d : List OwnSaid} → x ≡ expr_is me s e → at ≡ first_of_expr e → w ≡ first_wanted wanted → later ≡ later_wanted wanted → Goes a b f (more_exprs_say me s wanted (more_exprs comma e more)) → Adds b c (expr_says me s e) → Adds c d (argument_rows w x at) → Goes a d f (more_exprs_say me s later more)
  argument_said comma e more wanted w later x at p i q r g u v =
      goes_on g (adds_then u v) (λ rest. sym (
      ap (λ y. expr_says me s e (argument_rows w x y (more_exprs_say me s later more rest))) i
      ∙ ap (λ y. expr_says me s e (argument_rows w y (first_of_expr e) (more_exprs_say me s later more rest))) p
      ∙ ap (λ y. expr_says me s e (argument_rows y (expr_is me s e) (first_of_expr e) (more_exprs_say me s later more rest))) q
      ∙ ap (λ y. expr_says me s e (argument_rows (first_wanted wanted) (expr_is me s e) (first_of_expr e) (more_exprs_say me s y more rest))) r))

  pub arguments_said : (e : ExprTree) (more : MoreExprsTree) (wanted : List Wanted) (w : Option Wanted) (later end : List Wanted) (x : Ex) (at : Span) {a b c d : List OwnSaid} → x ≡ expr_is me s e → at ≡ first_of_expr e → w ≡ first_wanted wanted → later ≡ later_wanted wanted → Adds a b (expr_says me s e) → Adds b c (argument_rows w x at) → Goes c d (more_exprs_say me s later more) (more_exprs_say me s end no_more_exprs) → Adds a d (exprs_say me s wanted (exprs_of e more))
  arguments_said e more wanted w later end x at p i q r u v g =
      adds_as (adds_then u (adds_then v (goes_end g (λ rest. refl)))) (λ rest.
      ap (λ y. expr_says me s e (argument_rows w x y (more_exprs_say me s later more rest))) i
      ∙ ap (λ y. expr_says me s e (argument_rows w y (first_of_expr e) (more_exprs_say me s later more rest))) p
      ∙ ap (λ y. expr_says me s e (argument_rows y (expr_is me s e) (first_of_expr e) (more_exprs_say me s later more rest))) q
      ∙ ap (λ y. expr_says me s e (argument_rows (first_wanted wanted) (expr_is me s e) (first_of_expr e) (more_exprs_say me s y more rest))) r)
