-- What is said of one statement, by what was found of its parts.
use Rattle.std.specs.Prelude.{◌≡◌, ℕ, ◌-◌, Bool, true, false, not, if◌then◌else◌, List, [], ◌∷◌, length, Some, None, slice_get, refl}
use Rattle.std.proofs.Common.{ap, sym, ◌∙◌, suc, subst, arith}
use Rattle.ob_text.specs.declared.code.Code.TheVariants as codes_of
use Rattle.ob_text.specs.declared.span.Span.{Span}
use Rattle.oberon_tree.specs.declared.expression.Selector.{Selector}
use Rattle.oberon_tree.specs.FirstSpans.{first_of_expr, first_of_designator}
use Rattle.oberon_tree.specs.Spans.{span_of_expr}
use Rattle.oberon_tree.specs.Memory.{selector_tree, selectors_list}
use Rattle.oberon_tree.specs.Trees.{ExprTree, DesignatorTree, SelectorTree, field_selector, index_selector, call_selector, SelectorsTree, no_selectors, more_selectors}
use Rattle.oberon_types.specs.Types.{TyTree, boolean_ty, same_type}
use Rattle.oberon_types.specs.Folding.{Folded}
use Rattle.oberon_rules.specs.Scopes.{Scopes, Said, broken, row}
use Rattle.oberon_rules.specs.Expressions.{Ex, ty_of, is_unknown, is_whole, expr_is, designator_is}
use Rattle.oberon_rules.specs.ExpressionRules.{value_says, designator_says, whole_row}
use Rattle.oberon_rules.specs.Statements.{target_rows, statement_rows, call_is_last, is_call, condition_says, bound_says, step_rows, step_row}

module _ (me : List ℕ) (s : Scopes) where
  pub assigned : (d : DesignatorTree) (e : ExprTree) (x : Ex) (t : TyTree) (p q : Span) (rest : List Said) → x ≡ designator_is me s d → t ≡ ty_of (expr_is me s e) → p ≡ first_of_designator d → q ≡ first_of_expr e → designator_says me s d (value_says me s e (target_rows x t p q rest)) ≡ designator_says me s d (value_says me s e (target_rows (designator_is me s d) (ty_of (expr_is me s e)) (first_of_designator d) (first_of_expr e) rest))
  assigned d e x t p q rest h i j k = ap (λ (more : List Said). designator_says me s d (value_says me s e more))
      (ap (λ y. target_rows y t p q rest) h
      ∙ ap (λ y. target_rows (designator_is me s d) y p q rest) i
      ∙ ap (λ y. target_rows (designator_is me s d) (ty_of (expr_is me s e)) y q rest) j
      ∙ ap (λ y. target_rows (designator_is me s d) (ty_of (expr_is me s e)) (first_of_designator d) y rest) k)

  pub called : (d : DesignatorTree) (x : Ex) (b : Bool) (p : Span) (rest : List Said) → x ≡ designator_is me s d → b ≡ call_is_last d → p ≡ first_of_designator d → designator_says me s d (statement_rows x b p rest) ≡ designator_says me s d (statement_rows (designator_is me s d) (call_is_last d) (first_of_designator d) rest)
  called d x b p rest h i j = ap (λ (more : List Said). designator_says me s d more)
      (ap (λ y. statement_rows y b p rest) h
      ∙ ap (λ y. statement_rows (designator_is me s d) y p rest) i
      ∙ ap (λ y. statement_rows (designator_is me s d) (call_is_last d) y rest) j)

  pub tested : (e : ExprTree) (x : Ex) (t : TyTree) (b : Bool) (p : Span) (rest : List Said) → x ≡ expr_is me s e → t ≡ ty_of x → b ≡ same_type t boolean_ty → p ≡ first_of_expr e → value_says me s e (row (not b) p codes_of.NotBoolean rest) ≡ condition_says me s e rest
  tested e x t b p rest h i j k =
      ap (λ y. value_says me s e (row (not y) p codes_of.NotBoolean rest)) (j ∙ ap (λ y. same_type y boolean_ty) (i ∙ ap ty_of h))
      ∙ ap (λ y. value_says me s e (row (not (same_type (ty_of (expr_is me s e)) boolean_ty)) y codes_of.NotBoolean rest)) k

  pub bounded : (e : ExprTree) (x : Ex) (p : Span) (rest : List Said) → x ≡ expr_is me s e → p ≡ first_of_expr e → value_says me s e (whole_row x p rest) ≡ bound_says me s e rest
  bounded e x p rest h k =
      ap (λ y. value_says me s e (whole_row y p rest)) h
      ∙ ap (λ y. value_says me s e (whole_row (expr_is me s e) y rest)) k

-- ---- whether a designator ends with a call

behind_first : (p q : SelectorTree) (more : SelectorsTree) → is_call (more_selectors p (more_selectors q more)) ≡ is_call (more_selectors q more)
behind_first (field_selector m) q more = refl
behind_first (index_selector a es b) q more = refl
behind_first (call_selector a es b) q more = refl

tail_last : {A : Type 0} (y z : A) (zs : List A) (x : A) → slice_get (y ∷ z ∷ zs) (length (y ∷ z ∷ zs) - 1) ≡ Some x → slice_get (z ∷ zs) (length (z ∷ zs) - 1) ≡ Some x
tail_last y z zs x e =
    let same : length (y ∷ z ∷ zs) - 1 ≡ suc (length (z ∷ zs) - 1) = omega arith in
    let moved : slice_get (y ∷ z ∷ zs) (suc (length (z ∷ zs) - 1)) ≡ Some x = subst (λ n. slice_get (y ∷ z ∷ zs) n ≡ Some x) same e in
    moved

pub last_calls : (xs : List Selector) (x : Selector) → slice_get xs (length xs - 1) ≡ Some x → is_call (more_selectors (selector_tree x) no_selectors) ≡ is_call (selectors_list xs)
last_calls [] x e = absurd cc
last_calls (y ∷ []) x e =
    let same : x ≡ y = cc in
    ap (λ (z : Selector). is_call (more_selectors (selector_tree z) no_selectors)) same
last_calls (y ∷ z ∷ zs) x e = last_calls (z ∷ zs) x (tail_last y z zs x e) ∙ sym (behind_first (selector_tree y) (selector_tree z) (selectors_list zs))

-- ---- the step of FOR

pub stepped : (t : TyTree) (f : Folded) (e : ExprTree) (rest : List Said) → is_unknown t ≡ false → is_whole t ≡ true → step_row f (span_of_expr e) rest ≡ step_rows t f e rest
stepped t f e rest known whole =
    sym (ap (λ b. if b then rest else if is_whole t then step_row f (span_of_expr e) rest else broken (first_of_expr e) codes_of.NotInteger None ∷ rest) known
    ∙ ap (λ b. if b then step_row f (span_of_expr e) rest else broken (first_of_expr e) codes_of.NotInteger None ∷ rest) whole)

pub unstepped : (t : TyTree) (f : Folded) (e : ExprTree) (rest : List Said) → is_unknown t ≡ false → is_whole t ≡ false → broken (first_of_expr e) codes_of.NotInteger None ∷ rest ≡ step_rows t f e rest
unstepped t f e rest known whole =
    sym (ap (λ b. if b then rest else if is_whole t then step_row f (span_of_expr e) rest else broken (first_of_expr e) codes_of.NotInteger None ∷ rest) known
    ∙ ap (λ b. if b then step_row f (span_of_expr e) rest else broken (first_of_expr e) codes_of.NotInteger None ∷ rest) whole)
