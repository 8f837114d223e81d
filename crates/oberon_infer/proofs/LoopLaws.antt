-- One turn of a loop over a part of the tree.
use Rattle.std.specs.Prelude.{◌≡◌, ℕ, ◌+◌, ◌<◌, List, length, drop, Option, refl}
use Rattle.std.proofs.Common.{ap, sym, ◌∙◌, get_or}
use Rattle.std.proofs.lemmas.List.{at_drop_more}
use Rattle.oberon_tree.specs.declared.expression.Addend.{Addend, out-Addend}
use Rattle.oberon_tree.specs.declared.expression.Multiplier.{Multiplier}
use Rattle.oberon_tree.specs.declared.expression.NextElement.{NextElement, out-NextElement}
use Rattle.oberon_tree.specs.declared.expression.NextExpr.{NextExpr, out-NextExpr}
use Rattle.oberon_tree.specs.declared.expression.Selector.{Selector}
use Rattle.oberon_tree.specs.Memory.{expr_tree, term_tree, factor_tree, element_tree, selector_tree, addends_list, addend_before, multipliers_list, more_elements_list, element_before, selectors_list, more_exprs_list, expr_before}
use Rattle.oberon_tree.specs.Trees.{more_addends, more_multipliers, more_elements, more_selectors, MoreExprsTree, no_more_exprs, more_exprs}
use Rattle.oberon_tree.proofs.ExpressionMemory.{addend_out, next_element_out, next_expr_out}
use Rattle.oberon_types.specs.Types.{TyTree}
use Rattle.oberon_rules.specs.Expressions.{element_type, or_unknown, elements_type}

pub addends_step : (xs : List Addend) (n : ℕ) (a : Addend) → n < length xs → a ≡ get_or xs n a → addends_list (drop n xs) ≡ more_addends (out-Addend a).operator (out-Addend a).span (term_tree (out-Addend a).term) (addends_list (drop (n + 1) xs))
addends_step xs n a h is =
    at_drop_more addends_list xs n a h
    ∙ ap (λ y. addend_before y (addends_list (drop (n + 1) xs))) (sym is)
    ∙ addend_out a (addends_list (drop (n + 1) xs))

pub multipliers_step : (xs : List Multiplier) (n : ℕ) (m : Multiplier) → n < length xs → m ≡ get_or xs n m → multipliers_list (drop n xs) ≡ more_multipliers m.operator m.span (factor_tree m.factor) (multipliers_list (drop (n + 1) xs))
multipliers_step xs n m h is =
    at_drop_more multipliers_list xs n m h
    ∙ ap (λ (y : Multiplier). more_multipliers y.operator y.span (factor_tree y.factor) (multipliers_list (drop (n + 1) xs))) (sym is)

pub elements_step : (xs : List NextElement) (n : ℕ) (e : NextElement) → n < length xs → e ≡ get_or xs n e → more_elements_list (drop n xs) ≡ more_elements (out-NextElement e).comma (element_tree (out-NextElement e).element) (more_elements_list (drop (n + 1) xs))
elements_step xs n e h is =
    at_drop_more more_elements_list xs n e h
    ∙ ap (λ y. element_before y (more_elements_list (drop (n + 1) xs))) (sym is)
    ∙ next_element_out e (more_elements_list (drop (n + 1) xs))

pub exprs_step : (xs : List NextExpr) (n : ℕ) (e : NextExpr) → n < length xs → e ≡ get_or xs n e → more_exprs_list (drop n xs) ≡ more_exprs (out-NextExpr e).comma (expr_tree (out-NextExpr e).expr) (more_exprs_list (drop (n + 1) xs))
exprs_step xs n e h is =
    at_drop_more more_exprs_list xs n e h
    ∙ ap (λ y. expr_before y (more_exprs_list (drop (n + 1) xs))) (sym is)
    ∙ next_expr_out e (more_exprs_list (drop (n + 1) xs))

pub selectors_step : (xs : List Selector) (n : ℕ) (x : Selector) → n < length xs → x ≡ get_or xs n x → selectors_list (drop n xs) ≡ more_selectors (selector_tree x) (selectors_list (drop (n + 1) xs))
selectors_step xs n x h is =
    at_drop_more selectors_list xs n x h
    ∙ ap (λ y. more_selectors (selector_tree y) (selectors_list (drop (n + 1) xs))) (sym is)

-- the elements' type behind more indices
abbrev pub elements_behind : Option TyTree → MoreExprsTree → Option TyTree
elements_behind t no_more_exprs = t
elements_behind t (more_exprs comma e more) = elements_behind (element_type (or_unknown t)) more

pub behind_all : (t : TyTree) (more : MoreExprsTree) → elements_behind (element_type t) more ≡ elements_type t more
behind_all t no_more_exprs = refl
behind_all t (more_exprs comma e more) = behind_all (or_unknown (element_type t)) more
