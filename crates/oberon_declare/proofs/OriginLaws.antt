-- Origins of what stands in arrays.
use Rattle.std.specs.Prelude.{ℕ, zero, suc, ◌≡◌, ◌+◌, ◌<◌, List, [], ◌∷◌, length, drop}
use Rattle.std.proofs.Common.{ap, sym, arith, add-one}
use Rattle.oberon_tree.specs.declared.expression.Exprs.{Exprs, out-Exprs}
use Rattle.oberon_tree.specs.declared.expression.NextExpr.{NextExpr}
use Rattle.oberon_tree.specs.Memory.{exprs_tree, more_exprs_list}
use Rattle.oberon_tree.proofs.ExpressionMemory.{exprs_out, next_expr_out}
use Rattle.oberon_types.specs.declared.origin.Origin.{Origin}
use Rattle.oberon_types.specs.declared.origin.Step.TheVariants as steps
use Rattle.oberon_rules.specs.TypeRules.{deeper, element_steps, element_origin}

-- one more length
pub length_loop : (o : Origin) (items : List NextExpr) (i : ℕ) → i < length items → element_steps (deeper o steps.Element) (more_exprs_list (drop (i + 1) items)) ≡ element_steps o (more_exprs_list (drop i items))
length_loop o [] i l = absurd (omega arith)
length_loop o (x ∷ xs) zero l = sym (ap (element_steps o) (next_expr_out x (more_exprs_list xs)))
length_loop o (x ∷ xs) (suc i) l = rw add-one (rw add-one at (length_loop o xs i (omega arith)))

pub element_origin_out : (o : Origin) (x : Exprs) → element_steps (deeper o steps.Element) (more_exprs_list (out-Exprs x).rest.items) ≡ element_origin o (exprs_tree x)
element_origin_out o x = sym (ap (element_origin o) (exprs_out x))
