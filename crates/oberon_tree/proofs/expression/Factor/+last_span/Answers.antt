use Rattle.std.proofs.Common.{sym, subst, []}
use Rattle.oberon_tree.specs.Print.{print_factor}
use Rattle.oberon_tree.specs.Spans.{EndsAt}
use Rattle.oberon_tree.specs.Trees.{FactorTree}
use Rattle.oberon_tree.specs.Memory.{expr_tree}
use Rattle.oberon_tree.proofs.ExpressionMemory.{set_out, designator_held}
use Rattle.oberon_tree.proofs.LastTokens.{set_last, group_last}
use Rattle.oberon_tree.proofs.expression.Factor.+last_span.Goals as goal

pub returns-in-Set : goal.returns-in-Set
returns-in-Set t c = rw (c.in-Set.is, set_out c.in-Set.set) (set_last _ _ _)

pub returns-in-Designator : goal.returns-in-Designator
returns-in-Designator t c =
    rw c.in-Designator.is (subst (λ (t : FactorTree). EndsAt (print_factor t []) c.last_span.result) (sym (designator_held c.in-Designator.designator)) c.last_span.ensures)

pub returns-in-Group : goal.returns-in-Group
returns-in-Group t c = rw c.in-Group.is (group_last _ (expr_tree c.in-Group.inner.value) _)
