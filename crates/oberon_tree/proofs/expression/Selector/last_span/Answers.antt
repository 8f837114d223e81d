use Rattle.std.proofs.Common.{sym, subst, []}
use Rattle.oberon_tree.specs.Print.{print_selector}
use Rattle.oberon_tree.specs.Spans.{EndsAt}
use Rattle.oberon_tree.specs.Trees.{SelectorTree}
use Rattle.oberon_tree.specs.Memory.{exprs_tree, arguments_option}
use Rattle.oberon_tree.proofs.ExpressionMemory.{call_held}
use Rattle.oberon_tree.proofs.LastTokens.{index_last, call_last}
use Rattle.oberon_tree.proofs.expression.Selector.last_span.Goals as goal

pub returns-in-Index : goal.returns-in-Index
returns-in-Index c = rw c.in-Index.is (index_last _ (exprs_tree c.in-Index.indices.value) _)

pub returns-in-Call : goal.returns-in-Call
returns-in-Call c =
    let held = call_held c.in-Call.opening c.in-Call.arguments c.in-Call.closing in
    rw c.in-Call.is (subst (λ (t : SelectorTree). EndsAt (print_selector t []) c.in-Call.closing) (sym held) (call_last _ (arguments_option c.in-Call.arguments) _))
