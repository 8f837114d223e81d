use Rattle.std.specs.Prelude.{List, drop}
use Rattle.oberon_rules.specs.Statements.{CaseKind, Interval}
use Rattle.oberon_infer.specs.Memory.{plain_scopes}
use Rattle.oberon_statements.specs.Labels.{Knows}
use Rattle.oberon_statements.proofs.Left.{next_labels, LeftLabels}
use Rattle.oberon_statements.proofs.judged.judge_labels.Given as goal

abbrev pub invariant-loop-next : goal.invariant-loop-next
invariant-loop-next l = (k : CaseKind) (earlier : List Interval) → Knows l.initial.labels k earlier → LeftLabels (plain_scopes l.scopes) k earlier (next_labels l.next-items) (next_labels (drop l.next-index l.next-items)) l.initial.said.items l.said.items l.labels
