use Rattle.std.specs.Prelude.{List, drop}
use Rattle.oberon_tree.specs.Memory.{more_statements_list, elsifs_list, more_arms_list}
use Rattle.oberon_rules.specs.Statements.{CaseKind, Interval, more_statements_say, elsifs_say}
use Rattle.oberon_infer.specs.Memory.{plain_scopes}
use Rattle.oberon_infer.specs.Adds.{Goes}
use Rattle.oberon_statements.specs.Labels.{Knows}
use Rattle.oberon_statements.proofs.Left.{LeftArms}
use Rattle.oberon_statements.proofs.walk.+statement.Given as goal

abbrev pub invariant-statements-loop-next : goal.invariant-statements-loop-next
invariant-statements-loop-next l = Goes l.initial.said.items l.said.items (more_statements_say l.me (plain_scopes l.scopes) (more_statements_list l.next-items)) (more_statements_say l.me (plain_scopes l.scopes) (more_statements_list (drop l.next-index l.next-items)))

abbrev pub invariant-elsifs-loop-next : goal.invariant-elsifs-loop-next
invariant-elsifs-loop-next l = Goes l.initial.said.items l.said.items (elsifs_say l.me (plain_scopes l.scopes) (elsifs_list l.rest)) (elsifs_say l.me (plain_scopes l.scopes) (elsifs_list (drop l.next-index l.rest)))

abbrev pub invariant-case-loop-next : goal.invariant-case-loop-next
invariant-case-loop-next l = (k : CaseKind) (earlier : List Interval) → Knows l.initial.labels k earlier → LeftArms l.me (plain_scopes l.scopes) k earlier (more_arms_list l.next-items) (more_arms_list (drop l.next-index l.next-items)) l.initial.said.items l.said.items l.labels
