use Rattle.session_verdicts.proofs.Judged.{FindsTo}
use Rattle.session_verdicts.proofs.judging.find_targets.Given as goal

abbrev pub invariant-loop-index : goal.invariant-loop-index
invariant-loop-index l = FindsTo l.workspace l.ids l.index l.asked.items
