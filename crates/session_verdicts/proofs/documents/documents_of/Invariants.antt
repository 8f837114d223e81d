use Rattle.session_verdicts.proofs.DocumentLaws.{AreFirst}
use Rattle.session_verdicts.proofs.documents.documents_of.Given as goal

abbrev pub invariant-loop-pair : goal.invariant-loop-pair
invariant-loop-pair l = AreFirst l.workspace l.targets.items l.pair l.documents.items
