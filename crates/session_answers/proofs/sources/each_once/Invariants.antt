use Rattle.std.proofs.Common.{◌≡◌, eqb, take}
use Rattle.ob_text.specs.Once.{each_once}
use Rattle.session_answers.proofs.sources.each_once.Given as goal

abbrev pub invariant-loop-number : goal.invariant-loop-number
invariant-loop-number l = l.seen.keys ≡ each_once eqb (take l.number-index l.numbers)
