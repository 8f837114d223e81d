use Rattle.std.proofs.Common.{◌≡◌, drop}
use Rattle.session_build.specs.Tallies.{tally_from, tally_of}
use Rattle.session_build.proofs.tally.tally_of.Given as goal

abbrev pub invariant-loop-index : goal.invariant-loop-index
invariant-loop-index l = tally_from l.id l.sum (drop l.index l.documents) (drop l.index l.tallies) ≡ tally_of l.id l.documents l.tallies
