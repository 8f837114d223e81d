use Rattle.std.proofs.Common.{◌≡◌, Some, map, not, filter, take}
use Rattle.std.specs.List.{slice_get}
use Rattle.session_build.specs.Cleaning.{is_of}
use Rattle.session_build.proofs.cleaning.others_of.Given as goal

abbrev pub invariant-loop-index : goal.invariant-loop-index
invariant-loop-index l = map (slice_get l.pairs) l.others.items ≡ map Some (filter (λ pair. not (is_of l.fn.targets pair)) (take l.index l.pairs))
