use Rattle.std.proofs.Common.{◌≡◌, ◌<◌, Some, All, map, not, filter, take, length}
use Rattle.std.specs.List.{slice_get}
use Rattle.session_reload.specs.Keys.{is_known}
use Rattle.session_reload.proofs.parting.part.Given as goal

abbrev pub invariant-loop-index : goal.invariant-loop-index
invariant-loop-index l = record {
  kept : map (slice_get l.pairs) l.kept.items ≡ map Some (filter (is_known l.keys.keys l.targets) (take l.index l.pairs));
  dropped : map (slice_get l.pairs) l.dropped.items ≡ map Some (filter (λ pair. not (is_known l.keys.keys l.targets pair)) (take l.index l.pairs));
  kept_within : All (λ pair. pair < length l.pairs) l.kept.items;
  dropped_within : All (λ pair. pair < length l.pairs) l.dropped.items;
}
