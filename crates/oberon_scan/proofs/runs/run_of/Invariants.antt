use Rattle.std.proofs.Common.{◌≡◌, ◌-◌, ◌≤◌, true, take, length}
use Rattle.std.specs.List.{list_all}
use Rattle.oberon_scan.proofs.runs.run_of.Given as goal

abbrev pub invariant-loop-len : goal.invariant-loop-len
invariant-loop-len g l = (l.len ≤ length l.text) × (list_all g.C.Class.test (take l.len l.text) ≡ true)

abbrev pub decreases-loop-len : goal.decreases-loop-len
decreases-loop-len g l = length l.text - l.len
