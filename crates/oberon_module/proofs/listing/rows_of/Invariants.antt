use Rattle.std.specs.Prelude.{◌≡◌, ◌++◌, drop, map}
use Rattle.oberon_infer.specs.Memory.{plain_said}
use Rattle.oberon_module.specs.Rows.{plain_row, plain_rows}
use Rattle.oberon_module.proofs.listing.rows_of.Given as goal

abbrev pub invariant-loop-one : goal.invariant-loop-one
invariant-loop-one l = map plain_row l.rows.items ++ plain_rows (map plain_said (drop l.one-index l.said)) ≡ plain_rows (map plain_said l.said)
