use Rattle.std.specs.Prelude.{◌≡◌, ◌++◌, drop, map}
use Rattle.oberon_module.specs.Rows.{plain_row, diagnostic_of}
use Rattle.oberon_module.specs.Sweeps.{IsSweep}
use Rattle.oberon_module.proofs.listing.shown.Given as goal

abbrev pub invariant-loop-row : goal.invariant-loop-row
invariant-loop-row l = record {
  list : l.list.items ++ map (diagnostic_of l.text) (map plain_row (drop l.row-index l.rows)) ≡ map (diagnostic_of l.text) (map plain_row l.rows);
  sweep : IsSweep l.sweep;
  text : l.sweep.text.now ≡ l.text;
}
