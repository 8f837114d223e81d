use Rattle.std.proofs.Common.{◌≤◌, length, take}
use Rattle.target_graph.specs.Stems.{IsNumbering}
use Rattle.target_graph.specs.Workspace.{stems_of}
use Rattle.target_graph.proofs.stems.number.Given as goal

abbrev pub invariant-loop-pair : goal.invariant-loop-pair
invariant-loop-pair l = IsNumbering (stems_of (take l.pair-index l.pairs)) l.stems.keys l.numbers.items × (length l.stems.keys ≤ l.pair-index)
