use Rattle.std.proofs.Common.{take}
use Rattle.build_sources.specs.Rows.{IsRow}
use Rattle.build_sources.proofs.sources.row.Given as goal

abbrev pub invariant-loop-name : goal.invariant-loop-name
invariant-loop-name l = IsRow l.fn.workspace.targets l.fn.target (take l.name-index l.fn.imports) l.row.items
