use Rattle.std.proofs.Common.{take}
use Rattle.std.specs.Option.{option_copied}
use Rattle.bsp_edge.proofs.ChangeLaws.{IsLatest}
use Rattle.bsp_edge.proofs.mem_tree.left_at.Given as goal

abbrev pub invariant-loop-change : goal.invariant-loop-change
invariant-loop-change l = IsLatest (take l.change-index l.changes) l.call l.path l.number (option_copied l.left)
