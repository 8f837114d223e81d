use Rattle.std.proofs.Common.{◌≡◌, take, sym, arith}
use Rattle.std.specs.Option.{option_copied}
use Rattle.std.proofs.lemmas.List.{take_all}
use Rattle.bsp_edge.proofs.ChangeLaws.{latest_left}
use Rattle.bsp_edge.proofs.mem_tree.left_at.Goals as goal

pub returns : goal.returns
returns c =
    let changes = c.args.changes.now in
    let all : take c.loop-change.change-index changes ≡ changes = take_all c.loop-change.change-index changes (omega arith) in
    sym (latest_left changes c.args.call c.args.path.now c.loop-change.number (option_copied c.loop-change.left) (rw all at c.loop-change.invariant))
