use Rattle.task_stream.proofs.WaitingLaws.{part_of}
use Rattle.task_stream.proofs.piece.part.Goals as goal

pub returns : goal.returns
returns c =
    part_of c.args.list.now c.as_slice.result.now c.split_at.result.1.now c.split_at-2.result.0.now c.args.first c.min.result c.as_slice.ensures c.split_at.ensures.back c.min.ensures c.split_at-2.ensures.front
