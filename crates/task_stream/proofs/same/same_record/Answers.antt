use Rattle.task_stream.proofs.SameLaws.{decides_shown}
use Rattle.task_stream.proofs.same.same_record.Goals as goal

pub returns : goal.returns
returns c =
    rw c.all.ensures (decides_shown c.same_range-range.result c.same_code-code.result c.same_name-name.result c.args.x.now c.args.y.now c.same_range-range.ensures c.same_code-code.ensures c.same_name-name.ensures)
