use Rattle.check_cache.proofs.SameLaws.{decides_import}
use Rattle.check_cache.proofs.same.same_import.Goals as goal

pub returns : goal.returns
returns c =
    rw c.both.ensures (decides_import c.same_name-name.result c.same_number-number.result c.args.x.now c.args.y.now c.same_name-name.ensures c.same_number-number.ensures)
