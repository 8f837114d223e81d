use Rattle.std.proofs.Common.{◌≤◌, length, sym, arith}
use Rattle.std.proofs.lemmas.List.{take_all, length-take-le}
use Rattle.bsp_records.proofs.shown.front.Goals as goal

pub slice_bounds-result-end : goal.slice_bounds-result-end
slice_bounds-result-end c =
    let long : 64 ≤ length c.args.name.now = omega arith in sym (length-take-le 64 c.args.name.now long)

pub returns-else-name-gt-NAME_SHOWN : goal.returns-else-name-gt-NAME_SHOWN
returns-else-name-gt-NAME_SHOWN c =
    let short : length c.args.name.now ≤ 64 = omega arith in sym (take_all 64 c.args.name.now short)
