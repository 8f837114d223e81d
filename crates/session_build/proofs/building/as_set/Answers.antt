use Rattle.std.proofs.Common.{◌∙◌}
use Rattle.session_build.proofs.RisingLaws.{rising_more}
use Rattle.session_build.proofs.building.as_set.Goals as goal

pub loop-number-preserved : goal.loop-number-preserved
loop-number-preserved c =
    c.in_ok-insert.ensures.keys
    ∙ rising_more c.args.numbers.now c.loop-number.set.keys c.loop-number.number-index 0 c.requires c.loop-number-test.true c.loop-number.invariant
