use Rattle.std.proofs.Common.{arith}
use Rattle.oberon_module.proofs.PlaceLaws.{behind_is, character_fits}
use Rattle.oberon_module.proofs.places.position.Goals as goal

pub overflow_add-result : goal.overflow_add-result
overflow_add-result c =
    let k = character_fits c.args.text.now c.position_of-at.result c.position_of-at.ensures.position in
    omega (arith, k, c.ranges.offset.fits, c.if-offset-text.false)

pub returns : goal.returns
returns c = behind_is c.args.text.now c.args.offset c.position_of-at.result c.position_of-at.ensures.position (omega (arith, c.if-offset-text.false))
