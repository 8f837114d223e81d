use Rattle.std.proofs.Common.{[], ◌∷◌, None, length, length-append, ap, ◌∙◌, arith}
use Rattle.clean_build.specs.Build.{Slots}
use Rattle.clean_build.proofs.build.no_lists.Goals as goal

pub loop-init : goal.loop-init
loop-init c = ap (λ (slots : Slots). length slots) c.new-lists.ensures.items

pub loop-preserved : goal.loop-preserved
loop-preserved c =
    let slots : Slots = c.loop.lists.items in
    let one = length-append slots (None ∷ []) in
    ap (λ (ss : Slots). length ss) c.in_ok-push.ensures.items ∙ omega (arith, one, c.loop.invariant)

pub returns : goal.returns
returns c = omega (arith, c.loop.invariant, c.loop-test.false, c.loop.auto.counter-end)
