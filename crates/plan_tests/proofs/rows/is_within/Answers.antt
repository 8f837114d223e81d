use Rattle.std.proofs.Common.{◌<◌, ℕ, List, All, subst}
use Rattle.std.proofs.lemmas.List.{take_all}
use Rattle.std.proofs.lemmas.List.Elements.{All-more}
use Rattle.plan_tests.proofs.rows.is_within.Goals as goal

pub loop-place-preserved : goal.loop-place-preserved
loop-place-preserved c =
    All-more (λ place. place < c.args.places) c.args.row.now c.loop-place.place-index 0 c.loop-place-test.true c.loop-place.invariant c.if-place-places.false

pub returns : goal.returns
returns c =
    subst (λ (xs : List ℕ). All (λ place. place < c.args.places) xs) (take_all c.loop-place.place-index c.args.row.now c.loop-place-test.false) c.loop-place.invariant
