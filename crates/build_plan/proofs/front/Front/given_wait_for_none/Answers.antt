use Rattle.std.proofs.Common.{◌<◌, All, length, get_or, subst}
use Rattle.std.proofs.lemmas.List.Elements.{Contains-get_or}
use Rattle.build_plan.specs.Front.{Stand, WaitsForNone}
use Rattle.build_plan.proofs.FrontLaws.{given_within, given_clear}
use Rattle.build_plan.proofs.front.Front.given_wait_for_none.Goals as goal

pub returns : goal.returns
returns c =
    let front = c.self.inside in
    subst (λ (s : Stand). All (λ place. (place < length s.rows) × WaitsForNone s place) s.given) c.self.view_is
    (λ k d h. (
      given_within front c.self.invariant (get_or front.given.items k d) (Contains-get_or front.given.items k d h),
      given_clear front c.self.invariant (get_or front.given.items k d) (Contains-get_or front.given.items k d h),
    ))
