use Rattle.std.proofs.Common.{◌<◌, List, ℕ, All, length, sym, subst}
use Rattle.std.proofs.lemmas.List.Elements.{Contains-get_or}
use Rattle.build_plan.specs.Front.{Stand}
use Rattle.build_plan.proofs.FrontLaws.{finished_within}
use Rattle.build_plan.proofs.front.Front.finished.Goals as goal

pub returns-clause-within : goal.returns-clause-within
returns-clause-within c =
    subst (λ (s : Stand). All (λ place. place < length s.rows) c.as_slice.result.now) c.self.view_is
    (subst (λ (xs : List ℕ). All (λ place. place < length c.self.inside.links) xs) (sym c.as_slice.ensures.value)
    (λ k d h. finished_within c.self.inside c.self.invariant _ (Contains-get_or c.self.inside.finished.items k d h)))
