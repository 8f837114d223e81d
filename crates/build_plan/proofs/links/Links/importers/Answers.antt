use Rattle.std.proofs.Common.{List, ℕ, Vec, Global, sym, subst}
use Rattle.build_plan.specs.Rows.{AreWithin}
use Rattle.build_plan.specs.Lists.{lists_of}
use Rattle.build_plan.proofs.TurnedLaws.{turned_within}
use Rattle.build_plan.proofs.links.Links.importers.Goals as goal

pub returns-clause-within : goal.returns-clause-within
returns-clause-within c =
    subst (λ (xs : List (Vec ℕ Global)). AreWithin (lists_of xs)) (sym c.as_slice.ensures.value) (turned_within _ _ c.self.invariant.turned)
