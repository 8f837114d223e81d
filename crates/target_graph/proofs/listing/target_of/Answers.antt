use Rattle.std.proofs.Common.{◌≡◌, List, ℕ, All, Contains, map, ap, subst}
use Rattle.target_graph.specs.declared.target.Target.{Target}
use Rattle.target_graph.specs.Faults.{index_of, IsFirstUnknown}
use Rattle.target_graph.proofs.listing.target_of.Goals as goal

pub returns-in-Ok : goal.returns-in-Ok
returns-in-Ok c =
    let keys = c.args.names.now.keys in
    let entry = c.args.entry in
    let told =
    subst (λ (xs : List (List ℕ)). ((c.in-Ok.dependencies ≡ map (index_of keys) xs) × All (Contains keys) xs) × ((name : List ℕ) → ¬ (IsFirstUnknown keys xs name)))
    c.as_slice.ensures c.in-Ok.ensures in
    let target = λ (ds : List ℕ). (let t : Target = record { name = entry.name; kind = entry.kind; modules = entry.modules; dependencies = ds; main = entry.main } in t) in
    ((ap target told.0.0, told.0.1), told.1)
