-- A run of a plan: each place that was given is finished later, in the order in which they were given.
use Rattle.std.specs.Prelude.{◌≡◌, ℕ, List, take}
use Rattle.std.specs.List.{AllPairs}
use Rattle.build_plan.specs.Places.{Places}

pub record IsRun (places : Places) (order : List ℕ) (count : ℕ) : Type 0 where
  pub given : places.given ≡ order
  pub finished : places.finished ≡ take count order
  pub distinct : AllPairs (λ a b. a ≡ b → ⊥) order
