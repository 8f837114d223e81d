-- A walk over the places to which one leads: each is marked when it is first met, and stands in the order in which they
-- were met.
use Rattle.std.specs.Prelude.{◌≡◌, ℕ, Bool, true, List, [], ◌∷◌, ◌++◌, length, if◌then◌else◌, Contains}
use Rattle.std.specs.List.{slice_set, fold, filter}
use Rattle.build_plan.specs.Rows.{Imports, Leads}
use Rattle.build_plan.specs.Lists.{has_mark}
use Rattle.build_plan.specs.declared.walk.Walk.{Walk}

pub record Met : Type 0 where
  pub marks : List Bool
  pub order : List ℕ

abbrev pub met : Walk → Met
met walk = record { marks = walk.marks.items; order = walk.order.items }

abbrev pub meet : Met → ℕ → Met
meet met place = record {
  marks = slice_set met.marks place true;
  order = if has_mark met.marks place then met.order else met.order ++ place ∷ [];
}

abbrev pub meet_all : Met → List ℕ → Met
meet_all met places = fold meet met places

-- those of these places that are allowed
abbrev pub allowed_of : List Bool → List ℕ → List ℕ
allowed_of allowed places = filter (has_mark allowed) places

-- an import that is allowed
abbrev pub AllowedStep : List (List ℕ) → List Bool → ℕ → ℕ → Type 0
AllowedStep rows allowed a b = Imports rows a b × (has_mark allowed b ≡ true)

-- all that such steps lead to was met, and nothing else
pub record HasMet (rows : List (List ℕ)) (allowed : List Bool) (from : ℕ) (met : Met) : Type 0 where
  pub size : length met.marks ≡ length rows
  pub sound : (b : ℕ) → has_mark met.marks b ≡ true → Leads (AllowedStep rows allowed) from b
  pub whole : (b : ℕ) → Leads (AllowedStep rows allowed) from b → has_mark met.marks b ≡ true
  pub listed : (b : ℕ) → has_mark met.marks b ≡ true → Contains met.order b
  pub marked : (b : ℕ) → Contains met.order b → has_mark met.marks b ≡ true
