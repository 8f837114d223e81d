-- Paths from a variable to its parts, and the cells to which they lead.
use Rattle.std.specs.Prelude.{◌≡◌, ◌⊎◌, ℕ, ◌+◌, ◌≤◌, List, [], ◌∷◌, ◌++◌, nat_lt, if◌then◌else◌, Option, Some, None, ◌*◌}
use Rattle.oberon_types.specs.Types.{TyTree, array_ty, record_ty, RecordTree, record_of, BaseTree, no_base, base_of, FieldsTree, no_fields, more_fields}
use Rattle.oberon_types.specs.Sizes.{size_of, size_of_base, size_of_fields}
use Rattle.run_rules.specs.Cells.{Spot, spot_at, field_spot}

-- a field by its name, or an element by its index
pub data Step : Type 0 where
  to_field : List ℕ → Step
  to_element : ℕ → Step

abbrev pub element_spot : ℕ → ℕ → TyTree → ℕ → Option Spot
element_spot i n t place = if nat_lt i n then Some (spot_at (place + i * size_of t) t) else None

-- where a step leads in a variable of this type at this place, in the module of the stem `me`
abbrev pub step_leads : List ℕ → Step → TyTree → ℕ → Option Spot
step_leads me (to_field x) (record_ty r) place = field_spot me x r place
step_leads me (to_element i) (array_ty n t) place = element_spot i n t place
step_leads me _ _ place = None

abbrev pub and_on : Option Spot → (Spot → Option Spot) → Option Spot
and_on None go = None
and_on (Some s) go = go s

-- where a path leads
abbrev pub path_leads : List ℕ → List Step → TyTree → ℕ → Option Spot
path_leads me [] t place = Some (spot_at place t)
path_leads me (a ∷ p) t place = and_on (step_leads me a t place) (λ s. path_leads me p s.ty s.place)

-- a path begins with another
abbrev pub Begins : List Step → List Step → Type 0
Begins p q = (rest : List Step) × (p ++ rest ≡ q)

-- no cell is of both
abbrev pub AreApart : Spot → Spot → Type 0
AreApart s r = (s.place + size_of s.ty ≤ r.place) ⊎ (r.place + size_of r.ty ≤ s.place)

-- each record has all its fields, and none beside them
abbrev mutual
  pub IsWhole : TyTree → Type 0
  IsWhole (array_ty n t) = IsWhole t
  IsWhole (record_ty r) = IsWholeRecord r
  IsWhole _ = Unit {0}

  pub IsWholeRecord : RecordTree → Type 0
  IsWholeRecord (record_of o b fs n) = (n ≡ size_of_base b + size_of_fields fs) × IsWholeBase b × AreWhole fs

  pub IsWholeBase : BaseTree → Type 0
  IsWholeBase no_base = Unit {0}
  IsWholeBase (base_of r) = IsWholeRecord r

  pub AreWhole : FieldsTree → Type 0
  AreWhole no_fields = Unit {0}
  AreWhole (more_fields name exported t fs) = IsWhole t × AreWhole fs
