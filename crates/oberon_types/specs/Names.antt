-- The names of a record's fields: which of them a module sees, and which have a type that is known.
use Rattle.std.specs.Prelude.{ℕ, ◌≡◌, ◌<◌, ◌≤◌, ◌&&◌, Bool, true, false, List, [], ◌∷◌, Option, Some, None, length, take, if◌then◌else◌}
use Rattle.std.specs.List.{list_any}
use Rattle.indexmap.specs.IndexMap.{IndexMap, get}
use Rattle.oberon_types.specs.declared.origin.Origin.{Origin}
use Rattle.oberon_types.specs.declared.names.FieldName.{FieldName}
use Rattle.oberon_types.specs.declared.names.KnownField.{KnownField}
use Rattle.oberon_types.specs.Types.{TyTree, FieldsTree, no_fields, more_fields, same_name}
use Rattle.oberon_types.specs.Sizes.{sees}

-- the first field of this name that a module sees in a record of this origin
abbrev pub seen_in : List ℕ → Origin → List ℕ → List FieldName → Option FieldName
seen_in me o x [] = None
seen_in me o x (f ∷ fs) = if same_name f.name x && sees me o f.exported then Some f else seen_in me o x fs

-- ---- the fields whose type is known, in their order

abbrev pub known_then : Bool → Option ℕ → List KnownField → List KnownField
known_then exported None known = known
known_then exported (Some at) known = record { exported = exported; ty = at } ∷ known

abbrev pub known_of : List FieldName → List KnownField
known_of [] = []
known_of (f ∷ fs) = known_then f.exported f.ty (known_of fs)

-- ---- where to look for a name

-- no field before this one has the name
abbrev pub StartsAt : List ℕ → List FieldName → ℕ → Type 0
StartsAt x fs at = (at ≤ length fs) × (list_any (λ f. same_name f.name x) (take at fs) ≡ false)

abbrev pub or_end : Option ℕ → ℕ → ℕ
or_end None end = end
or_end (Some at) end = at

-- with no map at the first field, else at what the map has, or at the end
abbrev pub start_in : {S : Type 0} → Option (IndexMap (List ℕ) ℕ S) → List ℕ → ℕ → ℕ
start_in None x end = 0
start_in (Some first) x end = or_end (get same_name first x) end

abbrev pub AreFirst : {S : Type 0} → Option (IndexMap (List ℕ) ℕ S) → List FieldName → Type 0
AreFirst first fs = (x : List ℕ) → StartsAt x fs (start_in first x (length fs))

-- what a map has of a name, once it has noted another at an index
abbrev pub noted : Option ℕ → Bool → ℕ → Option ℕ
noted None true at = Some at
noted None false at = None
noted (Some earlier) same at = Some earlier

-- ---- fields that are put together

-- each type that is known stands among so many
abbrev pub IsWithin : ℕ → Option ℕ → Type 0
IsWithin count None = Unit {0}
IsWithin count (Some at) = at < count

abbrev pub AreWithin : ℕ → List FieldName → Type 0
AreWithin count [] = Unit {0}
AreWithin count (f ∷ fs) = IsWithin count f.ty × AreWithin count fs

abbrev pub push_field : FieldsTree → List ℕ → Bool → TyTree → FieldsTree
push_field no_fields name exported t = more_fields name exported t no_fields
push_field (more_fields n e u fs) name exported t = more_fields n e u (push_field fs name exported t)
