-- What a record is written as.
use Rattle.std.specs.Prelude.{ℕ, List, [], ◌∷◌, Option, Some, None}
use Rattle.serde_json.specs.Data.{Data, object, Members, no_members, put, array}
use Rattle.serde_json.specs.View.{items_of}

-- the members and one more, where it is there
abbrev pub with_member : List ℕ → Option Data → Members → Members
with_member name None ms = ms
with_member name (Some d) ms = put name d ms

abbrev pub with_members : List (List ℕ × Option Data) → Members → Members
with_members [] ms = ms
with_members (field ∷ fields) ms = with_members fields (with_member field.0 field.1 ms)

-- the object of the fields that are there
abbrev pub object_with : List (List ℕ × Option Data) → Data
object_with fields = object (with_members fields no_members)

-- the list of these values
abbrev pub array_with : List Data → Data
array_with ds = array (items_of ds)
