-- What a reader answers.
use Rattle.std.specs.Prelude.{◌≡◌, ℕ, List, Option, Some, None, if◌then◌else◌, Result, Ok, Err}
use Rattle.serde_json.specs.Data.{Data}
use Rattle.json_shape.specs.Shapes.{is_null}
use Rattle.json_shape.specs.declared.bad_value.BadValue.{BadValue}
use Rattle.json_shape.specs.declared.bad_value.BadValue.TheVariants.{At, NoMemory}

-- A record that was read is the value's, and a refusal has the path of the first bad field. Want of
-- memory says nothing.
abbrev pub ReadBy : {A : Type 0} → (A → Type 0) → (List ℕ → Type 0) → Result A BadValue → Type 0
ReadBy IsRead IsBad (Ok x) = IsRead x
ReadBy IsRead IsBad (Err (At path)) = IsBad path
ReadBy IsRead IsBad (Err NoMemory) = Unit {0}

-- what is said of the path of a refusal
abbrev pub IfBad : {A : Type 0} → Result A BadValue → (List ℕ → Type 0) → Type 0
IfBad (Ok x) Said = Unit {0}
IfBad (Err (At path)) Said = Said path
IfBad (Err NoMemory) Said = Unit {0}

-- a read of a part of a value that is bad at this place, if at any, and that else stands for this
abbrev pub Reads : {A : Type 0} → Option (List ℕ) → A → Result A BadValue → Type 0
Reads found x result = ReadBy (λ y. (found ≡ None) × (y ≡ x)) (λ path. found ≡ Some path) result

-- what a member stands for that may be absent
abbrev pub if_there : {A : Type 0} → (Data → A) → Data → Option A
if_there of d = if is_null d then None else Some (of d)
