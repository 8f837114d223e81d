-- What a value of JSON has to look like, and where it first doesn't. A field is looked at after those that
-- stand before it in its record's table, and after all that is inside them.
use Rattle.std.specs.Prelude.{◌≡◌, ℕ, ◌+◌, ◌≤◌, List, [], ◌∷◌, ◌++◌, length, Bool, true, false, ◌&&◌, ◌||◌, nat_le, if◌then◌else◌, Option, Some, None, is_some, option_map, option_and_then, unwrap_or, decimal, codes}
use Rattle.serde_json.specs.Data.{Data, Num, unsigned, negative, float, null, boolean, number, string, array, object, Items, no_items, item}
use Rattle.std.specs.Fmt.{signed_decimal}
use Rattle.std.specs.Str.{IsUtf8}
use Rattle.serde_json.specs.Find.{get, as_null, as_bool, as_number, as_integer, as_str, as_array, as_object, as_u64}

mutual
  pub data Shape : Type 0 where
    -- a string
    text : Shape
    -- a string that passes a test
    text_where : (List ℕ → Bool) → Shape
    -- a whole number from the first to the last
    whole : ℕ → ℕ → Shape
    -- true or false
    flag : Shape
    -- a string or a whole number
    label : Shape
    -- a list of values of one shape
    list_of : Shape → Shape
    -- an object with these members; others are ignored
    object_of : Fields → Shape

  pub data Fields : Type 0 where
    no_more : Fields
    -- one that has to be there
    required : List ℕ → Shape → Fields → Fields
    -- one that may be absent, or null
    optional : List ℕ → Shape → Fields → Fields
    -- one that may be absent, and isn't null
    if_given : List ℕ → Shape → Fields → Fields
    -- one that is right where the whole object passes a test
    passing : List ℕ → (Data → Bool) → Fields → Fields

-- a string of at most so many bytes
abbrev pub text_within : ℕ → Shape
text_within limit = text_where (λ t. nat_le (length t) limit)

-- a number that is counted up from 0, as a line's, and has 32 bits
abbrev pub count : Shape
count = whole 0 4294967295

-- ---- parts of a value

-- a member; one that is absent is null
abbrev pub at : List ℕ → Data → Data
at name d = unwrap_or (get name d) null

abbrev pub is_null : Data → Bool
is_null d = is_some (as_null d)

abbrev pub listed : Items → List Data
listed no_items = []
listed (item d ds) = d ∷ listed ds

-- the values in a list
abbrev pub values_in : Data → List Data
values_in d = unwrap_or (option_map listed (as_array d)) []

abbrev pub text_in : Data → List ℕ
text_in d = unwrap_or (as_str d) []

abbrev pub whole_in : Data → ℕ
whole_in d = unwrap_or (option_and_then as_u64 (as_number d)) 0

abbrev pub flag_in : Data → Bool
flag_in d = unwrap_or (as_bool d) false

abbrev pub number_label : Num → List ℕ
number_label (unsigned n) = decimal n
number_label (negative z) = signed_decimal z
number_label (float x) = []

-- a string, or the digits of a whole number
abbrev pub label_in : Data → List ℕ
label_in null = []
label_in (boolean b) = []
label_in (number n) = number_label n
label_in (string s) = s
label_in (array ds) = []
label_in (object ms) = []

-- ---- where a value is bad

-- a value that isn't good is bad itself
abbrev pub bad_unless : Bool → Option (List ℕ)
bad_unless good = if good then None else Some []

-- the first of two bad places
abbrev pub first : Option (List ℕ) → Option (List ℕ) → Option (List ℕ)
first None later = later
first (Some path) later = Some path

-- a bad place inside a part of a value
abbrev pub under : List ℕ → Option (List ℕ) → Option (List ℕ)
under step found = option_map (λ path. step ++ path) found

-- the step to a member, as `.uri`
abbrev pub member_step : List ℕ → List ℕ
member_step name = 46 ∷ name

-- the step to an item, as `[0]`
abbrev pub item_step : ℕ → List ℕ
item_step index = 91 ∷ (decimal index ++ 93 ∷ [])

-- the first bad place in a list, whose first value has this number
abbrev pub bad_item : (Data → Option (List ℕ)) → ℕ → List Data → Option (List ℕ)
bad_item bad index [] = None
bad_item bad index (d ∷ ds) = first (under (item_step index) (bad d)) (bad_item bad (index + 1) ds)

-- a member that may be absent, or null, which counts as absent
abbrev pub bad_if_there : (Data → Option (List ℕ)) → Data → Option (List ℕ)
bad_if_there bad d = if is_null d then None else bad d

-- a member that may be absent
abbrev pub bad_if_given : (Data → Option (List ℕ)) → Option Data → Option (List ℕ)
bad_if_given bad None = None
bad_if_given bad (Some d) = bad d

abbrev pub passes : (List ℕ → Bool) → Option (List ℕ) → Bool
passes test None = false
passes test (Some t) = test t

abbrev pub is_between : ℕ → ℕ → Option ℕ → Bool
is_between low high None = false
is_between low high (Some n) = nat_le low n && nat_le n high

abbrev pub is_label : Data → Bool
is_label d = is_some (as_str d) || is_some (option_and_then as_integer (as_number d))

abbrev mutual
  -- the first place where a value hasn't its shape, as the path to it
  pub bad : Shape → Data → Option (List ℕ)
  bad text d = bad_unless (is_some (as_str d))
  bad (text_where test) d = bad_unless (passes test (as_str d))
  bad (whole low high) d = bad_unless (is_between low high (option_and_then as_u64 (as_number d)))
  bad flag d = bad_unless (is_some (as_bool d))
  bad label d = bad_unless (is_label d)
  bad (list_of shape) d = first (bad_unless (is_some (as_array d))) (bad_item (bad shape) 0 (values_in d))
  bad (object_of fields) d = first (bad_unless (is_some (as_object d))) (bad_field fields d)

  pub bad_field : Fields → Data → Option (List ℕ)
  bad_field no_more d = None
  bad_field (required name shape fields) d = first (under (member_step name) (bad shape (at name d))) (bad_field fields d)
  bad_field (optional name shape fields) d =
      first (under (member_step name) (bad_if_there (bad shape) (at name d))) (bad_field fields d)
  bad_field (if_given name shape fields) d =
      first (under (member_step name) (bad_if_given (bad shape) (get name d))) (bad_field fields d)
  bad_field (passing name test fields) d = first (under (member_step name) (bad_unless (test d))) (bad_field fields d)

-- ---- of a whole value

-- A path begins with the dot of a member's name, which isn't told. One that has no step has the name of the
-- whole.
abbrev pub named_path : List ℕ → List ℕ → List ℕ
named_path own [] = own
named_path own (dot ∷ path) = path

-- the path of the first bad place of a value that has this name
abbrev pub bad_named : List ℕ → Shape → Data → Option (List ℕ)
bad_named own shape d = option_map (named_path own) (bad shape d)

-- ---- texts

-- a text that passes a test
pub record IsPassed (test : List ℕ → Bool) (t : List ℕ) : Type 0 where
  pub utf8 : IsUtf8 t
  pub passed : test t ≡ true

-- a text of at most so many bytes
pub record IsTextWithin (limit : ℕ) (t : List ℕ) : Type 0 where
  pub utf8 : IsUtf8 t
  pub within : length t ≤ limit
