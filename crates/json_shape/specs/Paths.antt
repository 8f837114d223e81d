-- What a path to a bad place is made of, and how long it is at most.
use Rattle.std.specs.Prelude.{ℕ, ◌+◌, suc, max, List, length, Bool}
use Rattle.std.specs.Char.{is_ascii_graphic}
use Rattle.std.specs.List.{list_all}
use Rattle.json_shape.specs.Shapes.{Shape, text, text_where, whole, flag, label, list_of, object_of, Fields, no_more, required, optional, if_given, passing}

-- a name of printing ASCII characters
abbrev pub is_graphic : List ℕ → Bool
is_graphic name = list_all is_ascii_graphic name

abbrev mutual
  -- the most bytes of a path inside a value of a shape: a step to an item has two brackets, and the
  -- digits of an index of 64 bits, which are at most 20
  pub longest : Shape → ℕ
  longest text = 0
  longest (text_where test) = 0
  longest (whole low high) = 0
  longest flag = 0
  longest label = 0
  longest (list_of shape) = 22 + longest shape
  longest (object_of fields) = longest_field fields

  pub longest_field : Fields → ℕ
  longest_field no_more = 0
  longest_field (required name shape fields) = max (suc (length name) + longest shape) (longest_field fields)
  longest_field (optional name shape fields) = max (suc (length name) + longest shape) (longest_field fields)
  longest_field (if_given name shape fields) = max (suc (length name) + longest shape) (longest_field fields)
  longest_field (passing name test fields) = max (suc (length name)) (longest_field fields)
