-- What a workspace file has to look like, over what `serde_json` reads, and what it says. A text is its bytes.
use Rattle.std.specs.Prelude.{ℕ, Bool, true, false, List, [], map, codes, Option, None, Some, is_some, unwrap_or, option_map, option_and_then, if◌then◌else◌}
use Rattle.std.specs.List.{list_any}
use Rattle.std.specs.Str.{bytes_eq}
use Rattle.serde_json.specs.Data.{Data}
use Rattle.serde_json.specs.Find.{as_str, get}
use Rattle.json_shape.specs.Shapes.{Fields, Shape, at, bad_named, if_given, list_of, no_more, object_of, passes, passing, required, text_in, text_where, values_in, whole}
use Rattle.target_graph.specs.declared.entry.Entry.{Entry}
use Rattle.target_graph.specs.declared.target.TargetKind.{TargetKind}
use Rattle.target_graph.specs.declared.target.TargetKind.TheVariants as kinds
use Rattle.target_graph.specs.Names.{is_name, is_path, stem}

-- ---- the kind of a target

unfoldable pub kind_named : List ℕ → Option TargetKind
kind_named text =
    if bytes_eq text (codes "library") then Some kinds.Library else
    if bytes_eq text (codes "application") then Some kinds.Application else
    if bytes_eq text (codes "test") then Some kinds.Test else None

abbrev pub is_kind : List ℕ → Bool
is_kind text = is_some (kind_named text)

abbrev pub kind_in : Data → TargetKind
kind_in d = unwrap_or (option_and_then kind_named (as_str d)) kinds.Library

-- ---- the main module

-- an application has a main module, and no other target has
abbrev pub needs_main : TargetKind → Bool
needs_main kinds.Application = true
needs_main kinds.Library = false
needs_main kinds.Test = false

-- the main module is the stem of one of these paths
abbrev pub is_main_of : List (List ℕ) → List ℕ → Bool
is_main_of paths main = list_any (λ path. bytes_eq main (stem path)) paths

abbrev pub has_its_main : TargetKind → List (List ℕ) → Option (List ℕ) → Bool
has_its_main kind paths main = if needs_main kind then passes (is_main_of paths) main else true

abbrev pub texts_in : Data → List (List ℕ)
texts_in d = map text_in (values_in d)

abbrev pub has_main : Data → Bool
has_main d = has_its_main (kind_in (at (codes "kind") d)) (texts_in (at (codes "modules") d)) (as_str (at (codes "main") d))

-- ---- what the file looks like; the dependencies may be left out

abbrev pub main_fields : Fields
main_fields = passing (codes "main") has_main no_more

abbrev pub dependency_fields : Fields
dependency_fields = if_given (codes "dependencies") (list_of (text_where is_name)) main_fields

abbrev pub module_fields : Fields
module_fields = required (codes "modules") (list_of (text_where is_path)) dependency_fields

abbrev pub kind_fields : Fields
kind_fields = required (codes "kind") (text_where is_kind) module_fields

abbrev pub target_fields : Fields
target_fields = required (codes "name") (text_where is_name) kind_fields

abbrev pub target : Shape
target = object_of target_fields

abbrev pub targets_fields : Fields
targets_fields = required (codes "targets") (list_of target) no_more

abbrev pub file_fields : Fields
file_fields = required (codes "version") (whole 1 1) targets_fields

abbrev pub file : Shape
file = object_of file_fields

-- the path of the first bad field of a file; a file that is no object is bad at `$`
abbrev pub bad_file : Data → Option (List ℕ)
bad_file d = bad_named (codes "$") file d

-- ---- what it says

abbrev pub given_texts : Option Data → List (List ℕ)
given_texts found = unwrap_or (option_map texts_in found) []

-- of one target
abbrev pub entry_of : Data → Entry
entry_of d = record {
  name = text_in (at (codes "name") d);
  kind = kind_in (at (codes "kind") d);
  modules = texts_in (at (codes "modules") d);
  dependencies = given_texts (get (codes "dependencies") d);
  main = if needs_main (kind_in (at (codes "kind") d)) then as_str (at (codes "main") d) else None;
}

-- of its targets
abbrev pub entries_of : Data → List Entry
entries_of d = map entry_of (values_in (at (codes "targets") d))
