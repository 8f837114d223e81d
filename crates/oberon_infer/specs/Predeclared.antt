-- The predeclared names in three parts: types, functions and proper procedures.
use Rattle.std.specs.Prelude.{List, take, drop}
use Rattle.oberon_rules.specs.Scopes.{Entry, predeclared}

abbrev pub type_names : List Entry
type_names = take 5 predeclared

abbrev pub function_names : List Entry
function_names = take 8 (drop 5 predeclared)

abbrev pub procedure_names : List Entry
procedure_names = drop 8 (drop 5 predeclared)
