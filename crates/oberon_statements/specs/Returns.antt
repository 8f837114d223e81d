-- The value of RETURN.
use Rattle.std.specs.Prelude.{Bool, true, not, Option, Some, None}
use Rattle.oberon_types.specs.Types.{TyTree, assignable}

-- whether a procedure with this result, if any, can't give a value of the type
abbrev pub is_bad_return : Option TyTree → TyTree → Bool
is_bad_return None t = true
is_bad_return (Some wanted) t = not (assignable t wanted)
