-- The variable and the step of FOR.
use Rattle.std.specs.Prelude.{Bool, true, Option, Some, None}
use Rattle.oberon_types.specs.declared.value.Value.{Value}
use Rattle.oberon_types.specs.Types.{TyTree, unknown_ty, integer_ty}
use Rattle.oberon_rules.specs.Statements.{is_zero}

-- whether a variable of the type can't count
abbrev pub is_bad_counter : TyTree → Bool → Bool
is_bad_counter integer_ty read_only = read_only
is_bad_counter unknown_ty read_only = read_only
is_bad_counter _ read_only = true

-- whether a constant has no value, or is 0
abbrev pub is_no_step : Option Value → Bool
is_no_step None = true
is_no_step (Some v) = is_zero v
