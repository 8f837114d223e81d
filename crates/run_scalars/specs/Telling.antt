-- What a scalar is as a value, and what an answer of the code tells of a part of a run.
use Rattle.std.specs.Prelude.{◌≡◌, ℕ, List, [], ◌∷◌}
use Rattle.std.specs.declared.result.Result.{Result}
use Rattle.std.specs.declared.result.Result.TheVariants.{Ok, Err}
use Rattle.oberon_types.specs.declared.value.Value.{Value}
use Rattle.oberon_types.specs.declared.value.Value.TheVariants as values
use Rattle.oberon_types.specs.declared.constant.FoldingFunction.{FoldingFunction}
use Rattle.oberon_types.specs.declared.constant.FoldingFunction.TheVariants as functions
use Rattle.oberon_types.specs.Types.{TyTree, integer_ty, byte_ty, char_ty, boolean_ty, set_ty}
use Rattle.oberon_rules.specs.Scopes.{Predeclared, inc_word, dec_word, incl_word, excl_word}
use Rattle.run_rules.specs.declared.trap_kind.TrapKind.{TrapKind}
use Rattle.run_rules.specs.declared.trap_kind.TrapKind.TheVariants as traps
use Rattle.run_rules.specs.World.{World, went, Gives, At, trap, stuck}
use Rattle.run_rules.specs.Cells.{Operand, single, put}
use Rattle.run_scalars.specs.declared.scalar.Scalar.{Scalar}
use Rattle.run_scalars.specs.declared.scalar.Scalar.TheVariants as scalars
use Rattle.run_scalars.specs.declared.scalar.ScalarType.{ScalarType}
use Rattle.run_scalars.specs.declared.scalar.ScalarType.TheVariants as sorts
use Rattle.run_scalars.specs.declared.scalar.Change.{Change}
use Rattle.run_scalars.specs.declared.scalar.Change.TheVariants as changes

abbrev pub value_of : Scalar → Value
value_of (scalars.Integer x) = values.Integer x
value_of (scalars.Char c) = values.Char c
value_of (scalars.Boolean b) = values.Boolean b
value_of (scalars.Set m) = values.Set m

abbrev pub ty_of : ScalarType → TyTree
ty_of sorts.Integer = integer_ty
ty_of sorts.Byte = byte_ty
ty_of sorts.Char = char_ty
ty_of sorts.Boolean = boolean_ty
ty_of sorts.Set = set_ty

abbrev pub counting_word : Change → Predeclared
counting_word changes.Add = inc_word
counting_word changes.Take = dec_word

abbrev pub member_word : Change → Predeclared
member_word changes.Add = incl_word
member_word changes.Take = excl_word

-- ---- what an answer tells

-- a trap at this place, where Stuck is that no rule applies
abbrev pub trapped_by : {A : Type 0} → TrapKind → At → Gives A
trapped_by traps.Stuck at w = stuck w
trapped_by kind at w = trap kind at w

-- a scalar or a trap
abbrev pub told : Result Scalar TrapKind → At → Gives Operand
told (Ok x) at w = went (single (value_of x)) w
told (Err kind) at w = trapped_by kind at w

abbrev pub Tells : Gives Operand → Result Scalar TrapKind → At → Type 0
Tells part answer at = (w : World) → part w ≡ told answer at w

-- CHR traps at its argument, every other function at its call
abbrev pub trap_place : FoldingFunction → At → At → At
trap_place functions.Chr call argument = argument
trap_place _ call argument = call

-- a number or a trap
abbrev pub told_number : Result ℕ TrapKind → At → Gives ℕ
told_number (Ok n) at w = went n w
told_number (Err kind) at w = trapped_by kind at w

-- the cell that a value becomes, or a trap
abbrev pub told_cell : Result Scalar TrapKind → At → Gives (List Value)
told_cell (Ok x) at w = went (value_of x ∷ []) w
told_cell (Err kind) at w = trapped_by kind at w

-- a scalar that is put into a variable, or a trap
abbrev pub stored : Result Scalar TrapKind → At → ℕ → Gives ℕ
stored (Ok x) at place w = put place (value_of x ∷ []) w
stored (Err kind) at place w = trapped_by kind at w
