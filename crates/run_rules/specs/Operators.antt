-- Operators between values, with their traps (The Programming Language Oberon-07, section 8.2). What they give is what
-- they give between constants.
use Rattle.std.specs.Prelude.{ℕ, ◌+◌, ◌==◌, true, false, ◌&&◌, not, if◌then◌else◌, List, [], ◌∷◌, Option, Some, None}
use Rattle.oberon_types.specs.declared.value.Value.{Value}
use Rattle.oberon_types.specs.declared.value.Value.TheVariants as values
use Rattle.oberon_types.specs.declared.constant.Op.{Op}
use Rattle.oberon_types.specs.declared.constant.Op.TheVariants as ops
use Rattle.oberon_types.specs.Folding.{values_op, value_op}
use Rattle.run_rules.specs.declared.trap_kind.TrapKind.{TrapKind}
use Rattle.run_rules.specs.declared.trap_kind.TrapKind.TheVariants as traps
use Rattle.run_rules.specs.World.{went, Gives, then_do, At, trap, stuck, ticks}
use Rattle.run_rules.specs.Cells.{Operand, single, text_of}

-- the trap of an operator between whole numbers that gives none; of one that isn't between numbers there is none
abbrev pub whole_trap : Op → Option TrapKind
whole_trap ops.Add = Some traps.Overflow
whole_trap ops.Subtract = Some traps.Overflow
whole_trap ops.Multiply = Some traps.Overflow
whole_trap ops.Div = Some traps.Division
whole_trap ops.Mod = Some traps.Division
whole_trap _ = None

abbrev pub trap_or_stuck : Option TrapKind → At → Gives Operand
trap_or_stuck None at w = stuck w
trap_or_stuck (Some kind) at w = trap kind at w

-- numbers alone trap
abbrev pub no_value : Op → Value → Value → At → Gives Operand
no_value o (values.Integer x) (values.Integer y) at w = trap_or_stuck (whole_trap o) at w
no_value o _ _ at w = stuck w

abbrev pub or_trap : Option Value → Gives Operand → Gives Operand
or_trap (Some v) other w = went (single v) w
or_trap None other w = other w

-- how many places a comparison of texts looks at: up to and with the first that differs, or is 0X in both
abbrev pub looked_at : List ℕ → List ℕ → ℕ
looked_at [] [] = 0
looked_at [] (y ∷ ys) = 1
looked_at (x ∷ xs) [] = 1
looked_at (x ∷ xs) (y ∷ ys) = if (x == y) && not (x == 0) then 1 + looked_at xs ys else 1

abbrev pub singles : Op → At → Operand → Operand → Gives Operand
singles o at (single x) (single y) w = or_trap (values_op o x y) (no_value o x y at) w
singles o at _ _ w = stuck w

-- two texts are compared byte by byte, with a step for each; all else is single
abbrev pub with_texts : Op → At → Operand → Operand → Option (List ℕ) → Option (List ℕ) → Gives Operand
with_texts o at x y (Some s) (Some t) w = then_do (ticks (looked_at s t) w) (λ n w1. or_trap (values_op o (values.Str s) (values.Str t)) stuck w1)
with_texts o at x y _ _ w = singles o at x y w

abbrev pub operated : Op → At → Operand → Operand → Gives Operand
operated o at x y w = with_texts o at x y (text_of x) (text_of y) w

-- a sign, or `~`: a negative number may be outside 32 bits
abbrev pub no_negative : Op → Value → At → Gives Operand
no_negative ops.Subtract (values.Integer x) at w = trap traps.Overflow at w
no_negative o _ at w = stuck w

abbrev pub signed : Op → At → Operand → Gives Operand
signed o at (single x) w = or_trap (value_op o x) (no_negative o x at) w
signed o at _ w = stuck w

-- one of two ways to go on
abbrev pub chosen : {A : Type 0} → Operand → Gives A → Gives A → Gives A
chosen (single (values.Boolean true)) a b w = a w
chosen (single (values.Boolean false)) a b w = b w
chosen _ a b w = stuck w

abbrev pub truth_alone : Operand → Gives Operand
truth_alone (single (values.Boolean b)) w = went (single (values.Boolean b)) w
truth_alone _ w = stuck w
