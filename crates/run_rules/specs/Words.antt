-- The predeclared functions and proper procedures (section 10.2), and those of the module Out.
use Rattle.std.specs.Prelude.{ℕ, ◌-◌, true, false, if◌then◌else◌, codes, List, [], ◌∷◌, ◌++◌, length, replicate, Option, Some, None, ℤ, pos, negsuc, ◌-ℤ◌}
use Rattle.std.proofs.Math.IntN.{◌+ℤ◌}
use Rattle.std.specs.Int.Bits.{bit_and, bit_or, bit_xor}
use Rattle.std.specs.Fmt.{signed_decimal}
use Rattle.oberon_types.specs.declared.value.Value.{Value}
use Rattle.oberon_types.specs.declared.value.Value.TheVariants as values
use Rattle.oberon_types.specs.declared.constant.FoldingFunction.{FoldingFunction}
use Rattle.oberon_types.specs.declared.constant.FoldingFunction.TheVariants as functions
use Rattle.oberon_types.specs.Folding.{whole, below, range_bits, shifted, function_op, compared}
use Rattle.oberon_types.specs.Types.{TyTree, byte_ty, array_ty, same_name}
use Rattle.oberon_rules.specs.Scopes.{Predeclared, abs_word, odd_word, len_word, lsl_word, asr_word, ror_word, ord_word, chr_word, inc_word, dec_word, incl_word, excl_word, assert_word}
use Rattle.run_rules.specs.declared.trap_kind.TrapKind.TheVariants as traps
use Rattle.run_rules.specs.World.{went, Gives, then_do, At, trap, stuck, ticks, with_output}
use Rattle.run_rules.specs.Cells.{Spot, Operand, single, structured, nothing, contents, put, is_byte, text_of}
use Rattle.run_rules.specs.Operators.{or_trap}

-- an argument: the variable that it names, its value, and where it begins
pub record Argument : Type 0 where
  pub spot : Gives Spot
  pub value : Gives Operand
  pub at : At

-- ---- functions of one value

abbrev pub function_of : Predeclared → Option FoldingFunction
function_of abs_word = Some functions.Abs
function_of odd_word = Some functions.Odd
function_of ord_word = Some functions.Ord
function_of chr_word = Some functions.Chr
function_of lsl_word = Some functions.Lsl
function_of asr_word = Some functions.Asr
function_of ror_word = Some functions.Ror
function_of _ = None

abbrev pub function_trap : FoldingFunction → Value → At → At → Gives Operand
function_trap functions.Abs (values.Integer x) at argument w = trap traps.Overflow at w
function_trap functions.Chr (values.Integer x) at argument w = trap traps.Range argument w
function_trap _ _ at argument w = stuck w

abbrev pub applied : FoldingFunction → At → At → Operand → Gives Operand
applied f at argument (single v) w = or_trap (function_op f v) (function_trap f v at argument) w
applied f at argument _ w = stuck w

-- a shift by what isn't from 0 to 31 traps
abbrev pub shifted_by : FoldingFunction → At → ℤ → ℤ → Option ℕ → Gives Operand
shifted_by f by x n None w = trap traps.Range by w
shifted_by f by x n (Some k) w = or_trap (shifted f x k) stuck w

abbrev pub shift : FoldingFunction → At → Operand → Operand → Gives Operand
shift f by (single (values.Integer x)) (single (values.Integer n)) w = shifted_by f by x n (below 32 n) w
shift f by _ _ w = stuck w

-- ---- procedures that change a variable

abbrev pub stepped : Predeclared → ℤ → ℤ → Option Value
stepped inc_word x n = whole (x +ℤ n)
stepped dec_word x n = whole (x -ℤ n)
stepped _ x n = None

abbrev pub store_whole : TyTree → At → ℕ → Option Value → Gives ℕ
store_whole byte_ty at place (Some (values.Integer x)) w = if is_byte x then put place (values.Integer x ∷ []) w else trap traps.Range at w
store_whole t at place (Some v) w = put place (v ∷ []) w
store_whole t at place None w = trap traps.Overflow at w

abbrev pub step_by : Predeclared → At → Spot → Operand → Operand → Gives ℕ
step_by x at s (single (values.Integer a)) (single (values.Integer n)) w = store_whole s.ty at s.place (stepped x a n) w
step_by x at s _ _ w = stuck w

abbrev pub with_element : Predeclared → ℕ → ℕ → ℕ
with_element incl_word m k = bit_or m (range_bits k k)
with_element x m k = bit_xor m (bit_and m (range_bits k k))

abbrev pub member_by : Predeclared → At → Spot → Operand → Option ℕ → Gives ℕ
member_by x at s (single (values.Set m)) (Some k) w = put s.place (values.Set (with_element x m k) ∷ []) w
member_by x at s _ None w = trap traps.Range at w
member_by x at s _ _ w = stuck w

abbrev pub number_of : Operand → Gives ℤ
number_of (single (values.Integer n)) w = went n w
number_of _ w = stuck w

abbrev pub set_member : Predeclared → At → Spot → Operand → Gives ℕ
set_member x at s k w = then_do (number_of k w) (λ n w1. then_do (contents s w1) (λ m w2. member_by x at s m (below 32 n) w2))

abbrev pub asserted : At → Operand → Gives Operand
asserted at (single (values.Boolean true)) w = went nothing w
asserted at (single (values.Boolean false)) w = trap traps.Assertion at w
asserted at _ w = stuck w

abbrev pub length_of : TyTree → Gives Operand
length_of (array_ty n t) w = went (single (values.Integer (pos n))) w
length_of _ w = stuck w

-- ---- calls of predeclared words, at the call's first token

abbrev pub one_value : Option FoldingFunction → At → Argument → Gives Operand
one_value None at e w = stuck w
one_value (Some f) at e w = then_do (e.value w) (λ x w1. applied f at e.at x w1)

abbrev pub two_values : Option FoldingFunction → Argument → Argument → Gives Operand
two_values None e n w = stuck w
two_values (Some f) e n w = then_do (e.value w) (λ x w1. then_do (n.value w1) (λ y w2. shift f n.at x y w2))

abbrev pub change : Predeclared → At → Argument → Gives Operand → Gives Operand
change x at e by w = then_do (e.spot w) (λ s w1. then_do (by w1) (λ n w2. then_do (contents s w2) (λ old w3. then_do (step_by x at s old n w3) (λ place w4. went nothing w4))))

abbrev pub word_one : Predeclared → At → Argument → Gives Operand
word_one len_word at e w = then_do (e.spot w) (λ s w1. length_of s.ty w1)
word_one inc_word at e w = change inc_word at e (λ w1. went (single (values.Integer (pos 1))) w1) w
word_one dec_word at e w = change dec_word at e (λ w1. went (single (values.Integer (pos 1))) w1) w
word_one assert_word at e w = then_do (e.value w) (λ x w1. asserted at x w1)
word_one x at e w = one_value (function_of x) at e w

abbrev pub include : Predeclared → Argument → Argument → Gives Operand
include x e k w = then_do (e.spot w) (λ s w1. then_do (k.value w1) (λ n w2. then_do (set_member x k.at s n w2) (λ place w3. went nothing w3)))

abbrev pub word_two : Predeclared → At → Argument → Argument → Gives Operand
word_two inc_word at e n w = change inc_word at e n.value w
word_two dec_word at e n w = change dec_word at e n.value w
word_two incl_word at e k w = include incl_word e k w
word_two excl_word at e k w = include excl_word e k w
word_two x at e n w = two_values (function_of x) e n w

abbrev pub word_called : Predeclared → At → List Argument → Gives Operand
word_called x at (e ∷ []) w = word_one x at e w
word_called x at (e ∷ n ∷ []) w = word_two x at e n w
word_called x at _ w = stuck w

-- ---- the module Out: a step for each byte of a number or a text

abbrev pub written : List ℕ → Gives Operand
written bytes w = then_do (ticks (length bytes) w) (λ n w1. went nothing (with_output w1 bytes))

-- a number stands at the right end of so many places
abbrev pub padded : ℤ → List ℕ → List ℕ
padded (pos n) bytes = replicate (n - length bytes) 32 ++ bytes
padded (negsuc n) bytes = bytes

abbrev pub out_number : ℤ → ℤ → Gives Operand
out_number x n w = written (padded n (signed_decimal x)) w

abbrev pub out_text : Option (List ℕ) → Gives Operand
out_text None w = stuck w
out_text (Some x) w = written (compared x) w

-- what a procedure of Out does with the values of its arguments
abbrev pub out_values : List ℕ → List Operand → Gives Operand
out_values x (single (values.Integer a) ∷ single (values.Integer n) ∷ []) w = if same_name x (codes "Int") then out_number a n w else stuck w
out_values x (single (values.Char c) ∷ []) w = if same_name x (codes "Char") then went nothing (with_output w (c ∷ [])) else stuck w
out_values x [] w = if same_name x (codes "Ln") then went nothing (with_output w (10 ∷ [])) else stuck w
out_values x _ w = stuck w

abbrev pub out_one : List ℕ → Operand → Gives Operand
out_one x (single (values.Str (c ∷ []))) w = if same_name x (codes "Char") then went nothing (with_output w (c ∷ [])) else out_text (Some (c ∷ [])) w
out_one x (single v) w = if same_name x (codes "String") then out_text (text_of (single v)) w else out_values x (single v ∷ []) w
out_one x (structured t vs) w = if same_name x (codes "String") then out_text (text_of (structured t vs)) w else stuck w
out_one x nothing w = stuck w

abbrev pub out_called : List ℕ → List Operand → Gives Operand
out_called x (v ∷ []) w = out_one x v w
out_called x vs w = out_values x vs w
