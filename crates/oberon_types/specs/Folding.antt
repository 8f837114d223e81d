-- Constants (The Programming Language Oberon-07, sections 5, 8.2 and 10.2): whether an expression whose operand types
-- fit is built of constants alone, and its value, by the rules of evaluation.
use Rattle.std.specs.Prelude.{ℕ, ◌+◌, ◌-◌, ◌*◌, ◌%◌, ◌^◌, ◌==◌, nat_lt, Bool, true, false, ◌&&◌, not, if◌then◌else◌, List, [], ◌∷◌, take, position, Option, Some, None, ℤ, pos, negsuc, ◌-ℤ◌, codes}
use Rattle.std.proofs.Math.IntN.{◌*ℤ◌, ◌+ℤ◌, neg_ℤ}
use Rattle.std.specs.Int.{int_div_euclid, int_rem_euclid, cast_signed, cast_unsigned, rotate_right, w32, bit_at}
use Rattle.std.specs.Int.Bits.{bit_and, bit_or, bit_xor}
use Rattle.std.specs.declared.cmp.Ordering.{Ordering}
use Rattle.std.specs.Ordering.{is_eq, is_ne, is_lt, is_le, is_gt, is_ge, nat_cmp, int_cmp, int_eq}
use Rattle.std.specs.Cmp.Lexicographic.{slice_cmp}
use Rattle.std.specs.Option.{is_some, option_map, option_map_or, option_and_then}
use Rattle.oberon_types.specs.declared.constant.Op.{Op}
use Rattle.oberon_types.specs.declared.constant.Op.TheVariants as ops
use Rattle.oberon_types.specs.declared.constant.FoldingFunction.{FoldingFunction}
use Rattle.oberon_types.specs.declared.constant.FoldingFunction.TheVariants as functions
use Rattle.oberon_types.specs.declared.value.Value.{Value}
use Rattle.oberon_types.specs.declared.value.Value.TheVariants as values
use Rattle.oberon_types.specs.Types.{same_name}

mutual
  -- a literal or the name of a constant, what no constant is built of, an operator before one part or between two,
  -- a set, and a call of the predeclared function of this name
  pub data ConstTree : Type 0 where
    known_const : Value → ConstTree
    other_const : ConstTree
    unary_const : Op → ConstTree → ConstTree
    binary_const : Op → ConstTree → ConstTree → ConstTree
    set_const : RangesTree → ConstTree
    call_const : List ℕ → PartsTree → ConstTree

  -- the two ends of each element of a set; one without `..` has two equal ends
  pub data RangesTree : Type 0 where
    no_ranges : RangesTree
    more_ranges : ConstTree → ConstTree → RangesTree → RangesTree

  pub data PartsTree : Type 0 where
    no_parts : PartsTree
    more_parts : ConstTree → PartsTree → PartsTree

-- ---- what it is built of

-- the functions of which constants may be built
unfoldable pub folding_function : List ℕ → Option FoldingFunction
folding_function f =
    if same_name f (codes "ABS") then Some functions.Abs
    else if same_name f (codes "ODD") then Some functions.Odd
    else if same_name f (codes "LSL") then Some functions.Lsl
    else if same_name f (codes "ASR") then Some functions.Asr
    else if same_name f (codes "ROR") then Some functions.Ror
    else if same_name f (codes "ORD") then Some functions.Ord
    else if same_name f (codes "CHR") then Some functions.Chr
    else None

abbrev pub is_folding_name : List ℕ → Bool
is_folding_name f = is_some (folding_function f)

abbrev mutual
  pub is_built : ConstTree → Bool
  is_built (known_const v) = true
  is_built other_const = false
  is_built (unary_const o e) = is_built e
  is_built (binary_const o a b) = is_built a && is_built b
  is_built (set_const rs) = are_built rs
  is_built (call_const f ps) = is_folding_name f && parts_built ps

  pub are_built : RangesTree → Bool
  are_built no_ranges = true
  are_built (more_ranges a b rs) = is_built a && is_built b && are_built rs

  pub parts_built : PartsTree → Bool
  parts_built no_parts = true
  parts_built (more_parts e ps) = is_built e && parts_built ps

-- ---- values of operators; None is a trap, or operands that don't fit

abbrev pub truth : Bool → Option Value
truth b = Some (values.Boolean b)

-- a number of 32 bits
abbrev pub whole : ℤ → Option Value
whole (pos n) = if nat_lt n 2147483648 then Some (values.Integer (pos n)) else None
whole (negsuc n) = if nat_lt n 2147483648 then Some (values.Integer (negsuc n)) else None

-- the relations by the order of what they stand between
abbrev pub relation_op : Op → Ordering → Option Value
relation_op ops.Equal c = truth (is_eq c)
relation_op ops.Unequal c = truth (is_ne c)
relation_op ops.Less c = truth (is_lt c)
relation_op ops.LessEqual c = truth (is_le c)
relation_op ops.Greater c = truth (is_gt c)
relation_op ops.GreaterEqual c = truth (is_ge c)
relation_op _ c = None

-- `=` and `#` of what has no order
abbrev pub equality_op : Op → Bool → Option Value
equality_op ops.Equal same = truth same
equality_op ops.Unequal same = truth (not same)
equality_op _ same = None

abbrev pub is_positive : ℤ → Bool
is_positive (pos n) = nat_lt 0 n
is_positive (negsuc n) = false

-- x = (x DIV y) * y + x MOD y and 0 <= x MOD y < y, for y > 0 alone
abbrev pub whole_op : Op → ℤ → ℤ → Option Value
whole_op ops.Add x y = whole (x +ℤ y)
whole_op ops.Subtract x y = whole (x -ℤ y)
whole_op ops.Multiply x y = whole (x *ℤ y)
whole_op ops.Div x y = if is_positive y then whole (int_div_euclid x y) else None
whole_op ops.Mod x y = if is_positive y then whole (int_rem_euclid x y) else None
whole_op o x y = relation_op o (int_cmp x y)

-- union, difference, intersection and symmetric difference
abbrev pub set_op : Op → ℕ → ℕ → Option Value
set_op ops.Add x y = Some (values.Set (bit_or x y))
set_op ops.Subtract x y = Some (values.Set (bit_xor x (bit_and x y)))
set_op ops.Multiply x y = Some (values.Set (bit_and x y))
set_op ops.Divide x y = Some (values.Set (bit_xor x y))
set_op o x y = equality_op o (x == y)

abbrev pub same_truth : Bool → Bool → Bool
same_truth true b = b
same_truth false b = not b

-- the number from 0 up to the end, without it
abbrev pub below : ℕ → ℤ → Option ℕ
below end (pos n) = if nat_lt n end then Some n else None
below end (negsuc n) = None

-- outside of 0 to 31 nothing is in a set
abbrev pub is_in : ℤ → ℕ → Bool
is_in x m = option_map_or (λ n. bit_at m n == 1) (below 32 x) false

abbrev pub in_op : Op → ℤ → ℕ → Option Value
in_op ops.In x m = truth (is_in x m)
in_op _ x m = None

-- a text as far as it is compared: up to its first 0X or its end
abbrev pub cut : Option ℕ → List ℕ → List ℕ
cut None s = s
cut (Some n) s = take n s

abbrev pub compared : List ℕ → List ℕ
compared s = cut (position (λ b. b == 0) s) s

abbrev pub text_op : Op → List ℕ → List ℕ → Option Value
text_op o s t = relation_op o (slice_cmp nat_cmp (compared s) (compared t))

-- a string of one byte beside a character is that character
abbrev pub mixed_op : Op → List ℕ → ℕ → Option Value
mixed_op o (b ∷ []) c = relation_op o (nat_cmp b c)
mixed_op o _ c = None

abbrev pub mirrored_op : Op → ℕ → List ℕ → Option Value
mirrored_op o c (b ∷ []) = relation_op o (nat_cmp c b)
mirrored_op o c _ = None

-- an operator between two values, but for `&` and OR
abbrev pub values_op : Op → Value → Value → Option Value
values_op o (values.Integer x) (values.Integer y) = whole_op o x y
values_op o (values.Integer x) (values.Set m) = in_op o x m
values_op o (values.Set x) (values.Set y) = set_op o x y
values_op o (values.Boolean a) (values.Boolean b) = equality_op o (same_truth a b)
values_op o (values.Char c) (values.Char d) = relation_op o (nat_cmp c d)
values_op o (values.Str s) (values.Char c) = mixed_op o s c
values_op o (values.Char c) (values.Str s) = mirrored_op o c s
values_op o (values.Str s) (values.Str t) = text_op o s t
values_op o _ _ = None

-- an operator before one value
abbrev pub value_op : Op → Value → Option Value
value_op ops.Add (values.Integer x) = Some (values.Integer x)
value_op ops.Subtract (values.Integer x) = whole (neg_ℤ x)
value_op ops.Subtract (values.Set x) = Some (values.Set (bit_xor x 4294967295))
value_op ops.Not (values.Boolean b) = truth (not b)
value_op _ _ = None

abbrev pub only_truth : Option Value → Option Value
only_truth (Some (values.Boolean b)) = truth b
only_truth _ = None

-- `&` and OR stop at the first decision
abbrev pub and_value : Option Value → Option Value → Option Value
and_value (Some (values.Boolean false)) b = truth false
and_value (Some (values.Boolean true)) b = only_truth b
and_value _ b = None

abbrev pub or_value : Option Value → Option Value → Option Value
or_value (Some (values.Boolean true)) b = truth true
or_value (Some (values.Boolean false)) b = only_truth b
or_value _ b = None

abbrev pub binary_value : Op → Option Value → Option Value → Option Value
binary_value ops.And a b = and_value a b
binary_value ops.Or a b = or_value a b
binary_value o a b = option_and_then (λ v. option_and_then (values_op o v) b) a

-- ---- values of sets

-- an end of an element is from 0 to 31
abbrev pub end_value : Option Value → Option ℕ
end_value (Some (values.Integer x)) = below 32 x
end_value _ = None

-- the bits from the first number to the last; none where the first is above the last
abbrev pub range_bits : ℕ → ℕ → ℕ
range_bits low high = 2 ^ (high + 1) - 2 ^ low

abbrev pub with_range : Option ℕ → Option ℕ → Option ℕ → Option ℕ
with_range (Some m) (Some low) (Some high) = Some (bit_or m (range_bits low high))
with_range _ _ _ = None

abbrev pub set_value : Option ℕ → Option Value
set_value m = option_map (λ n. values.Set n) m

-- ---- values of calls

-- bits move out at the left, the sign moves in at the left, or bits go round; what a shift moves by is from 0 to 31
abbrev pub shifted : FoldingFunction → ℤ → ℕ → Option Value
shifted functions.Lsl x n = Some (values.Integer (cast_signed w32 ((cast_unsigned w32 x * 2 ^ n) % 2 ^ 32)))
shifted functions.Asr x n = Some (values.Integer (int_div_euclid x (pos (2 ^ n))))
shifted functions.Ror x n = Some (values.Integer (cast_signed w32 (rotate_right w32 (cast_unsigned w32 x) n)))
shifted _ x n = None

abbrev pub shift_op : FoldingFunction → Value → Option ℕ → Option Value
shift_op f (values.Integer x) n = option_and_then (shifted f x) n
shift_op f _ n = None

abbrev pub character : ℤ → Option Value
character x = option_map (λ n. values.Char n) (below 256 x)

abbrev pub absolute : ℤ → Option Value
absolute (pos n) = whole (pos n)
absolute (negsuc n) = whole (pos (n + 1))

abbrev pub ordinal : Value → Option Value
ordinal (values.Char c) = Some (values.Integer (pos c))
ordinal (values.Str (c ∷ [])) = Some (values.Integer (pos c))
ordinal (values.Boolean b) = Some (values.Integer (pos (if b then 1 else 0)))
ordinal (values.Set m) = Some (values.Integer (cast_signed w32 m))
ordinal _ = None

abbrev pub function_op : FoldingFunction → Value → Option Value
function_op functions.Abs (values.Integer x) = absolute x
function_op functions.Odd (values.Integer x) = truth (int_eq (int_rem_euclid x (pos 2)) (pos 1))
function_op functions.Chr (values.Integer x) = character x
function_op functions.Ord v = ordinal v
function_op _ _ = None

abbrev pub call_one : Option FoldingFunction → Option Value → Option Value
call_one f v = option_and_then (λ g. option_and_then (function_op g) v) f

abbrev pub call_two : Option FoldingFunction → Option Value → Option Value → Option Value
call_two f v w = option_and_then (λ g. option_and_then (λ x. shift_op g x (end_value w)) v) f

-- ---- the value of an expression

abbrev mutual
  pub value_of : ConstTree → Option Value
  value_of (known_const v) = Some v
  value_of other_const = None
  value_of (unary_const o e) = option_and_then (value_op o) (value_of e)
  value_of (binary_const o a b) = binary_value o (value_of a) (value_of b)
  value_of (set_const rs) = set_value (with_ranges (Some 0) rs)
  value_of (call_const f ps) = call_value (folding_function f) ps

  -- the set with these elements put in, one after another
  pub with_ranges : Option ℕ → RangesTree → Option ℕ
  with_ranges m no_ranges = m
  with_ranges m (more_ranges a b rs) = with_ranges (with_range m (end_value (value_of a)) (end_value (value_of b))) rs

  pub call_value : Option FoldingFunction → PartsTree → Option Value
  call_value f no_parts = None
  call_value f (more_parts a ps) = call_behind f (value_of a) ps

  pub call_behind : Option FoldingFunction → Option Value → PartsTree → Option Value
  call_behind f v no_parts = call_one f v
  call_behind f v (more_parts b ps) = call_last f v (value_of b) ps

  pub call_last : Option FoldingFunction → Option Value → Option Value → PartsTree → Option Value
  call_last f v w no_parts = call_two f v w
  call_last f v w (more_parts c ps) = None

-- ---- folding: what it is built of comes first

pub data Folded : Type 0 where
  folded : Value → Folded
  not_constant : Folded
  out_of_range : Folded

abbrev pub in_range : Option Value → Folded
in_range None = out_of_range
in_range (Some v) = folded v

abbrev pub fold : ConstTree → Folded
fold e = if is_built e then in_range (value_of e) else not_constant
