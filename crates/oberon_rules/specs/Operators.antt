-- The operators: which operand types fit, and what results (section 8.2). BYTE counts as INTEGER, and a string of one
-- byte as CHAR beside a CHAR. A text is an array of CHAR, open or not, or a string.
use Rattle.std.specs.Prelude.{◌==◌, Bool, true, false, if◌then◌else◌, Option, Some, None}
use Rattle.oberon_tree.specs.declared.expression.Relator.{Relator}
use Rattle.oberon_tree.specs.declared.expression.Relator.TheVariants as relators
use Rattle.oberon_tree.specs.declared.expression.Sign.{Sign}
use Rattle.oberon_tree.specs.declared.expression.Sign.TheVariants as signs
use Rattle.oberon_tree.specs.declared.expression.AddOperator.{AddOperator}
use Rattle.oberon_tree.specs.declared.expression.AddOperator.TheVariants as adds
use Rattle.oberon_tree.specs.declared.expression.MulOperator.{MulOperator}
use Rattle.oberon_tree.specs.declared.expression.MulOperator.TheVariants as muls
use Rattle.oberon_types.specs.Types.{TyTree, unknown_ty, integer_ty, byte_ty, char_ty, boolean_ty, set_ty, string_ty, array_ty, open_ty, record_ty}

-- ---- operands

-- the operands that operators tell apart; a string of one byte is a CHAR beside a CHAR, and else a text
pub data Class : Type 0 where
  unknown_class : Class
  whole_class : Class
  boolean_class : Class
  set_class : Class
  char_class : Class
  one_class : Class
  text_class : Class
  other_class : Class

-- An array whose elements are unknown may be a text, so as an operand it is unknown. Elsewhere it is an array.
abbrev pub element_class : TyTree → Class
element_class char_ty = text_class
element_class unknown_ty = unknown_class
element_class _ = other_class

abbrev pub operand_class : TyTree → Class
operand_class unknown_ty = unknown_class
operand_class integer_ty = whole_class
operand_class byte_ty = whole_class
operand_class boolean_ty = boolean_class
operand_class set_ty = set_class
operand_class char_ty = char_class
operand_class (string_ty n) = if n == 1 then one_class else text_class
operand_class (array_ty n t) = element_class t
operand_class (open_ty t) = element_class t
operand_class (record_ty r) = other_class

-- ---- results

-- what results; of an unknown operand nothing is known
pub data Outcome : Type 0 where
  no_outcome : Outcome
  whole_outcome : Outcome
  boolean_outcome : Outcome
  set_outcome : Outcome

-- Some: the operands fit, and this results. None: they don't. An unknown operand breaks no rule.

abbrev pub add_fits : AddOperator → Class → Class → Option Outcome
add_fits o unknown_class b = Some no_outcome
add_fits o a unknown_class = Some no_outcome
add_fits adds.Or boolean_class boolean_class = Some boolean_outcome
add_fits adds.Add whole_class whole_class = Some whole_outcome
add_fits adds.Subtract whole_class whole_class = Some whole_outcome
add_fits adds.Add set_class set_class = Some set_outcome
add_fits adds.Subtract set_class set_class = Some set_outcome
add_fits _ _ _ = None

abbrev pub mul_fits : MulOperator → Class → Class → Option Outcome
mul_fits o unknown_class b = Some no_outcome
mul_fits o a unknown_class = Some no_outcome
mul_fits muls.And boolean_class boolean_class = Some boolean_outcome
mul_fits muls.Multiply whole_class whole_class = Some whole_outcome
mul_fits muls.Div whole_class whole_class = Some whole_outcome
mul_fits muls.Mod whole_class whole_class = Some whole_outcome
mul_fits muls.Multiply set_class set_class = Some set_outcome
mul_fits muls.Divide set_class set_class = Some set_outcome
mul_fits _ _ _ = None

abbrev pub sign_fits : Sign → Class → Option Outcome
sign_fits s unknown_class = Some no_outcome
sign_fits s whole_class = Some whole_outcome
sign_fits signs.Minus set_class = Some set_outcome
sign_fits _ _ = None

abbrev pub not_fits : Class → Option Outcome
not_fits unknown_class = Some no_outcome
not_fits boolean_class = Some boolean_outcome
not_fits _ = None

-- both INTEGER, CHAR or text
abbrev pub are_compared : Class → Class → Bool
are_compared whole_class whole_class = true
are_compared char_class char_class = true
are_compared char_class one_class = true
are_compared one_class char_class = true
are_compared one_class one_class = true
are_compared one_class text_class = true
are_compared text_class one_class = true
are_compared text_class text_class = true
are_compared _ _ = false

abbrev pub are_equated : Class → Class → Bool
are_equated boolean_class boolean_class = true
are_equated set_class set_class = true
are_equated a b = are_compared a b

abbrev boolean_if : Bool → Option Outcome
boolean_if true = Some boolean_outcome
boolean_if false = None

-- IS stands before a type, and has a rule of its own
abbrev pub relation_fits : Relator → Class → Class → Option Outcome
relation_fits o unknown_class b = Some no_outcome
relation_fits o a unknown_class = Some no_outcome
relation_fits relators.Equal a b = boolean_if (are_equated a b)
relation_fits relators.Unequal a b = boolean_if (are_equated a b)
relation_fits relators.In whole_class set_class = Some boolean_outcome
relation_fits relators.In _ _ = None
relation_fits relators.Is _ _ = None
relation_fits o a b = boolean_if (are_compared a b)

abbrev pub is_bad : {A : Type 0} → Option A → Bool
is_bad None = true
is_bad (Some t) = false
