-- What the parts of expressions and statements pay for, whatever they are made of.
use Rattle.std.proofs.Common.{ℕ, ◌+◌, ◌*◌, Bool, true, false, List, [], ◌∷◌, length, Option, Some, None, ℤ, pos, negsuc, arith}
use Rattle.std.specs.Prelude.{nat_lt, if◌then◌else◌, slice_get}
use Rattle.oberon_types.specs.declared.value.Value.{Value}
use Rattle.oberon_types.specs.declared.value.Value.TheVariants as values
use Rattle.oberon_types.specs.declared.constant.Op.{Op}
use Rattle.oberon_types.specs.declared.constant.Op.TheVariants as ops
use Rattle.oberon_types.specs.Folding.{values_op, value_op}
use Rattle.oberon_types.specs.Sizes.{size_of}
use Rattle.oberon_types.specs.Types.{TyTree, byte_ty, char_ty, array_ty, record_ty}
use Rattle.oberon_rules.specs.Procedures.{is_structured}
use Rattle.run_rules.specs.declared.trap_kind.TrapKind.{TrapKind}
use Rattle.run_rules.specs.World.{World, Ran, went, Gives, then_do, At, stuck, ticks, with_cells}
use Rattle.run_rules.specs.Cells.{Spot, Operand, single, structured, nothing, given_spot, field_spot, field, item, element, contents, given_value, put, is_byte, is_such, fitted, text_of}
use Rattle.run_rules.specs.Operators.{whole_trap, trap_or_stuck, no_value, or_trap, looked_at, singles, with_texts, operated, no_negative, signed, chosen, truth_alone}
use Rattle.run_laws.proofs.Paid.{Paid, Within, paid_same, then_paid, owes_more, ticks_paid}

-- a part that owes nothing where it goes on, and one byte at most where it ends the run
abbrev pub Pays : {A : Type 0} → World → Ran A → Type 0
Pays w r = Within 0 1 w r

pub if_pays : {A : Type 0} (q : Bool) (w : World) (r s : Ran A) → Pays w r → Pays w s → Pays w (if q then r else s)
if_pays true w r s p n = p
if_pays false w r s p n = n

pub then_pays : {A B : Type 0} (w : World) (r : Ran A) (go : A → Gives B) → Pays w r → ((x : A) (v : World) → Pays v (go x v)) → Pays w (then_do r go)
then_pays w r go p h = then_paid 0 1 w r go p h

pub ticks_pay : (n : ℕ) (w : World) → Pays w (ticks n w)
ticks_pay n w = owes_more 0 1 w (ticks n w) (ticks_paid n w)

paid_cells : (k : ℕ) (w : World) (cells : List Value) → Paid k w (with_cells w cells)
paid_cells k w cells = record { left = omega arith; output = omega arith }

-- ---- variables

given_spot_pays : (o : Option Spot) (w : World) → Pays w (given_spot o w)
given_spot_pays None w = paid_same 1 w
given_spot_pays (Some s) w = paid_same 0 w

pub field_pays : (me x : List ℕ) (t : TyTree) (place : ℕ) (w : World) → Pays w (field me x t place w)
field_pays me x (record_ty r) place w = given_spot_pays (field_spot me x r place) w
field_pays me x _ place w = paid_same 1 w

item_pays : (i : ℤ) (at : At) (n : ℕ) (t : TyTree) (place : ℕ) (w : World) → Pays w (item i at n t place w)
item_pays (pos i) at n t place w = if_pays (nat_lt i n) w _ _ (paid_same 0 w) (paid_same 1 w)
item_pays (negsuc i) at n t place w = paid_same 1 w

pub element_pays : (x : Operand) (at : At) (t : TyTree) (place : ℕ) (w : World) → Pays w (element x at t place w)
element_pays (single (values.Integer i)) at (array_ty n t) place w = item_pays i at n t place w
element_pays _ at _ place w = paid_same 1 w

given_value_pays : (o : Option Value) (w : World) → Pays w (given_value o w)
given_value_pays None w = paid_same 1 w
given_value_pays (Some v) w = paid_same 0 w

pub contents_pay : (s : Spot) (w : World) → Pays w (contents s w)
contents_pay s w = if_pays (is_structured s.ty) w _ _ (paid_same 0 w) (given_value_pays (slice_get w.cells s.place) w)

pub put_pays : (place : ℕ) (vs : List Value) (w : World) → Pays w (put place vs w)
put_pays place vs w = if_pays (nat_lt (length w.cells) (place + length vs)) w _ _ (paid_same 1 w) (paid_cells 0 w _)

pub fitted_pays : (t : TyTree) (at : At) (x : Operand) (w : World) → Pays w (fitted t at x w)
fitted_pays byte_ty at (single (values.Integer x)) w = if_pays (is_byte x) w _ _ (paid_same 0 w) (paid_same 1 w)
fitted_pays char_ty at (single (values.Str (c ∷ []))) w = paid_same 0 w
fitted_pays (array_ty n char_ty) at (single (values.Str x)) w = then_pays w (ticks n w) _ (ticks_pay n w) (λ m v. paid_same 0 v)
fitted_pays (array_ty n t) at (structured u vs) w = then_pays w (ticks (n * size_of t) w) _ (ticks_pay (n * size_of t) w) (λ m v. paid_same 0 v)
fitted_pays (record_ty r) at (structured u vs) w = then_pays w (ticks (size_of (record_ty r)) w) _ (ticks_pay (size_of (record_ty r)) w) (λ m v. paid_same 0 v)
fitted_pays t at (single v) w = if_pays (is_such t v) w (went (v ∷ []) w) (stuck w) (paid_same 0 w) (paid_same 1 w)
fitted_pays t at (structured u vs) w = paid_same 1 w
fitted_pays t at nothing w = paid_same 1 w

-- ---- operators

pub or_trap_pays : (o : Option Value) (other : Gives Operand) (w : World) → Pays w (other w) → Pays w (or_trap o other w)
or_trap_pays (Some v) other w h = paid_same 0 w
or_trap_pays None other w h = h

trap_or_stuck_pays : (kind : Option TrapKind) (at : At) (w : World) → Pays w (trap_or_stuck kind at w)
trap_or_stuck_pays None at w = paid_same 1 w
trap_or_stuck_pays (Some kind) at w = paid_same 1 w

no_value_pays : (o : Op) (x y : Value) (at : At) (w : World) → Pays w (no_value o x y at w)
no_value_pays o (values.Integer x) (values.Integer y) at w = trap_or_stuck_pays (whole_trap o) at w
no_value_pays o _ _ at w = paid_same 1 w

singles_pay : (o : Op) (at : At) (x y : Operand) (w : World) → Pays w (singles o at x y w)
singles_pay o at (single x) (single y) w = or_trap_pays (values_op o x y) (no_value o x y at) w (no_value_pays o x y at w)
singles_pay o at _ _ w = paid_same 1 w

with_texts_pay : (o : Op) (at : At) (x y : Operand) (s t : Option (List ℕ)) (w : World) → Pays w (with_texts o at x y s t w)
with_texts_pay o at x y (Some s) (Some t) w = then_pays w (ticks (looked_at s t) w) _ (ticks_pay (looked_at s t) w) (λ n v. or_trap_pays (values_op o (values.Str s) (values.Str t)) stuck v (paid_same 1 v))
with_texts_pay o at x y (Some s) None w = singles_pay o at x y w
with_texts_pay o at x y None t w = singles_pay o at x y w

pub operated_pays : (o : Op) (at : At) (x y : Operand) (w : World) → Pays w (operated o at x y w)
operated_pays o at x y w = with_texts_pay o at x y (text_of x) (text_of y) w

no_negative_pays : (o : Op) (x : Value) (at : At) (w : World) → Pays w (no_negative o x at w)
no_negative_pays ops.Subtract (values.Integer x) at w = paid_same 1 w
no_negative_pays o _ at w = paid_same 1 w

pub signed_pays : (o : Op) (at : At) (x : Operand) (w : World) → Pays w (signed o at x w)
signed_pays o at (single x) w = or_trap_pays (value_op o x) (no_negative o x at) w (no_negative_pays o x at w)
signed_pays o at (structured t vs) w = paid_same 1 w
signed_pays o at nothing w = paid_same 1 w

pub chosen_within : {A : Type 0} (a b : ℕ) (x : Operand) (go other : Gives A) (w : World) → Within a b w (go w) → Within a b w (other w) → Within a b w (chosen x go other w)
chosen_within a b (single (values.Boolean true)) go other w p q = p
chosen_within a b (single (values.Boolean false)) go other w p q = q
chosen_within a b _ go other w p q = paid_same b w

pub truth_alone_pays : (x : Operand) (w : World) → Pays w (truth_alone x w)
truth_alone_pays (single (values.Boolean b)) w = paid_same 0 w
truth_alone_pays _ w = paid_same 1 w
