-- What calls of predeclared words and of Out pay for.
use Rattle.std.proofs.Common.{ℕ, Bool, true, false, List, [], ◌∷◌, length, Option, Some, None, ℤ, pos, arith, length-append}
use Rattle.std.specs.Prelude.{if◌then◌else◌, codes}
use Rattle.std.specs.Fmt.{signed_decimal}
use Rattle.oberon_types.specs.declared.value.Value.{Value}
use Rattle.oberon_types.specs.declared.value.Value.TheVariants as values
use Rattle.oberon_types.specs.declared.constant.FoldingFunction.{FoldingFunction}
use Rattle.oberon_types.specs.declared.constant.FoldingFunction.TheVariants as functions
use Rattle.oberon_types.specs.Folding.{function_op, shifted, below, compared}
use Rattle.oberon_types.specs.Types.{TyTree, byte_ty, array_ty, same_name}
use Rattle.oberon_rules.specs.Scopes.{Predeclared, len_word, inc_word, dec_word, assert_word, incl_word, excl_word}
use Rattle.run_rules.specs.World.{World, Ran, went, stopped, Gives, then_do, At, stuck, with_output}
use Rattle.run_rules.specs.Cells.{Spot, Operand, single, structured, nothing, contents, is_byte, text_of}
use Rattle.run_rules.specs.Words.{Argument, function_of, function_trap, applied, shifted_by, shift, stepped, store_whole, step_by, member_by, number_of, with_element, set_member, asserted, length_of, one_value, two_values, change, word_one, include, word_two, word_called, written, padded, out_text, out_values, out_one, out_called}
use Rattle.run_laws.proofs.Paid.{Paid, Within, paid_same, paid_then, owes_more, spends}
use Rattle.run_laws.proofs.Parts.{Pays, if_pays, then_pays, contents_pay, put_pays, or_trap_pays}

-- ---- functions and procedures of values

function_trap_pays : (f : FoldingFunction) (x : Value) (at argument : At) (w : World) → Pays w (function_trap f x at argument w)
function_trap_pays functions.Abs (values.Integer x) at argument w = paid_same 1 w
function_trap_pays functions.Chr (values.Integer x) at argument w = paid_same 1 w
function_trap_pays _ _ at argument w = paid_same 1 w

applied_pays : (f : FoldingFunction) (at argument : At) (x : Operand) (w : World) → Pays w (applied f at argument x w)
applied_pays f at argument (single v) w = or_trap_pays (function_op f v) (function_trap f v at argument) w (function_trap_pays f v at argument w)
applied_pays f at argument (structured t vs) w = paid_same 1 w
applied_pays f at argument nothing w = paid_same 1 w

shifted_by_pays : (f : FoldingFunction) (by : At) (x n : ℤ) (k : Option ℕ) (w : World) → Pays w (shifted_by f by x n k w)
shifted_by_pays f by x n None w = paid_same 1 w
shifted_by_pays f by x n (Some k) w = or_trap_pays (shifted f x k) stuck w (paid_same 1 w)

shift_pays : (f : FoldingFunction) (by : At) (x y : Operand) (w : World) → Pays w (shift f by x y w)
shift_pays f by (single (values.Integer x)) (single (values.Integer n)) w = shifted_by_pays f by x n (below 32 n) w
shift_pays f by _ _ w = paid_same 1 w

store_whole_pays : (t : TyTree) (at : At) (place : ℕ) (o : Option Value) (w : World) → Pays w (store_whole t at place o w)
store_whole_pays byte_ty at place (Some (values.Integer x)) w = if_pays (is_byte x) w _ _ (put_pays place (values.Integer x ∷ []) w) (paid_same 1 w)
store_whole_pays t at place (Some v) w = put_pays place (v ∷ []) w
store_whole_pays t at place None w = paid_same 1 w

step_by_pays : (x : Predeclared) (at : At) (s : Spot) (a n : Operand) (w : World) → Pays w (step_by x at s a n w)
step_by_pays x at s (single (values.Integer a)) (single (values.Integer n)) w = store_whole_pays s.ty at s.place (stepped x a n) w
step_by_pays x at s _ _ w = paid_same 1 w

member_by_pays : (x : Predeclared) (at : At) (s : Spot) (m : Operand) (k : Option ℕ) (w : World) → Pays w (member_by x at s m k w)
member_by_pays x at s (single (values.Set m)) (Some k) w = put_pays s.place (values.Set (with_element x m k) ∷ []) w
member_by_pays x at s _ None w = paid_same 1 w
member_by_pays x at s _ _ w = paid_same 1 w

number_of_pays : (x : Operand) (w : World) → Pays w (number_of x w)
number_of_pays (single (values.Integer n)) w = paid_same 0 w
number_of_pays _ w = paid_same 1 w

set_member_pays : (x : Predeclared) (at : At) (s : Spot) (k : Operand) (w : World) → Pays w (set_member x at s k w)
set_member_pays x at s k w = then_pays w (number_of k w) _ (number_of_pays k w) (λ n v. then_pays v (contents s v) _ (contents_pay s v) (λ m u. member_by_pays x at s m (below 32 n) u))

asserted_pays : (at : At) (x : Operand) (w : World) → Pays w (asserted at x w)
asserted_pays at (single (values.Boolean true)) w = paid_same 0 w
asserted_pays at (single (values.Boolean false)) w = paid_same 1 w
asserted_pays at _ w = paid_same 1 w

length_of_pays : (t : TyTree) (w : World) → Pays w (length_of t w)
length_of_pays (array_ty n t) w = paid_same 0 w
length_of_pays _ w = paid_same 1 w

-- ---- arguments

pub record ArgumentPays (e : Argument) : Type 0 where
  pub spot : (w : World) → Pays w (e.spot w)
  pub value : (w : World) → Pays w (e.value w)

abbrev pub ArgumentsPay : List Argument → Type 0
ArgumentsPay [] = Unit {0}
ArgumentsPay (e ∷ es) = ArgumentPays e × ArgumentsPay es

-- ---- predeclared words

one_value_pays : (f : Option FoldingFunction) (at : At) (e : Argument) (w : World) → ArgumentPays e → Pays w (one_value f at e w)
one_value_pays None at e w h = paid_same 1 w
one_value_pays (Some f) at e w h = then_pays w (e.value w) _ (h.value w) (λ x v. applied_pays f at e.at x v)

two_values_pay : (f : Option FoldingFunction) (e n : Argument) (w : World) → ArgumentPays e → ArgumentPays n → Pays w (two_values f e n w)
two_values_pay None e n w h k = paid_same 1 w
two_values_pay (Some f) e n w h k = then_pays w (e.value w) _ (h.value w) (λ x v. then_pays v (n.value v) _ (k.value v) (λ y u. shift_pays f n.at x y u))

change_pays : (x : Predeclared) (at : At) (e : Argument) (by : Gives Operand) (w : World) → ArgumentPays e → ((v : World) → Pays v (by v)) → Pays w (change x at e by w)
change_pays x at e by w h k = then_pays w (e.spot w) _ (h.spot w) (λ s v. then_pays v (by v) _ (k v) (λ n u. then_pays u (contents s u) _ (contents_pay s u) (λ old t. then_pays t (step_by x at s old n t) _ (step_by_pays x at s old n t) (λ place r. paid_same 0 r))))

word_one_pays : (x : Predeclared) (at : At) (e : Argument) (w : World) → ArgumentPays e → Pays w (word_one x at e w)
word_one_pays len_word at e w h = then_pays w (e.spot w) _ (h.spot w) (λ s v. length_of_pays s.ty v)
word_one_pays inc_word at e w h = change_pays inc_word at e (λ v. went (single (values.Integer (pos 1))) v) w h (λ v. paid_same 0 v)
word_one_pays dec_word at e w h = change_pays dec_word at e (λ v. went (single (values.Integer (pos 1))) v) w h (λ v. paid_same 0 v)
word_one_pays assert_word at e w h = then_pays w (e.value w) _ (h.value w) (λ x v. asserted_pays at x v)
word_one_pays x at e w h = one_value_pays (function_of x) at e w h

include_pays : (x : Predeclared) (e k : Argument) (w : World) → ArgumentPays e → ArgumentPays k → Pays w (include x e k w)
include_pays x e k w h g = then_pays w (e.spot w) _ (h.spot w) (λ s v. then_pays v (k.value v) _ (g.value v) (λ n u. then_pays u (set_member x k.at s n u) _ (set_member_pays x k.at s n u) (λ place t. paid_same 0 t)))

word_two_pays : (x : Predeclared) (at : At) (e n : Argument) (w : World) → ArgumentPays e → ArgumentPays n → Pays w (word_two x at e n w)
word_two_pays inc_word at e n w h k = change_pays inc_word at e _ w h k.value
word_two_pays dec_word at e n w h k = change_pays dec_word at e _ w h k.value
word_two_pays incl_word at e n w h k = include_pays incl_word e n w h k
word_two_pays excl_word at e n w h k = include_pays excl_word e n w h k
word_two_pays x at e n w h k = two_values_pay (function_of x) e n w h k

pub word_called_pays : (x : Predeclared) (at : At) (es : List Argument) (w : World) → ArgumentsPay es → Pays w (word_called x at es w)
word_called_pays x at (e ∷ []) w h = word_one_pays x at e w h.0
word_called_pays x at (e ∷ n ∷ []) w h = word_two_pays x at e n w h.0 h.1.0
word_called_pays x at _ w h = paid_same 1 w

-- ---- Out, which owes a byte where it gives nothing

pub owing : Operand → ℕ
owing (single x) = 0
owing (structured t vs) = 0
owing nothing = 1

abbrev pub Gave : World → Ran Operand → Type 0
Gave w (went (single x) v) = Paid 0 w v
Gave w (went (structured t vs) v) = Paid 0 w v
Gave w (went nothing v) = Paid 1 w v
Gave w (stopped e v) = Paid 1 w v

paid_more : (w v : World) → Paid 0 w v → Paid 1 w v
paid_more w v p = record { left = p.left; output = omega (arith, p.output) }

pub pays_gave : (w : World) (r : Ran Operand) → Pays w r → Gave w r
pays_gave w (went (single x) v) p = p
pays_gave w (went (structured t vs) v) p = p
pays_gave w (went nothing v) p = paid_more w v p
pays_gave w (stopped e v) p = p

pub gave_owes : (w : World) (r : Ran Operand) → Gave w r → Within 1 1 w r
gave_owes w (went (single x) v) p = paid_more w v p
gave_owes w (went (structured t vs) v) p = paid_more w v p
gave_owes w (went nothing v) p = p
gave_owes w (stopped e v) p = p

lifted_gave : (w v : World) → Paid 0 w v → (r : Ran Operand) → Gave v r → Gave w r
lifted_gave w v p (went (single x) u) q = paid_then 0 w v u p q
lifted_gave w v p (went (structured t vs) u) q = paid_then 0 w v u p q
lifted_gave w v p (went nothing u) q = paid_then 1 w v u p q
lifted_gave w v p (stopped e u) q = paid_then 1 w v u p q

pub then_gave : {A : Type 0} (w : World) (r : Ran A) (go : A → Gives Operand) → Pays w r → ((x : A) (v : World) → Gave v (go x v)) → Gave w (then_do r go)
then_gave w (went x v) go p h = lifted_gave w v p (go x v) (h x v)
then_gave w (stopped e v) go p h = p

if_gave : (q : Bool) (w : World) (r s : Ran Operand) → Gave w r → Gave w s → Gave w (if q then r else s)
if_gave true w r s p n = p
if_gave false w r s p n = n

-- bytes with their steps
bytes_paid : (bytes : List ℕ) (v : World) → Within {A = Operand} (length bytes) (length bytes) v (went nothing (with_output v bytes))
bytes_paid bytes v = record { left = omega arith; output = rw (length-append v.output bytes) (omega arith) }

written_gave : (bytes : List ℕ) (w : World) → Gave w (written bytes w)
written_gave bytes w = pays_gave w (written bytes w) (owes_more 0 1 w (written bytes w) (spends (length bytes) w (λ n v. went nothing (with_output v bytes)) (λ n v. bytes_paid bytes v)))

out_text_gave : (o : Option (List ℕ)) (w : World) → Gave w (out_text o w)
out_text_gave None w = paid_same 1 w
out_text_gave (Some x) w = written_gave (compared x) w

one_byte : (b : ℕ) (w : World) → Paid 1 w (with_output w (b ∷ []))
one_byte b w = record { left = omega arith; output = rw (length-append w.output (b ∷ [])) (omega arith) }

out_values_gave : (x : List ℕ) (vs : List Operand) (w : World) → Gave w (out_values x vs w)
out_values_gave x (single (values.Integer a) ∷ single (values.Integer n) ∷ []) w = if_gave (same_name x (codes "Int")) w _ _ (written_gave (padded n (signed_decimal a)) w) (paid_same 1 w)
out_values_gave x (single (values.Char c) ∷ []) w = if_gave (same_name x (codes "Char")) w _ _ (one_byte c w) (paid_same 1 w)
out_values_gave x [] w = if_gave (same_name x (codes "Ln")) w _ _ (one_byte 10 w) (paid_same 1 w)
out_values_gave x _ w = paid_same 1 w

out_one_gave : (x : List ℕ) (v : Operand) (w : World) → Gave w (out_one x v w)
out_one_gave x (single (values.Str (c ∷ []))) w = if_gave (same_name x (codes "Char")) w _ _ (one_byte c w) (out_text_gave (Some (c ∷ [])) w)
out_one_gave x (single v) w = if_gave (same_name x (codes "String")) w (out_text (text_of (single v)) w) (out_values x (single v ∷ []) w) (out_text_gave (text_of (single v)) w) (out_values_gave x (single v ∷ []) w)
out_one_gave x (structured t vs) w = if_gave (same_name x (codes "String")) w _ _ (out_text_gave (text_of (structured t vs)) w) (paid_same 1 w)
out_one_gave x nothing w = paid_same 1 w

pub out_called_gave : (x : List ℕ) (vs : List Operand) (w : World) → Gave w (out_called x vs w)
out_called_gave x (v ∷ []) w = out_one_gave x v w
out_called_gave x [] w = out_values_gave x [] w
out_called_gave x (v ∷ u ∷ vs) w = out_values_gave x (v ∷ u ∷ vs) w
