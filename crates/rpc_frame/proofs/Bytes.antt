-- Bytes and the tests on them.
use Rattle.std.proofs.Common.{◌≡◌, ℕ, Bool, true, false, eqb, List, [], ◌∷◌, ◌++◌, map, ap, ◌∙◌, refl, arith, inl, inr}
use Rattle.std.proofs.lemmas.Bool.{ne_eqb, both_ways, or_cases, eqb-true}
use Rattle.std.proofs.lemmas.Bool.Decides.{nat_tests}
use Rattle.std.specs.Char.{IsAsciiDigit, is_ascii_digit, to_ascii_lowercase}
use Rattle.rpc_frame.specs.Frames.{name_byte, value_byte, blank_byte, EachPasses, AreDigits}

-- the lower case of each byte
abbrev pub low : List ℕ → List ℕ
low bs = map to_ascii_lowercase bs

-- a byte that passes a test is none that doesn't
pub passes_not : (test : ℕ → Bool) (b x : ℕ) → test x ≡ false → test b ≡ true → eqb b x ≡ false
passes_not test b x fails passes = ne_eqb b x (λ e. both_ways (test b) (ap test e ∙ fails) passes)

pub name_no_colon : name_byte 58 ≡ false
unfolding name_byte
name_no_colon = refl

pub name_no_return : name_byte 13 ≡ false
unfolding name_byte
name_no_return = refl

pub value_no_return : value_byte 13 ≡ false
unfolding value_byte
value_no_return = refl

pub blank_no_return : blank_byte 13 ≡ false
unfolding blank_byte
blank_no_return = refl

pub blank_no_digit : (b : ℕ) → blank_byte b ≡ true → is_ascii_digit b ≡ false
unfolding blank_byte
blank_no_digit b h = elim (or_cases (eqb b 32) (eqb b 9) h) [
  | inl e ↦ ap is_ascii_digit (eqb-true b 32 e)
  | inr e ↦ ap is_ascii_digit (eqb-true b 9 e)
]

pub blank_value : (b : ℕ) → blank_byte b ≡ true → value_byte b ≡ true
unfolding blank_byte value_byte
blank_value b h = elim (or_cases (eqb b 32) (eqb b 9) h) [
  | inl e ↦ ap value_byte (eqb-true b 32 e)
  | inr e ↦ ap value_byte (eqb-true b 9 e)
]

pub digit_is : (b : ℕ) → is_ascii_digit b ≡ true → IsAsciiDigit b
digit_is b h = grind (arith, nat_tests)

pub is_digit : (b : ℕ) → IsAsciiDigit b → is_ascii_digit b ≡ true
is_digit b h = grind (arith, nat_tests)

pub digit_value : (b : ℕ) → IsAsciiDigit b → value_byte b ≡ true
unfolding value_byte
digit_value b h = grind (arith, nat_tests)

pub passes_push : (test : ℕ → Bool) (bs : List ℕ) (b : ℕ) → EachPasses test bs → test b ≡ true → EachPasses test (bs ++ b ∷ [])
passes_push test [] b h t = (t, tt)
passes_push test (c ∷ bs) b h t = (h.0, passes_push test bs b h.1 t)

pub passes_append : (test : ℕ → Bool) (bs cs : List ℕ) → EachPasses test bs → EachPasses test cs → EachPasses test (bs ++ cs)
passes_append test [] cs h g = g
passes_append test (b ∷ bs) cs h g = (h.0, passes_append test bs cs h.1 g)

pub blanks_values : (bs : List ℕ) → EachPasses blank_byte bs → EachPasses value_byte bs
blanks_values [] h = tt
blanks_values (b ∷ bs) h = (blank_value b h.0, blanks_values bs h.1)

pub digits_values : (ds : List ℕ) → AreDigits ds → EachPasses value_byte ds
digits_values [] h = tt
digits_values (d ∷ ds) h = (digit_value d h.0, digits_values ds h.1)

pub AreDigits-push : (ds : List ℕ) (b : ℕ) → AreDigits ds → IsAsciiDigit b → AreDigits (ds ++ b ∷ [])
AreDigits-push [] b h d = (d, tt)
AreDigits-push (c ∷ ds) b h d = (h.0, AreDigits-push ds b h.1 d)
