-- The values of numbers as the code has them: cut off above the largest one, and cast to signed ones.
use Rattle.std.proofs.Common.{◌≡◌, ℕ, ◌<◌, ◌≤◌, min, ltb, pos, ◌-ℤ◌, ap, ◌∙◌, arith}
use Rattle.std.specs.Int.{cast_signed, w32}
use Rattle.std.proofs.lemmas.Int.{ints}
use Rattle.std.proofs.lemmas.Bool.{cond_both, ltb-true, ltb-false}
use Rattle.oberon_scan.specs.Numbers.{signed}

-- a number that isn't cut off
pub kept : (value number : ℕ) → value ≡ min number 4294967296 → value < 4294967296 → number ≡ value
kept value number e h = omega arith

-- a number that may be cut off is above all that its value is above
pub above : (value number largest : ℕ) → value ≡ min number 4294967296 → largest < value → largest < number
above value number largest e h = omega arith

pub positive_is : (value number : ℕ) → number ≡ value → value ≤ 2147483647 → pos number ≡ cast_signed w32 value
positive_is value number e h = ap pos e ∙ omega (arith, ints)

low : (n : ℕ) → n < 2147483648 → pos n ≡ cast_signed w32 n
low n h = omega (arith, ints)

high : (n : ℕ) → 2147483648 ≤ n → n < 4294967296 → pos n -ℤ pos 4294967296 ≡ cast_signed w32 n
high n h k = grind (arith, ints)

pub signed_is : (value number : ℕ) → number ≡ value → value < 4294967296 → signed number ≡ cast_signed w32 value
signed_is value number e k =
    ap signed e ∙ cond_both (ltb value 2147483648) (pos value) (pos value -ℤ pos 4294967296) (λ z. z ≡ cast_signed w32 value)
    (λ t. low value (ltb-true value 2147483648 t)) (λ f. high value (ltb-false value 2147483648 f) k)
