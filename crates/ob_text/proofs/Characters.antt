-- The bytes of a character of UTF-8: the first tells how many there are, and the others go on with it.
use Rattle.std.proofs.Common.{◌≡◌, ℕ, ◌+◌, ◌/◌, ◌%◌, ◌<◌, ◌≤◌, Bool, true, false, ltb, leb, [], ◌∷◌, refl, arith}
use Rattle.std.specs.Char.{encode_utf8}
use Rattle.ob_text.specs.Position.{is_continuation}
use Rattle.std.proofs.lemmas.Bool.{and_from, and_left, and_right, le-leb, lt-leb, lt-ltb, le-ltb, ltb-true, ltb-false}

-- a byte that goes on with a character
pub record GoesOn (byte : ℕ) : Type 0 where
  pub low : 128 ≤ byte
  pub high : byte < 192

-- what the bytes of the character c are
pub data Shape (c : ℕ) : Type 0 where
  one : c < 128 → encode_utf8 c ≡ c ∷ [] → Shape c
  two : (a b : ℕ) → 192 ≤ a → a < 224 → GoesOn b → 128 ≤ c → c < 65536 → encode_utf8 c ≡ a ∷ b ∷ [] → Shape c
  three : (a b d : ℕ) → 224 ≤ a → a < 240 → GoesOn b → GoesOn d → 128 ≤ c → c < 65536 → encode_utf8 c ≡ a ∷ b ∷ d ∷ [] → Shape c
  four : (a b d e : ℕ) → 240 ≤ a → GoesOn b → GoesOn d → GoesOn e → 65536 ≤ c → encode_utf8 c ≡ a ∷ b ∷ d ∷ e ∷ [] → Shape c

goes_on : (n : ℕ) → GoesOn (128 + n % 64)
goes_on n = record { low = omega arith; high = omega arith }

pub shape : (c : ℕ) → Shape c
unfolding encode_utf8
shape c = first (ltb c 128) refl
  where
    third : (x : Bool) → ltb c 65536 ≡ x → ltb c 128 ≡ false → ltb c 2048 ≡ false → Shape c
    third true e h k =
        let low = ltb-true c 65536 e in
        let high = ltb-false c 2048 k in
        three (224 + c / 4096) (128 + (c / 64) % 64) (128 + c % 64) (omega arith) (omega arith) (goes_on (c / 64)) (goes_on c) (omega arith) low (rw (h, k, e))
    third false e h k =
        four (240 + c / 262144) (128 + (c / 4096) % 64) (128 + (c / 64) % 64) (128 + c % 64) (omega arith) (goes_on (c / 4096)) (goes_on (c / 64)) (goes_on c) (ltb-false c 65536 e) (rw (h, k, e))

    second : (x : Bool) → ltb c 2048 ≡ x → ltb c 128 ≡ false → Shape c
    second true e h =
        let low = ltb-true c 2048 e in
        let high = ltb-false c 128 h in
        two (192 + c / 64) (128 + c % 64) (omega arith) (omega arith) (goes_on c) high (omega arith) (rw (h, e))
    second false e h = third (ltb c 65536) refl h e

    first : (x : Bool) → ltb c 128 ≡ x → Shape c
    first true e = one (ltb-true c 128 e) (rw e)
    first false e = second (ltb c 2048) refl e

-- which bytes go on with a character
pub is_continuation_yes : (byte : ℕ) → GoesOn byte → is_continuation byte ≡ true
is_continuation_yes byte h = and_from (leb 128 byte) (ltb byte 192) (le-leb 128 byte h.low) (lt-ltb byte 192 h.high)

pub is_continuation_low : (byte : ℕ) → byte < 128 → is_continuation byte ≡ false
is_continuation_low byte h = and_left (leb 128 byte) (ltb byte 192) (lt-leb 128 byte h)

pub is_continuation_high : (byte : ℕ) → 192 ≤ byte → is_continuation byte ≡ false
is_continuation_high byte h = and_right (leb 128 byte) (ltb byte 192) (le-ltb byte 192 h)
