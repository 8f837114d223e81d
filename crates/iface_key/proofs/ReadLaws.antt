-- Numbers and texts that are read.
use Rattle.std.specs.Prelude.{ℕ, zero, suc, ◌+◌, ◌*◌, ◌/◌, ◌%◌, ◌<◌, ◌≤◌, ◌≡◌, ◌==◌, nat_lt, if◌then◌else◌, Bool, true, false, List, [], ◌∷◌, length, Option, Some, None, pos, negsuc, refl}
use Rattle.std.proofs.Common.{ap, sym, ◌∙◌, arith}
use Rattle.std.proofs.lemmas.Bool.{ltb-true, ltb-false}
use Rattle.iface_key.specs.Keys.{number_then, bool_then, integer_then, text_then}
use Rattle.iface_key.specs.Read.{BeginsWithNone, Any, letter_then}
use Rattle.iface_key.proofs.OneWay.{OneWay, more_one, not_end}
use Rattle.iface_key.proofs.Listed.{Listing}

pub bool_read : (b : ℕ) (rest : List ℕ) → b ≤ 1 → b ∷ rest ≡ bool_then (b == 1) rest
bool_read zero rest h = refl
bool_read (suc zero) rest h = refl
bool_read (suc (suc b)) rest h = absurd (omega arith)

pub no_bool : (text : List ℕ) → text ≡ [] → BeginsWithNone bool_then Any text
no_bool text empty false rest is e = cc
no_bool text empty true rest is e = cc

pub no_bool_above : (text : List ℕ) (b : ℕ) (behind : List ℕ) → text ≡ b ∷ behind → 1 < b → BeginsWithNone bool_then Any text
no_bool_above text b behind read above false rest is e = let k : b ≡ 0 = cc in omega arith
no_bool_above text b behind read above true rest is e = let k : b ≡ 1 = cc in omega arith

low_digit : (b n : ℕ) → b < 256 → (b + 256 * n) % 256 ≡ b
low_digit b n h = omega arith

high_digits : (b n : ℕ) → b < 256 → (b + 256 * n) / 256 ≡ n
high_digits b n h = omega arith

pub number_read : (a b c d high higher n : ℕ) (rest : List ℕ) → a < 256 → b < 256 → c < 256 → high ≡ c + 256 * d → higher ≡ b + 256 * high → n ≡ a + 256 * higher → a ∷ b ∷ c ∷ d ∷ rest ≡ number_then n rest
unfolding number_then
number_read a b c d high higher n rest in_a in_b in_c is_high is_higher is_n =
    let a0 : n % 256 ≡ a = ap (λ x. x % 256) is_n ∙ low_digit a higher in_a in
    let a1 : n / 256 ≡ higher = ap (λ x. x / 256) is_n ∙ high_digits a higher in_a in
    let b0 : higher % 256 ≡ b = ap (λ x. x % 256) is_higher ∙ low_digit b high in_b in
    let b1 : higher / 256 ≡ high = ap (λ x. x / 256) is_higher ∙ high_digits b high in_b in
    let c0 : high % 256 ≡ c = ap (λ x. x % 256) is_high ∙ low_digit c d in_c in
    let c1 : high / 256 ≡ d = ap (λ x. x / 256) is_high ∙ high_digits c d in_c in
    cc

pub no_number_0 : (text : List ℕ) → text ≡ [] → BeginsWithNone number_then Any text
unfolding number_then
no_number_0 text empty n rest is e = cc

pub no_number_1 : (text t : List ℕ) (a : ℕ) → text ≡ a ∷ t → t ≡ [] → BeginsWithNone number_then Any text
unfolding number_then
no_number_1 text t a read empty n rest is e = cc

pub no_number_2 : (text t u : List ℕ) (a b : ℕ) → text ≡ a ∷ t → t ≡ b ∷ u → u ≡ [] → BeginsWithNone number_then Any text
unfolding number_then
no_number_2 text t u a b read more empty n rest is e = cc

pub no_number_3 : (text t u v : List ℕ) (a b c : ℕ) → text ≡ a ∷ t → t ≡ b ∷ u → u ≡ c ∷ v → v ≡ [] → BeginsWithNone number_then Any text
unfolding number_then
no_number_3 text t u v a b c read more others empty n rest is e = cc

pub no_integer : (text : List ℕ) → BeginsWithNone number_then Any text → BeginsWithNone integer_then Any text
no_integer text none (pos n) rest is e = none (2 * n) rest tt e
no_integer text none (negsuc n) rest is e = none (2 * n + 1) rest tt e

-- ---- texts

small_letter : (b : ℕ) (p : Bool) (rest : List ℕ) → nat_lt b 2 ≡ p → b ≤ 1 → 1 ∷ b ∷ rest ≡ (if p then 1 ∷ b ∷ rest else b ∷ rest)
small_letter b true rest is low = refl
small_letter b false rest is low = let h = ltb-false b 2 is in absurd (omega arith)

pub small_read : (b : ℕ) (rest : List ℕ) → b ≤ 1 → 1 ∷ b ∷ rest ≡ letter_then (Some b) rest
small_read b rest low = small_letter b (nat_lt b 2) rest refl low

large_letter : (b : ℕ) (p : Bool) (rest : List ℕ) → nat_lt b 2 ≡ p → 1 < b → b ∷ rest ≡ (if p then 1 ∷ b ∷ rest else b ∷ rest)
large_letter b false rest is high = refl
large_letter b true rest is high = let h = ltb-true b 2 is in absurd (omega arith)

pub large_read : (b : ℕ) (rest : List ℕ) → 1 < b → b ∷ rest ≡ letter_then (Some b) rest
large_read b rest high = large_letter b (nat_lt b 2) rest refl high

no_letter_by : (b : ℕ) (p : Bool) (text rest : List ℕ) → text ≡ [] → text ≡ (if p then 1 ∷ b ∷ rest else b ∷ rest) → ⊥
no_letter_by b true text rest empty e = cc
no_letter_by b false text rest empty e = cc

pub no_letter : (text : List ℕ) → text ≡ [] → BeginsWithNone letter_then Any text
no_letter text empty None rest is e = cc
no_letter text empty (Some b) rest is e = no_letter_by b (nat_lt b 2) text rest empty e

cut_letter_by : (b : ℕ) (p : Bool) (text behind rest : List ℕ) → nat_lt b 2 ≡ p → text ≡ 1 ∷ behind → behind ≡ [] → text ≡ (if p then 1 ∷ b ∷ rest else b ∷ rest) → ⊥
cut_letter_by b true text behind rest is read empty e = cc
cut_letter_by b false text behind rest is read empty e = let h = ltb-false b 2 is in let k : b ≡ 1 = cc in omega arith

pub cut_letter : (text behind : List ℕ) → text ≡ 1 ∷ behind → behind ≡ [] → BeginsWithNone letter_then Any text
cut_letter text behind read empty None rest is e = cc
cut_letter text behind read empty (Some b) rest is e = cut_letter_by b (nat_lt b 2) text behind rest refl read empty e

wrong_letter_by : (b s : ℕ) (p : Bool) (text behind more rest : List ℕ) → nat_lt b 2 ≡ p → text ≡ 1 ∷ behind → behind ≡ s ∷ more → 1 < s → text ≡ (if p then 1 ∷ b ∷ rest else b ∷ rest) → ⊥
wrong_letter_by b s true text behind more rest is read behind_is high e = let h = ltb-true b 2 is in let k : s ≡ b = cc in omega arith
wrong_letter_by b s false text behind more rest is read behind_is high e = let h = ltb-false b 2 is in let k : b ≡ 1 = cc in omega arith

pub wrong_letter : (text behind more : List ℕ) (s : ℕ) → text ≡ 1 ∷ behind → behind ≡ s ∷ more → 1 < s → BeginsWithNone letter_then Any text
wrong_letter text behind more s read behind_is high None rest is e = cc
wrong_letter text behind more s read behind_is high (Some b) rest is e = wrong_letter_by b s (nat_lt b 2) text behind more rest refl read behind_is high e

letter_length_by : (b : ℕ) (p : Bool) (rest : List ℕ) → length rest < length (if p then 1 ∷ b ∷ rest else b ∷ rest)
letter_length_by b true rest = omega arith
letter_length_by b false rest = omega arith

pub letter_length : (o : Option ℕ) (rest : List ℕ) → length rest < length (letter_then o rest)
letter_length None rest = omega arith
letter_length (Some b) rest = letter_length_by b (nat_lt b 2) rest

letter_one : OneWay letter_then
letter_one None None r s e = (refl, cc)
letter_one None (Some c) r s e = absurd (not_end c s r (nat_lt c 2) refl e)
letter_one (Some b) None r s e = absurd (not_end b r s (nat_lt b 2) refl (sym e))
letter_one (Some b) (Some c) r s e = let h = more_one b c r s (nat_lt b 2) (nat_lt c 2) refl refl e in (ap Some h.0, h.1)

pub text_listing : Listing letter_then text_then
text_listing = record { ended = λ r. refl; more = λ x xs r. refl; one = letter_one }
