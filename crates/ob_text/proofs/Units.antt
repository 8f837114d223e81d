-- In a text of UTF-8 the units that a position counts are those of UTF-16.
use Rattle.std.proofs.Common.{◌≡◌, ℕ, zero, suc, ◌+◌, ◌-◌, ◌<◌, ◌≤◌, Bool, false, cond, not, ◌||◌, leb, ltb, ◌/◌, ◌%◌, List, [], ◌∷◌, ◌++◌, length, get_or, take, drop, refl, sym, ap, ◌∙◌, arith, add-one, length-append}
use Rattle.std.specs.List.{count_by, range_with_len, flat_map}
use Rattle.std.specs.Prelude.{slice_range}
use Rattle.std.specs.Str.{encode_utf8_all}
use Rattle.std.specs.Char.{encode_utf8}
use Rattle.std.specs.Char.Escape.{encode_utf16}
use Rattle.std.proofs.Math.Seq.{drop-cons}
use Rattle.std.proofs.lemmas.List.Sums.{sum_by-cons}
use Rattle.std.proofs.lemmas.Bool.{le-leb, lt-leb, cond-true, cond-false, lt-ltb, le-ltb}
use Rattle.ob_text.specs.Position.{is_continuation, begins_unit, line_start, position_at}
use Rattle.ob_text.proofs.Characters.{GoesOn, Shape, shape, is_continuation_yes, is_continuation_low, is_continuation_high}
use Rattle.ob_text.proofs.Characters.Shape.{one, two, three, four}
use Rattle.ob_text.proofs.Positions.{line_start_le}

-- whether a unit begins at a byte, by the byte before it
abbrev unit_at : ℕ → ℕ → Bool
unit_at before byte = not (is_continuation byte) || leb 240 before

-- how many units begin in these bytes, behind the byte `before`
abbrev units : ℕ → List ℕ → ℕ
units before [] = 0
units before (byte ∷ bytes) = cond (unit_at before byte) 1 0 + units byte bytes

-- a count byte by byte is a count over the bytes
pub units_between : (text : List ℕ) (n start : ℕ) → start + n ≤ length text → count_by (begins_unit text) (range_with_len start n) ≡ units (get_or text (start - 1) 0) (take n (drop start text))
units_between text zero start h = refl
units_between text (suc n) start h =
    let here : start < length text = omega arith in
    let room : start + 1 + n ≤ length text = omega arith in
    let back : start + 1 - 1 ≡ start = omega arith in
    let before = get_or text (start - 1) 0 in
    let byte = get_or text start 0 in
    let more : count_by (begins_unit text) (range_with_len (start + 1) n) ≡ units byte (take n (drop (suc start) text)) =
    units_between text n (start + 1) room
    ∙ (ap (λ i. units (get_or text i 0) (take n (drop (start + 1) text))) back ∙ ap (λ i. units byte (take n (drop i text))) (add-one start)) in
    sum_by-cons (λ i. cond (begins_unit text i) 1 0) start (range_with_len (start + 1) n)
    ∙ (ap (λ k. cond (begins_unit text start) 1 0 + k) more ∙ sym (ap (λ bytes. units before (take (suc n) bytes)) (drop-cons text start 0 here)))

-- A byte that goes on with a character begins a unit only behind the first byte of a long one, and any other does.
begins : (before byte : ℕ) (bytes : List ℕ) → is_continuation byte ≡ false → units before (byte ∷ bytes) ≡ 1 + units byte bytes
begins before byte bytes h = ap (λ b. cond (not b || leb 240 before) 1 0 + units byte bytes) h

begins_second : (before byte : ℕ) (bytes : List ℕ) → GoesOn byte → 240 ≤ before → units before (byte ∷ bytes) ≡ 1 + units byte bytes
begins_second before byte bytes g h =
    ap (λ b. cond (not b || leb 240 before) 1 0 + units byte bytes) (is_continuation_yes byte g) ∙ ap (λ b. cond b 1 0 + units byte bytes) (le-leb 240 before h)

begins_none : (before byte : ℕ) (bytes : List ℕ) → GoesOn byte → before < 240 → units before (byte ∷ bytes) ≡ units byte bytes
begins_none before byte bytes g h =
    ap (λ b. cond (not b || leb 240 before) 1 0 + units byte bytes) (is_continuation_yes byte g) ∙ (ap (λ b. cond b 1 0 + units byte bytes) (lt-leb 240 before h) ∙ omega arith)

-- a character has as many units as its UTF-16
units_of_low : (c : ℕ) → c < 65536 → length (encode_utf16 c) ≡ 1
units_of_low c h = ap length (cond-true (ltb c 65536) (c ∷ []) ((0xD800 + (c - 65536) / 0x400) ∷ (0xDC00 + (c - 65536) % 0x400) ∷ []) (lt-ltb c 65536 h))

units_of_high : (c : ℕ) → 65536 ≤ c → length (encode_utf16 c) ≡ 2
units_of_high c h = ap length (cond-false (ltb c 65536) (c ∷ []) ((0xD800 + (c - 65536) / 0x400) ∷ (0xDC00 + (c - 65536) % 0x400) ∷ []) (le-ltb c 65536 h))

-- behind any byte, the bytes of a character and then some whose units are known
units_character : (c before n : ℕ) (bytes : List ℕ) → ((last : ℕ) → units last bytes ≡ n) → Shape c → units before (encode_utf8 c ++ bytes) ≡ length (encode_utf16 c) + n
units_character c before n bytes rest (one low e) =
    ap (λ xs. units before (xs ++ bytes)) e ∙ (begins before c bytes (is_continuation_low c low)
    ∙ (ap (λ k. 1 + k) (rest c) ∙ sym (ap (λ k. k + n) (units_of_low c (omega arith)))))
units_character c before n bytes rest (two a b low high go_b _ small e) =
    ap (λ xs. units before (xs ++ bytes)) e ∙ (begins before a (b ∷ bytes) (is_continuation_high a low)
    ∙ (ap (λ k. 1 + k) (begins_none a b bytes go_b (omega arith) ∙ rest b) ∙ sym (ap (λ k. k + n) (units_of_low c small))))
units_character c before n bytes rest (three a b d low high go_b go_d _ small e) =
    ap (λ xs. units before (xs ++ bytes)) e ∙ (begins before a (b ∷ d ∷ bytes) (is_continuation_high a (omega arith))
    ∙ (ap (λ k. 1 + k) (begins_none a b (d ∷ bytes) go_b (omega arith) ∙ (begins_none b d bytes go_d (omega (arith, go_b.high)) ∙ rest d))
    ∙ sym (ap (λ k. k + n) (units_of_low c small))))
units_character c before n bytes rest (four a b d f low go_b go_d go_f large e) =
    ap (λ xs. units before (xs ++ bytes)) e ∙ (begins before a (b ∷ d ∷ f ∷ bytes) (is_continuation_high a (omega arith))
    ∙ (ap (λ k. 1 + k) (begins_second a b (d ∷ f ∷ bytes) go_b low ∙ ap (λ k. 1 + k) (begins_none b d (f ∷ bytes) go_d (omega (arith, go_b.high)) ∙ (begins_none d f bytes go_f (omega (arith, go_d.high)) ∙ rest f)))
    ∙ (omega arith ∙ sym (ap (λ k. k + n) (units_of_high c large)))))

-- so has a text, whatever byte stands before it
units_text : (characters : List ℕ) (before : ℕ) → units before (encode_utf8_all characters) ≡ length (flat_map encode_utf16 characters)
units_text [] before = refl
units_text (c ∷ characters) before =
    units_character c before (length (flat_map encode_utf16 characters)) (encode_utf8_all characters) (units_text characters) (shape c)
    ∙ sym (length-append (encode_utf16 c) (flat_map encode_utf16 characters))

pub character_is_utf16 : (text characters : List ℕ) (offset : ℕ) → offset ≤ length text → slice_range text (line_start text offset) offset ≡ encode_utf8_all characters → (position_at text offset).character ≡ length (flat_map encode_utf16 characters)
character_is_utf16 text characters offset h e =
    let start = line_start text offset in
    let low = line_start_le text offset in
    let before = get_or text (start - 1) 0 in
    units_between text (offset - start) start (omega (arith, low)) ∙ (ap (units before) e ∙ units_text characters before)
