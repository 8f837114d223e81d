-- The positions behind the end of a text.
use Rattle.std.proofs.Common.{◌≡◌, ℕ, zero, suc, ◌+◌, ◌-◌, ◌≤◌, Bool, true, false, not, ◌||◌, ◌&&◌, ◌==◌, nat_le, cond, List, [], ◌∷◌, ◌++◌, length, slice_index, refl, sym, ◌∙◌, ap, subst, arith, add-one}
use Rattle.std.proofs.lemmas.Bool.{cond-false}
use Rattle.std.specs.List.{count_by, range_with_len}
use Rattle.std.proofs.lemmas.List.Sums.{sum_by_push, count_by-le-length}
use Rattle.std.proofs.lemmas.List.FromFn.{length-range_with_len}
use Rattle.ob_text.specs.Position.{count_between, ends_line, begins_unit, is_continuation, line_start, position_at}
use Rattle.ob_text.specs.declared.position.Position.{Position}

-- one place more is one more at the end
range_with_len_push : (a n : ℕ) → range_with_len a (suc n) ≡ range_with_len a n ++ (a + n) ∷ []
range_with_len_push a zero = ap (λ x. x ∷ []) (omega arith)
range_with_len_push a (suc n) =
    let e : a + 1 + n ≡ a + suc n = omega arith in
    ap (λ xs. a ∷ xs) (range_with_len_push (a + 1) n) ∙ ap (λ x. a ∷ (range_with_len (a + 1) n ++ x ∷ [])) e

count_more : (test : ℕ → Bool) (low n : ℕ) → count_by test (range_with_len low (suc n)) ≡ count_by test (range_with_len low n) + cond (test (low + n)) 1 0
count_more test low n =
    ap (count_by test) (range_with_len_push low n) ∙ sum_by_push (λ x. cond (test x) 1 0) (range_with_len low n) (low + n)

count_between_more : (test : ℕ → Bool) (low high : ℕ) → low ≤ high → count_between test low (suc high) ≡ count_between test low high + cond (test high) 1 0
count_between_more test low high h =
    let e : suc high - low ≡ suc (high - low) = omega arith in
    let f : low + (high - low) ≡ high = omega arith in
    ap (λ n. count_by test (range_with_len low n)) e ∙ (count_more test low (high - low) ∙ ap (λ k. count_between test low high + cond (test k) 1 0) f)

count_between_le : (test : ℕ → Bool) (low high : ℕ) → count_between test low high ≤ high - low
count_between_le test low high =
    let e = length-range_with_len low (high - low) in
    omega (arith, count_by-le-length test (range_with_len low (high - low)))

line_start_le : (text : List ℕ) (i : ℕ) → line_start text i ≤ i
line_start_le text zero = omega arith
line_start_le text (suc i) = go (ends_line text i) (line_start_le text i)
  where
    go : (b : Bool) → line_start text i ≤ i → cond b (suc i) (line_start text i) ≤ suc i
    go true h = omega arith
    go false h = omega arith

character_le : (text : List ℕ) (i : ℕ) → (position_at text i).character ≤ i
character_le text i = omega (arith, count_between_le (begins_unit text) (line_start text i) i)

-- a position by its numbers
position_is : (p : Position) (line character : ℕ) → line ≡ p.line → character ≡ p.character → ◌≡◌ {A = Position} (record { line = line; character = character }) p
position_is p line character e f = λ i. record { line = e i; character = f i }

count_passes : (test : ℕ → Bool) (low high : ℕ) → low ≤ high → test high ≡ true → count_between test low (suc high) ≡ count_between test low high + 1
count_passes test low high h e =
    count_between_more test low high h ∙ ap (λ b. count_between test low high + cond b 1 0) e

count_fails : (test : ℕ → Bool) (low high : ℕ) → low ≤ high → test high ≡ false → count_between test low (suc high) ≡ count_between test low high
count_fails test low high h e =
    count_between_more test low high h ∙ (ap (λ b. count_between test low high + cond b 1 0) e ∙ omega arith)

-- the line goes on behind a byte that ends none
line_goes_on : (text : List ℕ) (i : ℕ) → ends_line text i ≡ false → line_start text (suc i) ≡ line_start text i
line_goes_on text i h = cond-false (ends_line text i) (suc i) (line_start text i) h

next_is : (text : List ℕ) (i : ℕ) {p : Position} → p ≡ position_at text (suc i) → p ≡ position_at text (i + 1)
next_is text i e = e ∙ ap (position_at text) (sym (add-one i))

behind_unit : (text : List ℕ) (i : ℕ) → ends_line text i ≡ false → begins_unit text i ≡ true → ◌≡◌ {A = Position} (record { line = (position_at text i).line; character = (position_at text i).character + 1 }) (position_at text (i + 1))
behind_unit text i h k =
    next_is text i (position_is (position_at text (suc i)) (position_at text i).line ((position_at text i).character + 1)
    (sym (count_fails (ends_line text) 0 i (omega arith) h))
    (sym (ap (λ start. count_between (begins_unit text) start (suc i)) (line_goes_on text i h) ∙ count_passes (begins_unit text) (line_start text i) i (line_start_le text i) k)))

none_behind : (text : List ℕ) (k : ℕ) → slice_index text (length text + k) ≡ 0
none_behind [] k = refl
none_behind (x ∷ text) k =
    let e : length (x ∷ text) + k ≡ suc (length text + k) = omega arith in
    ap (slice_index (x ∷ text)) e ∙ none_behind text k

none_next : (text : List ℕ) (k : ℕ) → slice_index text (length text + k + 1) ≡ 0
none_next text k =
    let e : length text + k + 1 ≡ length text + (k + 1) = omega arith in
    ap (slice_index text) e ∙ none_behind text (k + 1)

no_end : (text : List ℕ) (k : ℕ) → ends_line text (length text + k) ≡ false
no_end text k =
    ap (λ b. (b == 10) || ((b == 13) && not (slice_index text (length text + k + 1) == 10))) (none_behind text k)

a_unit : (text : List ℕ) (k : ℕ) → begins_unit text (length text + k) ≡ true
a_unit text k = subst (λ b. (not (is_continuation b) || nat_le 240 (slice_index text (length text + k - 1))) ≡ true) (sym (none_behind text k)) refl

abbrev placed : ℕ → ℕ → Position
placed line character = record { line = line; character = character }

abbrev moved : Position → ℕ → Position
moved p k = placed p.line (p.character + k)

position_behind : (text : List ℕ) (k : ℕ) → moved (position_at text (length text)) k ≡ position_at text (length text + k)
position_behind text zero =
    let e : length text ≡ length text + 0 = omega arith in
    let f : (position_at text (length text)).character + 0 ≡ (position_at text (length text)).character = omega arith in
    ap (placed (position_at text (length text)).line) f ∙ ap (position_at text) e
position_behind text (suc k) =
    let e : length text + k + 1 ≡ length text + suc k = omega arith in
    let f : (position_at text (length text)).character + suc k ≡ (position_at text (length text)).character + k + 1 = omega arith in
    ap (placed (position_at text (length text)).line) f
    ∙ ap (λ (p : Position). placed p.line (p.character + 1)) (position_behind text k)
    ∙ behind_unit text (length text + k) (no_end text k) (a_unit text k)
    ∙ ap (position_at text) e

pub behind_is : (text : List ℕ) (offset : ℕ) (at : Position) → at ≡ position_at text (length text) → length text ≤ offset → ◌≡◌ {A = Position} (record { line = at.line; character = at.character + (offset - length text) }) (position_at text offset)
behind_is text offset at e h =
    let f : length text + (offset - length text) ≡ offset = omega (arith, h) in
    ap (λ (p : Position). moved p (offset - length text)) e ∙ position_behind text (offset - length text) ∙ ap (position_at text) f

pub character_fits : (text : List ℕ) (at : Position) → at ≡ position_at text (length text) → at.character ≤ length text
character_fits text at e = subst (λ (p : Position). p.character ≤ length text) (sym e) (character_le text (length text))
