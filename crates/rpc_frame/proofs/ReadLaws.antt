-- A header part is read to its end.
use Rattle.std.proofs.Common.{◌≡◌, ℕ, ◌+◌, ◌-◌, ◌*◌, ◌<◌, ◌≤◌, inl, inr, Bool, true, false, ◌&&◌, eqb, nat_lt, Option, Some, None, List, [], ◌∷◌, ◌++◌, length, drop, get_or, sym, ◌∙◌, ap, refl, arith, append_assoc, length-drop}
use Rattle.std.proofs.lemmas.List.{length-map, drop_more, drop_all}
use Rattle.std.proofs.lemmas.Bool.{and_parts, and_from, and_right, cond-true, cond-false, cases_Bool, eqb-true, eq-eqb, ne_eqb, ltb-true, lt-ltb, le-ltb}
use Rattle.std.specs.List.{flat_map}
use Rattle.std.specs.Char.{is_ascii_digit, to_ascii_lowercase}
use Rattle.rpc_frame.specs.Limits.{content_limit}
use Rattle.rpc_frame.specs.declared.head.Spot.TheVariants.{Field, Name, Value, Digits, Behind}
use Rattle.rpc_frame.specs.declared.head.Next.TheVariants.{Closed}
use Rattle.rpc_frame.specs.Frames.{name_byte, value_byte, blank_byte, EachPasses, HeaderLine, line_text, IsLine, AreLines, length_name, IsLengthName, AreDigits, number_behind, IsLength, LacksLength, OneLength, IsHeader}
use Rattle.rpc_frame.specs.Damages.{Lengths}
use Rattle.rpc_frame.specs.Heads.{on, length_next, goes_on, field_next, name_next, value_next, figure_next, digits_next, behind_next, end_next, closing_next, run, start, reading}
use Rattle.rpc_frame.proofs.Bytes.{low, name_no_colon, name_no_return, value_no_return, blank_no_return, blank_no_digit, is_digit, passes_not}
use Rattle.rpc_frame.proofs.RunLaws.{run_on}
use Rattle.rpc_frame.proofs.StandLaws.{length-length_name}

-- Names.
pub goes_at : (at b : ℕ) → goes_on at b ≡ true → (at < 14) × (to_ascii_lowercase b ≡ get_or length_name at 0)
unfolding goes_on
goes_at at b g =
    let parts = and_parts (nat_lt at 14) (eqb (to_ascii_lowercase b) (get_or length_name at 0)) g in
    (ltb-true at 14 parts.0, eqb-true (to_ascii_lowercase b) (get_or length_name at 0) parts.1)

at_goes : (at b : ℕ) → at < 14 → to_ascii_lowercase b ≡ get_or length_name at 0 → goes_on at b ≡ true
unfolding goes_on
at_goes at b inside same =
    and_from (nat_lt at 14) (eqb (to_ascii_lowercase b) (get_or length_name at 0)) (lt-ltb at 14 inside) (eq-eqb (to_ascii_lowercase b) (get_or length_name at 0) same)

field_step : (at : ℕ) (size : Option ℕ) (b : ℕ) (goes : Bool) → name_byte b ≡ true → goes_on at b ≡ goes → field_next at size b ≡ (elim goes [ true ↦ on size (Field (at + 1)) | false ↦ on size Name ])
unfolding field_next
field_step at size b true passes g =
    let closing : (eqb at 0 && eqb b 13) ≡ false = and_right (eqb at 0) (eqb b 13) (passes_not name_byte b 13 name_no_return passes) in
    let colon : (nat_lt 0 at && eqb b 58) ≡ false = and_right (nat_lt 0 at) (eqb b 58) (passes_not name_byte b 58 name_no_colon passes) in
    cond-false (eqb at 0 && eqb b 13) _ _ closing ∙ cond-false (nat_lt 0 at && eqb b 58) _ _ colon ∙ cond-true (name_byte b) _ _ passes ∙ cond-true (goes_on at b) _ _ g
field_step at size b false passes g =
    let closing : (eqb at 0 && eqb b 13) ≡ false = and_right (eqb at 0) (eqb b 13) (passes_not name_byte b 13 name_no_return passes) in
    let colon : (nat_lt 0 at && eqb b 58) ≡ false = and_right (nat_lt 0 at) (eqb b 58) (passes_not name_byte b 58 name_no_colon passes) in
    cond-false (eqb at 0 && eqb b 13) _ _ closing ∙ cond-false (nat_lt 0 at && eqb b 58) _ _ colon ∙ cond-true (name_byte b) _ _ passes ∙ cond-false (goes_on at b) _ _ g

pub field_goes_on : (at : ℕ) (size : Option ℕ) (b : ℕ) → name_byte b ≡ true → goes_on at b ≡ true → field_next at size b ≡ on size (Field (at + 1))
field_goes_on at size b passes g = field_step at size b true passes g

pub field_is_other : (at : ℕ) (size : Option ℕ) (b : ℕ) → name_byte b ≡ true → goes_on at b ≡ false → field_next at size b ≡ on size Name
field_is_other at size b passes g = field_step at size b false passes g

field_colon : (at : ℕ) (size : Option ℕ) → 0 < at → (at ≡ 14 → ⊥) → field_next at size 58 ≡ on size Value
unfolding field_next
field_colon at size some part =
    cond-false (eqb at 0 && eqb 58 13) _ _ (and_right (eqb at 0) (eqb 58 13) refl)
    ∙ cond-true (nat_lt 0 at && eqb 58 58) _ _ (and_from (nat_lt 0 at) (eqb 58 58) (lt-ltb 0 at some) refl)
    ∙ cond-false (eqb at 14) _ _ (ne_eqb at 14 part)

pub field_length_colon : (size : Option ℕ) → field_next 14 size 58 ≡ length_next size
unfolding field_next
field_length_colon size = refl

name_step : (size : Option ℕ) (b : ℕ) → name_byte b ≡ true → name_next size b ≡ on size Name
unfolding name_next
name_step size b passes = cond-false (eqb b 58) _ _ (passes_not name_byte b 58 name_no_colon passes) ∙ cond-true (name_byte b) _ _ passes

pub name_colon : (size : Option ℕ) → name_next size 58 ≡ on size Value
unfolding name_next
name_colon size = refl

pub name_run : (name : List ℕ) (size : Option ℕ) → EachPasses name_byte name → run (on size Name) name ≡ on size Name
name_run [] size h = refl
name_run (b ∷ name) size h = ap (λ n. run n name) (name_step size b h.0) ∙ name_run name size h.1

pub length_run : (name : List ℕ) (at : ℕ) (size : Option ℕ) → EachPasses name_byte name → low name ≡ drop at length_name → at ≤ 14 → run (on size (Field at)) name ≡ on size (Field 14)
length_run [] at size h e limit = ap (λ n. on size (Field n)) (omega (arith, ap length e, length-drop at length_name, length-length_name))
length_run (b ∷ name) at size h e limit =
    let inside : at < 14 = omega (arith, ap length e, length-drop at length_name, length-length_name, length-map (b ∷ name) to_ascii_lowercase) in
    let next : drop at length_name ≡ get_or length_name at 0 ∷ drop (at + 1) length_name = drop_more length_name at 0 (omega (arith, length-length_name)) in
    let same : to_ascii_lowercase b ≡ get_or length_name at 0 = cc in
    let rest : low name ≡ drop (at + 1) length_name = cc in
    ap (λ n. run n name) (field_goes_on at size b h.0 (at_goes at b inside same)) ∙ length_run name (at + 1) size h.1 rest (omega arith)

pub other_run : (name : List ℕ) (at : ℕ) (size : Option ℕ) → EachPasses name_byte name → (low name ≡ drop at length_name → ⊥) → at ≤ 14 → 0 < at + length name → run (on size (Field at)) (name ++ 58 ∷ []) ≡ on size Value
other_run [] at size h other limit some =
    field_colon at size (omega arith) (λ e. other (sym (drop_all at length_name (omega (arith, length-length_name)))))
other_run (b ∷ name) at size h other limit some = elim (cases_Bool (goes_on at b)) [
  | inl g ↦ (
      let here = goes_at at b g in
      let next : drop at length_name ≡ get_or length_name at 0 ∷ drop (at + 1) length_name = drop_more length_name at 0 (omega (arith, length-length_name, here.0)) in
      ap (λ n. run n (name ++ 58 ∷ [])) (field_goes_on at size b h.0 g)
      ∙ other_run name (at + 1) size h.1 (λ e. let same = here.1 in other cc) (omega (arith, here.0)) (omega arith)
      )
  | inr g ↦ ap (λ n. run n (name ++ 58 ∷ [])) (field_is_other at size b h.0 g) ∙ run_on (on size Name) (on size Name) name (58 ∷ []) (name_run name size h.1) ∙ name_colon size
]

-- Values.
value_step : (size : Option ℕ) (b : ℕ) → value_byte b ≡ true → value_next size b ≡ on size Value
unfolding value_next
value_step size b passes = cond-false (eqb b 13) _ _ (passes_not value_byte b 13 value_no_return passes) ∙ cond-true (value_byte b) _ _ passes

pub value_run : (value : List ℕ) (size : Option ℕ) → EachPasses value_byte value → run (on size Value) value ≡ on size Value
value_run [] size h = refl
value_run (b ∷ value) size h = ap (λ n. run n value) (value_step size b h.0) ∙ value_run value size h.1

pub value_end : (size : Option ℕ) → run (on size Value) (13 ∷ (10 ∷ [])) ≡ on size (Field 0)
unfolding value_next end_next
value_end size = refl

pub number_grows : (n : ℕ) (ds : List ℕ) → n ≤ number_behind n ds
number_grows n [] = omega arith
number_grows n (c ∷ ds) = omega (arith, number_grows (10 * n + (c - 48)) ds)

digit_step : (count number : ℕ) (size : Option ℕ) (d : ℕ) → is_ascii_digit d ≡ true → count < 8 → 10 * number + (d - 48) ≤ content_limit → digits_next count number size d ≡ on size (Digits (count + 1) (10 * number + (d - 48)))
unfolding digits_next figure_next
digit_step count number size d digit few fits =
    cond-true (is_ascii_digit d) _ _ digit ∙ cond-false (eqb count 8) _ _ (ne_eqb count 8 (λ e. omega arith))
    ∙ cond-false (nat_lt content_limit (10 * number + (d - 48))) _ _ (le-ltb content_limit (10 * number + (d - 48)) fits)

pub digits_run : (ds : List ℕ) (count number : ℕ) (size : Option ℕ) → AreDigits ds → count + length ds ≤ 8 → number_behind number ds ≤ content_limit → run (on size (Digits count number)) ds ≡ on size (Digits (count + length ds) (number_behind number ds))
digits_run [] count number size h few fits = ap (λ c. on size (Digits c number)) (omega arith)
digits_run (d ∷ ds) count number size h few fits =
    let next : ℕ = 10 * number + (d - 48) in
    ap (λ n. run n ds) (digit_step count number size d (is_digit d h.0) (omega arith) (omega (arith, fits, number_grows (10 * number + (d - 48)) ds)))
    ∙ digits_run ds (count + 1) next size h.1 (omega arith) fits
    ∙ ap (λ c. on size (Digits c (number_behind next ds))) (omega arith)

blank_step : (size : Option ℕ) (b : ℕ) → blank_byte b ≡ true → digits_next 0 0 size b ≡ on size (Digits 0 0)
unfolding digits_next
blank_step size b blank =
    cond-false (is_ascii_digit b) _ _ (blank_no_digit b blank) ∙ cond-false (eqb b 13) _ _ (passes_not blank_byte b 13 blank_no_return blank) ∙ cond-true (blank_byte b) _ _ blank

pub blanks_run : (bs : List ℕ) (size : Option ℕ) → EachPasses blank_byte bs → run (on size (Digits 0 0)) bs ≡ on size (Digits 0 0)
blanks_run [] size h = refl
blanks_run (b ∷ bs) size h = ap (λ n. run n bs) (blank_step size b h.0) ∙ blanks_run bs size h.1

pub blank_behind : (count number : ℕ) (size : Option ℕ) (b : ℕ) → 0 < count → blank_byte b ≡ true → digits_next count number size b ≡ on size (Behind number)
unfolding digits_next
blank_behind count number size b some blank =
    cond-false (is_ascii_digit b) _ _ (blank_no_digit b blank) ∙ cond-false (eqb b 13) _ _ (passes_not blank_byte b 13 blank_no_return blank)
    ∙ cond-true (blank_byte b) _ _ blank ∙ cond-false (eqb count 0) _ _ (ne_eqb count 0 (λ e. omega arith))

behind_step : (number : ℕ) (size : Option ℕ) (b : ℕ) → blank_byte b ≡ true → behind_next number size b ≡ on size (Behind number)
unfolding behind_next
behind_step number size b blank = cond-false (eqb b 13) _ _ (passes_not blank_byte b 13 blank_no_return blank) ∙ cond-true (blank_byte b) _ _ blank

pub behind_run : (bs : List ℕ) (number : ℕ) (size : Option ℕ) → EachPasses blank_byte bs → run (on size (Behind number)) bs ≡ on size (Behind number)
behind_run [] number size h = refl
behind_run (b ∷ bs) number size h = ap (λ n. run n bs) (behind_step number size b h.0) ∙ behind_run bs number size h.1

pub behind_end : (number : ℕ) (size : Option ℕ) → run (on size (Behind number)) (13 ∷ (10 ∷ [])) ≡ on (Some number) (Field 0)
unfolding behind_next end_next
behind_end number size = refl

pub digits_end : (count number : ℕ) (size : Option ℕ) → 0 < count → run (on size (Digits count number)) (13 ∷ (10 ∷ [])) ≡ on (Some number) (Field 0)
unfolding digits_next end_next
digits_end count number size some = ap (λ n. run n (10 ∷ [])) (cond-false (eqb count 0) _ _ (ne_eqb count 0 (λ e. omega arith)))

-- blanks behind digits, and the line end
after_run : (bs : List ℕ) (count number : ℕ) (size : Option ℕ) → 0 < count → EachPasses blank_byte bs → run (on size (Digits count number)) (bs ++ (13 ∷ (10 ∷ []))) ≡ on (Some number) (Field 0)
after_run [] count number size some h = digits_end count number size some
after_run (b ∷ bs) count number size some h =
    ap (λ n. run n (bs ++ (13 ∷ (10 ∷ [])))) (blank_behind count number size b some h.0)
    ∙ run_on (on size (Behind number)) (on size (Behind number)) bs (13 ∷ (10 ∷ [])) (behind_run bs number size h.1) ∙ behind_end number size

-- Lines.
pub other_line : (l : HeaderLine) (size : Option ℕ) → IsLine l → (IsLengthName l.name → ⊥) → run (on size (Field 0)) (line_text l) ≡ on size (Field 0)
other_line l size is other =
    ap (run (on size (Field 0))) (sym (append_assoc l.name (58 ∷ []) (l.value ++ (13 ∷ (10 ∷ [])))))
    ∙ run_on (on size (Field 0)) (on size Value) (l.name ++ 58 ∷ []) (l.value ++ (13 ∷ (10 ∷ []))) (other_run l.name 0 size is.name other (omega arith) (omega (arith, is.some)))
    ∙ run_on (on size Value) (on size Value) l.value (13 ∷ (10 ∷ [])) (value_run l.value size is.value)
    ∙ value_end size

-- the name of the length and its colon
pub length_colon : (name x : List ℕ) (size : Option ℕ) → EachPasses name_byte name → IsLengthName name → run (on size (Field 0)) (name ++ (58 ∷ x)) ≡ run (length_next size) x
length_colon name x size passes named =
    run_on (on size (Field 0)) (on size (Field 14)) name (58 ∷ x) (length_run name 0 size passes named (omega arith)) ∙ ap (λ n. run n x) (field_length_colon size)

-- blanks and digits behind it
pub to_digits : (before digits x : List ℕ) → EachPasses blank_byte before → AreDigits digits → length digits ≤ 8 → number_behind 0 digits ≤ content_limit → run (on None (Digits 0 0)) (before ++ (digits ++ x)) ≡ run (on None (Digits (length digits) (number_behind 0 digits))) x
to_digits before digits x blank each few fits =
    run_on (on None (Digits 0 0)) (on None (Digits 0 0)) before (digits ++ x) (blanks_run before None blank)
    ∙ run_on (on None (Digits 0 0)) (on None (Digits (0 + length digits) (number_behind 0 digits))) digits x (digits_run digits 0 0 None each (omega arith) fits)
    ∙ ap (λ c. run (on None (Digits c (number_behind 0 digits))) x) (omega arith)

pub length_line : (l : HeaderLine) (size : ℕ) → IsLine l → IsLengthName l.name → IsLength l.value size → run (on None (Field 0)) (line_text l) ≡ on (Some size) (Field 0)
length_line l size is named v =
    let ends : List ℕ = 13 ∷ (10 ∷ []) in
    let number : number_behind 0 v.digits ≡ size = v.sized.number in
    length_colon l.name (l.value ++ ends) None is.name named
    ∙ ap (run (on None (Digits 0 0))) (ap (λ t. t ++ ends) v.whole ∙ append_assoc v.before (v.digits ++ v.after) ends ∙ ap (λ t. v.before ++ t) (append_assoc v.digits v.after ends))
    ∙ to_digits v.before v.digits (v.after ++ ends) v.blank_before v.sized.each v.sized.eight (omega (arith, v.sized.limit))
    ∙ after_run v.after (length v.digits) (number_behind 0 v.digits) None v.sized.one v.blank_after
    ∙ ap (λ n. on (Some n) (Field 0)) number

none_lines : (ls : List HeaderLine) (size : Option ℕ) → AreLines ls → LacksLength ls → run (on size (Field 0)) (flat_map line_text ls) ≡ on size (Field 0)
none_lines [] size each h = refl
none_lines (l ∷ ls) size each h =
    run_on (on size (Field 0)) (on size (Field 0)) (line_text l) (flat_map line_text ls) (other_line l size each.0 h.0) ∙ none_lines ls size each.1 h.1

one_lines : (ls : List HeaderLine) (size : ℕ) → AreLines ls → OneLength ls size → run (on None (Field 0)) (flat_map line_text ls) ≡ on (Some size) (Field 0)
one_lines [] size each h = absurd h
one_lines (l ∷ ls) size each h = elim h [
  | inl p ↦ run_on (on None (Field 0)) (on (Some size) (Field 0)) (line_text l) (flat_map line_text ls) (length_line l size each.0 p.0 p.1) ∙ none_lines ls (Some size) each.1 p.2
  | inr p ↦ run_on (on None (Field 0)) (on None (Field 0)) (line_text l) (flat_map line_text ls) (other_line l None each.0 p.0) ∙ one_lines ls size each.1 p.1
]

pub lines_run : (ls : List HeaderLine) (size : Option ℕ) → AreLines ls → Lengths ls size → reading (flat_map line_text ls) ≡ on size (Field 0)
lines_run ls None each h = none_lines ls None each h
lines_run ls (Some size) each h = one_lines ls size each h

closing_run : (size : ℕ) → run (on (Some size) (Field 0)) (13 ∷ (10 ∷ [])) ≡ Closed size
unfolding field_next closing_next
closing_run size = refl

pub header_closed : (header : List ℕ) (size : ℕ) → IsHeader header size → reading header ≡ Closed size
header_closed header size h =
    ap reading h.whole
    ∙ run_on start (on (Some size) (Field 0)) (flat_map line_text h.lines) (13 ∷ (10 ∷ [])) (lines_run h.lines (Some size) h.each h.once)
    ∙ closing_run size
