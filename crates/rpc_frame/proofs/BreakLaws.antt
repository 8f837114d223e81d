-- A byte that is damage of a kind leads to that kind, so a damage has one kind.
use Rattle.std.proofs.Common.{◌≡◌, ◌≢◌, ℕ, ◌+◌, ◌-◌, ◌*◌, ◌<◌, ◌⊎◌, inl, inr, Bool, true, false, ◌&&◌, eqb, nat_lt, Option, Some, None, List, [], ◌∷◌, ◌++◌, length, sym, ◌∙◌, ap, subst, refl, arith, append_assoc}
use Rattle.std.proofs.lemmas.Bool.{and_left, and_right, cond-true, cond-false, cond_both, cases_Bool, cases_eq, both_ways, false_from_ne_true, eqb-true, eq-eqb, ne_eqb, lt-ltb, le-ltb}
use Rattle.std.specs.Char.{is_ascii_digit}
use Rattle.rpc_frame.specs.Limits.{content_limit}
use Rattle.rpc_frame.specs.declared.damage.DamageKind.{DamageKind}
use Rattle.rpc_frame.specs.declared.damage.DamageKind.TheVariants.{BadLine, TwoLengths, BadLength, TooLong, NoLength, HeaderTooLong, Truncated}
use Rattle.rpc_frame.specs.declared.head.Spot.{Spot}
use Rattle.rpc_frame.specs.declared.head.Spot.TheVariants.{Field, Name, Value, Digits, Behind, LineEnd, Closing}
use Rattle.rpc_frame.specs.declared.head.Head.{Head}
use Rattle.rpc_frame.specs.declared.head.Next.{Next}
use Rattle.rpc_frame.specs.declared.head.Next.TheVariants.{On, Closed, Bad}
use Rattle.rpc_frame.specs.Frames.{name_byte, value_byte, blank_byte, EachPasses, HeaderLine, IsLine, IsLengthName, AreDigits, number_behind}
use Rattle.rpc_frame.specs.Damages.{BreaksName, BreaksValue, BreaksEnd, BreaksClosing, InDigits, BreaksDigits, BreaksBehind, PassesLimit, IsOfKind}
use Rattle.rpc_frame.specs.Heads.{on, lines_next, length_next, goes_on, field_next, name_next, value_next, other_next, figure_next, digits_next, behind_next, end_next, closing_next, spot_next, run}
use Rattle.rpc_frame.proofs.Bytes.{name_no_colon, value_no_return, blank_value, digit_is, is_digit, digit_value, passes_not}
use Rattle.rpc_frame.proofs.RunLaws.{run_bad, run_on, closed_on}
use Rattle.rpc_frame.proofs.StandLaws.{number_behind-append}
use Rattle.rpc_frame.proofs.ReadLaws.{field_goes_on, field_is_other, name_run, name_colon, length_run, field_length_colon, length_colon, blanks_run, blank_behind, behind_run}

-- What comes of the bytes of a line, and of the byte behind them.
abbrev LeadsTo : Option ℕ → List ℕ → Head → Type 0
LeadsTo size line head = run (on size (Field 0)) line ≡ On head

abbrev Stops : Head → ℕ → DamageKind → Type 0
Stops head b kind = spot_next head.spot head.size b ≡ Bad kind

-- the same of a head that is known
stops_at : (head : Head) (size : Option ℕ) (spot : Spot) (b : ℕ) (kind : DamageKind) → on size spot ≡ On head → spot_next spot size b ≡ Bad kind → Stops head b kind
stops_at head size spot b kind e stop =
    let h : record { size = size; spot = spot } ≡ head = cc in
    subst (λ (k : Head). Stops k b kind) h stop

pub record LeadsOn (n : Next) (x : List ℕ) : Type 0 where
  pub head : Head
  pub on : run n x ≡ On head

-- a name leads on inside a name
name_spots : (name : List ℕ) (at : ℕ) (size : Option ℕ) → EachPasses name_byte name → (run (on size (Field at)) name ≡ on size (Field (at + length name))) ⊎ ((run (on size (Field at)) name ≡ on size Name) × (0 < length name))
name_spots [] at size h = inl (ap (λ n. on size (Field n)) (omega arith))
name_spots (b ∷ name) at size h = elim (cases_Bool (goes_on at b)) [
  | inl g ↦ elim (name_spots name (at + 1) size h.1) [
    | inl e ↦ inl (ap (λ n. run n name) (field_goes_on at size b h.0 g) ∙ e ∙ ap (λ n. on size (Field n)) (omega arith))
    | inr e ↦ inr (ap (λ n. run n name) (field_goes_on at size b h.0 g) ∙ e.0, omega arith)
  ]
  | inr g ↦ inr (ap (λ n. run n name) (field_is_other at size b h.0 g) ∙ name_run name size h.1, omega arith)
]

field_stops_at : (at : ℕ) (size : Option ℕ) (b : ℕ) → name_byte b ≡ false → (b ≡ 58 → at ≡ 0) → (b ≡ 13 → at ≡ 0 → ⊥) → field_next at size b ≡ Bad BadLine
unfolding field_next
field_stops_at at size b other colon closing =
    let first : (eqb at 0 && eqb b 13) ≡ false = elim (cases_eq b 13) [
      | inl e ↦ and_left (eqb at 0) (eqb b 13) (ne_eqb at 0 (closing e))
      | inr n ↦ and_right (eqb at 0) (eqb b 13) (ne_eqb b 13 n)
    ] in
    let second : (nat_lt 0 at && eqb b 58) ≡ false = elim (cases_eq b 58) [
      | inl e ↦ and_left (nat_lt 0 at) (eqb b 58) (le-ltb 0 at (omega (arith, colon e)))
      | inr n ↦ and_right (nat_lt 0 at) (eqb b 58) (ne_eqb b 58 n)
    ] in
    cond-false (eqb at 0 && eqb b 13) _ _ first ∙ cond-false (nat_lt 0 at && eqb b 58) _ _ second ∙ cond-false (name_byte b) _ _ other

name_stops_at : (size : Option ℕ) (b : ℕ) → name_byte b ≡ false → (b ≡ 58 → ⊥) → name_next size b ≡ Bad BadLine
unfolding name_next
name_stops_at size b other colon = cond-false (eqb b 58) _ _ (ne_eqb b 58 colon) ∙ cond-false (name_byte b) _ _ other

name_breaks : (size : Option ℕ) (line : List ℕ) (b : ℕ) (head : Head) → BreaksName line b → LeadsTo size line head → Stops head b BadLine
name_breaks size line b head r leads = elim (name_spots line 0 size r.name) [
  | inl e ↦ stops_at head size (Field (0 + length line)) b BadLine (sym e ∙ leads)
      (field_stops_at (0 + length line) size b r.other (λ c. omega (arith, ap length (r.colon c))) (λ c e. r.closing c (none line (omega arith))))
  | inr e ↦ stops_at head size Name b BadLine (sym e.0 ∙ leads) (name_stops_at size b r.other (λ c. omega (arith, e.1, ap length (r.colon c))))
] where
  none : (xs : List ℕ) → length xs ≡ 0 → xs ≡ []
  none [] e = refl
  none (x ∷ xs) e = absurd (omega arith)

-- What a value leads to.
abbrev IsValueSpot : Spot → Type 0
IsValueSpot (Field at) = ⊥
IsValueSpot Name = ⊥
IsValueSpot Value = Unit {0}
IsValueSpot (Digits count number) = Unit {0}
IsValueSpot (Behind number) = Unit {0}
IsValueSpot LineEnd = ⊥
IsValueSpot (Closing size) = ⊥

abbrev IsInValue : Next → Type 0
IsInValue (On head) = IsValueSpot head.spot
IsInValue (Closed size) = ⊥
IsInValue (Bad kind) = Unit {0}

other_in_value : (b : ℕ) → IsInValue (other_next b)
unfolding other_next
other_in_value b = cond_both (value_byte b) _ _ IsInValue (λ _. tt) (λ _. tt)

spot_in_value : (spot : Spot) (size : Option ℕ) (b : ℕ) → IsValueSpot spot → value_byte b ≡ true → IsInValue (spot_next spot size b)
unfolding value_next digits_next figure_next behind_next
spot_in_value (Field at) size b h passes = absurd h
spot_in_value Name size b h passes = absurd h
spot_in_value Value size b h passes =
    let going : b ≡ 13 → ⊥ = λ e. both_ways (value_byte b) (ap value_byte e ∙ value_no_return) passes in
    cond_both (eqb b 13) _ _ IsInValue (λ ends. absurd (going (eqb-true b 13 ends))) (λ _. cond_both (value_byte b) _ _ IsInValue (λ _. tt) (λ _. tt))
spot_in_value (Digits count number) size b h passes =
    let going : b ≡ 13 → ⊥ = λ e. both_ways (value_byte b) (ap value_byte e ∙ value_no_return) passes in
    cond_both (is_ascii_digit b) _ _ IsInValue
    (λ _. cond_both (eqb count 8) _ _ IsInValue (λ _. tt) (λ _. cond_both (nat_lt content_limit (10 * number + (b - 48))) _ _ IsInValue (λ _. tt) (λ _. tt)))
    (λ _. cond_both (eqb b 13) _ _ IsInValue (λ ends. absurd (going (eqb-true b 13 ends)))
    (λ _. cond_both (blank_byte b) _ _ IsInValue (λ _. cond_both (eqb count 0) _ _ IsInValue (λ _. tt) (λ _. tt)) (λ _. other_in_value b)))
spot_in_value (Behind number) size b h passes =
    let going : b ≡ 13 → ⊥ = λ e. both_ways (value_byte b) (ap value_byte e ∙ value_no_return) passes in
    cond_both (eqb b 13) _ _ IsInValue (λ ends. absurd (going (eqb-true b 13 ends))) (λ _. cond_both (blank_byte b) _ _ IsInValue (λ _. tt) (λ _. other_in_value b))
spot_in_value LineEnd size b h passes = absurd h
spot_in_value (Closing said) size b h passes = absurd h

run_in_value : (value : List ℕ) (n : Next) → IsInValue n → EachPasses value_byte value → IsInValue (run n value)
run_in_value [] n h passes = h
run_in_value (b ∷ value) (On head) h passes = run_in_value value (spot_next head.spot head.size b) (spot_in_value head.spot head.size b h passes.0) passes.1
run_in_value (b ∷ value) (Closed size) h passes = absurd h
run_in_value (b ∷ value) (Bad kind) h passes = tt

-- a name and its colon lead into a value
colon_in_value : (name : List ℕ) (size : Option ℕ) → EachPasses name_byte name → 0 < length name → IsInValue (run (on size (Field 0)) (name ++ 58 ∷ []))
unfolding field_next
colon_in_value name size passes some = elim (name_spots name 0 size passes) [
  | inl e ↦ subst IsInValue (sym (run_on (on size (Field 0)) (on size (Field (0 + length name))) name (58 ∷ []) e))
      (cond_both (eqb (0 + length name) 0 && eqb 58 13) _ _ IsInValue
      (λ closing. absurd (both_ways (eqb (0 + length name) 0 && eqb 58 13) (and_right (eqb (0 + length name) 0) (eqb 58 13) refl) closing))
      (λ _. cond_both (nat_lt 0 (0 + length name) && eqb 58 58) _ _ IsInValue
      (λ _. cond_both (eqb (0 + length name) 14) _ _ IsInValue (λ _. length_in_value size) (λ _. tt))
      (λ _. cond_both (name_byte 58) _ _ IsInValue (λ letter. absurd (colon_no_name letter)) (λ _. tt))))
  | inr e ↦ subst IsInValue (sym (run_on (on size (Field 0)) (on size Name) name (58 ∷ []) e.0 ∙ name_colon size)) tt
] where
  length_in_value : (size : Option ℕ) → IsInValue (length_next size)
  length_in_value None = tt
  length_in_value (Some n) = tt

  colon_no_name : name_byte 58 ≡ true → ⊥
  colon_no_name e = both_ways (name_byte 58) name_no_colon e

text_in_value : (text : HeaderLine) (size : Option ℕ) → IsLine text → IsInValue (run (on size (Field 0)) (text.name ++ (58 ∷ text.value)))
text_in_value text size is =
    let first = run (on size (Field 0)) (text.name ++ 58 ∷ []) in
    subst IsInValue (sym (ap (run (on size (Field 0))) (sym (append_assoc text.name (58 ∷ []) text.value)) ∙ run_on (on size (Field 0)) first (text.name ++ 58 ∷ []) text.value refl))
    (run_in_value text.value first (colon_in_value text.name size is.name is.some) is.value)

other_stops : (b : ℕ) → value_byte b ≡ false → other_next b ≡ Bad BadLine
unfolding other_next
other_stops b other = cond-false (value_byte b) _ _ other

fails_from : (test : ℕ → Bool) (b : ℕ) → (test b ≡ true → value_byte b ≡ true) → value_byte b ≡ false → test b ≡ false
fails_from test b implies other = false_from_ne_true (test b) (λ e. both_ways (value_byte b) other (implies e))

spot_stops : (spot : Spot) (size : Option ℕ) (b : ℕ) → IsValueSpot spot → value_byte b ≡ false → (b ≡ 13 → ⊥) → spot_next spot size b ≡ Bad BadLine
unfolding value_next digits_next behind_next
spot_stops (Field at) size b h other going = absurd h
spot_stops Name size b h other going = absurd h
spot_stops Value size b h other going = cond-false (eqb b 13) _ _ (ne_eqb b 13 going) ∙ cond-false (value_byte b) _ _ other
spot_stops (Digits count number) size b h other going =
    cond-false (is_ascii_digit b) _ _ (fails_from is_ascii_digit b (λ e. digit_value b (digit_is b e)) other)
    ∙ cond-false (eqb b 13) _ _ (ne_eqb b 13 going) ∙ cond-false (blank_byte b) _ _ (fails_from blank_byte b (blank_value b) other) ∙ other_stops b other
spot_stops (Behind number) size b h other going =
    cond-false (eqb b 13) _ _ (ne_eqb b 13 going) ∙ cond-false (blank_byte b) _ _ (fails_from blank_byte b (blank_value b) other) ∙ other_stops b other
spot_stops LineEnd size b h other going = absurd h
spot_stops (Closing said) size b h other going = absurd h

value_breaks : (size : Option ℕ) (line : List ℕ) (b : ℕ) (head : Head) → BreaksValue line b → LeadsTo size line head → Stops head b BadLine
value_breaks size line b head r leads =
    let here : IsInValue (On head) = subst IsInValue (sym (ap (run (on size (Field 0))) r.whole) ∙ leads) (text_in_value r.text size r.is) in
    spot_stops head.spot head.size b here r.other r.end

-- the CR behind a value leads to a line end
abbrev IsEnd : Next → Type 0
IsEnd (On head) = head.spot ≡ LineEnd
IsEnd (Closed size) = ⊥
IsEnd (Bad kind) = Unit {0}

spot_ends : (spot : Spot) (size : Option ℕ) → IsValueSpot spot → IsEnd (spot_next spot size 13)
unfolding value_next digits_next behind_next
spot_ends (Field at) size h = absurd h
spot_ends Name size h = absurd h
spot_ends Value size h = refl
spot_ends (Digits count number) size h = cond_both (eqb count 0) _ _ IsEnd (λ _. tt) (λ _. refl)
spot_ends (Behind number) size h = refl
spot_ends LineEnd size h = absurd h
spot_ends (Closing said) size h = absurd h

value_ends : (n : Next) → IsInValue n → IsEnd (run n (13 ∷ []))
value_ends (On head) h = spot_ends head.spot head.size h
value_ends (Closed size) h = absurd h
value_ends (Bad kind) h = tt

end_stops : (spot : Spot) (size : Option ℕ) (b : ℕ) → spot ≡ LineEnd → b ≢ 10 → spot_next spot size b ≡ Bad BadLine
unfolding end_next
end_stops spot size b e other = ap (λ s. spot_next s size b) e ∙ cond-false (eqb b 10) _ _ (ne_eqb b 10 other)

end_breaks : (size : Option ℕ) (line : List ℕ) (b : ℕ) (head : Head) → BreaksEnd line b → LeadsTo size line head → Stops head b BadLine
end_breaks size line b head r leads =
    let text : List ℕ = r.text.name ++ (58 ∷ r.text.value) in
    let first = run (on size (Field 0)) text in
    let shown : line ≡ text ++ 13 ∷ [] = r.whole ∙ sym (append_assoc r.text.name (58 ∷ r.text.value) (13 ∷ [])) in
    let here : IsEnd (On head) = subst IsEnd (sym (run_on (on size (Field 0)) first text (13 ∷ []) refl) ∙ sym (ap (run (on size (Field 0))) shown) ∙ leads)
    (value_ends first (text_in_value r.text size r.is)) in
    end_stops head.spot head.size b here r.other

closing_leads : (size : Option ℕ) → run (on size (Field 0)) (13 ∷ []) ≡ lines_next size
unfolding field_next
closing_leads size = refl

closing_breaks : (size : Option ℕ) (line : List ℕ) (b : ℕ) (head : Head) → BreaksClosing line b → LeadsTo size line head → Stops head b BadLine
unfolding closing_next
closing_breaks None line b head r leads = let e = sym (closing_leads None) ∙ sym (ap (run (on None (Field 0))) r.whole) ∙ leads in cc
closing_breaks (Some size) line b head r leads =
    stops_at head (Some size) (Closing size) b BadLine (sym (closing_leads (Some size)) ∙ sym (ap (run (on (Some size) (Field 0))) r.whole) ∙ leads)
    (cond-false (eqb b 10) _ _ (ne_eqb b 10 r.other))

-- The name of the length and its colon.
two_break : (size : Option ℕ) (line : List ℕ) (b : ℕ) (head : Head) → size ≢ None → EachPasses name_byte line → IsLengthName line → b ≡ 58 → LeadsTo size line head → Stops head b TwoLengths
two_break None line b head some passes named colon leads = absurd (some refl)
two_break (Some size) line b head some passes named colon leads =
    stops_at head (Some size) (Field 14) b TwoLengths (sym (length_run line 0 (Some size) passes named (omega arith)) ∙ leads)
    (ap (field_next 14 (Some size)) colon ∙ field_length_colon (Some size))

bad_goes_nowhere : (kind : DamageKind) (x : List ℕ) (head : Head) → run (Bad kind) x ≡ On head → ⊥
bad_goes_nowhere kind x head e = let b = run_bad kind x in cc

-- digits that lead on are so many, and write this number
figure_leads : (count number : ℕ) (size : Option ℕ) (d : ℕ) (ds : List ℕ) (head : Head) → is_ascii_digit d ≡ true → run (digits_next count number size d) ds ≡ On head → digits_next count number size d ≡ on size (Digits (count + 1) (10 * number + (d - 48)))
unfolding digits_next figure_next
figure_leads count number size d ds head digit =
    cond_both (is_ascii_digit d) _ _ (λ n. run n ds ≡ On head → n ≡ on size (Digits (count + 1) (10 * number + (d - 48))))
    (λ _. cond_both (eqb count 8) _ _ (λ n. run n ds ≡ On head → n ≡ on size (Digits (count + 1) (10 * number + (d - 48))))
    (λ _ e. absurd (bad_goes_nowhere BadLength ds head e))
    (λ _. cond_both (nat_lt content_limit (10 * number + (d - 48))) _ _ (λ n. run n ds ≡ On head → n ≡ on size (Digits (count + 1) (10 * number + (d - 48))))
    (λ _ e. absurd (bad_goes_nowhere TooLong ds head e))
    (λ _ e. refl)))
    (λ other. absurd (both_ways (is_ascii_digit d) other digit))

digits_lead : (ds : List ℕ) (count number : ℕ) (size : Option ℕ) (head : Head) → AreDigits ds → run (on size (Digits count number)) ds ≡ On head → on size (Digits (count + length ds) (number_behind number ds)) ≡ On head
digits_lead [] count number size head h e = ap (λ c. on size (Digits c number)) (omega arith) ∙ e
digits_lead (d ∷ ds) count number size head h e =
    let next : ℕ = 10 * number + (d - 48) in
    let here = figure_leads count number size d ds head (is_digit d h.0) e in
    ap (λ c. on size (Digits c (number_behind next ds))) (omega arith) ∙ digits_lead ds (count + 1) next size head h.1 (sym (ap (λ n. run n ds) here) ∙ e)

-- the value of a Content-Length up to its digits
in_digits : (line digits : List ℕ) (head : Head) → InDigits line digits → LeadsTo None line head → on None (Digits (length digits) (number_behind 0 digits)) ≡ On head
in_digits line digits head r leads =
    let shown = sym (ap (run (on None (Field 0))) r.whole ∙ length_colon r.name (r.before ++ digits) None r.passes r.named
    ∙ run_on (on None (Digits 0 0)) (on None (Digits 0 0)) r.before digits (blanks_run r.before None r.blank)) ∙ leads in
    ap (λ c. on None (Digits c (number_behind 0 digits))) (omega arith) ∙ digits_lead digits 0 0 None head r.each shown

bad_length : (b : ℕ) → value_byte b ≡ true → other_next b ≡ Bad BadLength
unfolding other_next
bad_length b passes = cond-true (value_byte b) _ _ passes

digits_stop : (count number b : ℕ) → ((value_byte b ≡ true) × (is_ascii_digit b ≡ false) × (blank_byte b ≡ false)) ⊎ (((is_ascii_digit b ≡ true) × (count ≡ 8)) ⊎ ((b ≡ 13) × (count ≡ 0))) → digits_next count number None b ≡ Bad BadLength
unfolding digits_next figure_next
digits_stop count number b h = elim h [
  | inl p ↦ cond-false (is_ascii_digit b) _ _ p.1 ∙ cond-false (eqb b 13) _ _ (passes_not value_byte b 13 value_no_return p.0) ∙ cond-false (blank_byte b) _ _ p.2 ∙ bad_length b p.0
  | inr q ↦ elim q [
    | inl p ↦ cond-true (is_ascii_digit b) _ _ p.0 ∙ cond-true (eqb count 8) _ _ (eq-eqb count 8 p.1)
    | inr p ↦ cond-false (is_ascii_digit b) _ _ (ap is_ascii_digit p.0) ∙ cond-true (eqb b 13) _ _ (eq-eqb b 13 p.0) ∙ cond-true (eqb count 0) _ _ (eq-eqb count 0 p.1)
  ]
]

digits_break : (line : List ℕ) (b : ℕ) (head : Head) → BreaksDigits line b → LeadsTo None line head → Stops head b BadLength
digits_break line b head r leads =
    stops_at head None (Digits (length r.digits) (number_behind 0 r.digits)) b BadLength (in_digits line r.digits head r.stands leads)
    (digits_stop (length r.digits) (number_behind 0 r.digits) b (elim r.breaks [
      | inl p ↦ inl p
      | inr q ↦ inr (elim q [ inl p ↦ inl p | inr p ↦ inr (p.0, ap length p.1) ])
    ]))

-- some bytes lead on only where the first of them do
first_leads : (n : Next) (x y : List ℕ) (head : Head) → run n (x ++ y) ≡ On head → LeadsOn n x
first_leads n x y head e = shown (run n x) (sym (run_on n (run n x) x y refl) ∙ e) refl where
  shown : (m : Next) → run m y ≡ On head → run n x ≡ m → LeadsOn n x
  shown (On h) g i = record { head = h; on = i }
  shown (Closed size) g i = absurd (closed_on size y head g)
  shown (Bad kind) g i = absurd (bad_goes_nowhere kind y head g)

blanks_lead : (count number : ℕ) (after : List ℕ) → 0 < count → 0 < length after → EachPasses blank_byte after → run (on None (Digits count number)) after ≡ on None (Behind number)
blanks_lead count number [] some more h = absurd (omega arith)
blanks_lead count number (b ∷ after) some more h = ap (λ n. run n after) (blank_behind count number None b some h.0) ∙ behind_run after number None h.1

behind_stops : (number b : ℕ) → value_byte b ≡ true → blank_byte b ≡ false → behind_next number None b ≡ Bad BadLength
unfolding behind_next
behind_stops number b passes solid = cond-false (eqb b 13) _ _ (passes_not value_byte b 13 value_no_return passes) ∙ cond-false (blank_byte b) _ _ solid ∙ bad_length b passes

behind_breaks : (line : List ℕ) (b : ℕ) (head : Head) → BreaksBehind line b → LeadsTo None line head → Stops head b BadLength
behind_breaks line b head r leads =
    let h = r.behind in
    let whole : run (on None (Field 0)) (h.front ++ h.after) ≡ On head = sym (ap (run (on None (Field 0))) h.whole) ∙ leads in
    let front = first_leads (on None (Field 0)) h.front h.after head whole in
    let here : on None (Digits (length h.digits) (number_behind 0 h.digits)) ≡ On front.head = in_digits h.front h.digits front.head h.stands front.on in
    let after = blanks_lead (length h.digits) (number_behind 0 h.digits) h.after h.one h.some h.blank in
    stops_at head None (Behind (number_behind 0 h.digits)) b BadLength
    (sym after ∙ ap (λ n. run n h.after) here ∙ sym (run_on (on None (Field 0)) (On front.head) h.front h.after front.on) ∙ whole)
    (behind_stops (number_behind 0 h.digits) b r.other.0 r.other.1)

limit_stops : (count number b : ℕ) → count < 8 → is_ascii_digit b ≡ true → content_limit < 10 * number + (b - 48) → digits_next count number None b ≡ Bad TooLong
unfolding digits_next figure_next
limit_stops count number b few digit large =
    cond-true (is_ascii_digit b) _ _ digit ∙ cond-false (eqb count 8) _ _ (ne_eqb count 8 (λ e. omega arith))
    ∙ cond-true (nat_lt content_limit (10 * number + (b - 48))) _ _ (lt-ltb content_limit (10 * number + (b - 48)) large)

limit_breaks : (line : List ℕ) (b : ℕ) (head : Head) → PassesLimit line b → LeadsTo None line head → Stops head b TooLong
limit_breaks line b head r leads =
    stops_at head None (Digits (length r.digits) (number_behind 0 r.digits)) b TooLong (in_digits line r.digits head r.stands leads)
    (limit_stops (length r.digits) (number_behind 0 r.digits) b r.few r.digit (subst (λ n. content_limit < n) (number_behind-append 0 r.digits (b ∷ [])) r.large))

no_length : (line : List ℕ) (b : ℕ) (head : Head) → line ≡ [] → b ≡ 13 → LeadsTo None line head → Stops head b NoLength
no_length line b head none closing leads =
    stops_at head None (Field 0) b NoLength (sym (ap (run (on None (Field 0))) none) ∙ leads) (ap (field_next 0 None) closing ∙ closing_leads None)

pub kind_stops : (kind : DamageKind) (size : Option ℕ) (line : List ℕ) (b : ℕ) (head : Head) → IsOfKind kind size line b → run (on size (Field 0)) line ≡ On head → spot_next head.spot head.size b ≡ Bad kind
kind_stops BadLine size line b head h leads = elim h [
  | inl r ↦ name_breaks size line b head r leads
  | inr q ↦ elim q [
    | inl r ↦ value_breaks size line b head r leads
    | inr p ↦ elim p [ inl r ↦ end_breaks size line b head r leads | inr r ↦ closing_breaks size line b head r leads ]
  ]
]
kind_stops TwoLengths size line b head h leads = two_break size line b head h.0 h.1 h.2 h.3 leads
kind_stops BadLength size line b head h leads =
    let here : LeadsTo None line head = subst (λ s. LeadsTo s line head) h.0 leads in
    elim h.1 [ inl r ↦ digits_break line b head r here | inr r ↦ behind_breaks line b head r here ]
kind_stops TooLong size line b head h leads = limit_breaks line b head h.1 (subst (λ s. LeadsTo s line head) h.0 leads)
kind_stops NoLength size line b head h leads = no_length line b head h.1 h.2 (subst (λ s. LeadsTo s line head) h.0 leads)
kind_stops HeaderTooLong size line b head h leads = absurd h
kind_stops Truncated size line b head h leads = absurd h
