-- A part of a header part that no byte broke can be read to its end.
use Rattle.std.proofs.Common.{◌≡◌, ℕ, zero, suc, true, false, not, eqb, nat_lt, Option, Some, None, List, [], ◌∷◌, ◌++◌, get_or, codes, sym, ◌∙◌, ap, subst, refl, arith}
use Rattle.std.proofs.lemmas.Bool.{and_parts, and_right, not-true}
use Rattle.std.proofs.lemmas.List.{nil_from_length}
use Rattle.std.specs.List.{list_all}
use Rattle.rpc_frame.specs.declared.head.Spot.{Spot}
use Rattle.rpc_frame.specs.declared.head.Spot.TheVariants.{Field, Name, Value, Digits, Behind, LineEnd, Closing}
use Rattle.rpc_frame.specs.declared.head.Head.{Head}
use Rattle.rpc_frame.specs.declared.head.Next.{Next}
use Rattle.rpc_frame.specs.declared.head.Next.TheVariants.{On, Closed}
use Rattle.rpc_frame.specs.Frames.{name_byte, blank_byte, length_name, number_behind}
use Rattle.rpc_frame.specs.Heads.{on, goes_on, field_next, name_next, value_next, figure_next, digits_next, end_next, closing_next, run, reading}
use Rattle.rpc_frame.proofs.RunLaws.{run_on}
use Rattle.rpc_frame.proofs.Stands.{InLength, InLine}
use Rattle.rpc_frame.proofs.StandLaws.{reading_stands}
use Rattle.rpc_frame.proofs.ReadLaws.{field_is_other, digits_end, behind_end}

-- some bytes close the header part
pub record Closes (n : Next) : Type 0 where
  pub more : List ℕ
  pub size : ℕ
  pub closed : run n more ≡ Closed size

closes_on : (n m : Next) (x : List ℕ) → run n x ≡ m → Closes m → Closes n
closes_on n m x e c = record { more = x ++ c.more; size = c.size; closed = run_on n m x c.more e ∙ c.closed }

lines_close : (size : Option ℕ) → Closes (on size (Field 0))
unfolding goes_on length_name name_byte blank_byte field_next digits_next figure_next end_next closing_next
lines_close None = record { more = codes "Content-Length:0\r\n\r\n"; size = 0; closed = refl }
lines_close (Some size) = record { more = codes "\r\n"; size = size; closed = refl }

value_closes : (size : Option ℕ) → Closes (on size Value)
unfolding value_next end_next
value_closes size = closes_on (on size Value) (on size (Field 0)) (13 ∷ (10 ∷ [])) refl (lines_close size)

name_closes : (size : Option ℕ) → Closes (on size Name)
unfolding name_next
name_closes size = closes_on (on size Name) (on size Value) (58 ∷ []) refl (value_closes size)

-- a digit goes on no byte of the name Content-Length
apart : (xs : List ℕ) (at : ℕ) → list_all (λ c. not (eqb 48 c)) xs ≡ true → eqb 48 (get_or xs at 0) ≡ false
apart [] at h = refl
apart (x ∷ xs) zero h = not-true (eqb 48 x) (and_parts (not (eqb 48 x)) (list_all (λ c. not (eqb 48 c)) xs) h).0
apart (x ∷ xs) (suc at) h = apart xs at (and_parts (not (eqb 48 x)) (list_all (λ c. not (eqb 48 c)) xs) h).1

zero_apart : (at : ℕ) → goes_on at 48 ≡ false
unfolding goes_on length_name
zero_apart at = and_right (nat_lt at 14) (eqb 48 (get_or length_name at 0)) (apart length_name at refl)

zero_name : name_byte 48 ≡ true
unfolding name_byte
zero_name = refl

field_closes : (at : ℕ) (size : Option ℕ) → Closes (on size (Field at))
field_closes at size = closes_on (on size (Field at)) (on size Name) (48 ∷ []) (field_is_other at size 48 zero_name (zero_apart at)) (name_closes size)

no_digits_close : (size : Option ℕ) → Closes (on size (Digits 0 0))
unfolding digits_next figure_next
no_digits_close size = closes_on (on size (Digits 0 0)) (on size (Digits 1 0)) (48 ∷ []) refl
    (closes_on (on size (Digits 1 0)) (on (Some 0) (Field 0)) (13 ∷ (10 ∷ [])) (digits_end 1 0 size (omega arith)) (lines_close (Some 0)))

digits_close : (count number : ℕ) (size : Option ℕ) (line : List ℕ) → InLength count number line → Closes (on size (Digits count number))
digits_close zero number size line r =
    let none : r.digits ≡ [] = nil_from_length r.digits r.counted in
    let e : 0 ≡ number = ap (number_behind 0) (sym none) ∙ r.written in
    subst (λ n. Closes (on size (Digits 0 n))) e (no_digits_close size)
digits_close (suc count) number size line r =
    closes_on (on size (Digits (suc count) number)) (on (Some number) (Field 0)) (13 ∷ (10 ∷ [])) (digits_end (suc count) number size (omega arith)) (lines_close (Some number))

spot_closes : (spot : Spot) (before said : Option ℕ) (line : List ℕ) → InLine spot before said line → Closes (on said spot)
unfolding end_next closing_next
spot_closes (Field at) before said line h = field_closes at said
spot_closes Name before said line h = name_closes said
spot_closes Value before said line h = value_closes said
spot_closes (Digits count number) before said line h = digits_close count number said line h.2
spot_closes (Behind number) before said line h =
    closes_on (on said (Behind number)) (on (Some number) (Field 0)) (13 ∷ (10 ∷ [])) (behind_end number said) (lines_close (Some number))
spot_closes LineEnd before said line h = closes_on (on said LineEnd) (on said (Field 0)) (10 ∷ []) refl (lines_close said)
spot_closes (Closing size) before said line h = record { more = 10 ∷ []; size = size; closed = refl }

-- the bytes, and others behind them, are a header part
pub record ReadOn (bytes : List ℕ) : Type 0 where
  pub more : List ℕ
  pub size : ℕ
  pub closed : reading (bytes ++ more) ≡ Closed size

pub reads_on_header : (bytes : List ℕ) (head : Head) → reading bytes ≡ On head → ReadOn bytes
reads_on_header bytes head e =
    let s = reading_stands bytes head e in
    let c : Closes (On head) = spot_closes head.spot s.size head.size s.line s.in_line in
    record { more = c.more; size = c.size; closed = run_on _ (On head) bytes c.more e ∙ c.closed }
