-- The change that decides what a path holds at a call.
use Rattle.std.proofs.Common.{◌≡◌, ℕ, zero, suc, ◌+◌, ◌-◌, ◌<◌, ◌≤◌, max, Bool, true, false, cond, ◌&&◌, eqb, leb, leb-true, eq-eqb, List, [], ◌∷◌, ◌++◌, Option, Some, None, refl, sym, ap, ◌∙◌, inl, inr, arith}
use Rattle.std.specs.Prelude.{reverse, find}
use Rattle.std.specs.Option.{option_map, option_or}
use Rattle.std.specs.Str.{bytes_eq}
use Rattle.std.proofs.lemmas.Bool.{and_cases, and_from, and_left, and_parts, and_right, cond-false, cond-true, leb-false, ne_eqb}
use Rattle.std.proofs.lemmas.List.{reverse-append}
use Rattle.ob_text.specs.declared.held.Held.{Held}
use Rattle.bsp_edge.specs.Trees.{FileChange, left_by, put_by}

-- what the latest of some changes put there, whose number is this; the number is 0 where there is none
abbrev pub IsPut : List FileChange → List ℕ → ℕ → Option Held → Type 0
IsPut changes path zero left = left ≡ None
IsPut changes path (suc number) left = (held : Held) × (put_by changes (suc number) path ≡ Some held) × (left ≡ Some held)

-- the latest of these changes to a path before a call has this number, and left this there
pub record IsLatest (changes : List FileChange) (call : ℕ) (path : List ℕ) (number : ℕ) (left : Option Held) : Type 0 where
  pub within : number ≤ call
  pub is : IsPut changes path number left
  pub none_later : (k : ℕ) → number < k → k ≤ call → put_by changes k path ≡ None

-- the test of a change
abbrev pub is_later : FileChange → ℕ → ℕ → List ℕ → Bool
is_later change number call path = leb (max number 1) change.0 && leb change.0 call && bytes_eq change.1 path

put_cond : (b : Bool) (change : FileChange) (rest : Option FileChange) → option_map (λ (x : FileChange). x.2) (cond b (Some change) rest) ≡ cond b (Some change.2) (option_map (λ (x : FileChange). x.2) rest)
put_cond true change rest = refl
put_cond false change rest = refl

-- one more change
put_by_push : (changes : List FileChange) (change : FileChange) (k : ℕ) (path : List ℕ) → put_by (changes ++ change ∷ []) k path ≡ cond (eqb change.0 k && bytes_eq change.1 path) (Some change.2) (put_by changes k path)
put_by_push changes change k path =
    let test : FileChange → Bool = λ (x : FileChange). eqb x.0 k && bytes_eq x.1 path in
    ap (λ (xs : List FileChange). option_map (λ (x : FileChange). x.2) (find test xs)) (reverse-append changes (change ∷ []))
    ∙ put_cond (eqb change.0 k && bytes_eq change.1 path) change (find test (reverse changes))

put_by_other : (changes : List FileChange) (change : FileChange) (k : ℕ) (path : List ℕ) → (eqb change.0 k && bytes_eq change.1 path) ≡ false → put_by (changes ++ change ∷ []) k path ≡ put_by changes k path
put_by_other changes change k path fails =
    put_by_push changes change k path ∙ cond-false (eqb change.0 k && bytes_eq change.1 path) (Some change.2) (put_by changes k path) fails

is_put : (changes : List FileChange) (path : List ℕ) (number : ℕ) (held : Held) → 0 < number → put_by changes number path ≡ Some held → IsPut changes path number (Some held)
is_put changes path zero held some e = absurd (omega arith)
is_put changes path (suc number) held some e = (held, e, refl)

is_put_same : (changes more : List FileChange) (path : List ℕ) (number : ℕ) (left : Option Held) → (0 < number → put_by more number path ≡ put_by changes number path) → IsPut changes path number left → IsPut more path number left
is_put_same changes more path zero left same is = is
is_put_same changes more path (suc number) left same is = (is.0, same (omega arith) ∙ is.1, is.2)

pub latest_none : (call : ℕ) (path : List ℕ) → IsLatest [] call path 0 None
latest_none call path = record { within = omega arith; is = refl; none_later = λ k low high. refl }

-- a change that is later is the latest
pub latest_takes : (changes : List FileChange) (change : FileChange) (call : ℕ) (path : List ℕ) (number : ℕ) (left : Option Held) → is_later change number call path ≡ true → IsLatest changes call path number left → IsLatest (changes ++ change ∷ []) call path change.0 (Some change.2)
latest_takes changes change call path number left later latest =
    let numbers = and_parts (leb (max number 1) change.0 && leb change.0 call) (bytes_eq change.1 path) later in
    let bounds = and_parts (leb (max number 1) change.0) (leb change.0 call) numbers.0 in
    let low : max number 1 ≤ change.0 = leb-true (max number 1) change.0 bounds.0 in
    let high : change.0 ≤ call = leb-true change.0 call bounds.1 in
    let tested : (eqb change.0 change.0 && bytes_eq change.1 path) ≡ true = and_from (eqb change.0 change.0) (bytes_eq change.1 path) (eq-eqb change.0 change.0 refl) numbers.1 in
    record {
      within = high;
      is = is_put (changes ++ change ∷ []) path change.0 change.2 (omega arith) (put_by_push changes change change.0 path ∙ cond-true (eqb change.0 change.0 && bytes_eq change.1 path) (Some change.2) (put_by changes change.0 path) tested);
      none_later = λ k above within. put_by_other changes change k path (and_left (eqb change.0 k) (bytes_eq change.1 path) (ne_eqb change.0 k (λ e. omega arith))) ∙ latest.none_later k (omega arith) within;
    }

-- one that isn't changes nothing from the latest on
not_at : (change : FileChange) (number call : ℕ) (path : List ℕ) → is_later change number call path ≡ false → (k : ℕ) → 0 < k → number ≤ k → k ≤ call → (eqb change.0 k && bytes_eq change.1 path) ≡ false
not_at change number call path earlier k some low high =
    elim (and_cases (leb (max number 1) change.0 && leb change.0 call) (bytes_eq change.1 path) earlier) [
      | inl out ↦ and_left (eqb change.0 k) (bytes_eq change.1 path) (elim (and_cases (leb (max number 1) change.0) (leb change.0 call) out) [
        | inl below ↦ (let less = leb-false (max number 1) change.0 below in ne_eqb change.0 k (λ e. omega arith))
        | inr above ↦ (let more = leb-false change.0 call above in ne_eqb change.0 k (λ e. omega arith))
      ])
      | inr elsewhere ↦ and_right (eqb change.0 k) (bytes_eq change.1 path) elsewhere
    ]

pub latest_keeps : (changes : List FileChange) (change : FileChange) (call : ℕ) (path : List ℕ) (number : ℕ) (left : Option Held) → is_later change number call path ≡ false → IsLatest changes call path number left → IsLatest (changes ++ change ∷ []) call path number left
latest_keeps changes change call path number left earlier latest =
    let within = latest.within in
    record {
      within = latest.within;
      is = is_put_same changes (changes ++ change ∷ []) path number left (λ some. put_by_other changes change number path (not_at change number call path earlier number some (omega arith) within)) latest.is;
      none_later = λ k above high. put_by_other changes change k path (not_at change number call path earlier k (omega arith) (omega arith) high) ∙ latest.none_later k above high;
    }

-- numbers without a change to the path change nothing there
settles : (changes : List FileChange) (path : List ℕ) (number d : ℕ) → ((k : ℕ) → number < k → k ≤ number + d → put_by changes k path ≡ None) → left_by changes (number + d) path ≡ left_by changes number path
settles changes path number zero none =
    let e : number + 0 ≡ number = omega arith in
    ap (λ k. left_by changes k path) e
settles changes path number (suc d) none =
    let e : number + suc d ≡ suc (number + d) = omega arith in
    ap (λ k. left_by changes k path) e
    ∙ (ap (λ o. option_or o (left_by changes (number + d) path)) (none (suc (number + d)) (omega arith) (omega arith))
    ∙ settles changes path number d (λ k low high. none k low (omega arith)))

left_of_put : (changes : List FileChange) (path : List ℕ) (number : ℕ) (left : Option Held) → IsPut changes path number left → left_by changes number path ≡ left
left_of_put changes path zero left is = sym is
left_of_put changes path (suc number) left is =
    ap (λ o. option_or o (left_by changes number path)) is.1 ∙ sym is.2

-- the latest decides
pub latest_left : (changes : List FileChange) (call : ℕ) (path : List ℕ) (number : ℕ) (left : Option Held) → IsLatest changes call path number left → left_by changes call path ≡ left
latest_left changes call path number left latest =
    let within = latest.within in
    let e : call ≡ number + (call - number) = omega arith in
    ap (λ k. left_by changes k path) e
    ∙ (settles changes path number (call - number) (λ k low high. latest.none_later k low (omega arith)) ∙ left_of_put changes path number left latest.is)
