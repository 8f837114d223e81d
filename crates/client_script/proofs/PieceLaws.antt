-- The first piece of a text, and the last one.
use Rattle.std.proofs.Common.{◌≡◌, ◌≢◌, ◌∙◌, ◌++◌, ◌<◌, ℕ, suc, false, List, [], ◌∷◌, Option, None, Some, Bor, length, get_or, map, refl, ap, sym, arith, append_assoc, eq-eqb}
use Rattle.std.specs.Prelude.{◌==◌, if◌then◌else◌}
use Rattle.std.proofs.lemmas.Bool.{ne_eqb}
use Rattle.std.proofs.lemmas.List.{map-append}
use Rattle.std.proofs.lemmas.Str.Pattern.{IsSplitOnceResult, split_parts}
use Rattle.client_script.specs.Pieces.{now_of, pieces, with_front}

-- no byte of a text is this one
abbrev pub HasNone : ℕ → List ℕ → Type 0
HasNone by text = (i : ℕ) → i < length text → get_or text i 0 ≢ by

tail_none : (by byte : ℕ) (text : List ℕ) → HasNone by (byte ∷ text) → HasNone by text
tail_none by byte text none i less = none (suc i) (omega arith)

head_none : (by byte : ℕ) (text : List ℕ) → HasNone by (byte ∷ text) → (byte == by) ≡ false
head_none by byte text none = ne_eqb byte by (none 0 (omega arith))

pub last_piece : (by : ℕ) (text : List ℕ) → HasNone by text → pieces by text ≡ text ∷ []
last_piece by [] none = refl
last_piece by (byte ∷ text) none =
    ap (λ b. if b then [] ∷ pieces by text else with_front byte (pieces by text)) (head_none by byte text none)
    ∙ ap (with_front byte) (last_piece by text (tail_none by byte text none))

pub first_piece : (by : ℕ) (piece rest : List ℕ) → HasNone by piece → pieces by (piece ++ by ∷ rest) ≡ piece ∷ pieces by rest
first_piece by [] rest none = ap (λ b. if b then [] ∷ pieces by rest else with_front by (pieces by rest)) (eq-eqb by by refl)
first_piece by (byte ∷ piece) rest none =
    ap (λ b. if b then [] ∷ pieces by (piece ++ by ∷ rest) else with_front byte (pieces by (piece ++ by ∷ rest))) (head_none by byte piece none)
    ∙ ap (with_front byte) (first_piece by piece rest (tail_none by byte piece none))

-- what a text is split into, once, by its first byte of this value
module _ (by : ℕ) (ascii : by < 128) (text : List ℕ) (r : Option (Bor (List ℕ) × Bor (List ℕ))) (split : IsSplitOnceResult by text r) where
  pub none_more : r ≡ None → pieces by text ≡ text ∷ []
  none_more is = last_piece by text (rw is at (split_parts by text r split ascii))

  pub parted : (x : Bor (List ℕ) × Bor (List ℕ)) → r ≡ Some x → text ≡ x.0.now ++ by ∷ x.1.now
  parted x is = (rw is at (split_parts by text r split ascii)).0

  pub one_more : (x : Bor (List ℕ) × Bor (List ℕ)) → r ≡ Some x → pieces by text ≡ x.0.now ∷ pieces by x.1.now
  one_more x is =
      let parts = rw is at (split_parts by text r split ascii) in
      ap (pieces by) parts.0 ∙ first_piece by x.0.now x.1.now parts.1

-- pieces that are taken off the front, one after another
pub taken : (old new : List (Bor (List ℕ))) (piece : Bor (List ℕ)) (rest more all : List (List ℕ)) → map now_of old ++ rest ≡ all → new ≡ old ++ piece ∷ [] → rest ≡ piece.now ∷ more → map now_of new ++ more ≡ all
taken old new piece rest more all so_far pushed next =
    ap (λ (pieces : List (Bor (List ℕ))). map now_of pieces ++ more) pushed
    ∙ (ap (λ (pieces : List (List ℕ)). pieces ++ more) (map-append now_of old (piece ∷ []))
    ∙ (append_assoc (map now_of old) (piece.now ∷ []) more
    ∙ (ap (λ (pieces : List (List ℕ)). map now_of old ++ pieces) (sym next) ∙ so_far)))

pub all_taken : (old new : List (Bor (List ℕ))) (piece : Bor (List ℕ)) (rest all : List (List ℕ)) → map now_of old ++ rest ≡ all → new ≡ old ++ piece ∷ [] → rest ≡ piece.now ∷ [] → map now_of new ≡ all
all_taken old new piece rest all so_far pushed last =
    ap (map now_of) pushed ∙ (map-append now_of old (piece ∷ []) ∙ (ap (λ (pieces : List (List ℕ)). map now_of old ++ pieces) (sym last) ∙ so_far))
