-- What is left behind a part of a piece.
use Rattle.std.proofs.Common.{◌≡◌, ℕ, ◌+◌, ◌<◌, ◌≤◌, List, [], ◌∷◌, ◌++◌, take, drop, length, Some, ap, refl, sym, ◌∙◌, arith}
use Rattle.std.proofs.lemmas.List.{take-append-drop, drop-drop, length-drop}
use Rattle.bsp_input.specs.Slots.{holds, kept, left_of, place_of, HandsPiece}
use Rattle.bsp_input.specs.declared.slot.State.{State}
use Rattle.bsp_input.specs.declared.slot.State.TheVariants as states

kept_some : (left : List ℕ) → 0 < length left → holds left ≡ kept left
kept_some [] some = absurd (omega arith)
kept_some (byte ∷ left) some = refl

-- what was left is this front of it, and then what lies behind it
behind_front : (bytes into left : List ℕ) (offset count : ℕ) → left ≡ drop offset bytes → take count into ≡ take count (drop offset bytes) → left ≡ take count into ++ drop (offset + count) bytes
behind_front bytes into left offset count is copied =
    is ∙ sym (take-append-drop count (drop offset bytes)) ∙ rw (copied, drop-drop) refl

pub hands_rest : (state : State) (bytes into left : List ℕ) (offset count : ℕ) → place_of state (drop offset bytes) ≡ holds left → 0 < count → count ≤ length into → offset + count < length bytes → take count into ≡ take count (drop offset bytes) → HandsPiece left count into (place_of state (drop (offset + count) bytes))
hands_rest states.Idle bytes into left offset count is some within more copied = absurd (cc)
hands_rest states.Asked bytes into left offset count is some within more copied = absurd (cc)
hands_rest states.Ended bytes into left offset count is some within more copied = absurd (cc)
hands_rest states.Failed bytes into left offset count is some within more copied = absurd (cc)
hands_rest states.Holds bytes into left offset count is some within more copied = record {
  piece = record {
    some = some;
    within = within;
    taken = ap Some (behind_front bytes into left offset count (ap left_of (sym is)) copied);
  };
  rest = kept_some (drop (offset + count) bytes) (omega (arith, length-drop (offset + count) bytes));
}
