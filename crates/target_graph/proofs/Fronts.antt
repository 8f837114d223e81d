-- The front of a text, and what follows it.
use Rattle.std.proofs.Common.{◌≡◌, ◌≢◌, ℕ, ◌+◌, List, ◌++◌, true, false, length, take, drop, Option, Some, None, IfSome, IfNone, MatchOption, Bor, ap, sym, ◌∙◌, refl}
use Rattle.std.specs.Str.{bytes_eq}
use Rattle.std.proofs.lemmas.Bool.{false≢true}
use Rattle.std.proofs.lemmas.List.{take-append-drop, take_at}
use Rattle.std.proofs.lemmas.Slice.Eq.{bytes_eq-Decides}

pub stripped : (text front : List ℕ) (o : Option (Bor (List ℕ)))
    → MatchOption o (bytes_eq (take (length front) text) front ≡ false) (λ x. (bytes_eq (take (length front) text) front ≡ true) × (x.now ≡ drop (length front) text) × (length x.now + length front ≡ length text))
    → IfSome o (λ rest. text ≡ front ++ rest.now) × IfNone o ((rest : List ℕ) → text ≢ front ++ rest)
stripped text front None h = (
  tt,
  λ rest e.
      let same : take (length front) text ≡ front = ap (take (length front)) e ∙ take_at front rest (length front) refl in
      false≢true (sym h ∙ (bytes_eq-Decides (take (length front) text) front).1 same),
)
stripped text front (Some x) h =
    let same = (bytes_eq-Decides (take (length front) text) front).0 h.0 in
    (sym (take-append-drop (length front) text) ∙ (ap (λ xs. xs ++ drop (length front) text) same ∙ ap (λ xs. front ++ xs) (sym h.1)), tt)
