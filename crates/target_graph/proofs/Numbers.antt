-- Texts that are numbered as they are first met.
use Rattle.std.proofs.Common.{◌≡◌, ◌≢◌, ◌⊎◌, inl, inr, ℕ, ◌<◌, ◌≤◌, Bool, true, false, cond, List, [], ◌∷◌, ◌++◌, length, get_or, Some, ap, sym, subst, ◌∙◌, refl, arith}
use Rattle.std.specs.List.{slice_get, list_any, AllPairs}
use Rattle.std.specs.Str.{bytes_eq}
use Rattle.std.proofs.lemmas.Bool.{cases_eq}
use Rattle.std.proofs.lemmas.List.{append-nil, length_push, length-append, get_or_append_left, get_or_push}
use Rattle.std.proofs.lemmas.Option.{slice_get_within, get_or_from_slice_get}
use Rattle.std.proofs.lemmas.Slice.Eq.{bytes_eq-Decides}
use Rattle.target_graph.specs.Stems.{IsNumbered, IsNumbering}
use Rattle.target_graph.proofs.Listed.{none_listed, distinct_more}

pub numbered : (old new : List (List ℕ)) (text : List ℕ) (n : ℕ) → new ≡ cond (list_any (bytes_eq text) old) old (old ++ text ∷ [])
    → (key : List ℕ) → slice_get new n ≡ Some key → bytes_eq text key ≡ true → IsNumbered old new text n
numbered old new text n grown key there same = by (list_any (bytes_eq text) old) refl grown
  where
    named : get_or new n [] ≡ text
    named = get_or_from_slice_get new n key [] there ∙ sym ((bytes_eq-Decides text key).0 same)

    by : (b : Bool) → list_any (bytes_eq text) old ≡ b → new ≡ cond b old (old ++ text ∷ []) → IsNumbered old new text n
    by true e g = record {
      more = [];
      grown = g ∙ sym (append-nil old);
      few = (let k = ap (λ (xs : List (List ℕ)). length xs) g in omega arith);
      within = slice_get_within new n key there;
      named = named;
      distinct = λ d. subst (λ (xs : List (List ℕ)). AllPairs ◌≢◌ xs) (sym g) d;
    }
    by false e g = record {
      more = text ∷ [];
      grown = g;
      few = (let k = ap (λ (xs : List (List ℕ)). length xs) g in omega (arith, k, length_push old text));
      within = slice_get_within new n key there;
      named = named;
      distinct = λ d. subst (λ (xs : List (List ℕ)). AllPairs ◌≢◌ xs) (sym g) (distinct_more old text d (none_listed old text e));
    }

pub number_none : IsNumbering [] [] []
number_none = record {
  size = refl;
  within = λ q h. absurd (omega arith);
  named = λ q h. absurd (omega arith);
  distinct = λ i j d h k. absurd (omega arith);
}

-- one more text
pub number_more : (texts keys new : List (List ℕ)) (numbers : List ℕ) (text : List ℕ) (n : ℕ) → IsNumbering texts keys numbers → IsNumbered keys new text n
    → IsNumbering (texts ++ text ∷ []) new (numbers ++ n ∷ [])
number_more texts keys new numbers text n old next = record {
  size = (let a = length_push numbers n in let b = length_push texts text in let c = old.size in omega arith);
  within = λ q h. within q h (cases_eq q (length texts));
  named = λ q h. named q h (cases_eq q (length texts));
  distinct = next.distinct old.distinct;
}
  where
    below : (q : ℕ) → q < length (texts ++ text ∷ []) → (q ≡ length texts → ⊥) → q < length texts
    below q h other = omega (arith, length_push texts text)

    at_old : (q : ℕ) → q < length texts → get_or (numbers ++ n ∷ []) q 0 ≡ get_or numbers q 0
    at_old q h = get_or_append_left numbers (n ∷ []) 0 q (subst (λ k. q < k) (sym old.size) h)

    at_new : get_or (numbers ++ n ∷ []) (length texts) 0 ≡ n
    at_new = get_or_push numbers n 0 (length texts) old.size

    grown : length keys ≤ length new
    grown = (let a = ap (λ (xs : List (List ℕ)). length xs) next.grown in omega (arith, a, length-append keys next.more))

    within : (q : ℕ) → q < length (texts ++ text ∷ []) → (q ≡ length texts) ⊎ (q ≡ length texts → ⊥) → get_or (numbers ++ n ∷ []) q 0 < length new
    within q h (inl same) = subst (λ k. k < length new) (sym (ap (λ k. get_or (numbers ++ n ∷ []) k 0) same ∙ at_new)) next.within
    within q h (inr other) =
        let l = below q h other in
        let w = old.within q l in
        subst (λ k. k < length new) (sym (at_old q l)) (omega (arith, w, grown))

    named : (q : ℕ) → q < length (texts ++ text ∷ []) → (q ≡ length texts) ⊎ (q ≡ length texts → ⊥)
        → get_or new (get_or (numbers ++ n ∷ []) q 0) [] ≡ get_or (texts ++ text ∷ []) q []
    named q h (inl same) =
        ap (λ k. get_or new (get_or (numbers ++ n ∷ []) k 0) []) same
        ∙ (ap (λ k. get_or new k []) at_new
        ∙ (next.named ∙ sym (ap (λ k. get_or (texts ++ text ∷ []) k []) same ∙ get_or_push texts text [] (length texts) refl)))
    named q h (inr other) =
        let l = below q h other in
        ap (λ k. get_or new k []) (at_old q l)
        ∙ (ap (λ (xs : List (List ℕ)). get_or xs (get_or numbers q 0) []) next.grown
        ∙ (get_or_append_left keys next.more [] (get_or numbers q 0) (old.within q l)
        ∙ (old.named q l ∙ sym (get_or_append_left texts (text ∷ []) [] q l))))
