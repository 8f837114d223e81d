-- What `position` answers.
use Rattle.std.proofs.Common.{◌≡◌, ℕ, List, Bool, ltb, cond, false, true, length, sym, take, Some, None, refl}
use Rattle.std.proofs.lemmas.List.{take_all}
use borrow.Author.Tests.{ltb-false}

pub some_index : (n m i : ℕ) → cond (ltb n m) (Some n) None ≡ Some i → i ≡ n
some_index n m i e = go (ltb n m) e
  where
    go : (b : Bool) → cond b (Some n) None ≡ Some i → i ≡ n
    go true h = cc
    go false h = absurd (cc)

pub no_place : (n : ℕ) (xs : List ℕ) → cond (ltb n (length xs)) (Some n) None ≡ None → xs ≡ take n xs
no_place n xs e = go (ltb n (length xs)) refl e
  where
    go : (b : Bool) → ltb n (length xs) ≡ b → cond b (Some n) None ≡ None → xs ≡ take n xs
    go true t h = absurd (cc)
    go false t h = sym (take_all n xs (ltb-false n (length xs) t))
