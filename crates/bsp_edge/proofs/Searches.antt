-- What binary searches in ascending numbers tell.
use Rattle.std.proofs.Common.{◌≡◌, ℕ, List, true, Result, Ok, Err, is_ok, ◌∙◌}
use Rattle.std.specs.List.{Contains}
use Rattle.std.specs.List.Sorted.{IsBinarySearchResult, IsNonDecreasing}
use Rattle.std.specs.Ordering.{nat_cmp}
use Rattle.std.proofs.lemmas.List.Sorted.{searched}
use Rattle.std.proofs.lemmas.List.{get_or_default}

-- a number that was found is there
pub contains_found : (xs : List ℕ) (x : ℕ) (r : Result ℕ ℕ) → IsBinarySearchResult (λ y. nat_cmp y x) xs r → IsNonDecreasing xs → is_ok r ≡ true → Contains xs x
contains_found xs x (Ok i) result rises found =
    let s = searched xs x (Ok i) result (λ i j le lt. rises i j 0 le lt) in
    (i, s.0, get_or_default xs i x 0 s.0 ∙ s.1)
contains_found xs x (Err i) result rises found = cc
