-- Where ranges are taken out and joined to one: which hold the same numbers.
use Rattle.std.specs.Prelude.{◌≡◌, false, ◌||◌, int_lt, List, ℤ}
use Rattle.case_labels.specs.Ranges.{meets, meets_any, AreApart}
use Rattle.case_labels.specs.declared.joined.Range.{Range}

-- `old` and the range from `low` to `high` have the numbers of `new` and r
pub record Joins (low high : ℤ) (old new : List (ℤ × ℤ)) (r : Range) : Type 0 where
  pub apart : AreApart new
  pub filled : int_lt r.last r.first ≡ false
  pub same : (a b : ℤ) → int_lt b a ≡ false → (meets a b (r.last, r.first) || meets_any a b new) ≡ (meets a b (high, low) || meets_any a b old)
