-- Ranges of whole numbers, each as its last number and its first one.
use Rattle.std.specs.Prelude.{◌≡◌, Bool, true, false, not, ◌||◌, int_lt, List, [], ◌∷◌, ℤ, ⊤}
use Rattle.std.specs.List.{list_any}

-- whether one of the numbers from a to b is in a range
abbrev pub meets : ℤ → ℤ → ℤ × ℤ → Bool
meets a b r = not (int_lt b r.1 || int_lt r.0 a)

abbrev pub meets_any : ℤ → ℤ → List (ℤ × ℤ) → Bool
meets_any a b rs = list_any (meets a b) rs

-- all ranges begin behind a number
abbrev pub AreBehind : ℤ → List (ℤ × ℤ) → Type 0
AreBehind k [] = ⊤
AreBehind k (r ∷ rs) = (int_lt k r.1 ≡ true) × AreBehind k rs

-- no range is empty, and each ends before the later ones begin
abbrev pub AreApart : List (ℤ × ℤ) → Type 0
AreApart [] = ⊤
AreApart (r ∷ rs) = (int_lt r.0 r.1 ≡ false) × AreBehind r.0 rs × AreApart rs
