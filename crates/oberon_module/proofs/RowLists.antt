-- Sorting rows and keeping each once gives the list of diagnostics.
use Rattle.std.proofs.Common.{◌≡◌, ◌↔◌, ℕ, zero, suc, Bool, true, IsTrue, List, [], ◌∷◌, map, Contains, AllPairs, sym, ap, subst, arith}
use Rattle.std.specs.List.{All, Any, dedup}
use Rattle.std.specs.List.Sorted.{IsPermutation, IsStrictlySortedBy}
use Rattle.std.specs.declared.cmp.Ordering.TheVariants.{Less}
use Rattle.std.proofs.lemmas.List.Elements.{All-nil, All-cons, All-head, All-tail, All-map, All-weaker, All-contains, All-contains_itself, All-from_recursion}
use Rattle.std.proofs.lemmas.List.Kept.{AllPairs-cons, Contains-from_dedup}
use Rattle.std.proofs.lemmas.List.Sorted.{All-permutation, IsPermutation-sym}
use Rattle.ob_text.specs.declared.diagnostic.Diagnostic.{Diagnostic}
use Rattle.oberon_rules.specs.Order.{before}
use Rattle.oberon_module.specs.declared.listing.Row.{Row}
use Rattle.oberon_module.specs.Rows.{plain_row, diagnostic_of}
use Rattle.oberon_module.proofs.RowOrder.{row_cmp, IsNumbered, row_less}

abbrev pub diagnostics : List ℕ → List Row → List Diagnostic
diagnostics text rs = map (diagnostic_of text) (map plain_row rs)

contains_map : {X Y : Type 0} (f : X → Y) (xs : List X) (x : X) → Contains xs x → Contains (map f xs) (f x)
contains_map f [] x (k, l, e) = absurd (omega (arith, l))
contains_map f (y ∷ ys) x (zero, l, e) = (0, omega arith, ap f e)
contains_map f (y ∷ ys) x (suc k, l, e) = let r = contains_map f ys x (k, omega (arith, l), e) in let m = r.1 in (suc r.0, omega (arith, m), r.2)

contains_row : (text : List ℕ) (rs : List Row) (r : Row) → Contains rs r → Contains (diagnostics text rs) (diagnostic_of text (plain_row r))
contains_row text rs r c = contains_map (diagnostic_of text) (map plain_row rs) (plain_row r) (contains_map plain_row rs r c)

-- ---- sorted

empty_pairs : (R : Diagnostic → Diagnostic → Type 0) → AllPairs R []
empty_pairs R i j d l within = absurd (omega (arith, within))

-- it is before the diagnostic of the row
abbrev IsBefore : List ℕ → Row → Row → Type 0
IsBefore text x y = IsTrue (before (diagnostic_of text (plain_row x)) (diagnostic_of text (plain_row y)))

less_all : (text : List ℕ) (x : Row) (rs : List Row) → IsNumbered x → All IsNumbered rs → All (λ y. row_cmp x y ≡ Less) rs → All (IsBefore text x) rs
less_all text x [] numbered others less = All-nil (IsBefore text x)
less_all text x (y ∷ ys) numbered others less =
    All-cons (IsBefore text x) y ys (row_less text x y numbered (All-head IsNumbered y ys others) (All-head (λ y. row_cmp x y ≡ Less) y ys less))
    (less_all text x ys numbered (All-tail IsNumbered y ys others) (All-tail (λ y. row_cmp x y ≡ Less) y ys less))

all_less : (text : List ℕ) (x : Row) (rs : List Row) → IsNumbered x → All IsNumbered rs → All (λ y. row_cmp x y ≡ Less) rs → All (λ d. IsTrue (before (diagnostic_of text (plain_row x)) d)) (diagnostics text rs)
all_less text x rs numbered others less =
    All-map (λ d. IsTrue (before (diagnostic_of text (plain_row x)) d)) (diagnostic_of text) (map plain_row rs)
    (All-map (λ p. IsTrue (before (diagnostic_of text (plain_row x)) (diagnostic_of text p))) plain_row rs (less_all text x rs numbered others less))

pub sorted_pairs : (text : List ℕ) (rs : List Row) → All IsNumbered rs → IsStrictlySortedBy row_cmp rs → AllPairs (λ d e. IsTrue (before d e)) (diagnostics text rs)
unfolding IsStrictlySortedBy
sorted_pairs text [] numbered sorted = empty_pairs (λ d e. IsTrue (before d e))
sorted_pairs text (x ∷ rs) numbered sorted =
    AllPairs-cons (λ d e. IsTrue (before d e)) (diagnostic_of text (plain_row x)) (diagnostics text rs) (all_less text x rs (All-head IsNumbered x rs numbered) (All-tail IsNumbered x rs numbered) (All-from_recursion (λ y. row_cmp x y ≡ Less) rs sorted.0)) (sorted_pairs text rs (All-tail IsNumbered x rs numbered) sorted.1)

-- ---- the same

-- the diagnostics have that of the row
abbrev HasRow : List ℕ → List Row → Row → Type 0
HasRow text rs x = Contains (diagnostics text rs) (diagnostic_of text (plain_row x))

all_rows : (text : List ℕ) (xs ys : List Row) → All (HasRow text ys) xs → (d : Diagnostic) → Contains (diagnostics text xs) d → Contains (diagnostics text ys) d
all_rows text xs ys h d c =
    All-contains (Contains (diagnostics text ys)) (diagnostics text xs) d
    (All-map (Contains (diagnostics text ys)) (diagnostic_of text) (map plain_row xs) (All-map (λ p. Contains (diagnostics text ys) (diagnostic_of text p)) plain_row xs h)) c

kept : (text : List ℕ) (E : Row → Row → Bool) (ys : List Row) → ((x : Row) → Contains ys x → Any (λ y. E x y ≡ true) (dedup E ys)) → ((x y : Row) → E x y ≡ true → plain_row x ≡ plain_row y) → (x : Row) → Contains ys x → HasRow text (dedup E ys) x
kept text E ys keeps same x c =
    let a = keeps x c in
    subst (λ p. Contains (diagnostics text (dedup E ys)) (diagnostic_of text p)) (sym (same x a.1 a.4)) (contains_row text (dedup E ys) a.1 (a.0, a.2, a.3))

pub same_rows : (text : List ℕ) (E : Row → Row → Bool) (xs ys : List Row) → ((x : Row) → Contains ys x → Any (λ y. E x y ≡ true) (dedup E ys)) → ((x y : Row) → E x y ≡ true → plain_row x ≡ plain_row y) → IsPermutation xs ys → (d : Diagnostic) → Contains (diagnostics text xs) d ↔ Contains (diagnostics text (dedup E ys)) d
same_rows text E xs ys keeps same moved d = (
  all_rows text xs (dedup E ys)
      (All-permutation (HasRow text (dedup E ys)) ys xs (IsPermutation-sym xs ys moved) (All-weaker (Contains ys) (HasRow text (dedup E ys)) (kept text E ys keeps same) ys (All-contains_itself ys))) d,
  all_rows text (dedup E ys) xs
      (All-weaker (Contains (dedup E ys)) (HasRow text xs) (λ x k. contains_row text xs x (All-contains (Contains xs) ys x (All-permutation (Contains xs) xs ys moved (All-contains_itself xs)) (Contains-from_dedup E ys x k))) (dedup E ys) (All-contains_itself (dedup E ys))) d,
)
