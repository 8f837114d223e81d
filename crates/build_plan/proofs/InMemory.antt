-- Lists of lists, as they lie in memory.
use Rattle.std.proofs.Common.{◌≡◌, ℕ, ◌+◌, ◌<◌, List, [], ◌∷◌, ◌++◌, Vec, Global, length, get_or, set, take, All, ap, sym, subst, ◌∙◌}
use Rattle.std.proofs.lemmas.List.{map-set, get_or-map, length-map, take_more}
use Rattle.build_plan.specs.Rows.{row_at, AreWithin}
use Rattle.build_plan.specs.Lists.{lists_of}
use Rattle.build_plan.specs.Links.{IsAdded}
use Rattle.build_plan.proofs.TurnedLaws.{added_more}

pub same_length : (rows : List (Vec ℕ Global)) → length (lists_of rows) ≡ length rows
same_length rows = length-map rows (λ (row : Vec ℕ Global). row.items)

pub row_there : (rows : List (Vec ℕ Global)) (i : ℕ) (row : Vec ℕ Global) → i < length rows → row ≡ get_or rows i row → row_at (lists_of rows) i ≡ row.items
row_there rows i row h e = get_or-map (λ (row : Vec ℕ Global). row.items) rows i row [] h ∙ ap (λ (row : Vec ℕ Global). row.items) (sym e)

pub row_written : (rows : List (Vec ℕ Global)) (i : ℕ) (row : Vec ℕ Global) → lists_of (set rows i row) ≡ set (lists_of rows) i row.items
row_written rows i row = map-set (λ (row : Vec ℕ Global). row.items) rows i row

-- one more of the imports has its importer
pub added_step : (old rows : List (Vec ℕ Global)) (importer : ℕ) (imports : List ℕ) (i : ℕ) (was row : Vec ℕ Global) → i < length imports
    → All (λ place. place < length old) imports → IsAdded (lists_of old) (lists_of rows) importer (take i imports)
    → was ≡ get_or rows (get_or imports i 0) was → row.items ≡ was.items ++ importer ∷ []
    → IsAdded (lists_of old) (lists_of (set rows (get_or imports i 0) row)) importer (take (i + 1) imports)
added_step old rows importer imports i was row h within is e pushed =
    let x : ℕ = get_or imports i 0 in
    let inside : x < length (lists_of rows) = subst (λ n. x < n) (sym (is.size ∙ same_length old)) (within i 0 h) in
    let there : row_at (lists_of rows) x ≡ was.items = row_there rows x was (subst (λ n. x < n) (same_length rows) inside) e in
    let written : set (lists_of rows) x (row_at (lists_of rows) x ++ importer ∷ []) ≡ lists_of (set rows x row) =
    ap (λ (xs : List ℕ). set (lists_of rows) x (xs ++ importer ∷ [])) there ∙ (ap (set (lists_of rows) x) (sym pushed) ∙ sym (row_written rows x row)) in
    subst (λ (now : List (List ℕ)). IsAdded (lists_of old) now importer (take (i + 1) imports)) written
    (subst (λ (done : List ℕ). IsAdded (lists_of old) (set (lists_of rows) x (row_at (lists_of rows) x ++ importer ∷ [])) importer done) (sym (take_more imports i 0 h))
    (added_more (lists_of old) (lists_of rows) importer (take i imports) x is inside))

-- the imports of a place are places
pub inside_row : (rows : List (Vec ℕ Global)) (i : ℕ) (row : Vec ℕ Global) → i < length rows → row ≡ get_or rows i row → AreWithin (lists_of rows)
    → All (λ place. place < length rows) row.items
inside_row rows i row h e within =
    subst (λ n. All (λ place. place < n) row.items) (same_length rows)
    (subst (λ (xs : List ℕ). All (λ place. place < length (lists_of rows)) xs) (row_there rows i row h e)
    (within i [] (subst (λ n. i < n) (sym (same_length rows)) h)))
