-- Lists of lists in memory.
use Rattle.std.proofs.Common.{◌≡◌, ℕ, ◌<◌, Bool, List, [], ◌∷◌, length, get_or, Vec, Global, ap, sym, subst, ◌∙◌, arith}
use Rattle.std.proofs.lemmas.List.{get_or-map, length-map}
use Rattle.target_graph.specs.Closures.{AreClosures, lists_of}
use Rattle.target_graph.specs.Walk.{AreMarks}
use Rattle.target_graph.specs.declared.target.Target.{Target}

pub lists_size : {T : Type 0} (rows : List (Vec T Global)) → length (lists_of rows) ≡ length rows
lists_size {T} rows = length-map rows (λ (row : Vec T Global). row.items)

-- what stands at an index of them
pub list_at : {T : Type 0} (rows : List (Vec T Global)) (t : ℕ) (row : Vec T Global) → t < length rows → row ≡ get_or rows t row → get_or (lists_of rows) t [] ≡ row.items
list_at {T} rows t row h e = get_or-map (λ (v : Vec T Global). v.items) rows t row [] h ∙ ap (λ (v : Vec T Global). v.items) (sym e)

-- the closure at an index
pub row_marks : (targets : List Target) (rows : List (Vec Bool Global)) (t : ℕ) (row : Vec Bool Global) (marks : List Bool) → AreClosures targets (lists_of rows) → t < length rows
    → row ≡ get_or rows t row → marks ≡ row.items → AreMarks targets (t ∷ []) marks
row_marks targets rows t row marks closures h is value =
    subst (AreMarks targets (t ∷ [])) (list_at rows t row h is ∙ sym value) (closures.each t (omega (arith, lists_size rows, closures.size)))
