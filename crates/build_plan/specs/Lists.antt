-- Words for lists of places and for marks.
use Rattle.std.specs.Prelude.{ℕ, Bool, false, List, ◌==◌, map, Vec}
use Rattle.std.specs.List.{slice_index_or, slice_set, count_by, fold}
use Rattle.std.specs.declared.alloc.Global.{Global}

abbrev pub lists_of : {T : Type 0} → List (Vec T Global) → List (List T)
lists_of rows = map (λ row. row.items) rows

abbrev pub lists : {T : Type 0} → Vec (Vec T Global) Global → List (List T)
lists rows = lists_of rows.items

-- how often a place stands in a list
abbrev pub count_of : ℕ → List ℕ → ℕ
count_of place places = count_by (λ other. other == place) places

abbrev pub has_mark : List Bool → ℕ → Bool
has_mark marks place = slice_index_or marks place false

-- the marks with one written at each of these places
abbrev pub written : List Bool → List ℕ → Bool → List Bool
written marks places mark = fold (λ now place. slice_set now place mark) marks places
