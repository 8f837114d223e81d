-- The rows of a client's table: all that is shown, by document, target and order.
use Rattle.std.specs.Prelude.{◌≡◌, ◌==◌, ◌&&◌, ◌++◌, ℕ, Bool, true, List, [], ◌∷◌, Vec, map, filter}
use Rattle.std.specs.Cmp.Lexicographic.{pointwise, slice_cmp}
use Rattle.std.specs.List.{AllByRecursion}
use Rattle.std.specs.Ordering.{is_le, nat_cmp, ordering_then}
use Rattle.std.specs.declared.cmp.Ordering.{Ordering}
use Rattle.std.specs.declared.alloc.Global.{Global}
use Rattle.bsp_records.specs.Table as client
use Rattle.bsp_records.specs.declared.diagnostics.DiagnosticRecord.{DiagnosticRecord}
use Rattle.client_table.specs.Showing.{Key, Shelf}
use Rattle.client_table.specs.declared.rows.Row.{Row}

-- ---- what the rows of a table are

abbrev pub is_row_of : List ℕ → List ℕ → Row → Bool
is_row_of document target row = pointwise ◌==◌ row.document document && pointwise ◌==◌ row.target target

abbrev pub item_of : Row → DiagnosticRecord
item_of row = row.item

-- by the bytes of the document, then by those of the target
abbrev pub place_cmp : Row → Row → Ordering
place_cmp a b = ordering_then (slice_cmp nat_cmp a.document b.document) (slice_cmp nat_cmp a.target b.target)

abbrev pub IsNotAfter : Row → Row → Type 0
IsNotAfter a b = is_le (place_cmp a b) ≡ true

-- no row is after a later one
abbrev pub IsAscending : List Row → Type 0
IsAscending [] = Unit {0}
IsAscending (row ∷ rows) = AllByRecursion (IsNotAfter row) rows × IsAscending rows

-- Those of each document and target are its list, in its order; and documents and targets ascend.
pub record AreRows (table : client.Table) (rows : List Row) : Type 0 where
  pub whole : (document target : List ℕ) → map item_of (filter (is_row_of document target) rows) ≡ table document target
  pub ordered : IsAscending rows

-- ---- as they are listed

abbrev pub list_rows : List ℕ → List ℕ → List DiagnosticRecord → List Row
list_rows document target list = map (λ item. record { document = document; target = target; item = item }) list

abbrev pub shelf_rows : List ℕ → List (Key × Vec DiagnosticRecord Global) → List Row
shelf_rows document [] = []
shelf_rows document (entry ∷ entries) = list_rows document entry.0.items entry.1.items ++ shelf_rows document entries

abbrev pub all_rows : List (Key × Shelf) → List Row
all_rows [] = []
all_rows (entry ∷ entries) = shelf_rows entry.0.items entry.1.entries ++ all_rows entries
