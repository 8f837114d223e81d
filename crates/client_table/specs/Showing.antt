-- What a client shows, as it is kept: of each document its targets, and of each of these a list.
use Rattle.std.specs.Prelude.{◌≡◌, ◌==◌, ◌&&◌, ◌++◌, ℕ, Bool, List, [], Option, None, Some, Vec, if◌then◌else◌}
use Rattle.std.specs.BTreeMap.{BTreeMap, IsOrdered, get_by}
use Rattle.std.specs.Cmp.Lexicographic.{pointwise, slice_cmp}
use Rattle.std.specs.Ordering.{nat_cmp}
use Rattle.std.specs.declared.cmp.Ordering.{Ordering}
use Rattle.std.specs.declared.alloc.Global.{Global}
use Rattle.bsp_records.specs.Table as client
use Rattle.bsp_records.specs.declared.diagnostics.DiagnosticRecord.{DiagnosticRecord}
use Rattle.client_table.specs.declared.table.Table.{Table}

abbrev pub is_same : List ℕ → List ℕ → Bool
is_same a b = pointwise ◌==◌ a b

-- a list that is published, by the reset rule
abbrev pub after_reset : Bool → List DiagnosticRecord → List DiagnosticRecord → List DiagnosticRecord
after_reset reset old list = if reset then list else old ++ list

-- ---- what is kept

-- the bytes of an address or an id
abbrev pub Key : Type 0
Key = Vec ℕ Global

-- of a document, the list of each target
abbrev pub Shelf : Type 0
Shelf = BTreeMap Key (Vec DiagnosticRecord Global)

-- as keys are compared
abbrev pub key_cmp : Key → Key → Ordering
key_cmp a b = slice_cmp nat_cmp a.items b.items

abbrev pub IsOrderedShelf : Shelf → Type 0
IsOrderedShelf shelf = IsOrdered key_cmp shelf

abbrev pub items_of : Option (Vec DiagnosticRecord Global) → List DiagnosticRecord
items_of None = []
items_of (Some records) = records.items

abbrev pub shown_on : Shelf → List ℕ → List DiagnosticRecord
shown_on shelf target = items_of (get_by (λ (key : Key). slice_cmp nat_cmp target key.items) shelf)

abbrev pub shown_there : Option Shelf → List ℕ → List DiagnosticRecord
shown_there None target = []
shown_there (Some shelf) target = shown_on shelf target

abbrev pub shown_in : BTreeMap Key Shelf → client.Table
shown_in documents document target = shown_there (get_by (λ (key : Key). slice_cmp nat_cmp document key.items) documents) target

-- ---- what is shown

-- the list that is shown of a document and a target
abbrev pub shows : Table → client.Table
shows kept = shown_in kept.documents

-- the same is shown of each document and target
abbrev pub IsSame : client.Table → client.Table → Type 0
IsSame old new = (document target : List ℕ) → new document target ≡ old document target

abbrev pub Shows : Table → client.Table → Type 0
Shows kept table = IsSame table (shows kept)

-- this list is shown of a document and a target, and of others what was
abbrev pub IsShownAt : List ℕ → List ℕ → List DiagnosticRecord → client.Table → client.Table → Type 0
IsShownAt document target list old new =
    (d t : List ℕ) → new d t ≡ (if is_same document d && is_same target t then list else old d t)
