-- The rows of a table as they are listed: each list once, in order.
use Rattle.std.proofs.Common.{◌≡◌, ◌∙◌, ◌&&◌, ◌++◌, ℕ, List, [], ◌∷◌, Bool, true, false, cond, Option, Some, None, Vec, map, filter, refl, ap, sym, true≢false}
use Rattle.std.specs.BTreeMap.{BTreeMap, IsOrdered, is_at}
use Rattle.std.specs.Cmp.Lexicographic.{slice_cmp}
use Rattle.std.specs.List.{AllByRecursion}
use Rattle.std.specs.List.Sorted.{IsStrictlySortedBy}
use Rattle.std.specs.Map.{keys_of, lookup}
use Rattle.std.specs.Ordering.{is_eq, is_le, nat_cmp, ordering_then}
use Rattle.std.specs.declared.cmp.Ordering.{Ordering}
use Rattle.std.specs.declared.cmp.Ordering.TheVariants.{Less, Equal, Greater}
use Rattle.std.proofs.lemmas.List.{map-append}
use Rattle.std.proofs.lemmas.List.Elements.{filter-append}
use Rattle.std.proofs.lemmas.Map.Keys.{sorted_head, sorted_tail}
use Rattle.std.proofs.lemmas.Map.Text.{is_eq-slice_cmp}
use Rattle.std.proofs.lemmas.Slice.Eq.{bytes_eq-Decides}
use Rattle.std.specs.declared.alloc.Global.{Global}
use Rattle.bsp_records.specs.declared.diagnostics.DiagnosticRecord.{DiagnosticRecord}
use Rattle.client_table.specs.Rows.{AreRows, IsAscending, IsNotAfter, all_rows, is_row_of, item_of, list_rows, shelf_rows}
use Rattle.client_table.specs.Showing.{IsOrderedShelf, Key, Shelf, is_same, items_of, key_cmp, shown_in, shown_on, shown_there}
use Rattle.client_table.specs.declared.rows.Row.{Row}

abbrev pub AreOrdered : List (Key × Shelf) → Type 0
AreOrdered [] = Unit {0}
AreOrdered (entry ∷ entries) = IsOrderedShelf entry.1 × AreOrdered entries

-- ---- bytes that are compared

pub by_bytes : (a b : List ℕ) → is_same a b ≡ true → a ≡ b
by_bytes a b h = (bytes_eq-Decides a b).0 h

as_bytes : (a b : List ℕ) → a ≡ b → is_same a b ≡ true
as_bytes a b h = (bytes_eq-Decides a b).1 h

-- a key is found by the same bytes
pub found : (key bytes : List ℕ) → is_same key bytes ≡ true → is_eq (slice_cmp nat_cmp bytes key) ≡ true
found key bytes h = is_eq-slice_cmp bytes key ∙ as_bytes bytes key (sym (by_bytes key bytes h))

pub passed_by : (key bytes : List ℕ) → is_same key bytes ≡ false → is_eq (slice_cmp nat_cmp bytes key) ≡ false
passed_by key bytes h = is_eq-slice_cmp bytes key ∙ by (is_same bytes key) refl
  where
    by : (b : Bool) → is_same bytes key ≡ b → is_same bytes key ≡ false
    by true e = absurd (true≢false (sym (as_bytes key bytes (sym (by_bytes bytes key e))) ∙ h))
    by false e = e

equal_by : (o : Ordering) → is_eq o ≡ true → o ≡ Equal
equal_by Less h = absurd (true≢false (sym h))
equal_by Equal h = refl
equal_by Greater h = absurd (true≢false (sym h))

self_cmp : (a : List ℕ) → slice_cmp nat_cmp a a ≡ Equal
self_cmp a = equal_by (slice_cmp nat_cmp a a) (is_eq-slice_cmp a a ∙ as_bytes a a refl)

-- behind a key in order no key is found by its bytes
none_later : {X : Type 0} (key : Key) (bytes : List ℕ) → key.items ≡ bytes → (entries : List (Key × X)) → AllByRecursion (λ other. key_cmp key other ≡ Less) (keys_of entries)
    → lookup (is_at (λ (other : Key). slice_cmp nat_cmp bytes other.items)) entries ≡ None
none_later key bytes same [] less = refl
none_later key bytes same (entry ∷ entries) less =
    ap (λ b. cond b (Some entry.1) (lookup (is_at (λ (other : Key). slice_cmp nat_cmp bytes other.items)) entries))
    (ap (λ x. is_eq (slice_cmp nat_cmp x entry.0.items)) (sym same) ∙ ap is_eq less.0)
    ∙ none_later key bytes same entries less.1

-- ---- what the rows of a place are

abbrev pub row_of : List ℕ → List ℕ → DiagnosticRecord → Row
row_of document target item = record { document = document; target = target; item = item }

abbrev pub items_in : List ℕ → List ℕ → List Row → List DiagnosticRecord
items_in d t rows = map item_of (filter (is_row_of d t) rows)

items_append : (d t : List ℕ) (xs ys : List Row) → items_in d t (xs ++ ys) ≡ items_in d t xs ++ items_in d t ys
items_append d t xs ys = ap (map item_of) (filter-append (is_row_of d t) xs ys) ∙ map-append item_of (filter (is_row_of d t) xs) (filter (is_row_of d t) ys)

module _ (document target d t : List ℕ) where
  all_in : (is_same document d && is_same target t) ≡ true → (list : List DiagnosticRecord) → items_in d t (list_rows document target list) ≡ list
  all_in h [] = refl
  all_in h (item ∷ list) =
      let rest = filter (is_row_of d t) (list_rows document target list) in
      ap (λ b. map item_of (cond b (row_of document target item ∷ rest) rest)) h ∙ ap (λ (items : List DiagnosticRecord). item ∷ items) (all_in h list)

  none_in : (is_same document d && is_same target t) ≡ false → (list : List DiagnosticRecord) → items_in d t (list_rows document target list) ≡ []
  none_in h [] = refl
  none_in h (item ∷ list) =
      let rest = filter (is_row_of d t) (list_rows document target list) in
      ap (λ b. map item_of (cond b (row_of document target item ∷ rest) rest)) h ∙ none_in h list

append_none : (xs : List DiagnosticRecord) → xs ++ [] ≡ xs
append_none [] = refl
append_none (x ∷ xs) = ap (λ (ys : List DiagnosticRecord). x ∷ ys) (append_none xs)

module _ (document d t : List ℕ) where
  -- the rows of a document are those of its targets
  in_shelf : is_same document d ≡ true → (entries : List (Key × Vec DiagnosticRecord Global)) → IsStrictlySortedBy key_cmp (keys_of entries)
      → items_in d t (shelf_rows document entries) ≡ items_of (lookup (is_at (λ (key : Key). slice_cmp nat_cmp t key.items)) entries)
  in_shelf here [] sorted = refl
  in_shelf here (entry ∷ entries) sorted = by (is_same entry.0.items t) refl (in_shelf here entries (sorted_tail key_cmp entry.0 (keys_of entries) sorted))
    where
      by : (b : Bool) → is_same entry.0.items t ≡ b → items_in d t (shelf_rows document entries) ≡ items_of (lookup (is_at (λ (key : Key). slice_cmp nat_cmp t key.items)) entries)
          → items_in d t (shelf_rows document (entry ∷ entries)) ≡ items_of (lookup (is_at (λ (key : Key). slice_cmp nat_cmp t key.items)) (entry ∷ entries))
      by true same rest =
          let both : (is_same document d && is_same entry.0.items t) ≡ true = ap (λ b. b && is_same entry.0.items t) here ∙ same in
          let none = none_later entry.0 t (by_bytes entry.0.items t same) entries (sorted_head key_cmp entry.0 (keys_of entries) sorted) in
          items_append d t (list_rows document entry.0.items entry.1.items) (shelf_rows document entries)
          ∙ (ap (λ (xs : List DiagnosticRecord). xs ++ items_in d t (shelf_rows document entries)) (all_in document entry.0.items d t both entry.1.items)
          ∙ (ap (λ (xs : List DiagnosticRecord). entry.1.items ++ xs) (rest ∙ ap items_of none)
          ∙ (append_none entry.1.items
          ∙ sym (ap (λ b. items_of (cond b (Some entry.1) (lookup (is_at (λ (key : Key). slice_cmp nat_cmp t key.items)) entries))) (found entry.0.items t same)))))
      by false other rest =
          let both : (is_same document d && is_same entry.0.items t) ≡ false = ap (λ b. b && is_same entry.0.items t) here ∙ other in
          items_append d t (list_rows document entry.0.items entry.1.items) (shelf_rows document entries)
          ∙ (ap (λ (xs : List DiagnosticRecord). xs ++ items_in d t (shelf_rows document entries)) (none_in document entry.0.items d t both entry.1.items)
          ∙ (rest ∙ sym (ap (λ b. items_of (cond b (Some entry.1) (lookup (is_at (λ (key : Key). slice_cmp nat_cmp t key.items)) entries))) (passed_by entry.0.items t other))))

  -- and none of another document is among them
  not_in_shelf : is_same document d ≡ false → (entries : List (Key × Vec DiagnosticRecord Global)) → items_in d t (shelf_rows document entries) ≡ []
  not_in_shelf away [] = refl
  not_in_shelf away (entry ∷ entries) =
      items_append d t (list_rows document entry.0.items entry.1.items) (shelf_rows document entries)
      ∙ (ap (λ (xs : List DiagnosticRecord). xs ++ items_in d t (shelf_rows document entries)) (none_in document entry.0.items d t (ap (λ b. b && is_same entry.0.items t) away) entry.1.items)
      ∙ not_in_shelf away entries)

module _ (d t : List ℕ) where
  in_all : (entries : List (Key × Shelf)) → IsStrictlySortedBy key_cmp (keys_of entries) → AreOrdered entries
      → items_in d t (all_rows entries) ≡ shown_there (lookup (is_at (λ (key : Key). slice_cmp nat_cmp d key.items)) entries) t
  in_all [] sorted ordered = refl
  in_all (entry ∷ entries) sorted ordered =
      by (is_same entry.0.items d) refl (in_all entries (sorted_tail key_cmp entry.0 (keys_of entries) sorted) ordered.1)
    where
      by : (b : Bool) → is_same entry.0.items d ≡ b
          → items_in d t (all_rows entries) ≡ shown_there (lookup (is_at (λ (key : Key). slice_cmp nat_cmp d key.items)) entries) t
          → items_in d t (all_rows (entry ∷ entries)) ≡ shown_there (lookup (is_at (λ (key : Key). slice_cmp nat_cmp d key.items)) (entry ∷ entries)) t
      by true same rest =
          let none = none_later entry.0 d (by_bytes entry.0.items d same) entries (sorted_head key_cmp entry.0 (keys_of entries) sorted) in
          items_append d t (shelf_rows entry.0.items entry.1.entries) (all_rows entries)
          ∙ (ap (λ (xs : List DiagnosticRecord). xs ++ items_in d t (all_rows entries)) (in_shelf entry.0.items d t same entry.1.entries ordered.0)
          ∙ (ap (λ (xs : List DiagnosticRecord). shown_on entry.1 t ++ xs) (rest ∙ ap (λ (o : Option Shelf). shown_there o t) none)
          ∙ (append_none (shown_on entry.1 t)
          ∙ sym (ap (λ b. shown_there (cond b (Some entry.1) (lookup (is_at (λ (key : Key). slice_cmp nat_cmp d key.items)) entries)) t) (found entry.0.items d same)))))
      by false other rest =
          items_append d t (shelf_rows entry.0.items entry.1.entries) (all_rows entries)
          ∙ (ap (λ (xs : List DiagnosticRecord). xs ++ items_in d t (all_rows entries)) (not_in_shelf entry.0.items d t other entry.1.entries)
          ∙ (rest ∙ sym (ap (λ b. shown_there (cond b (Some entry.1) (lookup (is_at (λ (key : Key). slice_cmp nat_cmp d key.items)) entries)) t) (passed_by entry.0.items d other))))

-- ---- no row is after a later one

module _ (P : Row → Type 0) where
  all_append : (xs ys : List Row) → AllByRecursion P xs → AllByRecursion P ys → AllByRecursion P (xs ++ ys)
  all_append [] ys a b = b
  all_append (x ∷ xs) ys a b = (a.0, all_append xs ys a.1 b)

  each_of_list : (document target : List ℕ) (list : List DiagnosticRecord) → ((item : DiagnosticRecord) → P (row_of document target item)) → AllByRecursion P (list_rows document target list)
  each_of_list document target [] f = tt
  each_of_list document target (item ∷ list) f = (f item, each_of_list document target list f)

  each_of_shelf : (document : List ℕ) (entries : List (Key × Vec DiagnosticRecord Global)) → ((target : List ℕ) (item : DiagnosticRecord) → P (row_of document target item)) → AllByRecursion P (shelf_rows document entries)
  each_of_shelf document [] f = tt
  each_of_shelf document (entry ∷ entries) f =
      all_append (list_rows document entry.0.items entry.1.items) (shelf_rows document entries) (each_of_list document entry.0.items entry.1.items (f entry.0.items)) (each_of_shelf document entries f)

ascending_append : (xs ys : List Row) → IsAscending xs → IsAscending ys → AllByRecursion (λ x. AllByRecursion (IsNotAfter x) ys) xs → IsAscending (xs ++ ys)
ascending_append [] ys a b c = b
ascending_append (x ∷ xs) ys a b c = (all_append (IsNotAfter x) xs ys a.0 c.0, ascending_append xs ys a.1 b c.1)

module _ (document : List ℕ) where
  not_after : (target other : List ℕ) (x y : DiagnosticRecord) → is_le (slice_cmp nat_cmp target other) ≡ true → IsNotAfter (row_of document target x) (row_of document other y)
  not_after target other x y h = ap (λ o. is_le (ordering_then o (slice_cmp nat_cmp target other))) (self_cmp document) ∙ h

  list_ascends : (target : List ℕ) (list : List DiagnosticRecord) → IsAscending (list_rows document target list)
  list_ascends target [] = tt
  list_ascends target (item ∷ list) =
      (each_of_list (IsNotAfter (row_of document target item)) document target list (λ y. not_after target target item y (ap is_le (self_cmp target))), list_ascends target list)

  before_targets : (key : Key) (item : DiagnosticRecord) (entries : List (Key × Vec DiagnosticRecord Global)) → AllByRecursion (λ other. key_cmp key other ≡ Less) (keys_of entries)
      → AllByRecursion (IsNotAfter (row_of document key.items item)) (shelf_rows document entries)
  before_targets key item [] less = tt
  before_targets key item (entry ∷ entries) less =
      all_append (IsNotAfter (row_of document key.items item)) (list_rows document entry.0.items entry.1.items) (shelf_rows document entries)
      (each_of_list (IsNotAfter (row_of document key.items item)) document entry.0.items entry.1.items (λ y. not_after key.items entry.0.items item y (ap is_le less.0)))
      (before_targets key item entries less.1)

  shelf_ascends : (entries : List (Key × Vec DiagnosticRecord Global)) → IsStrictlySortedBy key_cmp (keys_of entries) → IsAscending (shelf_rows document entries)
  shelf_ascends [] sorted = tt
  shelf_ascends (entry ∷ entries) sorted =
      ascending_append (list_rows document entry.0.items entry.1.items) (shelf_rows document entries) (list_ascends entry.0.items entry.1.items)
      (shelf_ascends entries (sorted_tail key_cmp entry.0 (keys_of entries) sorted))
      (each_of_list (λ x. AllByRecursion (IsNotAfter x) (shelf_rows document entries)) document entry.0.items entry.1.items
      (λ item. before_targets entry.0 item entries (sorted_head key_cmp entry.0 (keys_of entries) sorted)))

before_documents : (key : Key) (target : List ℕ) (item : DiagnosticRecord) (entries : List (Key × Shelf)) → AllByRecursion (λ other. key_cmp key other ≡ Less) (keys_of entries)
    → AllByRecursion (IsNotAfter (row_of key.items target item)) (all_rows entries)
before_documents key target item [] less = tt
before_documents key target item (entry ∷ entries) less =
    all_append (IsNotAfter (row_of key.items target item)) (shelf_rows entry.0.items entry.1.entries) (all_rows entries)
    (each_of_shelf (IsNotAfter (row_of key.items target item)) entry.0.items entry.1.entries (λ other y. ap (λ o. is_le (ordering_then o (slice_cmp nat_cmp target other))) less.0))
    (before_documents key target item entries less.1)

all_ascends : (entries : List (Key × Shelf)) → IsStrictlySortedBy key_cmp (keys_of entries) → AreOrdered entries → IsAscending (all_rows entries)
all_ascends [] sorted ordered = tt
all_ascends (entry ∷ entries) sorted ordered =
    ascending_append (shelf_rows entry.0.items entry.1.entries) (all_rows entries) (shelf_ascends entry.0.items entry.1.entries ordered.0)
    (all_ascends entries (sorted_tail key_cmp entry.0 (keys_of entries) sorted) ordered.1)
    (each_of_shelf (λ x. AllByRecursion (IsNotAfter x) (all_rows entries)) entry.0.items entry.1.entries
    (λ target item. before_documents entry.0 target item entries (sorted_head key_cmp entry.0 (keys_of entries) sorted)))

pub are_rows : (documents : BTreeMap Key Shelf) → IsOrdered key_cmp documents → AreOrdered documents.entries → AreRows (shown_in documents) (all_rows documents.entries)
are_rows documents sorted ordered = record {
  whole = λ d t. in_all d t documents.entries sorted ordered;
  ordered = all_ascends documents.entries sorted ordered;
}
