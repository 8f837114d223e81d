-- What is shown of a document and a target, once what is kept of them has changed.
use Rattle.std.proofs.Common.{◌≡◌, ◌∙◌, ◌&&◌, ℕ, List, [], Bool, true, false, Option, Vec, Result, Ok, Err, OnOk, OnErr, refl, ap, sym}
use Rattle.std.specs.Prelude.{if◌then◌else◌}
use Rattle.std.specs.BTreeMap.{BTreeMap, UpdatesBy, get_by, is_at}
use Rattle.std.specs.Cmp.Lexicographic.{slice_cmp}
use Rattle.std.specs.Map.{AreApart, IsKeyTest, KeepsOthers, lookup}
use Rattle.std.specs.Ordering.{eq_by_cmp, is_eq, nat_cmp}
use Rattle.std.specs.declared.alloc.Global.{Global}
use Rattle.std.proofs.lemmas.Cmp.{nat_list_cmp_total, eq_by_cmp_equiv}
use Rattle.std.proofs.lemmas.Map.Text.{is_eq-slice_cmp}
use Rattle.std.proofs.lemmas.Slice.Eq.{bytes_eq-Decides}
use Rattle.bsp_records.specs.declared.diagnostics.DiagnosticRecord.{DiagnosticRecord}
use Rattle.client_table.specs.Showing.{IsShownAt, Key, Shelf, after_reset, is_same, items_of, key_cmp, shown_in, shown_on, shown_there}
use Rattle.client_table.proofs.RowLaws.{by_bytes, passed_by}

-- ---- a clause under the case of a result

pub on_ok : {A B : Type 0} {P Q : Type 0} (r : Result A B) → OnOk r P → (P → Q) → OnOk r Q
on_ok (Ok a) h f = f h
on_ok (Err e) h f = tt

pub on_err : {A B : Type 0} {P Q : Type 0} (r : Result A B) → OnErr r P → (P → Q) → OnErr r Q
on_err (Ok a) h f = tt
on_err (Err e) h f = f h

-- ---- one key

other_entries : {X : Type 0} (test : Key → Bool) (old new : List (Key × X)) → KeepsOthers (eq_by_cmp key_cmp) test old new
    → (other : Key → Bool) → IsKeyTest (eq_by_cmp key_cmp) other → AreApart test other → lookup other new ≡ lookup other old
unfolding KeepsOthers
other_entries test old new h = h

module _ {X : Type 0} (bytes : List ℕ) (old new : BTreeMap Key X) (value : Option X) (h : UpdatesBy key_cmp (λ (key : Key). slice_cmp nat_cmp bytes key.items) old new value) where
  -- what is found by other bytes stays
  kept : (other : List ℕ) → is_same bytes other ≡ false
      → get_by (λ (key : Key). slice_cmp nat_cmp other key.items) new ≡ get_by (λ (key : Key). slice_cmp nat_cmp other key.items) old
  kept other e =
      other_entries (is_at (λ (key : Key). slice_cmp nat_cmp bytes key.items)) old.entries new.entries h.3 (is_at (λ (key : Key). slice_cmp nat_cmp other key.items))
      (λ x y. (eq_by_cmp_equiv nat_list_cmp_total).congr other x.items y.items)
      (λ key is. apart key.items is)
    where
      apart : (key : List ℕ) → is_eq (slice_cmp nat_cmp bytes key) ≡ true → is_eq (slice_cmp nat_cmp other key) ≡ false
      apart key is =
          let same : bytes ≡ key = (bytes_eq-Decides bytes key).0 (sym (is_eq-slice_cmp bytes key) ∙ is) in
          passed_by key other (ap (λ x. is_same x other) (sym same) ∙ e)

  pub updated : (other : List ℕ) → get_by (λ (key : Key). slice_cmp nat_cmp other key.items) new ≡ (if is_same bytes other then value else get_by (λ (key : Key). slice_cmp nat_cmp other key.items) old)
  updated other = by (is_same bytes other) refl
    where
      by : (b : Bool) → is_same bytes other ≡ b
          → get_by (λ (key : Key). slice_cmp nat_cmp other key.items) new ≡ (if is_same bytes other then value else get_by (λ (key : Key). slice_cmp nat_cmp other key.items) old)
      by true e =
          ap (λ (x : List ℕ). get_by (λ (key : Key). slice_cmp nat_cmp x key.items) new) (sym (by_bytes bytes other e))
          ∙ (h.1 ∙ sym (ap (λ b. if b then value else get_by (λ (key : Key). slice_cmp nat_cmp other key.items) old) e))
      by false e = kept other e ∙ sym (ap (λ b. if b then value else get_by (λ (key : Key). slice_cmp nat_cmp other key.items) old) e)

-- ---- one shelf

module _ (target : List ℕ) (old new : Shelf) (value : Option (Vec DiagnosticRecord Global)) (h : UpdatesBy key_cmp (λ (key : Key). slice_cmp nat_cmp target key.items) old new value) where
  -- for the target what its list became, for others what was shown
  pub shelf_shows : (f : List DiagnosticRecord → List DiagnosticRecord) → items_of value ≡ f (shown_on old target)
      → (other : List ℕ) → shown_on new other ≡ (if is_same target other then f (shown_on old other) else shown_on old other)
  shelf_shows f is other = ap items_of (updated target old new value h other) ∙ by (is_same target other) refl
    where
      by : (b : Bool) → is_same target other ≡ b
          → items_of (if is_same target other then value else get_by (λ (key : Key). slice_cmp nat_cmp other key.items) old) ≡ (if is_same target other then f (shown_on old other) else shown_on old other)
      by true e =
          ap (λ b. items_of (if b then value else get_by (λ (key : Key). slice_cmp nat_cmp other key.items) old)) e
          ∙ (is ∙ (ap (λ (x : List ℕ). f (shown_on old x)) (by_bytes target other e)
          ∙ sym (ap (λ b. if b then f (shown_on old other) else shown_on old other) e)))
      by false e =
          ap (λ b. items_of (if b then value else get_by (λ (key : Key). slice_cmp nat_cmp other key.items) old)) e
          ∙ sym (ap (λ b. if b then f (shown_on old other) else shown_on old other) e)

  pub shelf_stays : items_of value ≡ shown_on old target → (other : List ℕ) → shown_on new other ≡ shown_on old other
  shelf_stays is other = shelf_shows (λ list. list) is other ∙ by (is_same target other)
    where
      by : (b : Bool) → (if b then shown_on old other else shown_on old other) ≡ shown_on old other
      by true = refl
      by false = refl

pub first_list : (reset : Bool) (list : List DiagnosticRecord) → list ≡ after_reset reset [] list
first_list true list = refl
first_list false list = refl

-- ---- all documents

module _ (document : List ℕ) (old new : BTreeMap Key Shelf) (value : Option Shelf) (h : UpdatesBy key_cmp (λ (key : Key). slice_cmp nat_cmp document key.items) old new value) where
  pub documents_show : (d t : List ℕ) → shown_in new d t ≡ (if is_same document d then shown_there value t else shown_in old d t)
  documents_show d t = ap (λ (o : Option Shelf). shown_there o t) (updated document old new value h d) ∙ by (is_same document d)
    where
      by : (b : Bool) → shown_there (if b then value else get_by (λ (key : Key). slice_cmp nat_cmp d key.items) old) t ≡ (if b then shown_there value t else shown_in old d t)
      by true = refl
      by false = refl

  -- where this shelf shows the list for the target, and else what was shown of the document
  pub is_shown_at : (target : List ℕ) (list : List DiagnosticRecord) → ((t : List ℕ) → shown_there value t ≡ (if is_same target t then list else shown_in old document t))
      → IsShownAt document target list (shown_in old) (shown_in new)
  is_shown_at target list is d t = documents_show d t ∙ by (is_same document d) refl
    where
      by : (b : Bool) → is_same document d ≡ b → (if b then shown_there value t else shown_in old d t) ≡ (if b && is_same target t then list else shown_in old d t)
      by true e = is t ∙ ap (λ (x : List ℕ). if is_same target t then list else shown_in old x t) (by_bytes document d e)
      by false e = refl

  pub documents_stay : ((t : List ℕ) → shown_there value t ≡ shown_in old document t) → (d t : List ℕ) → shown_in new d t ≡ shown_in old d t
  documents_stay is d t = documents_show d t ∙ by (is_same document d) refl
    where
      by : (b : Bool) → is_same document d ≡ b → (if b then shown_there value t else shown_in old d t) ≡ shown_in old d t
      by true e = is t ∙ ap (λ (x : List ℕ). shown_in old x t) (by_bytes document d e)
      by false e = refl

-- a list that was put on a shelf, where the shelf showed what was shown of the document
pub put_there : (target : List ℕ) (reset : Bool) (records : List DiagnosticRecord) (before was : List ℕ → List DiagnosticRecord) (after : List ℕ → List DiagnosticRecord)
    → ((t : List ℕ) → before t ≡ was t)
    → ((t : List ℕ) → after t ≡ (if is_same target t then after_reset reset (before t) records else before t))
    → (t : List ℕ) → after t ≡ (if is_same target t then after_reset reset (was target) records else was t)
put_there target reset records before was after same put t = put t ∙ by (is_same target t) refl
  where
    by : (b : Bool) → is_same target t ≡ b → (if b then after_reset reset (before t) records else before t) ≡ (if b then after_reset reset (was target) records else was t)
    by true e = ap (λ list. after_reset reset list records) (same t ∙ ap was (sym (by_bytes target t e)))
    by false e = same t
