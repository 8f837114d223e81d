-- What publications of pieces make a client show.
use Rattle.std.proofs.Common.{◌≡◌, ◌++◌, ◌≤◌, ℕ, zero, suc, List, [], ◌∷◌, length, map, take, drop, Bool, true, false, Option, refl, sym, ap, ◌∙◌, subst, arith, append_assoc, append-nil}
use Rattle.std.proofs.lemmas.List.{take-append-drop, length-drop, length-take}
use Rattle.std.proofs.lemmas.Slice.Eq.{bytes_eq-Decides}
use Rattle.std.proofs.lemmas.List.Elements.{All-nil, All-cons, All-head, All-tail, All-take, All-drop}
use Rattle.std.specs.Prelude.{⊤, ◌&&◌, if◌then◌else◌}
use Rattle.std.specs.List.{All}
use Rattle.std.specs.Option.{IfSome}
use Rattle.std.specs.Str.{bytes_eq}
use Rattle.ob_text.specs.Ascii.{IsWithin}
use Rattle.bsp_address.specs.Address.{IsAddress}
use Rattle.bsp_records.specs.Limits.{origin_limit}
use Rattle.ob_text.specs.declared.diagnostic.Diagnostic.{Diagnostic}
use Rattle.bsp_records.proofs.ShortLaws.{shown_short}
use Rattle.bsp_records.specs.Short.{diagnostics_limit, IsShortPublication, IsShortRecord}
use Rattle.bsp_records.specs.Shown.{shown}
use Rattle.bsp_records.specs.Table.{Table, published, table_with}
use Rattle.bsp_records.specs.declared.diagnostics.DiagnosticRecord.{DiagnosticRecord}
use Rattle.bsp_records.specs.declared.publishing.PublishDiagnosticsParams.{PublishDiagnosticsParams}
use Rattle.task_stream.specs.Pieces.{cut, later_pieces, piece, pieces, IsPiece}
use Rattle.task_stream.specs.Showing.{is_at, shows, MakeShow}
use Rattle.task_stream.specs.Waiting.{IsShortDiagnostic}
use Rattle.task_stream.specs.declared.shown.TableKey.{TableKey}
use Rattle.task_stream.specs.declared.shown.Shown.{Shown}

-- ---- the pieces of a list are the list

abbrev pub joined : {A : Type 0} → List (List A) → List A
joined [] = []
joined (piece ∷ pieces) = piece ++ joined pieces

length_drop_less : {A : Type 0} (n k : ℕ) (x : A) (xs : List A) → length (x ∷ xs) ≤ suc n → length (drop (suc k) (x ∷ xs)) ≤ n
length_drop_less n k x xs h = let l = length-drop k xs in omega (arith, l)

cut_joined : {A : Type 0} (most : ℕ) (items : List A) → length items ≤ most → joined (cut most items) ≡ items
cut_joined zero [] h = refl
cut_joined zero (x ∷ xs) h = absurd (omega arith)
cut_joined (suc most) [] h = refl
cut_joined (suc most) (x ∷ xs) h =
    ap (λ rest. take diagnostics_limit (x ∷ xs) ++ rest) (cut_joined most (drop diagnostics_limit (x ∷ xs)) (length_drop_less most 99 x xs h)) ∙ take-append-drop diagnostics_limit (x ∷ xs)

cut_nil : {A : Type 0} (most : ℕ) → cut {A = A} most [] ≡ []
cut_nil zero = refl
cut_nil (suc most) = refl

-- how many there may be doesn't count, where it is enough
pub cut_same : {A : Type 0} (m n : ℕ) (items : List A) → length items ≤ m → length items ≤ n → cut m items ≡ cut n items
cut_same m n [] h k = cut_nil m ∙ sym (cut_nil n)
cut_same zero n (x ∷ xs) h k = absurd (omega arith)
cut_same (suc m) zero (x ∷ xs) h k = absurd (omega arith)
cut_same (suc m) (suc n) (x ∷ xs) h k =
    ap (λ rest. take diagnostics_limit (x ∷ xs) ∷ rest) (cut_same m n (drop diagnostics_limit (x ∷ xs)) (length_drop_less m 99 x xs h) (length_drop_less n 99 x xs k))

whole_joined : {A : Type 0} (items : List A) → take diagnostics_limit items ++ joined (later_pieces items) ≡ items
whole_joined items =
    let less : length (drop diagnostics_limit items) ≤ length items = let l = length-drop diagnostics_limit items in omega (arith, l) in
    ap (λ rest. take diagnostics_limit items ++ rest) (cut_joined (length items) (drop diagnostics_limit items) less) ∙ take-append-drop diagnostics_limit items

-- ---- what a client shows then

module _ (key : TableKey) (origin : Option (List ℕ)) (document target : List ℕ) where
  -- pieces that don't reset add to what is shown at their key
  added : (here : is_at key document target ≡ true) (parts : List (List DiagnosticRecord)) (table : Table)
      → table_with (map (piece key origin false) parts) table document target ≡ table document target ++ joined parts
  added here [] table = sym (append-nil (table document target))
  added here (part ∷ parts) table =
      let first : published (piece key origin false part) table document target ≡ table document target ++ part = rw here refl in
      added here parts (published (piece key origin false part) table) ∙ (ap (λ list. list ++ joined parts) first ∙ append_assoc (table document target) part (joined parts))

  -- and change nothing elsewhere
  kept : (there : is_at key document target ≡ false) (reset : Bool) (parts : List (List DiagnosticRecord)) (table : Table)
      → table_with (map (piece key origin reset) parts) table document target ≡ table document target
  kept there reset [] table = refl
  kept there reset (part ∷ parts) table =
      let first : published (piece key origin reset part) table document target ≡ table document target = rw there refl in
      kept there reset parts (published (piece key origin reset part) table) ∙ first

  -- the pieces of a list make it the one that is shown at their key
  pieces_show : is_at key document target ≡ true → (records : List DiagnosticRecord) (table : Table) → table_with (pieces key origin records) table document target ≡ records
  pieces_show here records table =
      let first = take diagnostics_limit records in
      let begun : published (piece key origin true first) table document target ≡ first = rw here refl in
      added here (later_pieces records) (published (piece key origin true first) table) ∙ (ap (λ list. list ++ joined (later_pieces records)) begun ∙ whole_joined records)

  pieces_keep : is_at key document target ≡ false → (records : List DiagnosticRecord) (table : Table) → table_with (pieces key origin records) table document target ≡ table document target
  pieces_keep there records table =
      let first : published (piece key origin true (take diagnostics_limit records)) table document target ≡ table document target = rw there refl in
      kept there false (later_pieces records) (published (piece key origin true (take diagnostics_limit records)) table) ∙ first

-- so the pieces make a client show the list
pub pieces_make : (ps : List PublishDiagnosticsParams) (old : Shown) (key : TableKey) (records : List DiagnosticRecord) (origin : Option (List ℕ))
    → ps ≡ pieces key origin records → MakeShow ps old key records
pieces_make ps old key records origin is table agrees document target = by_place (is_at key document target) refl
  where
    by_place : (here : Bool) → is_at key document target ≡ here → table_with ps table document target ≡ (if here then records else table document target)
    by_place true here = ap (λ some. table_with some table document target) is ∙ pieces_show key origin document target here records table
    by_place false there = ap (λ some. table_with some table document target) is ∙ pieces_keep key origin document target there records table

left_true : (a b : Bool) → (a && b) ≡ true → a ≡ true
left_true true b h = refl
left_true false b h = absurd (cc)

right_true : (a b : Bool) → (a && b) ≡ true → b ≡ true
right_true true b h = h
right_true false b h = absurd (cc)

-- and none are needed, where the client shows the list already
pub none_make : (ps : List PublishDiagnosticsParams) (old : Shown) (key : TableKey) (records : List DiagnosticRecord)
    → ps ≡ [] → shows old key.document key.target ≡ records → MakeShow ps old key records
none_make ps old key records is shown table agrees document target =
    ap (λ some. table_with some table document target) is ∙ by_place (is_at key document target) refl
  where
    by_place : (here : Bool) → is_at key document target ≡ here → table document target ≡ (if here then records else table document target)
    by_place true here =
        let document_here = bytes_eq key.document document in
        let target_here = bytes_eq key.target target in
        let same_document : key.document ≡ document = (bytes_eq-Decides key.document document).0 (left_true document_here target_here here) in
        let same_target : key.target ≡ target = (bytes_eq-Decides key.target target).0 (right_true document_here target_here here) in
        cc
    by_place false there = refl

-- ---- what holds of each piece

module _ (P : DiagnosticRecord → Type 0) (Q : PublishDiagnosticsParams → Type 0) (key : TableKey) (origin : Option (List ℕ))
    (each : (reset : Bool) (part : List DiagnosticRecord) → length part ≤ diagnostics_limit → All P part → Q (piece key origin reset part)) where
  one : (reset : Bool) (records : List DiagnosticRecord) → All P records → Q (piece key origin reset (take diagnostics_limit records))
  one reset records all =
      each reset (take diagnostics_limit records) (let l = length-take diagnostics_limit records in omega (arith, l)) (All-take P diagnostics_limit records all)

  later : (most : ℕ) (records : List DiagnosticRecord) → All P records → All Q (map (piece key origin false) (cut most records))
  later zero records all = All-nil Q
  later (suc most) [] all = All-nil Q
  later (suc most) (x ∷ xs) all =
      All-cons Q (piece key origin false (take diagnostics_limit (x ∷ xs))) (map (piece key origin false) (cut most (drop diagnostics_limit (x ∷ xs)))) (one false (x ∷ xs) all)
      (later most (drop diagnostics_limit (x ∷ xs)) (All-drop P diagnostics_limit (x ∷ xs) all))

  all_pieces : (records : List DiagnosticRecord) → All P records → All Q (pieces key origin records)
  all_pieces records all =
      All-cons Q (piece key origin true (take diagnostics_limit records)) (map (piece key origin false) (later_pieces records)) (one true records all)
      (later (length records) (drop diagnostics_limit records) (All-drop P diagnostics_limit records all))

pub pieces_few : (ps : List PublishDiagnosticsParams) (key : TableKey) (origin : Option (List ℕ)) (records : List DiagnosticRecord)
    → ps ≡ pieces key origin records → All IsPiece ps
pieces_few ps key origin records is =
    subst (All IsPiece) (sym is) (all_pieces (λ _. ⊤) IsPiece key origin (λ reset part few all. few) records (λ k d h. tt))

pub pieces_short : (ps : List PublishDiagnosticsParams) (key : TableKey) (origin : Option (List ℕ)) (records : List DiagnosticRecord)
    → ps ≡ pieces key origin records → All IsShortRecord records → IsAddress key.document → IsAddress key.target → IfSome origin (IsWithin origin_limit)
    → All IsShortPublication ps
pieces_short ps key origin records is all document target within =
    subst (All IsShortPublication) (sym is)
    (all_pieces IsShortRecord IsShortPublication key origin
    (λ reset part few short. record { document = document; target = target; origin = within; count = few; diagnostics = short }) records all)

-- the records of a text's diagnostics are short
pub records_short : (list : List Diagnostic) → All IsShortDiagnostic list → All IsShortRecord (map shown list)
records_short [] all = All-nil IsShortRecord
records_short (d ∷ list) all =
    let short = All-head IsShortDiagnostic d list all in
    All-cons IsShortRecord (shown d) (map shown list) (shown_short d (shown d) refl short.0 short.1) (records_short list (All-tail IsShortDiagnostic d list all))
