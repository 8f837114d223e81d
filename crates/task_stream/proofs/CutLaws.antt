-- How a list is cut, piece by piece.
use Rattle.std.proofs.Common.{◌≡◌, ◌++◌, ◌≤◌, ◌<◌, ◌+◌, ◌-◌, ltb, Bool, ℕ, zero, suc, List, [], ◌∷◌, length, map, take, drop, min, true, false, Option, refl, sym, ap, ◌∙◌, arith, append_assoc}
use Rattle.std.specs.Prelude.{◌==◌}
use Rattle.std.proofs.Math.ListN.{drop_of_length-le}
use Rattle.std.proofs.lemmas.Bool.{ltb-false}
use Rattle.std.proofs.lemmas.Bool.Decides.{nat_tests}
use Rattle.std.proofs.lemmas.List.{length-drop, drop-drop}
use Rattle.bsp_records.specs.Short.{diagnostics_limit}
use Rattle.bsp_records.specs.declared.diagnostics.DiagnosticRecord.{DiagnosticRecord}
use Rattle.bsp_records.specs.declared.publishing.PublishDiagnosticsParams.{PublishDiagnosticsParams}
use Rattle.task_stream.specs.Pieces.{cut, later_pieces, piece, pieces}
use Rattle.task_stream.specs.declared.shown.TableKey.{TableKey}
use Rattle.task_stream.proofs.PieceLaws.{cut_same}

drop_min : {A : Type 0} (n : ℕ) (items : List A) → drop (min n (length items)) items ≡ drop n items
drop_min {A = A} n items = by_test (ltb (length items) n) refl
  where
    by_test : (b : Bool) → ltb (length items) n ≡ b → drop (min n (length items)) items ≡ drop n items
    by_test true is =
        let beyond : length items < n = grind (arith, nat_tests) in
        let least : min n (length items) ≡ length items = omega arith in
        ap (λ k. drop k items) least ∙ (drop_of_length-le items (omega arith) ∙ sym (drop_of_length-le items (omega arith)))
    by_test false is =
        let within : n ≤ length items = ltb-false (length items) n is in
        let least : min n (length items) ≡ n = omega arith in
        ap (λ k. drop k items) least

-- the first of what is left, and the others
cut_step : {A : Type 0} (left : ℕ) (items : List A) → length items ≡ left → 0 < left
    → cut left items ≡ take diagnostics_limit items ∷ cut (left - min diagnostics_limit left) (drop diagnostics_limit items)
cut_step left [] is more = absurd (omega arith)
cut_step zero (x ∷ xs) is more = absurd (omega arith)
cut_step (suc most) (x ∷ xs) is more =
    let size = length-drop diagnostics_limit (x ∷ xs) in
    ap (λ rest. take diagnostics_limit (x ∷ xs) ∷ rest) (cut_same most (suc most - min diagnostics_limit (suc most)) (drop diagnostics_limit (x ∷ xs)) (omega (arith, size, is)) (omega (arith, size, is)))

not_first : (n : ℕ) → 0 < n → (n == 0) ≡ false
not_first n h = grind (arith, nat_tests)

-- the pieces of what is left of so many
abbrev pub pieces_left : TableKey → Option (List ℕ) → List DiagnosticRecord → ℕ → ℕ → List PublishDiagnosticsParams
pieces_left key origin records count left = map (piece key origin false) (cut left (drop (count - left) records))

module _ (key : TableKey) (origin : Option (List ℕ)) (records : List DiagnosticRecord) (count : ℕ) (size : length records ≡ count) where
  abbrev behind : ℕ → List PublishDiagnosticsParams
  behind left = pieces_left key origin records count left

  -- the first piece, and those of what is left behind it
  pub first_piece : (least : ℕ) → least ≡ min diagnostics_limit count
      → piece key origin true (take diagnostics_limit (drop 0 records)) ∷ pieces_left key origin records count (count - least) ≡ pieces key origin records
  first_piece least is =
      let total : length records ≡ count = size in
      let at : count - (count - least) ≡ min diagnostics_limit (length records) = omega (arith, is, total) in
      let rest : drop (count - (count - least)) records ≡ drop diagnostics_limit records = ap (λ k. drop k records) at ∙ drop_min diagnostics_limit records in
      let dropped = length-drop diagnostics_limit records in
      let same : cut (count - least) (drop diagnostics_limit records) ≡ later_pieces records =
      cut_same (count - least) (length records) (drop diagnostics_limit records) (omega (arith, dropped, total, is)) (omega (arith, dropped)) in
      ap (λ parts. piece key origin true (take diagnostics_limit records) ∷ map (piece key origin false) parts) (ap (cut (count - least)) rest ∙ same)

  -- the next piece of what is left, and those behind it
  next_cut : (left least : ℕ) → least ≡ min diagnostics_limit left → 0 < left → left ≤ count
      → cut left (drop (count - left) records) ≡ take diagnostics_limit (drop (count - left) records) ∷ cut (left - least) (drop (count - (left - least)) records)
  next_cut left least is more within =
      let total : length records ≡ count = size in
      let rest : List DiagnosticRecord = drop (count - left) records in
      let dropped = length-drop (count - left) records in
      let length_is : length rest ≡ left = omega (arith, dropped, total, within) in
      let at : count - (left - least) ≡ (count - left) + min diagnostics_limit (length rest) = omega (arith, is, within, length_is) in
      let behind_it : drop (count - (left - least)) records ≡ drop diagnostics_limit rest =
      ap (λ k. drop k records) at ∙ (sym (drop-drop (min diagnostics_limit (length rest)) (count - left) records) ∙ drop_min diagnostics_limit rest) in
      cut_step left rest length_is more
      ∙ (ap (λ k. take diagnostics_limit rest ∷ cut (left - k) (drop diagnostics_limit rest)) (sym is)
      ∙ ap (λ r. take diagnostics_limit rest ∷ cut (left - least) r) (sym behind_it))

  pub next_piece : (before : List PublishDiagnosticsParams) (left least : ℕ) → least ≡ min diagnostics_limit left → 0 < left → left < count
      → (before ++ piece key origin (count - left == 0) (take diagnostics_limit (drop (count - left) records)) ∷ []) ++ pieces_left key origin records count (left - least) ≡ before ++ pieces_left key origin records count left
  next_piece before left least is more within =
      let own = take diagnostics_limit (drop (count - left) records) in
      let later : (count - left == 0) ≡ false = not_first (count - left) (omega (arith, within)) in
      ap (λ b. (before ++ piece key origin b own ∷ []) ++ behind (left - least)) later
      ∙ (append_assoc before (piece key origin false own ∷ []) (behind (left - least))
      ∙ ap (λ parts. before ++ map (piece key origin false) parts) (sym (next_cut left least is more (omega (arith, within)))))
