-- What a publication that waits is written as.
use Rattle.std.proofs.Common.{◌≡◌, ◌∙◌, ℕ, List, length, map, take, drop, min, Option, sym, ap}
use Rattle.std.specs.Prelude.{◌==◌}
use Rattle.std.proofs.lemmas.List.{take_min, take-map, drop-map}
use Rattle.ob_text.specs.declared.diagnostic.Diagnostic.{Diagnostic}
use Rattle.bsp_records.specs.Short.{diagnostics_limit}
use Rattle.bsp_records.specs.Shown.{publication, shown}
use Rattle.bsp_records.specs.declared.publishing.PublishDiagnosticsParams.{PublishDiagnosticsParams}
use Rattle.task_stream.specs.Waiting.{piece_of}
use Rattle.task_stream.specs.declared.piece.Piece.TheInside.{Inside}
use Rattle.task_stream.specs.declared.piece.Whole.{Whole}

pub part_of : {A : Type 0} (list slice rest front : List A) (first n : ℕ) → slice ≡ list → rest ≡ drop first slice → n ≡ min diagnostics_limit (length rest) → front ≡ take n rest
    → front ≡ take diagnostics_limit (drop first list)
part_of list slice rest front first n whole back least is =
    is ∙ (ap (λ k. take k rest) least ∙ (take_min diagnostics_limit rest ∙ ap (take diagnostics_limit) (back ∙ ap (drop first) whole)))

part_shown : (list : List Diagnostic) (first : ℕ) → map shown (take diagnostics_limit (drop first list)) ≡ take diagnostics_limit (drop first (map shown list))
part_shown list first = sym (take-map shown diagnostics_limit (drop first list)) ∙ ap (take diagnostics_limit) (sym (drop-map shown first list))

pub printed_as : (p : Inside) (self : PublishDiagnosticsParams) (whole : Whole) (part : List Diagnostic) (origin : Option (List ℕ)) → piece_of p ≡ self → whole ≡ p.whole.value
    → part ≡ take diagnostics_limit (drop p.first p.whole.value.list.value) → origin ≡ p.whole.value.origin.value
    → publication whole.key.document whole.key.target origin (p.first == 0) (map shown part) ≡ self
printed_as p self whole part origin view same is of_build =
    ap (λ (w : Whole). publication w.key.document w.key.target origin (p.first == 0) (map shown part)) same
    ∙ (ap (λ (o : Option (List ℕ)). publication p.whole.value.key.document p.whole.value.key.target o (p.first == 0) (map shown part)) of_build
    ∙ (ap (λ records. publication p.whole.value.key.document p.whole.value.key.target p.whole.value.origin.value (p.first == 0) records)
    (ap (map shown) is ∙ part_shown p.whole.value.list.value p.first)
    ∙ view))
