-- What holds of each publication, however it came to be: it has no float, and where it is of a text's diagnostics,
-- its records are short.
use Rattle.std.proofs.Common.{◌≡◌, ℕ, List, [], ◌∷◌, map, false, Option, Some, None, option_map, refl}
use Rattle.std.specs.Prelude.{codes}
use Rattle.std.specs.Option.{IfSome}
use Rattle.serde_json.specs.Data.{Data, string, boolean, Members, no_members}
use Rattle.serde_json.specs.View.{items_of}
use Rattle.serde_json.specs.Written.{has_float, items_have_float, members_have_float}
use Rattle.bsp_records.specs.Diagnostics.{range_data, severity_data, diagnostic_data, publish_diagnostics_params_data}
use Rattle.bsp_records.specs.Identifiers.{identifier_data}
use Rattle.bsp_records.specs.Writing.{with_member, with_members, array_with}
use Rattle.bsp_records.specs.declared.diagnostics.DiagnosticRecord.{DiagnosticRecord}
use Rattle.bsp_records.specs.declared.diagnostics.DiagnosticSeverity.{DiagnosticSeverity}
use Rattle.bsp_records.specs.declared.publishing.PublishDiagnosticsParams.{PublishDiagnosticsParams}
use Rattle.bsp_records.proofs.ExactLaws.{both_false, exact_put}

abbrev AnyExact : Option Data → Type 0
AnyExact value = IfSome value (λ d. has_float d ≡ false)

abbrev AreExact : List (List ℕ × Option Data) → Type 0
AreExact [] = Unit {0}
AreExact (field ∷ fields) = AnyExact field.1 × AreExact fields

with_exact : (name : List ℕ) (value : Option Data) (ms : Members) → AnyExact value → members_have_float ms ≡ false → members_have_float (with_member name value ms) ≡ false
with_exact name None ms exact all = all
with_exact name (Some d) ms exact all = exact_put name d ms exact all

all_exact : (fields : List (List ℕ × Option Data)) (ms : Members) → AreExact fields → members_have_float ms ≡ false → members_have_float (with_members fields ms) ≡ false
all_exact [] ms exact all = all
all_exact (field ∷ fields) ms exact all = all_exact fields (with_member field.0 field.1 ms) exact.1 (with_exact field.0 field.1 ms exact.0 all)

text_exact : (text : Option (List ℕ)) → AnyExact (option_map string text)
text_exact None = tt
text_exact (Some text) = refl

severity_exact : (severity : Option DiagnosticSeverity) → AnyExact (option_map severity_data severity)
severity_exact None = tt
severity_exact (Some severity) = refl

diagnostic_exact : (r : DiagnosticRecord) → has_float (diagnostic_data r) ≡ false
diagnostic_exact r =
    all_exact ((codes "range", Some (range_data r.range)) ∷ (codes "severity", option_map severity_data r.severity) ∷ (codes "code", option_map string r.code)
    ∷ (codes "source", option_map string r.source) ∷ (codes "message", Some (string r.message)) ∷ [])
    no_members (refl, (severity_exact r.severity, (text_exact r.code, (text_exact r.source, (refl, tt))))) refl

list_exact : (rs : List DiagnosticRecord) → items_have_float (items_of (map diagnostic_data rs)) ≡ false
list_exact [] = refl
list_exact (r ∷ rs) = both_false (has_float (diagnostic_data r)) (items_have_float (items_of (map diagnostic_data rs))) (diagnostic_exact r) (list_exact rs)

-- the params of a publication have no float
pub publication_exact : (p : PublishDiagnosticsParams) → has_float (publish_diagnostics_params_data p) ≡ false
publication_exact p =
    all_exact ((codes "textDocument", Some (identifier_data p.text_document.uri)) ∷ (codes "buildTarget", Some (identifier_data p.build_target.uri))
    ∷ (codes "originId", option_map string p.origin_id) ∷ (codes "diagnostics", Some (array_with (map diagnostic_data p.diagnostics))) ∷ (codes "reset", Some (boolean p.reset)) ∷ [])
    no_members (refl, (refl, (text_exact p.origin_id, (list_exact p.diagnostics, (refl, tt))))) refl
