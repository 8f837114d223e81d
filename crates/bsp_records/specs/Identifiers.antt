-- The records that name a build target and a document (Build Server Protocol 2.2).
use Rattle.std.specs.Prelude.{ℕ, List, [], ◌∷◌, codes, Some}
use Rattle.serde_json.specs.Data.{Data, string}
use Rattle.json_shape.specs.Shapes.{Shape, text, object_of, required, no_more, at, text_in}
use Rattle.bsp_records.specs.Writing.{object_with}
use Rattle.bsp_records.specs.declared.identifiers.BuildTargetIdentifier.{BuildTargetIdentifier}
use Rattle.bsp_records.specs.declared.identifiers.TextDocumentIdentifier.{TextDocumentIdentifier}

abbrev pub identifier : Shape
identifier = object_of (required (codes "uri") text no_more)

abbrev pub target_in : Data → BuildTargetIdentifier
target_in d = record { uri = text_in (at (codes "uri") d) }

abbrev pub document_in : Data → TextDocumentIdentifier
document_in d = record { uri = text_in (at (codes "uri") d) }

abbrev pub identifier_data : List ℕ → Data
identifier_data uri = object_with ((codes "uri", Some (string uri)) ∷ [])
