-- ShowsOldOrNew: as a build is answered that is cancelled, the client shows of each of its documents what the clean build
-- finds, or what it showed as the build was handed its documents.
use Rattle.std.specs.Prelude.{◌≡◌, ◌⊎◌, List, Option, Some}
use Rattle.std.specs.List.{All}
use Rattle.bsp_records.specs.Table.{Table}
use Rattle.ob_text.specs.declared.diagnostic.Diagnostic.{Diagnostic}
use Rattle.rpc_peer.specs.OpenIds.{same_id}
use Rattle.rpc_peer.specs.Said.{Said, result}
use Rattle.session_law.specs.Builds.{AreDocuments, IsFound, Shows, world_of}
use Rattle.session_law.specs.If.{If}
use Rattle.session_law.specs.Past.{Now}
use Rattle.session_law.specs.Requests.{Active, active_of}
use Rattle.session_law.specs.declared.BuildDocument.{BuildDocument}

-- what the clean build finds in the document is shown
pub record ShowsFound (active : Active) (table : Table) (document : BuildDocument) : Type 0 where
  pub list : List Diagnostic
  pub found : IsFound (world_of active.build.space active.entries) (record { document = document; list = list })
  pub shows : Shows table (record { document = document; list = list })

-- two tables show the same of a document
abbrev pub ShowsSame : Table → Table → BuildDocument → Type 0
ShowsSame a b document = a document.key.document document.key.target ≡ b document.key.document document.key.target

pub record ShowsEither (active : Active) (old now : Table) : Type 0 where
  pub documents : List BuildDocument
  pub of_build : AreDocuments active.build documents
  pub each : All (λ document. ShowsFound active now document ⊎ ShowsSame now old document) documents

abbrev pub ShowsEitherFor : Said → Option Active → Now → Type 0
ShowsEitherFor (result (Some id) value) (Some active) now = If (same_id id active.id) (ShowsEither active now.table_at_hand now.table)
ShowsEitherFor m active now = Unit {0}

abbrev pub ShowsOldOrNew : Now → Said → Type 0
ShowsOldOrNew now m = ShowsEitherFor m (active_of now.requests) now
