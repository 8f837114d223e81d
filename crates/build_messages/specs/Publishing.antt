-- What the publishing of a build does.
use Rattle.std.specs.Prelude.{◌≡◌, ◌++◌, ℕ, List, Bool, true, false, Option}
use Rattle.std.specs.List.{All}
use Rattle.bsp_records.specs.Table.{Table}
use Rattle.ob_text.specs.declared.diagnostic.Diagnostic.{Diagnostic}
use Rattle.rpc_peer.specs.Said.{Said}
use Rattle.session_law.specs.Builds.{Finding, Publishes, Shows, has_error, is_publication, table_behind}
use Rattle.session_law.specs.IsFramed.{IsFramed}
use Rattle.session_law.specs.declared.BuildDocument.{BuildDocument}
use Rattle.task_stream.specs.Showing.{is_at}

-- the message publishes something
abbrev pub IsPublication : Said → Type 0
IsPublication m = is_publication m ≡ true

abbrev pub finding_of : BuildDocument → List Diagnostic → Finding
finding_of it list = record { document = it; list = list }

-- What the list of one document publishes. Its messages go behind others.
pub record IsPublishedOne (old new : Table) (it : BuildDocument) (origin : Option (List ℕ)) (list : List Diagnostic) (before after : List Said) (failed : Bool) : Type 0 where
  pub own : List Said
  pub publishes : Publishes old origin (finding_of it list) own
  pub messages : after ≡ before ++ own
  pub framed : All IsFramed own
  pub notices : All IsPublication own
  pub kept : (document target : List ℕ) → new document target ≡ table_behind own old document target
  pub shows : Shows new (finding_of it list)
  -- what is shown elsewhere stays
  pub elsewhere : (document target : List ℕ) → is_at it.key document target ≡ false → new document target ≡ old document target
  pub failed_is : failed ≡ has_error (finding_of it list)
