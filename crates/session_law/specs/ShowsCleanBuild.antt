-- ShowsCleanBuild: what a build publishes is what the clean build finds, each list whole, at most once, and only where
-- the client showed another. As the build is answered, the client shows the list of each of its documents.
use Rattle.std.specs.Prelude.{◌≡◌, ◌++◌, List, ◌∷◌, filter, true, Option, Some}
use Rattle.std.specs.List.{All}
use Rattle.bsp_records.specs.Table.{Table}
use Rattle.rpc_peer.specs.OpenIds.{same_id}
use Rattle.rpc_peer.specs.Said.{Said, notification, result}
use Rattle.session_law.specs.Builds.{Finding, CleanBuild, IsFindingOf, PublishesSome, Shows, is_later_piece, is_publication}
use Rattle.session_law.specs.If.{If}
use Rattle.session_law.specs.Past.{Now}
use Rattle.session_law.specs.Requests.{Active, active_of}

-- A piece behind the first of its list stands right behind the one before it: no other message and no take is between them.
abbrev pub IsTogether : Now → Said → Type 0
IsTogether now m = If (is_later_piece m) (now.telling ≡ true)

-- the message is the next piece of what the build publishes, in some order of its documents
pub record PublishesNext (active : Active) (now : Now) (m : Said) : Type 0 where
  pub done : List Finding
  pub each : All (IsFindingOf active.build active.entries) done
  pub published : List Said
  pub publishes : PublishesSome now.table_at_hand active.build.origin done published
  pub rest : List Said
  pub next : published ≡ filter is_publication now.notices ++ m ∷ rest
  pub together : IsTogether now m

-- the client shows of each document of the build what the clean build finds
pub record ShowsAll (active : Active) (table : Table) : Type 0 where
  pub findings : List Finding
  pub clean : CleanBuild active.build active.entries findings
  pub shows : All (Shows table) findings

abbrev pub ShowsFor : Said → Option Active → Now → Type 0
ShowsFor (notification method params) (Some active) now =
    If (is_publication (notification method params)) (PublishesNext active now (notification method params))
ShowsFor (result (Some id) value) (Some active) now = If (same_id id active.id) (ShowsAll active now.table)
ShowsFor m active now = Unit {0}

abbrev pub ShowsCleanBuild : Now → Said → Type 0
ShowsCleanBuild now m = ShowsFor m (active_of now.requests) now
