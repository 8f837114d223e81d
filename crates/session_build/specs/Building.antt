-- What one build does.
use Rattle.std.specs.Prelude.{◌≡◌, ◌∷◌, [], ℕ, List, filter, Bool, Contains}
use Rattle.std.specs.List.{All, list_any}
use Rattle.bsp_records.specs.Table.{Table}
use Rattle.rpc_peer.specs.Said.{Said}
use Rattle.session_build.specs.Remembering.{Remembers}
use Rattle.session_build.specs.declared.kept.Kept.{Kept}
use Rattle.session_law.specs.Builds.{Finding, PublishesSome, Shows, has_error, is_publication, table_behind}
use Rattle.session_law.specs.Course.{Given, AreGiven, HasEnded}
use Rattle.session_law.specs.History.{Told}
use Rattle.session_law.specs.IsFramed.{IsFramed}
use Rattle.session_law.specs.Past.{notice_in}
use Rattle.session_law.specs.Requests.{Active}

-- the message is a notification
abbrev pub IsNotice : Said → Type 0
IsNotice m = notice_in m ≡ m ∷ []

-- The build, behind these earlier ones, tells these messages. The table that is kept goes from the old to the new one, and
-- the checks that are kept are those once it is answered.
pub record IsBuilt (active : Active) (builds : List Told) (old new : Table) (kept : Kept) (messages : List Said) (failed : Bool) : Type 0 where
  pub given : Given
  pub are : AreGiven given
  pub active_is : given.active ≡ active
  pub earlier_is : given.earlier ≡ builds
  pub table_is : given.table ≡ old
  pub ended : HasEnded given messages
  pub framed : All IsFramed messages
  pub notices : All IsNotice messages
  -- what is published of it, list after list
  pub done : List Finding
  pub among : All (Contains ended.findings) done
  pub publishes : PublishesSome old active.build.origin done (filter is_publication messages)
  -- the table that is kept is the one that a client has, and it shows each list
  pub shown : (document target : List ℕ) → new document target ≡ table_behind messages old document target
  pub shows : All (Shows new) ended.findings
  pub failed_is : failed ≡ list_any has_error ended.findings
  pub remembers : Remembers active.build.space (record { active = active; notices = messages; cleaned = [] } ∷ builds) kept
