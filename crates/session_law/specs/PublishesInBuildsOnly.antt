-- PublishesInBuildsOnly: nothing is told but by a build that was handed its documents and by a reload that was handed the
-- workspace file, until they are answered. A reload to a workspace clears what is shown of each document that it drops, in
-- the order of the old workspace, and then tells which targets changed. One that is refused tells nothing.
use Rattle.std.specs.Prelude.{◌≡◌, ◌++◌, List, [], ◌∷◌, Option, Some}
use Rattle.ob_text.specs.declared.held.Held.{Held}
use Rattle.rpc_peer.specs.OpenIds.{same_id}
use Rattle.rpc_peer.specs.Said.{Said, notification, result}
use Rattle.rpc_peer.specs.declared.message.Id.{Id}
use Rattle.session_law.specs.If.{If}
use Rattle.session_law.specs.Methods.{Verdict, built, reloading}
use Rattle.session_law.specs.Past.{Now, notice_in}
use Rattle.session_law.specs.RefusesExactly.{IsWorkspace}
use Rattle.session_law.specs.Reloading.{Reloads}
use Rattle.session_law.specs.Requests.{Asked}
use Rattle.target_graph.specs.Workspace.{Space}

-- the message is the next one that the reload tells
pub record ReloadsNext (space : Space) (file : Held) (now : Now) (m : Said) : Type 0 where
  pub accepted : IsWorkspace space.root file
  pub messages : List Said
  pub reloads : Reloads space file now.table_at_hand messages
  pub rest : List Said
  pub next : messages ≡ now.notices ++ m ∷ rest

-- the reload, which has this id, goes on with the message, or is answered by it once it told all
abbrev pub ReloadsBy : Id → Space → Held → Now → Said → Type 0
ReloadsBy id space file now (notification method params) = ReloadsNext space file now (notification method params)
ReloadsBy id space file now (result (Some answered) value) = If (same_id answered id) (Reloads space file now.table_at_hand now.notices)
ReloadsBy id space file now m = Unit {0}

-- What a build tells is a matter of ShowsCleanBuild and of TasksInOrder.
abbrev pub TellsAs : Id → Verdict → Now → Said → Type 0
TellsAs id (built build entries) now m = Unit {0}
TellsAs id (reloading space file) now m = ReloadsBy id space file now m
TellsAs id v now m = notice_in m ≡ []

-- by the request at the head
abbrev pub TellsBy : List Asked → Now → Said → Type 0
TellsBy [] now m = notice_in m ≡ []
TellsBy (asked ∷ others) now m = TellsAs asked.id asked.verdict now m

abbrev pub PublishesInBuildsOnly : Now → Said → Type 0
PublishesInBuildsOnly now m = TellsBy now.requests now m
