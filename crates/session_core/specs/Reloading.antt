-- A reload at the head is answered once the tree answered, and a cleaning as it is taken up.
use Rattle.std.specs.Prelude.{◌≡◌, ℕ, List, [], Option, Some, None, Result, Ok, Err}
use Rattle.build_rules.specs.World.{handed_at}
use Rattle.ob_text.specs.Held.{Entries}
use Rattle.ob_text.specs.declared.held.Held.{Held}
use Rattle.rpc_peer.specs.declared.message.Id.{Id}
use Rattle.session_verdicts.specs.Judging.{Fits}
use Rattle.session_core.specs.Moving.{RunsOn}
use Rattle.session_core.specs.Standing.{MidOf, Moves}
use Rattle.session_core.specs.State.{said_out}
use Rattle.session_core.specs.declared.session.Core.{Core}
use Rattle.session_verdicts.specs.declared.verdicts.Answer.TheVariants as answers
use Rattle.session_verdicts.specs.declared.verdicts.Reason.{Reason}
use Rattle.session_law.specs.Methods.{Verdict, cleaning, reloading, rereading, workspace_path}
use Rattle.session_law.specs.Open.{Open, none, owing}
use Rattle.session_law.specs.Order.{Event, onto}
use Rattle.session_law.specs.Past.{Now, after}
use Rattle.session_law.specs.Requests.{handed_over}
use Rattle.target_graph.specs.Faults.{Accepted}
use Rattle.target_graph.specs.Workspace.{Space}
use Rattle.task_stream.specs.Showing.{shows}

-- the request that cleans these targets of the workspace in force is answered
abbrev pub Cleans : Core → Core → Id → List ℕ → Type 0
Cleans old new id targets =
    (o : Open) (number : ℕ) (space : Space) → old.workspace ≡ Some space → o.first ≡ owing id number (cleaning space targets) → RunsOn o → Moves old new o (record o { first = none })

-- The tree just answered: nothing was told since, and what was shown then is what is kept.
pub record IsFresh (core : Core) (now : Now) : Type 0 where
  pub untold : now.notices ≡ []
  pub shown : now.table_at_hand ≡ shows core.shown

-- The reload that is owed this is answered, where the tree just answered.
abbrev pub AnswersFresh : Core → Core → Id → (Space → Verdict) → Type 0
AnswersFresh old new id owed =
    (o : Open) (number : ℕ) (space : Space) (order : List Event) → old.workspace ≡ Some space → o.first ≡ owing id number (owed space) → RunsOn o
    → IsFresh old (after (onto (said_out old) order)) → MidOf old o order → MidOf new (record o { first = none }) order

-- by what was handed out
abbrev pub Reloads : Core → Core → Id → Option Entries → Type 0
Reloads old new id handed = AnswersFresh old new id (λ space. handed_over handed (rereading space))

-- by a file that describes this workspace
abbrev pub ReloadsTo : Core → Core → Id → Space → Type 0
ReloadsTo old new id next =
    (file : Held) → ((space : Space) → old.workspace ≡ Some space → Accepted file space.root next) → AnswersFresh old new id (λ space. reloading space file)

-- the file describes this workspace, or the reload is refused for this reason
abbrev pub IsJudged : Space → Held → Result Space Reason → Type 0
IsJudged space file (Ok next) = Accepted file space.root next
IsJudged space file (Err reason) = Fits (reloading space file) (answers.Refused reason)

-- the same of what was handed out
abbrev pub IsReread : Space → Option Entries → Result Space Reason → Type 0
IsReread space None (Ok next) = ⊥
IsReread space None (Err reason) = Fits (handed_over None (rereading space)) (answers.Refused reason)
IsReread space (Some entries) read = IsJudged space (handed_at entries workspace_path) read
