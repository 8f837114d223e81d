-- What the core finds a request to be owed, in the words of the law.
use Rattle.std.specs.Prelude.{◌≡◌, ◌<◌, ◌≤◌, ◌++◌, ℕ, ℤ, List, length, codes, Bool, true, false, Option, Some, None, IsSome, Result, Ok, Err, Vec}
use Rattle.std.specs.List.{All}
use Rattle.std.specs.declared.alloc.Global.{Global}
use Rattle.ob_text.specs.Ascii.{IsGraphicWithin, IsPlain}
use Rattle.rpc_peer.specs.Meaning.{invalid_request}
use Rattle.rpc_peer.specs.Said.{Said, failure}
use Rattle.bsp_records.specs.Params.{HasCompileTexts, IsTarget}
use Rattle.bsp_records.specs.ShortAnswers.{answer_limit}
use Rattle.serde_json.specs.Data.{Data}
use Rattle.serde_json.specs.View.{view}
use Rattle.serde_json.specs.Written.{compact_text, has_float}
use Rattle.session_law.specs.Builds.{AreDocuments}
use Rattle.session_law.specs.Methods.{Verdict, asking, opening, queued, building, rereading, reloading, cleaning, answering, closing, refusal, Call, to_build, to_reload, to_clean, Found, all_found, unknown_at, refused_message, null_message, method_not_found, sources_unreadable, not_initialized, invalid_params, request_cancelled, workspace_refused}
use Rattle.session_law.specs.Questions.{IsAnswer}
use Rattle.session_law.specs.RefusesExactly.{IsNoWorkspace}
use Rattle.session_verdicts.specs.Plans.{Plan, build_in}
use Rattle.session_verdicts.specs.declared.verdicts.Answer.{Answer}
use Rattle.session_verdicts.specs.declared.verdicts.Answer.TheVariants as answers
use Rattle.session_verdicts.specs.declared.verdicts.Owed.{Owed}
use Rattle.session_verdicts.specs.declared.verdicts.Owed.TheVariants as owing
use Rattle.session_verdicts.specs.declared.verdicts.Queued.{Queued}
use Rattle.session_verdicts.specs.declared.verdicts.Queued.TheVariants.{Build, Reload, Clean}
use Rattle.session_verdicts.specs.declared.verdicts.Reason.{Reason}
use Rattle.session_verdicts.specs.declared.verdicts.Reason.TheVariants as reasons
use Rattle.session_verdicts.specs.declared.verdicts.TakenUp.{TakenUp}
use Rattle.session_verdicts.specs.declared.verdicts.TakenUp.TheVariants as ups
use Rattle.target_graph.specs.Faults.{Accepted}
use Rattle.target_graph.specs.Workspace.{Space}

-- the code of a refusal, and its message
abbrev pub reason_code : Reason → ℤ
reason_code reasons.ServerNotInitialized = not_initialized
reason_code reasons.InvalidRequest = invalid_request
reason_code reasons.MethodNotFound = method_not_found
reason_code (reasons.InvalidParams path) = invalid_params
reason_code reasons.InternalError = sources_unreadable
reason_code (reasons.WorkspaceRefused fault) = workspace_refused
reason_code reasons.RequestCancelled = request_cancelled

abbrev pub reason_text : Reason → List ℕ
reason_text reasons.ServerNotInitialized = codes "server not initialized"
reason_text reasons.InvalidRequest = codes "invalid request"
reason_text reasons.MethodNotFound = codes "method not found"
reason_text (reasons.InvalidParams path) = codes "invalid params: " ++ path
reason_text reasons.InternalError = codes "sources unreadable"
reason_text (reasons.WorkspaceRefused fault) = refused_message fault.kind fault.name
reason_text reasons.RequestCancelled = codes "request cancelled"

-- the answer gives a request what it is owed
abbrev pub Fits : Verdict → Answer → Type 0
Fits (answering space question) (answers.Result value) = IsAnswer space question (view value)
Fits closing answers.Closing = Unit {0}
Fits (opening root file) (answers.Opening space) = Accepted file root space
Fits (opening root file) (answers.Refused reason) = IsNoWorkspace file (reason_code reason) (reason_text reason)
Fits (reloading space file) (answers.Refused reason) = IsNoWorkspace file (reason_code reason) (reason_text reason)
Fits (refusal code text) (answers.Refused reason) = (reason_code reason ≡ code) × (reason_text reason ≡ text)
Fits v answer = ⊥

-- it is the answer to a shutdown that closes the session
abbrev pub closes : Answer → Bool
closes (answers.Result value) = false
closes (answers.Opening space) = false
closes answers.Closing = true
closes (answers.Refused reason) = false

-- what a request of the queue asks for, as the law has it
abbrev pub queued_call : Queued → Call
queued_call (Build params) = to_build params.targets params.origin_id
queued_call Reload = to_reload
queued_call (Clean params) = to_clean params.targets

-- What a request is owed at its take. One of the queue finds a workspace in force, and an initialize that is accepted none.
abbrev pub Judges : Option Space → Verdict → Owed → Type 0
Judges force v (owing.Answer answer) = Fits v answer
Judges force v (owing.Opening root) = (v ≡ asking root) × (force ≡ None)
Judges force v (owing.Queued call) = (v ≡ queued (queued_call call)) × IsSome force

-- it is of targets of this workspace, and these are its documents
pub record IsPlanIn (space : Space) (plan : Plan) : Type 0 where
  pub asked : All (λ target. target < length space.targets) plan.asked
  pub documents : AreDocuments (build_in space plan) plan.documents

-- it is a build of the workspace in force
pub record IsPlanOf (force : Option Space) (v : Verdict) (plan : Plan) : Type 0 where
  pub space : Space
  pub in_force : force ≡ Some space
  pub is : v ≡ building (build_in space plan)
  pub within : IsPlanIn space plan

-- it is a reload where this workspace is in force
pub record IsRereadOf (force : Option Space) (v : Verdict) : Type 0 where
  pub space : Space
  pub in_force : force ≡ Some space
  pub is : v ≡ rereading space

-- it is a cleaning of targets of the workspace in force
pub record IsCleaningOf (force : Option Space) (v : Verdict) (targets : List ℕ) : Type 0 where
  pub space : Space
  pub in_force : force ≡ Some space
  pub is : v ≡ cleaning space targets
  pub within : All (λ target. target < length space.targets) targets

-- what a request of the queue is owed as it is taken up
abbrev pub TakesUp : Option Space → Verdict → TakenUp → Type 0
TakesUp force v (ups.Building plan) = IsPlanOf force v plan
TakesUp force v ups.Rereading = IsRereadOf force v
TakesUp force v (ups.Cleaning targets) = IsCleaningOf force v targets
TakesUp force v (ups.Refused reason) = Fits v (answers.Refused reason)

-- the targets that were found, or the index of the first that wasn't
abbrev pub IsFoundAs : Found → Result (Vec ℕ Global) ℕ → Type 0
IsFoundAs found (Ok targets) = found ≡ all_found targets.items
IsFoundAs found (Err index) = found ≡ unknown_at index

-- ---- what is said is plain and short

-- the most bytes of what a refusal says beside its fixed text
abbrev pub said_limit : ℕ
said_limit = 4096

-- a result is printed in one way alone, and in a part of a frame
pub record IsPrinted (value : Data) : Type 0 where
  pub exact : has_float value ≡ false
  pub short : length (compact_text value) ≤ answer_limit

abbrev pub IsSaid : Answer → Type 0
IsSaid (answers.Result value) = IsPrinted (view value)
IsSaid (answers.Refused (reasons.InvalidParams path)) = IsPlain said_limit path
IsSaid (answers.Refused (reasons.WorkspaceRefused fault)) = IsGraphicWithin said_limit fault.name
IsSaid answer = Unit {0}

abbrev pub HasQueuedTexts : Queued → Type 0
HasQueuedTexts (Build params) = HasCompileTexts params
HasQueuedTexts Reload = Unit {0}
HasQueuedTexts (Clean params) = All IsTarget params.targets

abbrev pub IsSaidOwed : Owed → Type 0
IsSaidOwed (owing.Answer answer) = IsSaid answer
IsSaidOwed (owing.Opening root) = Unit {0}
IsSaidOwed (owing.Queued call) = HasQueuedTexts call

abbrev pub IsSaidUp : TakenUp → Type 0
IsSaidUp (ups.Building plan) = Unit {0}
IsSaidUp ups.Rereading = Unit {0}
IsSaidUp (ups.Cleaning targets) = Unit {0}
IsSaidUp (ups.Refused reason) = IsSaid (answers.Refused reason)

-- ---- answers as messages

-- the response with the id null and this code
abbrev pub answer_unread : ℤ → Said
answer_unread code = failure None code (null_message code)
