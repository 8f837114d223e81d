-- RefusesExactly: what is accepted has its result, and what is refused its code and message.
use Rattle.std.specs.Prelude.{◌≡◌, true, ℕ, ℤ, List, [], ◌∷◌, Option, Some, None}
use Rattle.bsp_records.specs.Results.{clean_cache_result_data}
use Rattle.ob_text.specs.declared.held.Held.{Held}
use Rattle.rpc_peer.specs.Said.{Said, result, failure}
use Rattle.serde_json.specs.Data.{Data, null}
use Rattle.session_law.specs.Methods.{Verdict, opening, built, reloading, cleaning, answering, closing, refusal, workspace_refused, refused_message, initialize_result, null_message}
use Rattle.session_law.specs.Past.{Now, standing}
use Rattle.session_law.specs.Questions.{IsAnswer}
use Rattle.session_law.specs.Requests.{owed_to}
use Rattle.target_graph.specs.Faults.{Accepted, Refused}
use Rattle.target_graph.specs.Workspace.{Space}
use Rattle.target_graph.specs.declared.fault.FaultKind.{FaultKind}

-- the file has no fault: it is a workspace at this root
pub record IsWorkspace (root : List ℕ) (file : Held) : Type 0 where
  pub space : Space
  pub accepted : Accepted file root space

-- the file is refused, and the message says why
pub record IsNoWorkspace (file : Held) (code : ℤ) (text : List ℕ) : Type 0 where
  pub kind : FaultKind
  pub name : List ℕ
  pub refused : Refused file kind name
  pub code_is : code ≡ workspace_refused
  pub text_is : text ≡ refused_message kind name

-- The result of a build is a matter of TakesUpInOrder, and what a reload tells before its own of PublishesInBuildsOnly.
abbrev pub IsGranted : Option Verdict → Data → Type 0
IsGranted (Some (opening root file)) value = IsWorkspace root file × (value ≡ initialize_result)
IsGranted (Some (answering space question)) value = IsAnswer space question value
IsGranted (Some closing) value = value ≡ null
IsGranted (Some (built build entries)) value = Unit {0}
IsGranted (Some (reloading space file)) value = IsWorkspace space.root file × (value ≡ null)
IsGranted (Some (cleaning space targets)) value = value ≡ clean_cache_result_data (record { cleaned = true })
IsGranted owed value = ⊥

abbrev pub IsRefused : Option Verdict → ℤ → List ℕ → Type 0
IsRefused (Some (refusal owed message)) code text = (code ≡ owed) × (text ≡ message)
IsRefused (Some (opening root file)) code text = IsNoWorkspace file code text
IsRefused (Some (reloading space file)) code text = IsNoWorkspace file code text
IsRefused owed code text = ⊥

-- what is owed first with the id null is answered first
abbrev pub IsRefusedUnread : List ℤ → ℤ → List ℕ → Type 0
IsRefusedUnread [] code text = ⊥
IsRefusedUnread (owed ∷ others) code text = (code ≡ owed) × (text ≡ null_message owed)

abbrev pub RefusesExactly : Now → Said → Type 0
RefusesExactly now (result (Some id) value) = IsGranted (owed_to id (standing now)) value
RefusesExactly now (failure (Some id) code text) = IsRefused (owed_to id (standing now)) code text
RefusesExactly now (failure None code text) = IsRefusedUnread now.nulls code text
RefusesExactly now m = Unit {0}
