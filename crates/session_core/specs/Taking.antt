-- A request that waits is taken up.
use Rattle.std.specs.Prelude.{◌≡◌, ℕ, List, [], ◌∷◌, map, false, Option, Some, None}
use Rattle.std.specs.Str.{bytes_eq}
use Rattle.ob_text.specs.Once.{each_once}
use Rattle.rpc_peer.specs.declared.message.Id.{Id}
use Rattle.session_core.specs.Moving.{RunsOn}
use Rattle.session_verdicts.specs.Plans.{Plan}
use Rattle.session_core.specs.Standing.{HeadFits, MidOf}
use Rattle.session_core.specs.State.{asked_of, said_out}
use Rattle.session_core.specs.declared.head.Head.{Head}
use Rattle.session_core.specs.declared.head.Phase.TheVariants as phases
use Rattle.session_core.specs.declared.session.Core.{Core}
use Rattle.session_verdicts.specs.declared.verdicts.Queued.{Queued}
use Rattle.session_law.specs.Methods.{workspace_path}
use Rattle.session_law.specs.Open.{First, Open, none}
use Rattle.session_law.specs.Order.{Event, onto}
use Rattle.session_law.specs.Past.{after}
use Rattle.session_law.specs.Requests.{Asked}
use Rattle.session_queue.specs.declared.waiting.Waiting.{Waiting}

-- the build is at the head, and waits for its documents
abbrev pub Plans : Core → Core → Id → ℕ → Plan → Type 0
Plans old new id number plan =
    new
    ≡ record old {
      head = Some (record { id = id; number = number; cancelled = false; phase = phases.Planned plan });
      tree = Some (each_once bytes_eq (map (λ document. document.path) plan.documents));
    }

-- the reload is at the head, and waits for the workspace file
abbrev pub Rereads : Core → Core → Id → ℕ → Type 0
Rereads old new id number =
    new
    ≡ record old {
      head = Some (record { id = id; number = number; cancelled = false; phase = phases.Rereading });
      tree = Some (workspace_path ∷ []);
    }

-- what is at the head then, and what is open
pub record HasTaken (core : Core) (o : Open) (rest : List Asked) (order : List Event) : Type 0 where
  pub first : First
  pub fits : HeadFits core core.head (after (onto (said_out core) order)) first
  pub mid : MidOf core (record o { first = first; waiting = rest }) order

abbrev pub IsTakenUp : Core → Core → Waiting Queued → Type 0
IsTakenUp old new waiting =
    (o : Open) (rest : List Asked) (order : List Event) → o.first ≡ none → o.waiting ≡ asked_of waiting ∷ rest → o.last ≡ [] → o.nulls ≡ [] → RunsOn o → MidOf old o order
    → HasTaken new o rest order

-- nothing waits but behind a head
abbrev pub WaitsBehind : Option Head → List (Waiting Queued) → Type 0
WaitsBehind None queue = queue ≡ []
WaitsBehind (Some head) queue = Unit {0}
