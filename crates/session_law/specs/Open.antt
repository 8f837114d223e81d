-- What is open in a session, part by part: the request at the head of the queue, those that wait behind it, one that is being
-- answered behind all of them, and the codes that are owed with the id null.
use Rattle.std.specs.Prelude.{◌≡◌, ◌++◌, ℕ, ℤ, List, [], ◌∷◌, Bool, false, Option}
use Rattle.std.specs.List.{All, AllPairs}
use Rattle.rpc_peer.specs.declared.message.Id.{Id}
use Rattle.rpc_peer.specs.OpenIds.{same_id}
use Rattle.bsp_records.specs.Table.{Table}
use Rattle.session_law.specs.Course.{Given}
use Rattle.session_law.specs.History.{Told}
use Rattle.session_law.specs.Methods.{Call, Verdict, built, due_in, queued}
use Rattle.session_law.specs.Lawful.{EachAllowed}
use Rattle.session_law.specs.Order.{Event}
use Rattle.session_law.specs.Past.{Now, after}
use Rattle.session_law.specs.Requests.{Asked}
use Rattle.session_law.specs.TasksInOrder.{IsGivenBy}
use Rattle.target_graph.specs.Workspace.{Space}

-- The request at the head.
pub data First : Type 0 where
  none : First
  -- one with this id, the message of this ordinal, which is owed this at the head
  owing : Id → ℕ → Verdict → First
  -- the build that goes on this course, and whether it is to be cancelled
  working : Given → Bool → First

pub record Open : Type 0 where
  pub first : First
  pub waiting : List Asked
  pub last : List Asked
  pub nulls : List ℤ

-- a request that isn't to be cancelled
abbrev pub asking_for : Id → ℕ → Verdict → Asked
asking_for id number v = record { id = id; number = number; verdict = v; cancelled = false }

-- what it was owed as it was taken, or as the tree answered, and what that is at the head
pub record Owes (force : Option Space) (id : Id) (number : ℕ) (v : Verdict) (requests : List Asked) : Type 0 where
  pub judged : Verdict
  pub are : requests ≡ asking_for id number judged ∷ []
  pub stands : due_in force judged ≡ v

abbrev pub working_on : Given → Bool → Asked
working_on g marked = record { id = g.active.id; number = g.active.number; verdict = built g.active.build g.active.entries; cancelled = marked }

-- the request at the head is this
abbrev pub IsFirst : First → Now → List Asked → Type 0
IsFirst none now requests = requests ≡ []
IsFirst (owing id number v) now requests = Owes now.force id number v requests
IsFirst (working g marked) now requests = (requests ≡ working_on g marked ∷ []) × IsGivenBy g.active now g

-- it waits for no tree, and isn't to be answered in this step
abbrev pub IsUp : First → Type 0
IsUp none = Unit {0}
IsUp (owing id number v) = ⊥
IsUp (working g marked) = Unit {0}

-- at most one thing is owed at once: to the head, to what was taken last, or with the id null
abbrev pub IsOneDue : First → List Asked → List ℤ → Type 0
IsOneDue first [] [] = Unit {0}
IsOneDue first [] (code ∷ nulls) = IsUp first
IsOneDue first (asked ∷ []) [] = IsUp first
IsOneDue first last nulls = ⊥

-- no two have one id
abbrev pub IsLater : Asked → Asked → Type 0
IsLater earlier later = same_id later.id earlier.id ≡ false

abbrev pub AreApart : List Asked → Type 0
AreApart requests = AllPairs IsLater requests

-- a request that waits is of the queue
pub record IsWaiting (asked : Asked) : Type 0 where
  pub call : Call
  pub is : asked.verdict ≡ queued call

-- these requests are open, and these codes owed
pub record IsOpen (o : Open) (now : Now) : Type 0 where
  pub head : List Asked
  pub first_is : IsFirst o.first now head
  pub requests_are : now.requests ≡ head ++ (o.waiting ++ o.last)
  pub waits : All IsWaiting o.waiting
  pub apart : AreApart now.requests
  pub nulls_are : now.nulls ≡ o.nulls

-- ---- what a session is beside that

pub record Plain : Type 0 where
  pub force : Option Space
  pub closed : Bool
  pub table : Table
  pub taken : ℕ
  pub status : Option ℕ

abbrev pub plain_now : Now → Plain
plain_now now = record { force = now.force; closed = now.closed; table = now.table; taken = now.taken; status = now.status }

-- In the middle of a step: what was done so far is allowed, the session is this, these are open, and the builds that were
-- answered are as is claimed.
pub record Mid (p : Plain) (R : List Told → Type 0) (o : Open) (order : List Event) : Type 0 where
  pub each : EachAllowed order
  pub plain_is : plain_now (after order) ≡ p
  pub open_is : IsOpen o (after order)
  pub builds_are : R (after order).builds
