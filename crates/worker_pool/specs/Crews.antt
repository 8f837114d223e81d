-- What a crew tells of itself, and what its calls change of that.
use Rattle.std.specs.Prelude.{◌≡◌, ◌≤◌, ◌<◌, ◌+◌, ◌-◌, ◌^◌, ◌++◌, ℕ, Bool, true, false, List, [], ◌∷◌, length, Contains, Option, Some, None, IfSome, IsPermutation, slice_get, remove}
use Rattle.worker_pool.specs.declared.totals.Totals.{Totals}
use Rattle.worker_pool.specs.Jobs.{JobTree}
use Rattle.worker_pool.specs.Outcomes.{OutcomeParts}
use Rattle.worker_pool.specs.Plain.{plain_job}

pub record Sight : Type 0 where
  -- nothing may be asked of it any more
  pub finished : Bool
  -- a number that is above those of all jobs that it was given
  pub next : ℕ
  -- how many jobs it was given, and how many of them were collected or drained
  pub given : ℕ
  pub collected : ℕ
  pub drained : ℕ
  -- the jobs that it was given, without those that were collected or drained
  pub out : List JobTree
  -- the outcome that is the next to be collected
  pub hand : Option OutcomeParts
  -- the jobs that weren't begun, where the crew tells them
  pub untaken : Option (List JobTree)

-- the job whose outcome is at hand
abbrev pub jobs_of : Option OutcomeParts → List JobTree
jobs_of None = []
jobs_of (Some outcome) = plain_job outcome.job ∷ []

-- what holds of each crew at each moment
pub record AddsUp (s : Sight) : Type 0 where
  pub all : s.given ≡ s.collected + s.drained + length s.out
  pub fits : s.given < 2 ^ 64
  pub hand : IfSome s.hand (λ outcome. Contains s.out (plain_job outcome.job))
  pub untaken : IfSome s.untaken (λ jobs. s.out ≡ jobs_of s.hand ++ jobs)

pub record IsFresh (s : Sight) : Type 0 where
  pub finished : s.finished ≡ false
  pub next : s.next ≡ 0
  pub given : s.given ≡ 0
  pub collected : s.collected ≡ 0
  pub drained : s.drained ≡ 0
  pub out : s.out ≡ []
  pub hand : s.hand ≡ None

-- ---- the calls

-- its number is above those of all jobs that the crew was given
pub record MayGive (s : Sight) (job : JobTree) : Type 0 where
  pub above : s.next ≤ job.number
  pub below : job.number < 2 ^ 64 - 1

pub record Gave (s t : Sight) (job : JobTree) : Type 0 where
  pub finished : t.finished ≡ s.finished
  pub next : t.next ≡ job.number + 1
  pub given : t.given ≡ s.given + 1
  pub collected : t.collected ≡ s.collected
  pub drained : t.drained ≡ s.drained
  pub out : t.out ≡ s.out ++ job ∷ []
  pub hand : t.hand ≡ s.hand

-- a wait takes no job and loses none
pub record Waited (s t : Sight) : Type 0 where
  pub finished : t.finished ≡ s.finished
  pub next : t.next ≡ s.next
  pub given : t.given ≡ s.given
  pub collected : t.collected ≡ s.collected
  pub drained : t.drained ≡ s.drained
  pub out : IsPermutation s.out t.out

pub record Collected (s t : Sight) (outcome : OutcomeParts) : Type 0 where
  pub finished : t.finished ≡ s.finished
  pub next : t.next ≡ s.next
  pub given : t.given ≡ s.given
  pub collected : t.collected ≡ s.collected + 1
  pub drained : t.drained ≡ s.drained
  pub was : s.hand ≡ Some outcome
  pub hand : t.hand ≡ None
  pub out : IsPermutation s.out (plain_job outcome.job ∷ t.out)

-- so many jobs were dropped, and where the crew tells which weren't begun, all those
pub record Drained (s t : Sight) (count : ℕ) : Type 0 where
  pub finished : t.finished ≡ s.finished
  pub next : t.next ≡ s.next
  pub given : t.given ≡ s.given
  pub collected : t.collected ≡ s.collected
  pub drained : t.drained ≡ s.drained + count
  pub hand : t.hand ≡ s.hand
  pub gone : List JobTree
  pub each : length gone ≡ count
  pub out : IsPermutation s.out (gone ++ t.out)
  pub all : IfSome s.untaken (λ jobs. count ≡ length jobs)

-- an outcome that was at hand counts as collected
pub record Finished (s t : Sight) : Type 0 where
  pub finished : t.finished ≡ true
  pub next : t.next ≡ s.next
  pub given : t.given ≡ s.given
  pub collected : t.collected ≡ s.collected + length (jobs_of s.hand)
  pub drained : t.drained ≡ s.drained
  pub hand : t.hand ≡ None
  pub out : IsPermutation s.out (jobs_of s.hand ++ t.out)

-- what a crew that finished says of itself
pub record AreTotals (s : Sight) (totals : Totals) : Type 0 where
  pub given : totals.given ≡ s.given
  pub collected : totals.collected ≡ s.collected
  pub drained : totals.drained ≡ s.drained
  pub left : totals.left ≡ length s.out

-- ---- what a crew without threads does where it is waited for

-- the job at an index of those that are out was done, and its outcome came to hand
pub record TookUp (index : ℕ) (s t : Sight) : Type 0 where
  pub finished : t.finished ≡ s.finished
  pub next : t.next ≡ s.next
  pub given : t.given ≡ s.given
  pub collected : t.collected ≡ s.collected
  pub drained : t.drained ≡ s.drained
  pub job : JobTree
  pub there : slice_get s.out index ≡ Some job
  pub hand : jobs_of t.hand ≡ job ∷ []
  pub out : t.out ≡ job ∷ remove s.out index
