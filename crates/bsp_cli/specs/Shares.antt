-- What holds between a session and the crew that does its jobs.
use Rattle.std.specs.Prelude.{◌≡◌, ◌==◌, ◌≤◌, ◌+◌, ◌-◌, ◌*◌, ◌^◌, ℕ, suc, Bool, true, false, List, length, Contains, None, if◌then◌else◌}
use Rattle.std.specs.List.{All, sum_by}
use Rattle.session_core.specs.Settled.{Awaits, IsBack, left_to_do}
use Rattle.session_core.specs.State.{Rest}
use Rattle.worker_pool.specs.Crews.{Sight}
use Rattle.worker_pool.specs.Jobs.{JobTree}

abbrev pub counts_as : ℕ → JobTree → ℕ
counts_as number job = if job.number == number then 1 else 0

-- how many of these jobs have this number
abbrev pub how_many : ℕ → List JobTree → ℕ
how_many number jobs = sum_by (counts_as number) jobs

-- a job with this number is out
pub record IsOut (s : Sight) (number : ℕ) : Type 0 where
  pub job : JobTree
  pub there : Contains s.out job
  pub number_is : job.number ≡ number

-- Each job that is out may come back, no two have one number, and each that is awaited is out. No outcome is at hand.
pub record Shares (rest : Rest) (s : Sight) : Type 0 where
  pub going : s.finished ≡ false
  pub free : s.hand ≡ None
  pub next : s.next ≤ rest.given
  pub back : All (IsBack rest) s.out
  pub once : (number : ℕ) → how_many number s.out ≤ 1
  pub awaited : (number : ℕ) → Awaits rest number → IsOut s number

-- only jobs were given and drained
pub record KeepsCrew (s t : Sight) : Type 0 where
  pub finished : t.finished ≡ s.finished
  pub collected : t.collected ≡ s.collected
  pub hand : t.hand ≡ s.hand

-- an outcome was collected
pub record CollectsOne (s t : Sight) : Type 0 where
  pub finished : t.finished ≡ s.finished
  pub collected : t.collected ≡ suc s.collected
  pub hand : t.hand ≡ None

-- ---- how far they are

-- Each outcome lowers this.
abbrev pub left_with : Rest → Sight → ℕ
left_with rest s = left_to_do rest + length s.out + (2 ^ 64 - rest.given)

abbrev pub left_to_drain : Bool → ℕ
left_to_drain true = 1
left_to_drain false = 0

-- Each need that is met lowers this.
abbrev pub needs_left : Rest → ℕ
needs_left rest = 2 * left_to_do rest + left_to_drain rest.drains + (2 ^ 64 - rest.given)

-- ---- the end

-- Nothing is asked of the crew any more, and each job that it was given was collected, was drained or is left.
pub record IsDismissed (s : Sight) : Type 0 where
  pub finished : s.finished ≡ true
  pub hand : s.hand ≡ None
  pub all : s.given ≡ s.collected + s.drained + length s.out
