-- What is seen of a crew that does its jobs by itself.
use Rattle.std.specs.Prelude.{◌++◌, List, map, Option, Some, None, IfSome, Contains, refl}
use Rattle.std.proofs.Math.Nat.{zero-lt-suc}
use Rattle.worker_pool.specs.declared.backlog.Backlog.{Backlog}
use Rattle.worker_pool.specs.Crews.{AddsUp, Sight, jobs_of}
use Rattle.worker_pool.specs.Jobs.{JobTree}
use Rattle.worker_pool.specs.Outcomes.{OutcomeParts}
use Rattle.worker_pool.specs.Plain.{plain_job}

abbrev pub sight_of : Backlog → Sight
sight_of b =
    record {
      finished = b.finished;
      next = b.next;
      given = b.given;
      collected = b.collected;
      drained = b.drained;
      out = jobs_of b.hand ++ map plain_job b.waiting.items;
      hand = b.hand;
      untaken = Some (map plain_job b.waiting.items);
    }

at_hand : (hand : Option OutcomeParts) (waiting : List JobTree) → IfSome hand (λ outcome. Contains (jobs_of hand ++ waiting) (plain_job outcome.job))
at_hand None waiting = tt
at_hand (Some outcome) waiting = (0, zero-lt-suc _, refl)

-- which is what may be seen of a crew
pub backlog_adds_up : (b : Backlog) → AddsUp (sight_of b)
backlog_adds_up b =
    record { all = b.all; fits = b.fits; hand = at_hand b.hand (map plain_job b.waiting.items); untaken = refl }
