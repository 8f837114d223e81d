-- What a core is that acted, and how far that brings it.
use Rattle.std.proofs.Common.{◌≡◌, ◌≢◌, ◌<◌, ◌≤◌, ℕ, None, sym, ap, ◌∙◌, subst, arith}
use Rattle.session_core.specs.Settled.{Awaits, IsAsking, IsBack, IsNeeded, IsSettled, NeedsNothing, left_to_do}
use Rattle.session_core.specs.Standing.{IsAlive, IsQuiet, status_of}
use Rattle.session_core.specs.State.{Rest, rest_of}
use Rattle.session_core.specs.declared.session.Core.{Core}
use Rattle.worker_pool.specs.Jobs.{JobTree}
use Rattle.bsp_cli.specs.Progress.{IsMet, IsReady, MayNeed, TookHand, TookMessage, TookOutcome}

-- ---- the core acted, and wrote what it had to write

module _ (c d e : Core) (same : rest_of e ≡ rest_of d) (settled : IsSettled (rest_of d)) (asking : IsAsking (rest_of d)) (given : d.given ≡ c.given) (alive : IsAlive d) where
  pub took_message : ((job : JobTree) → IsBack (rest_of c) job → IsBack (rest_of d) job) → ((number : ℕ) → Awaits (rest_of d) number → Awaits (rest_of c) number) → TookMessage (rest_of c) (rest_of e)
  took_message back awaits =
      subst (λ rest. TookMessage (rest_of c) rest) (sym same) (record { settled = settled; asking = asking; back = back; awaits = awaits; given = given; dead = alive })

  pub took_hand : ((job : JobTree) → IsBack (rest_of c) job → IsBack (rest_of d) job) → ((number : ℕ) → Awaits (rest_of d) number → ⊥) → left_to_do (rest_of d) < left_to_do (rest_of c) → status_of d ≡ status_of c
      → TookHand (rest_of c) (rest_of e)
  took_hand back awaits fewer status =
      subst (λ rest. TookHand (rest_of c) rest) (sym same) (record { settled = settled; asking = asking; back = back; awaits = awaits; given = given; fewer = fewer; status = status; dead = alive })

  pub took_outcome : (number : ℕ) → ((job : JobTree) → IsBack (rest_of c) job → job.number ≢ number → IsBack (rest_of d) job)
      → ((other : ℕ) → Awaits (rest_of d) other → Awaits (rest_of c) other × (other ≢ number)) → left_to_do (rest_of d) ≤ left_to_do (rest_of c) → status_of d ≡ status_of c
      → TookOutcome (rest_of c) (rest_of e) number
  took_outcome number back awaits no_more status =
      subst (λ rest. TookOutcome (rest_of c) rest number) (sym same) (record { settled = settled; asking = asking; back = back; awaits = awaits; given = given; no_more = no_more; status = status; dead = alive })

-- the input ended, and no request is at the head
back_none : (c d : Core) → d.given ≡ c.given → d.head ≡ None → (job : JobTree) → IsBack (rest_of c) job → IsBack (rest_of d) job
back_none c d given idle job back = record { given = omega (arith, back.given, given); right = rw idle tt }

awaits_none : (c d : Core) → d.head ≡ None → (number : ℕ) → Awaits (rest_of d) number → Awaits (rest_of c) number
awaits_none c d idle number awaits = absurd (rw idle at awaits)

pub took_end : (c d e : Core) → rest_of e ≡ rest_of d → IsSettled (rest_of d) → IsAsking (rest_of d) → d.given ≡ c.given → IsAlive d → d.head ≡ None → TookMessage (rest_of c) (rest_of e)
took_end c d e same settled asking given alive idle = took_message c d e same settled asking given alive (back_none c d given idle) (awaits_none c d idle)

-- ---- what is needed then

pub may_message : (old : Rest) (core : Core) → IsQuiet core → TookMessage old (rest_of core) → MayNeed core
may_message old core quiet took = record { quiet = quiet; settled = took.settled; asking = took.asking; alive = took.dead }

pub may_hand : (old : Rest) (core : Core) → IsQuiet core → TookHand old (rest_of core) → MayNeed core
may_hand old core quiet took = record { quiet = quiet; settled = took.settled; asking = took.asking; alive = took.dead }

pub may_outcome : (old : Rest) (core : Core) (number : ℕ) → IsQuiet core → TookOutcome old (rest_of core) number → MayNeed core
may_outcome old core number quiet took = record { quiet = quiet; settled = took.settled; asking = took.asking; alive = took.dead }

-- nothing is needed any more
pub is_met : (c d : Core) → MayNeed c → IsQuiet d → IsSettled (rest_of d) → IsNeeded (rest_of c) (rest_of d) None → IsMet d
is_met c d may quiet settled needed =
    let dead : d.dead ≡ c.dead = ap (λ (rest : Rest). rest.dead) needed.1 in
    let needs = subst NeedsNothing (sym needed.1) needed.0 in
    let asking = subst IsAsking (sym needed.1) may.asking in
    record { quiet = quiet; settled = settled; needs = needs; up = asking needs.tree; alive = dead ∙ may.alive }

-- an outcome was taken, and what it led to was met
pub ready_on : (c d e : Core) (number : ℕ) → status_of c ≡ None → TookOutcome (rest_of c) (rest_of d) number → status_of e ≡ status_of d → IsMet e → IsReady e
ready_on c d e number running took same met = record { met = met; running = same ∙ (took.status ∙ running) }
