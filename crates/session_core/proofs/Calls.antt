-- A call acts, and takes note of whether it found memory.
use Rattle.std.proofs.Common.{rules, map, ◌≡◌, ◌∷◌, [], ◌<◌, ◌+◌, ℕ, List, Bool, false, Option, Some, None, Result, Ok, Err, inl, inr, refl, sym, ◌∙◌, subst, arith, true≢false}
use Rattle.std.specs.Prelude.{OnErr, OnOk, is_err}
use Rattle.std.proofs.lemmas.List.Elements.{All-nil}
use Rattle.build_messages.specs.Outgoing.{outgoing_said}
use Rattle.session_build.specs.Remembering.{IsEmpty}
use Rattle.build_messages.specs.declared.outgoing.Outgoing.{Outgoing}
use Rattle.session_core.proofs.Giving.{unbuilt_any, unbuilt_awaits}
use Rattle.session_core.proofs.Settling.{fits_on}
use Rattle.session_core.specs.Acting.{Acts, ActsInVain}
use Rattle.session_core.specs.Settled.{Awaits, AwaitsHead, AwaitsPhase, HeadStays, IfBuilt, IfBuiltPhase, IsBack, IsJob, StartsAt}
use Rattle.session_core.specs.Standing.{Carries, HeadFits, IsAlive, Loses, Recalls, RemembersIn, StandsFor, Whole}
use Rattle.session_core.specs.State.{Rest, asked_of, plain_of, said_out, waiting_of}
use Rattle.session_core.specs.declared.head.Head.{Head}
use Rattle.session_core.specs.declared.head.Phase.{Phase}
use Rattle.session_core.specs.declared.head.Phase.TheVariants as phases
use Rattle.session_core.specs.declared.session.Core.{Core}
use Rattle.session_verdicts.specs.declared.verdicts.Queued.{Queued}
use Rattle.session_law.specs.EachRests.{EachRests}
use Rattle.session_law.specs.Lawful.{EachAllowed}
use Rattle.session_law.specs.Open.{IsOpen, IsWaiting, Mid, none}
use Rattle.session_law.specs.Order.{Event, onto}
use Rattle.session_law.specs.Past.{after}
use Rattle.session_queue.specs.declared.waiting.Waiting.{Waiting}
use Rattle.target_graph.specs.Workspace.{Space}
use Rattle.task_stream.specs.Showing.{shows}
use Rattle.worker_pool.specs.Jobs.{JobTree}

-- ---- the order

whole_noting : (core : Core) (dead : Bool) (order : List Event) → Whole core [] [] order → Whole (record core { dead = dead }) [] [] order
whole_noting core dead order whole =
    record {
      first = whole.first;
      fits = fits_on core (record core { dead = dead }) core.head (after (onto (said_out core) order)) (after (onto (said_out core) order)) whole.first refl refl refl refl whole.fits;
      mid = whole.mid;
    }

pub stands_behind : {T E : Type 0} (old acted : Core) (event : Event) (result : Result T E) (dead : Bool) → dead ≡ is_err result → OnOk result (Acts old acted event)
    → OnErr result (ActsInVain old acted event) → ((order : List Event) → Whole old [] [] order → EachRests order → EachRests (event ∷ order)) → IsAlive old
    → (order : List Event) → StandsFor old order → StandsFor (record acted { dead = dead }) (event ∷ order)
stands_behind old acted event (Ok done) dead noted acts lost rests alive order stands =
    let whole : Whole acted [] [] (event ∷ order) = acts order (stands.whole alive) in
    record { each = whole.mid.each; rests = rests order (stands.whole alive) stands.rests; whole = λ found. whole_noting acted dead (event ∷ order) whole }
stands_behind old acted event (Err error) dead noted acts lost rests alive order stands =
    record { each = lost order (stands.whole alive); rests = rests order (stands.whole alive) stands.rests; whole = λ found. absurd (true≢false (sym noted ∙ found)) }

-- the same where nothing came in
pub stands_still : {T E : Type 0} (old acted : Core) (result : Result T E) (dead : Bool) → dead ≡ is_err result → OnOk result (Carries old acted) → OnErr result (Loses old acted)
    → IsAlive old → (order : List Event) → StandsFor old order → StandsFor (record acted { dead = dead }) order
stands_still old acted (Ok done) dead noted carries loses alive order stands =
    let whole : Whole acted [] [] order = carries order (stands.whole alive) in
    record { each = whole.mid.each; rests = stands.rests; whole = λ found. whole_noting acted dead order whole }
stands_still old acted (Err error) dead noted carries loses alive order stands =
    record { each = loses order (stands.whole alive); rests = stands.rests; whole = λ found. absurd (true≢false (sym noted ∙ found)) }

-- the same where it was asked what is needed
pub stands_asked : (old : Core) (asked : Core) (dead : Bool) → asked ≡ record old { tree = asked.tree; drains = asked.drains; remains = asked.remains; given = asked.given }
    → (dead ≡ false → old.dead ≡ false) → (order : List Event) → StandsFor old order → StandsFor (record asked { dead = dead }) order
stands_asked old asked dead same was order stands =
    subst (λ (core : Core). StandsFor (record core { dead = dead }) order) (sym same)
    (record {
      each = stands.each;
      rests = stands.rests;
      whole = λ found.
          let whole = stands.whole (was found) in
          let now : Core = record old { tree = asked.tree; drains = asked.drains; remains = asked.remains; given = asked.given; dead = dead } in
          record {
            first = whole.first;
            fits = fits_on old now old.head (after (onto (said_out old) order)) (after (onto (said_out old) order)) whole.first refl refl refl refl whole.fits;
            mid = whole.mid;
          };
    })

-- ---- the jobs

pub back_noting : (rest : Rest) (dead : Bool) (job : JobTree) → IsBack rest job → IsBack (record rest { dead = dead }) job
back_noting rest dead job back = record { given = back.given; right = back.right }

-- where no other build waits for its checks
module _ (old new : Rest) (stays : HeadStays old.head new.head) (jobs : new.jobs ≡ old.jobs) (given : new.given ≡ old.given) where
  pub back_stays : (job : JobTree) → IsBack old job → IsBack new job
  back_stays job back = record { given = subst (λ n. job.number < n) (sym given) back.given; right = right stays }
    where
      right : HeadStays old.head new.head → IfBuilt new.head (λ b. (k : ℕ) → job.number ≡ new.jobs + k → IsJob b k job)
      right (inl same) =
          subst (λ (h : Option Head). IfBuilt h (λ b. (k : ℕ) → job.number ≡ new.jobs + k → IsJob b k job)) (sym same)
          (subst (λ n. IfBuilt old.head (λ b. (k : ℕ) → job.number ≡ n + k → IsJob b k job)) (sym jobs) back.right)
      right (inr unbuilt) = unbuilt_any new.head unbuilt (λ b. (k : ℕ) → job.number ≡ new.jobs + k → IsJob b k job)

  pub awaits_stays : (number : ℕ) → Awaits new number → Awaits old number
  awaits_stays number awaits = was stays
    where
      was : HeadStays old.head new.head → Awaits old number
      was (inl same) =
          subst (λ n. AwaitsHead old.head old.jobs n number) given
          (subst (λ n. AwaitsHead old.head n new.given number) jobs (subst (λ (h : Option Head). AwaitsHead h new.jobs new.given number) same awaits))
      was (inr unbuilt) = absurd (unbuilt_awaits new.head new.jobs new.given number unbuilt awaits)

-- where the jobs of a build at the head begin behind all that were given
fresh_phase : (phase : Phase) (jobs given : ℕ) → IfBuiltPhase phase (λ b. jobs ≡ given) → (job : JobTree) → job.number < given
    → IfBuiltPhase phase (λ b. (k : ℕ) → job.number ≡ jobs + k → IsJob b k job)
fresh_phase (phases.Opening root) jobs given starts job few = tt
fresh_phase phases.Rereading jobs given starts job few = tt
fresh_phase (phases.Planned plan) jobs given starts job few = tt
fresh_phase (phases.Built b origin) jobs given starts job few = λ k is. absurd (omega (arith, starts, few, is))

fresh_head : (head : Option Head) (jobs given : ℕ) → IfBuilt head (λ b. jobs ≡ given) → (job : JobTree) → job.number < given
    → IfBuilt head (λ b. (k : ℕ) → job.number ≡ jobs + k → IsJob b k job)
fresh_head None jobs given starts job few = tt
fresh_head (Some head) jobs given starts job few = fresh_phase head.phase jobs given starts job few

awaited_phase : (phase : Phase) (jobs given number : ℕ) → IfBuiltPhase phase (λ b. jobs ≡ given) → ¬ (AwaitsPhase phase jobs given number)
awaited_phase (phases.Opening root) jobs given number starts awaits = awaits
awaited_phase phases.Rereading jobs given number starts awaits = awaits
awaited_phase (phases.Planned plan) jobs given number starts awaits = awaits
awaited_phase (phases.Built b origin) jobs given number starts (k, is, few, pair, runs) = omega (arith, starts, is, few)

awaited_head : (head : Option Head) (jobs given number : ℕ) → IfBuilt head (λ b. jobs ≡ given) → ¬ (AwaitsHead head jobs given number)
awaited_head None jobs given number starts awaits = awaits
awaited_head (Some head) jobs given number starts awaits = awaited_phase head.phase jobs given number starts awaits

module _ (old new : Rest) (given : new.given ≡ old.given) (starts : StartsAt new old.given) where
  pub back_fresh : (job : JobTree) → IsBack old job → IsBack new job
  back_fresh job back =
      record {
        given = subst (λ n. job.number < n) (sym given) back.given;
        right = fresh_head new.head new.jobs old.given starts job back.given;
      }

  pub none_awaited : (number : ℕ) → ¬ (Awaits new number)
  none_awaited number awaits =
      awaited_head new.head new.jobs new.given number (subst (λ n. IfBuilt new.head (λ b. new.jobs ≡ n)) (sym given) starts) awaits

-- ---- a session in which nothing happened yet

pub stands_new : (core : Core) → core.out.items ≡ [] → core.queue ≡ [] → core.head ≡ None → ((document target : List ℕ) → shows core.shown document target ≡ [])
    → core.workspace ≡ None → core.closed ≡ false → core.status ≡ None → core.taken ≡ 0 → IsEmpty core.kept → StandsFor core []
stands_new core out queue head shown workspace closed status taken empty =
    record {
      each = subst (λ (items : List Outgoing). EachAllowed (onto (map outgoing_said items) [])) (sym out) tt;
      rests = tt;
      whole = λ found. record {
        first = none;
        fits = subst (λ (h : Option Head). HeadFits core h (after (onto (said_out core) [])) none) (sym head) refl;
        mid = subst (λ (items : List Outgoing). Mid (plain_of core) (Recalls core) (record { first = none; waiting = waiting_of core; last = []; nulls = [] }) (onto (map outgoing_said items) [])) (sym out)
            (record {
              each = tt;
              plain_is = λ i. record {
                force = sym workspace i;
                closed = sym closed i;
                table = λ document target. sym (shown document target) i;
                taken = sym taken i;
                status = sym status i;
              };
              open_is = subst (λ (q : List (Waiting Queued)). IsOpen (record { first = none; waiting = map asked_of q; last = []; nulls = [] }) (after [])) (sym queue)
                  (record { head = []; first_is = refl; requests_are = refl; waits = All-nil IsWaiting; apart = search rules; nulls_are = refl });
              builds_are = subst (λ (w : Option Space). RemembersIn w core.kept []) (sym workspace) (refl, empty);
            });
      };
    }
