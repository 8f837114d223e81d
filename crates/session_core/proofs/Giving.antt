-- Which jobs are given, which are awaited, and which may come back.
use Rattle.std.proofs.Common.{◌≡◌, ◌≢◌, ◌≤◌, ◌<◌, ◌+◌, ◌-◌, ◌⊎◌, inl, inr, ℕ, suc, List, Bool, true, false, Option, Some, None, Result, Ok, Err, true≢false, refl, ap, sym, ◌∙◌, subst, arith}
use Rattle.std.specs.Prelude.{IfOk, IfSome, OnOk}
use Rattle.rpc_peer.specs.Said.{Said}
use Rattle.rpc_peer.specs.declared.message.Id.{Id}
use Rattle.session_build.proofs.RestLaws.{work_stays}
use Rattle.session_build.specs.AtWork.{IfOn, Leaves, Rests, Runs, RunsOn, begun_in}
use Rattle.session_build.specs.declared.building.Build.{Build}
use Rattle.session_build.specs.declared.building.Went.{Went}
use Rattle.session_build.specs.declared.building.Went.TheVariants.{On, Ended}
use Rattle.session_core.proofs.Continued.{awaiting_head}
use Rattle.session_core.specs.Building.{GoesOnBy}
use Rattle.session_core.specs.Handing.{HasWent, built_head}
use Rattle.session_core.specs.Moving.{KeepsJobs}
use Rattle.session_core.specs.Settled.{AreNumbered, Awaits, AwaitsHead, AwaitsJob, AwaitsPhase, BuildStays, HasBegun, HeadStays, HeadWants, IfBuilt, IfBuiltPhase, IsBack, IsJob, IsNeeded, IsSettled, IsSound, IsUnbuilt, IsWorkOf, NeedsNothing}
use Rattle.session_core.specs.Standing.{HeadRests, PhaseRests}
use Rattle.session_core.specs.State.{Rest, rest_of}
use Rattle.session_core.specs.declared.head.Head.{Head}
use Rattle.session_core.specs.declared.head.Phase.{Phase}
use Rattle.session_core.specs.declared.head.Phase.TheVariants as phases
use Rattle.session_core.specs.declared.jobs.Awaiting.{Awaiting}
use Rattle.session_core.specs.declared.needs.Need.{Need}
use Rattle.session_core.specs.declared.needs.Need.TheVariants as needs
use Rattle.session_core.specs.declared.session.Core.{Core}
use Rattle.target_graph.specs.Workspace.{Space}
use Rattle.worker_pool.specs.Jobs.{CheckTree, JobTree, WorkTree, check_work}
use Rattle.worker_pool.specs.Plain.{plain_job}

-- ---- where no build waits for its checks, no job is awaited, and any may come back

unbuilt_phase : (phase : Phase) → IfBuiltPhase phase (λ b. ⊥) → (P : Build → Type 0) → IfBuiltPhase phase P
unbuilt_phase (phases.Opening root) none P = tt
unbuilt_phase phases.Rereading none P = tt
unbuilt_phase (phases.Planned plan) none P = tt
unbuilt_phase (phases.Built b origin) none P = absurd none

pub unbuilt_any : (head : Option Head) → IsUnbuilt head → (P : Build → Type 0) → IfBuilt head P
unbuilt_any None none P = tt
unbuilt_any (Some head) none P = unbuilt_phase head.phase none P

unbuilt_phase_awaits : (phase : Phase) (jobs given number : ℕ) → IfBuiltPhase phase (λ b. ⊥) → ¬ (AwaitsPhase phase jobs given number)
unbuilt_phase_awaits (phases.Opening root) jobs given number none awaits = awaits
unbuilt_phase_awaits phases.Rereading jobs given number none awaits = awaits
unbuilt_phase_awaits (phases.Planned plan) jobs given number none awaits = awaits
unbuilt_phase_awaits (phases.Built b origin) jobs given number none awaits = none

pub unbuilt_awaits : (head : Option Head) (jobs given number : ℕ) → IsUnbuilt head → ¬ (AwaitsHead head jobs given number)
unbuilt_awaits None jobs given number none awaits = awaits
unbuilt_awaits (Some head) jobs given number none awaits = unbuilt_phase_awaits head.phase jobs given number none awaits

-- ---- behind an outcome

-- The build at the head went on by the outcome of the job with this number, and the next request may have been taken up.
module _ (old went new : Core) (it : Awaiting) (number : ℕ) (is : old.head ≡ Some (awaiting_head it)) (at : suc number ≡ old.jobs + it.check) (some : 0 < it.check)
    (rests : Rests it.build) (needs : NeedsNothing (rest_of old)) (work : CheckTree) (by : GoesOnBy (record old { head = None }) went it work)
    (stays : HeadStays went.head new.head) (same : KeepsJobs went new) where
  went_jobs : (w : Went) → HasWent (record old { head = None; kept = went.kept; shown = went.shown }) went it.id it.number it.origin w by.told → (went.jobs ≡ old.jobs) × (went.given ≡ old.given)
  went_jobs (On b) so = (ap (λ (c : Core). c.jobs) so.0, ap (λ (c : Core). c.given) so.0)
  went_jobs (Ended failed remains) so = (ap (λ (c : Core). c.jobs) so.0, ap (λ (c : Core). c.given) so.0)

  jobs_is : new.jobs ≡ old.jobs
  jobs_is = same.jobs ∙ (went_jobs by.went by.goes).0

  given_is : new.given ≡ old.given
  given_is = same.given ∙ (went_jobs by.went by.goes).1

  went_head : (w : Went) → HasWent (record old { head = None; kept = went.kept; shown = went.shown }) went it.id it.number it.origin w by.told → Leaves it.build it.check w
      → IsUnbuilt went.head ⊎ ((b : Build) × RunsOn it.build it.check b × (went.head ≡ Some (built_head it.id it.number b it.origin)))
  went_head (On b) so leaves = inr (b, leaves, ap (λ (c : Core). c.head) so.0)
  went_head (Ended failed remains) so leaves = inl (subst (λ (h : Option Head). IsUnbuilt h) (sym (ap (λ (c : Core). c.head) so.0)) tt)

  new_head : IsUnbuilt new.head ⊎ ((b : Build) × RunsOn it.build it.check b × (new.head ≡ Some (built_head it.id it.number b it.origin)))
  new_head = on stays (went_head by.went by.goes by.leaves)
    where
      on : HeadStays went.head new.head → IsUnbuilt went.head ⊎ ((b : Build) × RunsOn it.build it.check b × (went.head ≡ Some (built_head it.id it.number b it.origin)))
          → IsUnbuilt new.head ⊎ ((b : Build) × RunsOn it.build it.check b × (new.head ≡ Some (built_head it.id it.number b it.origin)))
      on (inl is_same) (inl none) = inl (subst (λ (h : Option Head). IsUnbuilt h) (sym is_same) none)
      on (inl is_same) (inr (b, runs_on, is_built)) = inr (b, runs_on, is_same ∙ is_built)
      on (inr none) either = inl none

  pub still_back : (job : JobTree) → IsBack (rest_of old) job → job.number ≢ number → IsBack (rest_of new) job
  still_back job back other =
      record {
        given = subst (λ n. job.number < n) (sym given_is) back.given;
        right = right new_head;
      }
    where
      was : (k : ℕ) → job.number ≡ old.jobs + k → IsJob it.build k job
      was = subst (λ (h : Option Head). IfBuilt h (λ b. (k : ℕ) → job.number ≡ old.jobs + k → IsJob b k job)) is back.right

      stays_job : (b : Build) → RunsOn it.build it.check b → (k : ℕ) → job.number ≡ new.jobs + k → IsJob b k job
      stays_job b on k is_k =
          let was_k : IsJob it.build k job = was k (is_k ∙ ap (λ n. n + k) jobs_is) in
          let apart : suc k ≢ it.check = λ k_is. other (number_same k is_k k_is) in
          record {
            pair = was_k.pair;
            runs = on.others (suc k) was_k.pair was_k.runs apart;
            work = still_work b on k was_k.pair was_k.runs job.work was_k.work;
          }
        where
          number_same : (k : ℕ) → job.number ≡ new.jobs + k → suc k ≡ it.check → job.number ≡ number
          number_same k is_k k_is = let same_jobs = jobs_is in omega (arith, at, some, is_k, k_is, same_jobs)

          still_work : (b : Build) → RunsOn it.build it.check b → (k pair : ℕ) → Runs it.build (suc k) pair → (w : WorkTree) → IsWorkOf it.build (suc k) w → IsWorkOf b (suc k) w
          still_work b on k pair runs (check_work check) own = work_stays it.build b it.check rests on (suc k) pair runs check own

      right : IsUnbuilt new.head ⊎ ((b : Build) × RunsOn it.build it.check b × (new.head ≡ Some (built_head it.id it.number b it.origin))) → IfBuilt new.head (λ b. (k : ℕ) → job.number ≡ new.jobs + k → IsJob b k job)
      right (inl none) = unbuilt_any new.head none (λ b. (k : ℕ) → job.number ≡ new.jobs + k → IsJob b k job)
      right (inr (b, on, is_built)) = subst (λ (h : Option Head). IfBuilt h (λ b. (k : ℕ) → job.number ≡ new.jobs + k → IsJob b k job)) (sym is_built) (stays_job b on)

  pub still_awaits : (n : ℕ) → Awaits (rest_of new) n → Awaits (rest_of old) n × (n ≢ number)
  still_awaits n awaits = behind new_head
    where
      all_given : old.given ≡ old.jobs + begun_in it.build
      all_given = subst (λ (h : Option Head). IfBuilt h (λ b. old.given ≡ old.jobs + begun_in b)) is needs.jobs

      of_build : (b : Build) → RunsOn it.build it.check b → AwaitsJob new.jobs new.given n b → Awaits (rest_of old) n × (n ≢ number)
      of_build b on (k, n_is, n_given, pair, runs) = either (on.either (suc k) pair runs)
        where
          either : (Runs it.build (suc k) pair × (suc k ≢ it.check)) ⊎ (begun_in it.build < suc k) → Awaits (rest_of old) n × (n ≢ number)
          either (inl (was, apart)) =
              let n_was : n ≡ old.jobs + k = n_is ∙ ap (λ j. j + k) jobs_is in
              let given_was : n < old.given = subst (λ g. n < g) given_is n_given in
              let is_awaited : AwaitsJob old.jobs old.given n it.build = (k, n_was, given_was, pair, was) in
              (subst (λ (h : Option Head). AwaitsHead h old.jobs old.given n) (sym is) is_awaited, λ n_number. apart (omega (arith, at, some, n_was, n_number)))
          either (inr late) = let same_jobs = jobs_is in let same_given = given_is in absurd (omega (arith, late, n_is, n_given, all_given, same_jobs, same_given))

      behind : IsUnbuilt new.head ⊎ ((b : Build) × RunsOn it.build it.check b × (new.head ≡ Some (built_head it.id it.number b it.origin))) → Awaits (rest_of old) n × (n ≢ number)
      behind (inl none) = absurd (unbuilt_awaits new.head new.jobs new.given n none awaits)
      behind (inr (b, on, is_built)) = of_build b on (subst (λ (h : Option Head). AwaitsHead h new.jobs new.given n) is_built awaits)

  -- where the build stays at the head, what else was awaited is awaited still
  pub still_awaited : BuildStays went.head new.head → (n : ℕ) → Awaits (rest_of old) n → n ≢ number → Awaits (rest_of new) n
  still_awaited build_stays n awaits other = on by.went by.goes by.leaves
    where
      was : AwaitsJob old.jobs old.given n it.build
      was = subst (λ (h : Option Head). AwaitsHead h old.jobs old.given n) is awaits

      apart : suc was.0 ≢ it.check
      apart is_check = let is_number = was.1 in other (omega (arith, at, some, is_number, is_check))

      waits : (b : Build) → went.head ≡ Some (built_head it.id it.number b it.origin) → new.head ≡ Some (built_head it.id it.number b it.origin)
      waits b is_built = by_stays build_stays
        where
          by_stays : BuildStays went.head new.head → new.head ≡ Some (built_head it.id it.number b it.origin)
          by_stays (inl is_same) = is_same ∙ is_built
          by_stays (inr none) = absurd (subst (λ (h : Option Head). IsUnbuilt h) is_built none)

      on : (w : Went) → HasWent (record old { head = None; kept = went.kept; shown = went.shown }) went it.id it.number it.origin w by.told → Leaves it.build it.check w → Awaits (rest_of new) n
      on (On b) so leaves =
          let is_number : n ≡ new.jobs + was.0 = was.1 ∙ ap (λ j. j + was.0) (sym jobs_is) in
          let is_given : n < new.given = subst (λ g. n < g) (sym given_is) was.2 in
          let is_awaited : AwaitsJob new.jobs new.given n b = (was.0, is_number, is_given, was.3, leaves.others (suc was.0) was.3 was.4 apart) in
          subst (λ (h : Option Head). AwaitsHead h new.jobs new.given n) (sym (waits b (ap (λ (c : Core). c.head) so.0))) is_awaited
      on (Ended failed remains) so leaves = absurd (apart (leaves (suc was.0) was.3 was.4))

-- The build at the head went on, so what is between two calls is so again.
module _ (old went : Core) (it : Awaiting) (is : old.head ≡ Some (awaiting_head it)) (sound : IsSound (rest_of old)) (needs : NeedsNothing (rest_of old)) (work : CheckTree)
    (by : GoesOnBy (record old { head = None }) went it work) where
  given_all : old.given ≡ old.jobs + begun_in it.build
  given_all = subst (λ (h : Option Head). IfBuilt h (λ b. old.given ≡ old.jobs + begun_in b)) is needs.jobs

  was_at_rest : HeadRests (Some (awaiting_head it))
  was_at_rest = subst (λ (h : Option Head). HeadRests h) is sound.rests

  begun_on : (force : Option Space) → HasBegun force (Some (awaiting_head it)) old.queue → (head : Option Head) → HasBegun force head old.queue
  begun_on None begun head = absurd begun.0
  begun_on (Some space) begun head = tt

  begun_now : (head : Option Head) → HasBegun old.workspace head old.queue
  begun_now = begun_on old.workspace (subst (λ (h : Option Head). HasBegun old.workspace h old.queue) is sound.begun)

  numbered_on : (b : Build) → RunsOn it.build it.check b → AreNumbered old.jobs old.given b
  numbered_on b on =
      let more = on.more in
      let all = given_all in
      record {
        within = omega (arith, all, more);
        to_give = λ k below less. on.fresh (suc k) (omega (arith, all, below)) (omega (arith, less));
      }

  pub went_sound : IsSound (rest_of went)
  went_sound = sound_by by.went by.goes by.rests by.leaves
    where
      sound_by : (w : Went) → HasWent (record old { head = None; kept = went.kept; shown = went.shown }) went it.id it.number it.origin w by.told → IfOn w Rests → Leaves it.build it.check w → IsSound (rest_of went)
      sound_by (On b) so rests leaves =
          subst IsSound (sym (ap rest_of so.0))
          (record {
            rests = (was_at_rest.0, (rests, was_at_rest.1.1));
            texts = sound.texts;
            goes_on = refl;
            waiting = sound.waiting;
            begun = begun_now (Some (built_head it.id it.number b it.origin));
            plan = tt;
            tree = subst (λ t. IfSome t (HeadWants (Some (built_head it.id it.number b it.origin)))) (sym needs.tree) tt;
            numbers = sound.numbers;
            checks = numbered_on b leaves;
            drains = λ drains. absurd (true≢false (sym drains ∙ needs.drains));
          })
      sound_by (Ended failed remains) so rests leaves =
          subst IsSound (sym (ap rest_of so.0))
          (record {
            rests = tt;
            texts = sound.texts;
            goes_on = tt;
            waiting = sound.waiting;
            begun = begun_now None;
            plan = tt;
            tree = subst (λ t. IfSome t (HeadWants None)) (sym needs.tree) tt;
            numbers = sound.numbers;
            checks = tt;
            drains = λ drains. tt;
          })

-- ---- the next job

module _ (rest : Rest) (settled : IsSettled rest) (head : Head) (b : Build) (origin : Option (List ℕ)) (is : rest.head ≡ Some head) (phase : head.phase ≡ phases.Built b origin) where
  numbered : AreNumbered rest.jobs rest.given b
  numbered =
      subst (λ (p : Phase). IfBuiltPhase p (AreNumbered rest.jobs rest.given)) phase
      (subst (λ (h : Option Head). IfBuilt h (AreNumbered rest.jobs rest.given)) is settled.sound.checks)

  -- the first check whose job wasn't given runs
  pub number_runs : rest.given - rest.jobs < begun_in b → (pair : ℕ) × Runs b (suc (rest.given - rest.jobs)) pair
  number_runs more = let few = settled.sound.numbers in numbered.to_give (rest.given - rest.jobs) (omega (arith, few)) more

  pub job_given : rest.given - rest.jobs < begun_in b → (job : JobTree) → job.number ≡ rest.given → IsWorkOf b (suc (rest.given - rest.jobs)) job.work
      → IsBack (record rest { given = suc rest.given }) job
  job_given more job number_is work =
      record {
        given = omega (arith, number_is);
        right =
            subst (λ (h : Option Head). IfBuilt h (λ b. (k : ℕ) → job.number ≡ rest.jobs + k → IsJob b k job)) (sym is)
            (subst (λ (p : Phase). IfBuiltPhase p (λ b. (k : ℕ) → job.number ≡ rest.jobs + k → IsJob b k job)) (sym phase) by);
      }
    where
      by : (k : ℕ) → job.number ≡ rest.jobs + k → IsJob b k job
      by k is_k =
          let few = settled.sound.numbers in
          let k_is : rest.given - rest.jobs ≡ k = omega (arith, few, is_k, number_is) in
          let runs = number_runs more in
          record {
            pair = runs.0;
            runs = subst (λ n. Runs b (suc n) runs.0) k_is runs.1;
            work = subst (λ n. IsWorkOf b (suc n) job.work) k_is work;
          }

  -- and its outcome is awaited
  pub job_awaited : rest.given - rest.jobs < begun_in b → Awaits (record rest { given = suc rest.given }) rest.given
  job_awaited more =
      let few = settled.sound.numbers in
      let runs = number_runs more in
      let is_awaited : AwaitsJob rest.jobs (suc rest.given) rest.given b = (rest.given - rest.jobs, omega (arith, few), omega arith, runs.0, runs.1) in
      subst (λ (h : Option Head). AwaitsHead h rest.jobs (suc rest.given) rest.given) (sym is)
      (subst (λ (p : Phase). AwaitsPhase p rest.jobs (suc rest.given) rest.given) (sym phase) is_awaited)

  -- where each job was given, none is needed
  pub all_given : begun_in b ≤ rest.given - rest.jobs → IfBuilt rest.head (λ b. rest.given ≡ rest.jobs + begun_in b)
  all_given none =
      let within = numbered.within in
      let few = settled.sound.numbers in
      let same : rest.given ≡ rest.jobs + begun_in b = omega (arith, none, within, few) in
      subst (λ (h : Option Head). IfBuilt h (λ b. rest.given ≡ rest.jobs + begun_in b)) (sym is)
      (subst (λ (p : Phase). IfBuiltPhase p (λ b. rest.given ≡ rest.jobs + begun_in b)) (sym phase) same)

-- ---- what is needed

-- whether memory was found is no part of it
pub settled_noting : (rest : Rest) (dead : Bool) → IsSettled rest → IsSettled (record rest { dead = dead })
settled_noting rest dead settled =
    record {
      sound = record {
        rests = settled.sound.rests;
        texts = settled.sound.texts;
        goes_on = settled.sound.goes_on;
        waiting = settled.sound.waiting;
        begun = settled.sound.begun;
        plan = settled.sound.plan;
        tree = settled.sound.tree;
        numbers = settled.sound.numbers;
        checks = settled.sound.checks;
        drains = settled.sound.drains;
      };
      behind = settled.behind;
    }

-- this much is asked for, of what is needed
pub settled_asked : (old : Rest) (tree : Option (List (List ℕ))) (drains : Bool) (given : ℕ) → IsSettled old → IfSome tree (HeadWants old.head) → (drains ≡ true → IsUnbuilt old.head)
    → old.jobs ≤ given → IfBuilt old.head (AreNumbered old.jobs given) → IsSettled (record old { tree = tree; drains = drains; given = given })
settled_asked old tree drains given settled wants unbuilt numbers checks =
    record {
      sound = record {
        rests = settled.sound.rests;
        texts = settled.sound.texts;
        goes_on = settled.sound.goes_on;
        waiting = settled.sound.waiting;
        begun = settled.sound.begun;
        plan = settled.sound.plan;
        tree = wants;
        numbers = numbers;
        checks = checks;
        drains = unbuilt;
      };
      behind = settled.behind;
    }

-- one more job is given, which may come back
numbered_phase : (phase : Phase) (jobs given : ℕ) (job : JobTree) → PhaseRests phase → IfBuiltPhase phase (AreNumbered jobs given) → jobs ≤ given → job.number ≡ given
    → IfBuiltPhase phase (λ b. (k : ℕ) → job.number ≡ jobs + k → IsJob b k job) → IfBuiltPhase phase (AreNumbered jobs (suc given))
numbered_phase (phases.Opening root) jobs given job rests checks few is back = tt
numbered_phase phases.Rereading jobs given job rests checks few is back = tt
numbered_phase (phases.Planned plan) jobs given job rests checks few is back = tt
numbered_phase (phases.Built b origin) jobs given job rests checks few is back =
    let at : job.number ≡ jobs + (given - jobs) = omega (arith, few, is) in
    let runs = (back (given - jobs) at).runs in
    let begun : given - jobs < begun_in b = rests.0.begun (given - jobs) (back (given - jobs) at).pair runs in
    record {
      within = omega (arith, few, begun);
      to_give = λ k below more. checks.to_give k (omega (arith, below)) more;
    }

numbered_head : (head : Option Head) (jobs given : ℕ) (job : JobTree) → HeadRests head → IfBuilt head (AreNumbered jobs given) → jobs ≤ given → job.number ≡ given
    → IfBuilt head (λ b. (k : ℕ) → job.number ≡ jobs + k → IsJob b k job) → IfBuilt head (AreNumbered jobs (suc given))
numbered_head None jobs given job rests checks few is back = tt
numbered_head (Some head) jobs given job rests checks few is back = numbered_phase head.phase jobs given job rests.1 checks few is back

pub settled_needed : (old new : Rest) (need : Option Need) → IsSettled old → IsNeeded old new need → IsSettled new
settled_needed old new None settled needed = subst IsSettled (sym needed.1) settled
settled_needed old new (Some (needs.Tree paths)) settled needed =
    subst IsSettled (sym needed.2) (settled_asked old None old.drains old.given settled tt settled.sound.drains settled.sound.numbers settled.sound.checks)
settled_needed old new (Some needs.Drain) settled needed =
    subst IsSettled (sym needed.2) (settled_asked old old.tree false old.given settled settled.sound.tree (λ drains. absurd (true≢false (sym drains))) settled.sound.numbers settled.sound.checks)
settled_needed old new (Some (needs.Job job)) settled needed =
    let few = settled.sound.numbers in
    let checks = numbered_head old.head old.jobs old.given (plain_job job) settled.sound.rests settled.sound.checks few needed.0
    (subst (λ (r : Rest). IfBuilt r.head (λ b. (k : ℕ) → job.number ≡ r.jobs + k → IsJob b k (plain_job job))) needed.3 needed.2.right) in
    subst IsSettled (sym needed.3) (settled_asked old old.tree old.drains (suc old.given) settled settled.sound.tree settled.sound.drains (omega (arith, few)) checks)

pub on_if_ok : {T E Q : Type 0} (result : Result T E) (P : T → Type 0) → IfOk result P → ((value : T) → P value → Q) → OnOk result Q
on_if_ok (Ok value) P holds then = then value holds
on_if_ok (Err error) P holds then = tt

-- what is kept and shown stays as it was when the build told what it did
pub went_keeps : (old new : Core) (id : Id) (number : ℕ) (origin : Option (List ℕ)) (went : Went) (told : List Said) → HasWent old new id number origin went told
    → (old.kept ≡ new.kept) × (old.shown ≡ new.shown)
went_keeps old new id number origin (On b) told goes = (sym (ap (λ (c : Core). c.kept) goes.0), sym (ap (λ (c : Core). c.shown) goes.0))
went_keeps old new id number origin (Ended failed remains) told goes = (sym (ap (λ (c : Core). c.kept) goes.0), sym (ap (λ (c : Core). c.shown) goes.0))
