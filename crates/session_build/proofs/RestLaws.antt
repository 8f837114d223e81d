-- What is so of each build that rests.
use Rattle.std.proofs.Common.{◌≡◌, ◌≢◌, ◌⊎◌, inl, inr, ◌≤◌, ◌<◌, ◌-◌, ◌^◌, ℕ, suc, List, [], ◌∷◌, true, eqb, length, map, refl, sym, ap, subst, arith}
use Rattle.std.specs.List.{Contains, list_any}
use Rattle.std.proofs.lemmas.Bool.{eqb-true}
use Rattle.std.proofs.lemmas.Bool.Decides.{Decides-eqb}
use Rattle.std.proofs.lemmas.List.{length-map}
use Rattle.std.proofs.lemmas.List.Elements.{All-contains}
use Rattle.std.proofs.lemmas.Map.Made.{IsDistinct-from_AllPairs}
use Rattle.std.proofs.lemmas.Map.Steps.{length-le_from_distinct_below}
use Rattle.std.proofs.lemmas.Map.Views.{Contains-from_any}
use Rattle.bsp_records.specs.Table.{Table}
use Rattle.build_checks.specs.Numbers.{AreNumbersOf}
use Rattle.build_checks.specs.Stand.{modules_of, settled_of, taken_of, world_of}
use Rattle.build_checks.specs.Work.{IsWorkOf}
use Rattle.build_rules.specs.World.{World}
use Rattle.rpc_peer.specs.Said.{Said}
use Rattle.session_law.proofs.ListLaws.{contains_first, contains_map, contains_map_back}
use Rattle.session_law.specs.Course.{Given}
use Rattle.session_law.specs.EachRests.{AwaitsCheck}
use Rattle.session_build.specs.AtWork.{IsAtWork, IsOwnWork, IsWork, Rests, Runs, RunsOn, begun_in}
use Rattle.session_build.specs.Going.{IsAmong, IsJob, IsOrdered, IsSound, all_left, all_running, running_of}
use Rattle.session_build.specs.Setting.{IsSetting}
use Rattle.session_build.specs.Stages.{IsRunning}
use Rattle.session_build.specs.declared.building.Build.{Build}
use Rattle.session_build.specs.declared.going.Going.{Going}
use Rattle.session_build.specs.declared.going.Job.{Job}
use Rattle.session_build.specs.declared.setting.Setting.{Setting}
use Rattle.session_build.proofs.JobLaws.{same_pair}
use Rattle.session_build.proofs.StageLaws.{none_here}
use Rattle.target_graph.specs.Workspace.{pairs_of}
use Rattle.target_graph.specs.declared.target.Target.{Target}
use Rattle.worker_pool.specs.Jobs.{CheckTree}

-- ---- what is left to do

module _ (at : Setting) (going : Going) (setting : IsSetting at) (sound : IsSound at going) where
  abbrev size : ℕ
  size = length (pairs_of (world_of going.checks).targets)

  -- no two checks that run are of one document
  jobs_few : length going.jobs.items ≤ size
  jobs_few =
      let pairs : List ℕ = map (λ (j : Job). j.pair) going.jobs.items in
      let few : length pairs ≤ size = length-le_from_distinct_below pairs size (IsDistinct-from_AllPairs Decides-eqb pairs sound.distinct) within in
      let same = length-map going.jobs.items (λ (j : Job). j.pair) in
      omega (arith, few, same)
    where
      within : (q : ℕ) → list_any (eqb q) (map (λ (j : Job). j.pair) going.jobs.items) ≡ true → q < size
      within q listed =
          let from = contains_map_back (λ (j : Job). j.pair) going.jobs.items q (Contains-from_any eqb-true q (map (λ (j : Job). j.pair) going.jobs.items) listed) in
          let own : IsJob going.checks from.0 = All-contains (IsJob going.checks) going.jobs.items from.0 sound.each from.1 in
          subst (λ p. p < size) from.2 (sound.checks.so_far.within from.0.pair own.among)

  pub left_small : all_left going.checks going.jobs.items < 2 ^ 64
  left_small =
      let rows = sound.checks.so_far.rows.size in
      let same = ap (λ (ts : List Target). length (pairs_of ts)) sound.space in
      omega (arith, rows, same, jobs_few, setting.few)

-- ---- the checks that run

module _ (going : Going) (ordered : IsOrdered going) where
  pub some_runs : going.jobs.items ≢ [] → (k : ℕ) × (pair : ℕ) × IsAmong going.jobs.items (suc k) pair
  some_runs runs = by going.jobs.items refl
    where
      by : (jobs : List Job) → going.jobs.items ≡ jobs → (k : ℕ) × (pair : ℕ) × IsAmong going.jobs.items (suc k) pair
      by [] none = absurd (runs none)
      by (job ∷ jobs) are =
          let there : Contains going.jobs.items job = subst (λ (js : List Job). Contains js job) (sym are) (contains_first job jobs) in
          let counted : 0 < job.number = All-contains (λ (j : Job). 0 < j.number) going.jobs.items job ordered.counted there in
          (job.number - 1, job.pair, record { job = job; there = there; number_is = omega (arith, counted); pair_is = refl })

  pub has_begun : (k pair : ℕ) → IsAmong going.jobs.items (suc k) pair → k < going.begun
  has_begun k pair runs =
      let within : runs.job.number ≤ going.begun = All-contains (λ (j : Job). j.number ≤ going.begun) going.jobs.items runs.job ordered.within runs.there in
      omega (arith, within, runs.number_is)

-- ---- work

pub work_own : (b : Build) → Rests b → (number pair : ℕ) → Runs b number pair → (work : CheckTree)
    → ((keys : List (List ℕ)) → AreNumbersOf keys b.going.checks → IsWorkOf (world_of b.going.checks) pair work) → IsOwnWork b number work
work_own b rests number pair runs work is_work =
    record {
      is = λ q runs_too keys are.
          subst (λ p. IsWorkOf (world_of b.going.checks) p work) (same_pair b.going.begun b.going.jobs.items rests.ordered number pair q runs runs_too) (is_work keys are);
    }

-- on each course it is that of its check
pub work_is : (b : Build) (number : ℕ) (work : CheckTree) → IsOwnWork b number work
    → (g : Given) (told : List Said) (keys : List (List ℕ)) (table : Table) → IsAtWork g b told keys table → IsWork g b number work
work_is b number work own g told keys table at_work =
    record { is = λ pair runs. subst (λ (w : World). IsWorkOf w pair work) at_work.going.agrees.world_is (own.is pair runs keys at_work.going.numbers) }

-- and it stays so while its check runs
pub work_stays : (old new : Build) (finished : ℕ) → Rests old → RunsOn old finished new → (number pair : ℕ) → Runs old number pair → (work : CheckTree) → IsOwnWork old number work
    → IsOwnWork new number work
work_stays old new finished rests on number pair runs work own = record { is = λ q runs_now keys are. by q keys are (on.either number q runs_now) }
  where
    begun : runs.job.number ≤ old.going.begun
    begun = All-contains (λ (j : Job). j.number ≤ old.going.begun) old.going.jobs.items runs.job rests.ordered.within runs.there

    by : (q : ℕ) (keys : List (List ℕ)) → AreNumbersOf keys new.going.checks → (Runs old number q × (number ≢ finished)) ⊎ (begun_in old < number) → IsWorkOf (world_of new.going.checks) q work
    by q keys are (inl was) = subst (λ (w : World). IsWorkOf w q work) (sym on.checks.world) (own.is q was.0 keys (on.checks.views keys are))
    by q keys are (inr late) = absurd (omega (arith, late, begun, runs.number_is))

-- ---- the course that it rests on

-- on each course it waits for a check
pub awaits_check : (g : Given) (b : Build) (told : List Said) (keys : List (List ℕ)) (table : Table) → IsAtWork g b told keys table → AwaitsCheck g told
awaits_check g b told keys table at_work =
    let going = at_work.going in
    let some = at_work.rests.some in
    let job : Job = some.2.job in
    let running : IsRunning g going.stage (running_of job) =
    All-contains (IsRunning g going.stage) (all_running b.going.jobs.items) (running_of job) going.begun.each (contains_map running_of b.going.jobs.items job some.2.there) in
    record {
      stage = going.stage;
      course = going.on.course;
      none_next =
          none_here g going.stage (world_of b.going.checks) (modules_of b.going.checks) (taken_of b.going.checks) (settled_of b.going.checks) going.agrees at_work.rests.none;
      document = running.document;
      number = job.number;
      runs = running.runs;
    }
