-- A build at the end of a call: it waits, or it ended.
use Rattle.std.proofs.Common.{◌≡◌, ◌≢◌, ◌⊎◌, inl, inr, ◌++◌, ◌≤◌, ◌<◌, ◌^◌, ℕ, suc, List, [], Bool, refl, sym, subst, ◌∙◌, append_assoc, arith}
use Rattle.std.specs.List.{Contains}
use Rattle.std.proofs.lemmas.Bool.{cases_eq}
use Rattle.std.proofs.lemmas.List.{append-nil}
use Rattle.std.proofs.lemmas.List.Elements.{All-nil}
use Rattle.bsp_records.specs.Table.{Table}
use Rattle.build_checks.specs.Kept.{Extends}
use Rattle.build_checks.specs.Work.{IsWorkOf}
use Rattle.build_rules.specs.World.{World}
use Rattle.rpc_peer.specs.Said.{Said}
use Rattle.session_law.proofs.ListLaws.{contains_map_back, contains_none}
use Rattle.session_law.specs.Verdicts.{IsBare}
use Rattle.session_build.specs.AtWork.{HasGoneOn, IfOn, IsWith, Leaves, Rests, Runs, RunsOn, begun_in}
use Rattle.session_build.specs.Going.{FinishesOne, GoesOnBy, IsAmong, IsGoing, IsOrdered, numbers_of}
use Rattle.session_build.specs.Pausing.{HasFinished, HasPaused, IsPaused, Stays}
use Rattle.session_build.specs.Remembering.{Remembers}
use Rattle.session_build.specs.declared.building.Build.{Build}
use Rattle.session_build.specs.declared.building.Remains.{Remains}
use Rattle.session_build.specs.declared.building.Went.{Went}
use Rattle.session_build.specs.declared.building.Went.TheVariants.{On, Ended}
use Rattle.session_build.specs.declared.going.Going.{Going}
use Rattle.session_build.specs.declared.going.Job.{Job}
use Rattle.session_build.specs.declared.kept.Kept.{Kept}
use Rattle.session_build.proofs.GoesLaws.{one_first}
use Rattle.session_build.proofs.LateLaws.{remembers_with}
use Rattle.session_build.proofs.RestLaws.{has_begun, left_small, some_runs}
use Rattle.session_build.proofs.TellLaws.{tells_none, tells_on}
use Rattle.target_graph.specs.Workspace.{Space}
use Rattle.worker_pool.specs.Jobs.{CheckTree}

-- some check runs
pub waits : (b : Build) (kept : Kept) (queue : List Said) → IsPaused b → b.going.jobs.items ≢ [] → b.going.begun < 2 ^ 64 → HasPaused b (On b) kept kept queue queue
waits b kept queue paused runs few =
    let rests : Rests b =
    record {
      setting = paused.setting;
      sound = paused.sound;
      ordered = paused.ordered;
      none = paused.none;
      some = some_runs b.going paused.ordered runs;
      begun = has_begun b.going paused.ordered;
      few = few;
      short = left_small b.at b.going paused.setting paused.sound;
    } in
    record {
      own = [];
      tells = tells_none queue queue refl;
      bare = All-nil IsBare;
      same = refl;
      stays = (refl, rests);
      goes = λ g told table going remembers. (
        record { rests = rests; going = subst (λ (ts : List Said). IsGoing g b.at b.going ts kept.keys table) (sym (append-nil told)) going },
        subst (λ (w : Space). Remembers w g.earlier kept) (sym going.of_setting.space) remembers,
      );
    }

-- none does
pub ended : (b : Build) (old new : Kept) (before after : List Said) (failed : Bool) (remains : Remains) → b.going.jobs.items ≡ [] → HasFinished b old new before after failed
    → HasPaused b (Ended failed remains) old new before after
ended b old new before after failed remains idle finished = record { own = finished.own; tells = finished.tells; bare = finished.bare; same = finished.same; stays = idle; goes = finished.ends }

pub rests_of : (b : Build) (went : Went) → Stays b went → IfOn went Rests
rests_of b (On new) stays = stays.1
rests_of b (Ended failed remains) idle = tt

-- ---- the checks that run then

-- where each that started is among those that go on, each runs
pub runs_all : (b : Build) (went : Went) → Stays b went → ((n : ℕ) → 0 < n → n ≤ b.going.begun → Contains (numbers_of b.going.jobs.items) n)
    → IfOn went (λ (x : Build). (k : ℕ) → k < begun_in x → (pair : ℕ) × Runs x (suc k) pair)
runs_all b (On new) stays all = subst (λ (x : Build). (k : ℕ) → k < begun_in x → (pair : ℕ) × Runs x (suc k) pair) (sym stays.0) each
  where
    each : (k : ℕ) → k < begun_in b → (pair : ℕ) × Runs b (suc k) pair
    each k less =
        let from = contains_map_back (λ (j : Job). j.number) b.going.jobs.items (suc k) (all (suc k) (omega arith) (omega (arith, less))) in
        (from.0.pair, record { job = from.0; there = from.1; number_is = from.2; pair_is = refl })
runs_all b (Ended failed remains) idle all = tt

runs_on : (b : Build) (number : ℕ) (later : Going) → IsOrdered b.going → FinishesOne b.going number later → RunsOn b number (record { at = b.at; going = later })
runs_on b number later ordered one = record {
  others = λ n p runs differ.
      record { job = runs.job; there = one.others runs.job runs.there (λ same. differ (sym runs.number_is ∙ same)); number_is = runs.number_is; pair_is = runs.pair_is };
  either = λ n p runs. by n p runs (one.either ordered runs.job runs.there);
  fresh = λ n more less.
      (let from = contains_map_back (λ (j : Job). j.number) later.jobs.items n (one.fresh n more less) in
      (from.0.pair, record { job = from.0; there = from.1; number_is = from.2; pair_is = refl }));
  more = one.more;
  less = one.less;
  checks = one.checks;
}
  where
    by : (n p : ℕ) → (runs : IsAmong later.jobs.items n p) → (Contains b.going.jobs.items runs.job × (runs.job.number ≢ number)) ⊎ (b.going.begun < runs.job.number)
        → (Runs b n p × (n ≢ number)) ⊎ (begun_in b < n)
    by n p runs (inl both) =
        inl (record { job = runs.job; there = both.0; number_is = runs.number_is; pair_is = runs.pair_is }, (λ same. both.1 (runs.number_is ∙ same)))
    by n p runs (inr less) = inr (subst (λ k. b.going.begun < k) runs.number_is less)

pub leaves : (b : Build) (number : ℕ) (later : Going) (went : Went) → IsOrdered b.going → FinishesOne b.going number later → Stays (record { at = b.at; going = later }) went
    → Leaves b number went
leaves b number later (On new) ordered one stays = subst (λ (x : Build). RunsOn b number x) (sym stays.0) (runs_on b number later ordered one)
leaves b number later (Ended failed remains) ordered one idle = λ n p runs. by n p runs (cases_eq n number)
  where
    by : (n p : ℕ) → Runs b n p → (n ≡ number) ⊎ (n ≡ number → ⊥) → n ≡ number
    by n p runs (inl same) = same
    by n p runs (inr differ) =
        absurd (contains_none runs.job (subst (λ (js : List Job). Contains js runs.job) idle (one.others runs.job runs.there (λ same. differ (sym runs.number_is ∙ same)))))

-- ---- an outcome

pub gone_on : (b : Build) (number : ℕ) (work : CheckTree) (later : Going) (went : Went) (old mid new : Kept) (table shown : Table) (first then last : List Said)
    → mid.cache ≡ old.cache → mid.late ≡ old.late → GoesOnBy b.at old.cache number work b.going later first then old.keys mid.keys table shown
    → HasPaused (record { at = b.at; going = later }) went mid new then last → HasGoneOn b number work went old new table shown first last
gone_on b number work later went old mid new table shown first then last cache late one paused = record {
  own = one.own ++ paused.own;
  tells = tells_on one.own paused.own first then last one.tells paused.tells;
  one = one_first one.own paused.own one.one paused.bare;
  more = subst (Extends old.keys) (sym paused.same) one.more;
  goes = λ g told at_work remembers found.
      (let going = at_work.going in
      let here : Remembers b.at.workspace.value g.earlier old = subst (λ (w : Space). Remembers w g.earlier old) going.of_setting.space remembers in
      let went_on : IsGoing g b.at later (told ++ one.own) mid.keys shown =
      one.on g told here.checks (λ pair runs. subst (λ (w : World). IsWorkOf w pair work) (sym going.agrees.world_is) (found.is pair runs)) going in
      let still : Remembers b.at.workspace.value g.earlier mid =
      remembers_with b.at.workspace.value g.earlier old mid cache late one.more here in
      subst (λ (ts : List Said). IsWith g went ts shown new) (append_assoc told one.own paused.own) (paused.goes g (told ++ one.own) shown went_on still));
}
