-- The checks that may come late are of builds that were answered.
use Rattle.std.proofs.Common.{◌≡◌, ◌⊎◌, inl, inr, ◌++◌, ℕ, List, [], ◌∷◌, get_or, Some, refl, sym, ap, subst, ◌∙◌, arith}
use Rattle.std.specs.List.{All, Contains, slice_get}
use Rattle.std.proofs.lemmas.List.Elements.{All-contains, Contains-append_left, Contains-append_right, Contains-get_or}
use Rattle.bsp_records.specs.Table.{Table}
use Rattle.build_checks.specs.Kept.{AreNumbered, Extends}
use Rattle.build_checks.specs.Numbers.{AreNumbersOf}
use Rattle.build_checks.specs.Stand.{world_of}
use Rattle.build_checks.specs.declared.checks.Checks.{Checks}
use Rattle.build_checks.proofs.KeptLaws.{kept_on, numbered_on}
use Rattle.build_rules.specs.World.{World, held_in}
use Rattle.oberon_types.specs.Entities.{ViewTree}
use Rattle.rpc_peer.specs.Said.{Said}
use Rattle.session_law.specs.Builds.{AreDocuments, build_document}
use Rattle.session_law.specs.Course.{Given}
use Rattle.session_law.specs.History.{HasStarted, IsTaskOf, Told, world_in}
use Rattle.session_law.specs.Methods as methods
use Rattle.session_law.specs.declared.BuildDocument.{BuildDocument}
use Rattle.session_law.proofs.ListLaws.{contains_at, contains_first, contains_later, contains_map, contains_map_back, contains_none}
use Rattle.session_build.specs.AtWork.{IsAtWork}
use Rattle.session_build.specs.Going.{HasToldStart, IsGoing, all_running, running_of, told_by}
use Rattle.session_build.specs.Late.{AddsLate, AddsLateOf, IsLateJob, IsOfJob, ShowsAs}
use Rattle.session_build.specs.Remembering.{AreLate, IsLateOf, Remembers, RemembersChecks, table_key}
use Rattle.session_build.specs.Stages.{IsRunning}
use Rattle.session_build.specs.declared.building.Build.{Build}
use Rattle.session_build.specs.declared.going.Going.{Going}
use Rattle.session_build.specs.declared.going.Job.{Job}
use Rattle.session_build.specs.declared.kept.Kept.{Kept}
use Rattle.session_build.specs.declared.late.Late.{Late}
use Rattle.session_build.specs.declared.setting.Setting.{Setting}
use Rattle.build_messages.proofs.DocumentLaws.{key_at}
use Rattle.session_build.proofs.DocumentLaws.{key_in_here}
use Rattle.session_build.proofs.RememberLaws.{remembers_on}
use Rattle.target_graph.specs.Workspace.{Space, pairs_of, stem_at}
use Rattle.target_graph.specs.declared.target.Target.{Target}

-- ---- as keys get numbers

module _ (old new : List (List ℕ)) (more : Extends old new) where
  pub late_on : (root : List ℕ) (builds : List Told) (late : List Late) → AreLate old root builds late → AreLate new root builds late
  late_on root builds late are k d h =
      let is : IsLateOf old root builds (get_or late k d) = are k d h in
      record {
        told = is.told;
        there = is.there;
        started = is.started;
        pair = is.pair;
        at = is.at;
        stem_is = is.stem_is;
        held_is = is.held_is;
        numbered = numbered_on old new more (world_in is.told.active) is.pair (get_or late k d).imports.items is.numbered;
      }

  numbers_on : (c : Checks) → AreNumbersOf old c → AreNumbersOf new c
  numbers_on c are = record {
    for_out = more _ _ are.for_out;
    for_missing = more _ _ are.for_missing;
    each = λ p among settled. let one = are.each p among settled in (one.0, more _ _ one.1);
  }

  -- a build that goes is as far as it was
  going_on : (g : Given) (at : Setting) (going : Going) (told : List Said) (table : Table) → IsGoing g at going told old table → IsGoing g at going told new table
  going_on g at going told table is = record {
    of_setting = is.of_setting;
    stage = is.stage;
    on = is.on;
    agrees = is.agrees;
    count = is.count;
    begun = is.begun;
    numbered = λ k d h. numbered_on old new more (world_of going.checks) (get_or going.jobs.items k d).pair (get_or going.jobs.items k d).imports.items (is.numbered k d h);
    made = λ k d h. kept_on old new more (world_of going.checks) (get_or going.made.items k d).pair (get_or going.made.items k d).fact (is.made k d h);
    tallied = is.tallied;
    started = is.started;
    checked = is.checked;
    numbers = numbers_on going.checks is.numbers;
  }

  pub at_work_on : (g : Given) (b : Build) (told : List Said) (table : Table) → IsAtWork g b told old table → IsAtWork g b told new table
  at_work_on g b told table at_work = record { rests = at_work.rests; going = going_on g b.at b.going told table at_work.going }

pub remembers_with : (space : Space) (builds : List Told) (old new : Kept) → new.cache ≡ old.cache → new.late ≡ old.late → Extends old.keys new.keys → Remembers space builds old
    → Remembers space builds new
remembers_with space builds old new cache late more remembers = record {
  checks = subst (λ c. RemembersChecks space builds c new.keys) (sym cache) (remembers_on old.keys new.keys more space builds old.cache remembers.checks);
  late = subst (λ v. AreLate new.keys space.root builds v.items) (sym late) (late_on old.keys new.keys more space.root builds old.late.items remembers.late);
}

pub shown_more : (old new : List (List ℕ)) → Extends old new → (shown : List ℕ → ViewTree) (imports : List (List ℕ × ℕ)) → All (ShowsAs old shown) imports → All (ShowsAs new shown) imports
shown_more old new more shown imports all k d h = more _ _ (all k d h)

-- ---- one build more

module _ (keys : List (List ℕ)) (root : List ℕ) (now : Told) (earlier : List Told) where
  late_later : (late : Late) → IsLateOf keys root earlier late → IsLateOf keys root (now ∷ earlier) late
  late_later late is = record {
    told = is.told;
    there = contains_later now earlier is.told is.there;
    started = is.started;
    pair = is.pair;
    at = is.at;
    stem_is = is.stem_is;
    held_is = is.held_is;
    numbered = is.numbered;
  }

  pub late_more : (late : List Late) → AreLate keys root earlier late → AreLate keys root (now ∷ earlier) late
  late_more late are k d h = late_later (get_or late k d) (are k d h)

-- ---- a build is cancelled

-- each document is that of its pair
document_own : (build : methods.Build) (documents : List BuildDocument) → AreDocuments build documents → (document : BuildDocument) → Contains documents document
    → build_document build.space document.pair ≡ document
document_own build documents are document there =
    let from = contains_map_back (build_document build.space) are.pairs document (subst (λ ds. Contains ds document) are.are there) in
    ap (build_document build.space) (ap (λ (d : BuildDocument). d.pair) (sym from.2)) ∙ from.2

module _ (g : Given) (at : Setting) (going : Going) (told cancels : List Said) (keys : List (List ℕ)) (table : Table) (is : IsGoing g at going told keys table) where
  abbrev now : Told
  now = told_by g (told ++ cancels)

  running_job : (job : Job) → Contains going.jobs.items job → IsRunning g is.stage (running_of job)
  running_job job there = All-contains (IsRunning g is.stage) (all_running going.jobs.items) (running_of job) is.begun.each (contains_map running_of going.jobs.items job there)

  job_document : (job : Job) → (runs : IsRunning g is.stage (running_of job)) → build_document g.active.build.space job.pair ≡ runs.document
  job_document job runs =
      ap (build_document g.active.build.space) (sym runs.pair_is)
      ∙ document_own g.active.build g.documents is.of_setting.are.documents runs.document (contains_at g.documents job.document_index runs.document runs.there)

  job_started : (job : Job) → Contains going.jobs.items job → HasStarted now (build_document at.workspace.value job.pair).key
  job_started job there =
      let runs = running_job job there in
      let own = job_document job runs in
      subst (λ (s : Space). HasStarted now (build_document s job.pair).key) is.of_setting.space
      (record {
        j = job.number;
        i = job.target;
        of_target = subst (λ (d : BuildDocument). IsTaskOf g.active d.key.target job.target) (sym own) runs.of_target;
        started = Contains-append_left told cancels _ (All-contains (HasToldStart g told) going.jobs.items job is.started there);
        uncleaned = contains_none (build_document g.active.build.space job.pair).key;
      })

  late_own : (earlier : List Told) (late : Late) → IsOfJob going.checks going.jobs.items late → IsLateOf keys at.workspace.value.root (now ∷ earlier) late
  late_own earlier late of =
      let job : Job = of.job in
      let space : Space = g.active.build.space in
      let world_is : world_of going.checks ≡ world_in g.active = is.agrees.world_is in
      let targets_are : (world_of going.checks).targets ≡ space.targets = ap (λ (w : World). w.targets) world_is in
      let key_here : key_at space job.pair ≡ table_key space.root late.key = key_in_here space (world_of going.checks) job.pair late.key targets_are of.is.key_is in
      let key_is : key_at space job.pair ≡ table_key at.workspace.value.root late.key =
      subst (λ (s : Space). key_at space job.pair ≡ table_key s.root late.key) is.of_setting.space key_here in
      record {
        told = now;
        there = (0, omega arith, refl);
        started =
            subst (HasStarted now) (ap (λ (s : Space). key_at s job.pair) (sym is.of_setting.space) ∙ key_is) (job_started job of.there);
        pair = job.pair;
        at = record {
          pair = of.is.key_is.pair;
          there = subst (λ (ts : List Target). slice_get (pairs_of ts) job.pair ≡ Some of.is.key_is.pair) targets_are of.is.key_is.there;
          is = key_is;
        };
        stem_is = of.is.stem_is ∙ ap (λ (ts : List Target). stem_at ts job.pair) targets_are;
        held_is = of.is.held_is ∙ ap (λ (w : World). held_in w job.pair) world_is;
        numbered =
            subst (λ is. AreNumbered keys (world_in g.active) job.pair is) (sym of.is.imports_are)
            (subst (λ (w : World). AreNumbered keys w job.pair job.imports.items) world_is
            (All-contains (λ (j : Job). AreNumbered keys (world_of going.checks) j.pair j.imports.items) going.jobs.items job is.numbered of.there));
      }

  -- the checks that run may come late
  pub late_cancelled : (earlier : List Told) (old new : List Late) → AddsLateOf going.checks going.jobs.items old new → AreLate keys at.workspace.value.root earlier old
      → AreLate keys at.workspace.value.root (now ∷ earlier) new
  late_cancelled earlier old new adds are k d h = by (get_or new k d) (adds (get_or new k d) (Contains-get_or new k d h))
    where
      by : (late : Late) → IsOfJob going.checks going.jobs.items late ⊎ Contains old late → IsLateOf keys at.workspace.value.root (now ∷ earlier) late
      by late (inl of) = late_own earlier late of
      by late (inr there) = late_later keys at.workspace.value.root now earlier late (All-contains (IsLateOf keys at.workspace.value.root earlier) old late are there)

-- ---- the checks of a cancelled build, one after another

pub none_adds : (c : Checks) (late : List Late) → AddsLateOf c [] late late
none_adds c late one there = inr there

pub one_more_late : (c : Checks) (jobs : List Job) (job : Job) (one : Late) (old mid new : List Late) → AddsLateOf c jobs old mid → IsLateJob c job one → AddsLate mid one new
    → AddsLateOf c (jobs ++ job ∷ []) old new
one_more_late c jobs job one old mid new before is adds late there = by (adds.either late there)
  where
    longer : IsOfJob c jobs late ⊎ Contains old late → IsOfJob c (jobs ++ job ∷ []) late ⊎ Contains old late
    longer (inl of) = inl (record { job = of.job; there = Contains-append_left jobs (job ∷ []) of.job of.there; is = of.is })
    longer (inr was) = inr was

    by : (late ≡ one) ⊎ Contains mid late → IsOfJob c (jobs ++ job ∷ []) late ⊎ Contains old late
    by (inl same) =
        inl (record { job = job; there = Contains-append_right jobs (job ∷ []) job (contains_first job []); is = subst (IsLateJob c job) (sym same) is })
    by (inr was) = longer (before late was)
