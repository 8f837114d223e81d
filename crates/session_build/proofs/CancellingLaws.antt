-- A build at work that is cancelled: what it tells is what the law says, and the checks that it made are kept.
use Rattle.std.proofs.Common.{◌≡◌, ◌≢◌, ◌⊎◌, inl, inr, ⊎_elim, ◌<◌, ◌^◌, ◌++◌, ◌==◌, ℕ, List, ◌∷◌, length, get_or, Bool, true, false, Some, refl, sym, ap, subst, ◌∙◌, arith}
use Rattle.std.specs.List.{All, AllPairs, Contains, list_any, slice_get}
use Rattle.std.proofs.lemmas.List.Elements.{All-contains, Contains-get_or}
use Rattle.bsp_records.specs.Table.{Table}
use Rattle.build_checks.specs.Kept.{IsKept}
use Rattle.build_rules.specs.World.{World}
use Rattle.rpc_peer.specs.Said.{Said}
use Rattle.session_law.specs.Builds.{Finding, IsFound, Shows}
use Rattle.session_law.specs.Cancelling.{IsCancelledBy, IsUnfinished}
use Rattle.session_law.specs.Course.{Given, pairs_in}
use Rattle.session_law.specs.History.{HasStarted, Told, world_in}
use Rattle.session_law.specs.ShowsOldOrNew.{ShowsEither, ShowsFound, ShowsSame}
use Rattle.session_law.specs.declared.BuildDocument.{BuildDocument}
use Rattle.session_law.proofs.CancelLaws.{cancelled_started, not_checked_cancelled}
use Rattle.session_law.proofs.ClosureLaws.{one_target}
use Rattle.session_law.proofs.CourseLaws.{one_pair}
use Rattle.session_law.proofs.HistoryLaws.{key_same}
use Rattle.session_law.proofs.ListLaws.{contains_at, contains_map, contains_map_back}
use Rattle.session_law.proofs.StageLaws.{stage_sound}
use Rattle.session_law.proofs.StartLaws.{NumbersFit, numbers_fit}
use Rattle.session_build.specs.Cancels.{cancels_said}
use Rattle.session_build.specs.Going.{IsGoing, IsOrdered, all_running, pairs_made, running_of, told_by}
use Rattle.session_build.specs.Late.{AddsLateOf}
use Rattle.session_build.specs.Remembering.{AreLate, HasDocument, Remembers, RemembersChecks}
use Rattle.session_build.specs.Setting.{IsSetting}
use Rattle.session_build.specs.Stages.{IsRunning, Running, pairs_running}
use Rattle.session_build.specs.Storing.{StoresAll}
use Rattle.session_build.specs.declared.going.Going.{Going}
use Rattle.session_build.specs.declared.going.Job.{Job}
use Rattle.session_build.specs.declared.going.Made.{Made}
use Rattle.session_build.specs.declared.kept.Kept.{Kept}
use Rattle.session_build.specs.declared.setting.Setting.{Setting}
use Rattle.build_messages.proofs.DocumentLaws.{key_at, among_by, apart_by}
use Rattle.session_build.proofs.DocumentLaws.{document_in}
use Rattle.session_build.proofs.EndedLaws.{made_checked, pair_by_key}
use Rattle.session_build.proofs.CancelSteps.{AreLeft, HasJob, cancels_are, cancels_from, course_checks}
use Rattle.session_build.proofs.LateLaws.{late_cancelled}
use Rattle.session_build.proofs.StoredLaws.{AreMade, stored_more}
use Rattle.target_graph.specs.Workspace.{Space}
use Rattle.task_stream.specs.declared.shown.TableKey.{TableKey}

-- ---- from how far the build is

module _ (g : Given) (at : Setting) (going : Going) (told : List Said) (keys : List (List ℕ)) (table : Table) (is : IsGoing g at going told keys table) where
  unfinished_of : (job : Job) → IsRunning g is.stage (running_of job) → IsUnfinished g is.stage job.pair job.target
  unfinished_of job runs = record {
    document = runs.document;
    there = contains_at g.documents job.document_index runs.document runs.there;
    pair_is = runs.pair_is;
    unsettled = λ settled. runs.runs.unfinished (subst (Contains (pairs_in is.stage.settled)) (sym runs.pair_is) settled);
    of_target = runs.of_target;
  }

  running_job : (job : Job) → Contains going.jobs.items job → IsRunning g is.stage (running_of job)
  running_job job there = All-contains (IsRunning g is.stage) (all_running going.jobs.items) (running_of job) is.begun.each (contains_map running_of going.jobs.items job there)

  job_of : (q : ℕ) → Contains (pairs_running (all_running going.jobs.items)) q → HasJob going.jobs.items q
  job_of q there =
      let running = contains_map_back (λ (r : Running). r.pair) (all_running going.jobs.items) q there in
      let job = contains_map_back running_of going.jobs.items running.0 running.1 in
      record { job = job.0; there = job.1; is = ap (λ (r : Running). r.pair) job.2 ∙ running.2 }

  begun_either : (q : ℕ) → Contains is.stage.begun q → Contains (pairs_made going.made.items) q ⊎ HasJob going.jobs.items q
  begun_either q there = ⊎_elim (λ made. inl made) (λ runs. inr (job_of q runs)) (is.begun.begun q there)

  made_settled : (q : ℕ) → Contains (pairs_made going.made.items) q → Contains (pairs_in is.stage.settled) q
  made_settled q made = All-contains (Contains (pairs_in is.stage.settled)) (pairs_made going.made.items) q is.begun.made_settled made

  all_left : IsOrdered going → AreLeft g is.stage 0 is.stage.begun going.jobs.items
  all_left ordered = record {
    each = λ k d h.
        (let job : Job = get_or going.jobs.items k d in
        let runs = running_job job (Contains-get_or going.jobs.items k d h) in
        record {
          index = runs.runs.before;
          there = subst (λ q. slice_get is.stage.begun runs.runs.before ≡ Some q) runs.pair_is runs.runs.there;
          number_is = runs.runs.number_is ∙ omega arith;
          unfinished = unfinished_of job runs;
        });
    rising = ordered.rising;
    all = λ q there. ⊎_elim (λ made. inl (made_settled q made)) (λ has. inr has) (begun_either q there);
    distinct = (stage_sound is.on.course).begun_once;
  }

  pub cancels : IsOrdered going → IsCancelledBy g told (cancels_said at going.jobs.items)
  cancels ordered = record {
    stage = is.stage;
    course = is.on.course;
    checks = course_checks at g is.of_setting going.jobs.items;
    of_checks = cancels_from g is.stage 0 is.stage.begun going.jobs.items (all_left ordered);
    are = cancels_are at g is.of_setting going.jobs.items;
  }

  -- ---- the checks that it made

  module _ (setting : IsSetting at) (ordered : IsOrdered going) (few : length at.targets.keys < 2 ^ 64) (small : going.begun < 2 ^ 64) where
    fit : NumbersFit g.active
    fit = numbers_fit g.active g.closure is.of_setting.are.closed (subst (λ (ts : List ℕ). length ts < 2 ^ 64) (sym is.of_setting.closure) few)

    -- what began and is settled was made
    settled_made : (q : ℕ) → Contains is.stage.begun q → Contains (pairs_in is.stage.settled) q → Contains (pairs_made going.made.items) q
    settled_made q begun settled = by (begun_either q begun)
      where
        by : Contains (pairs_made going.made.items) q ⊎ HasJob going.jobs.items q → Contains (pairs_made going.made.items) q
        by (inl made) = made
        by (inr has) =
            let own = unfinished_of has.job (running_job has.job has.there) in
            absurd (own.unsettled (subst (Contains (pairs_in is.stage.settled)) (sym has.is) settled))

    -- what a check started of is in the workspace
    started_within : (key : TableKey) → HasStarted (told_by g (told ++ cancels_said at going.jobs.items)) key → HasDocument at.workspace.value key
    started_within key was =
        let from = cancelled_started (cancels ordered) was.j was.i key.document fit (fit key.target was.i was.of_target) was.started in
        let same : from.document.key ≡ key =
        key_same from.document.key key from.address_is (one_target g.active from.document.key.target key.target was.i from.of_target was.of_target) in
        subst (HasDocument at.workspace.value) same
        (document_in g.active.build g.documents at.workspace.value is.of_setting.are.documents is.of_setting.space from.document from.there)

    made_are : AreMade at.workspace.value (told_by g (told ++ cancels_said at going.jobs.items)) keys going.made.items
    unfolding cancels
    made_are = record {
      distinct = is.begun.made_distinct;
      each = subst (λ (w : World). All (λ (it : Made). IsKept keys w it.pair it.fact) going.made.items) is.agrees.world_is is.made;
      checked = made_checked g at going told (cancels_said at going.jobs.items) keys table is;
      unchecked = λ p pair here absent.
          not_checked_cancelled (cancels ordered) (key_at at.workspace.value p) fit (subst (λ n. n < 2 ^ 64) is.count small) (λ document there begun settled same.
          absent (subst (Contains (pairs_made going.made.items))
          (pair_by_key at.workspace.value setting.apart g is.of_setting.are.documents is.of_setting.space p pair here document there same) (settled_made document.pair begun settled)));
      within = started_within;
    }

    pub cancelled_remembers : (old new : Kept) → old.keys ≡ keys → new.keys ≡ keys → Remembers at.workspace.value g.earlier old
        → (AllPairs ◌≢◌ (pairs_made going.made.items) → StoresAll at.workspace.value going.made.items old.cache new.cache)
        → AddsLateOf going.checks going.jobs.items old.late.items new.late.items
        → Remembers g.active.build.space (told_by g (told ++ cancels_said at going.jobs.items) ∷ g.earlier) new
    cancelled_remembers old new old_keys new_keys remembers stores adds =
        let now : Told = told_by g (told ++ cancels_said at going.jobs.items) in
        subst (λ (w : Space). Remembers w (now ∷ g.earlier) new) (sym is.of_setting.space)
        (record {
          checks =
              subst (RemembersChecks at.workspace.value (now ∷ g.earlier) new.cache) (sym new_keys)
              (stored_more at.workspace.value (record { apart = setting.apart; once = setting.once }) g is.of_setting.space (told ++ cancels_said at going.jobs.items) keys old.cache new.cache going.made.items
              (subst (RemembersChecks at.workspace.value g.earlier old.cache) old_keys remembers.checks) stores made_are);
          late =
              subst (λ ks. AreLate ks at.workspace.value.root (now ∷ g.earlier) new.late.items) (sym new_keys)
              (late_cancelled g at going told (cancels_said at going.jobs.items) keys table is g.earlier old.late.items new.late.items adds
              (subst (λ ks. AreLate ks at.workspace.value.root g.earlier old.late.items) old_keys remembers.late));
        })

  -- ---- what is shown

  shown_either : (document : BuildDocument) → Contains g.documents document → ShowsFound g.active table document ⊎ ShowsSame table g.table document
  shown_either document there = by (list_any (λ n. n == document.pair) (pairs_in is.stage.settled)) refl
    where
      settled_shown : Contains (pairs_in is.stage.settled) document.pair → ShowsFound g.active table document
      settled_shown settled =
          let back = contains_map_back (λ (f : Finding). f.document.pair) is.stage.settled document.pair settled in
          let sound = stage_sound is.on.course in
          let same : back.0.document ≡ document =
          one_pair g.active.build g.documents is.of_setting.are.documents back.0.document document
          (All-contains (λ (f : Finding). Contains g.documents f.document) is.stage.settled back.0 sound.documents back.1) there back.2 in
          record {
            list = back.0.list;
            found =
                subst (λ (d : BuildDocument). IsFound (world_in g.active) (record { document = d; list = back.0.list })) same
                (All-contains (IsFound (world_in g.active)) is.stage.settled back.0 sound.found back.1);
            shows =
                subst (λ (d : BuildDocument). Shows table (record { document = d; list = back.0.list })) same
                (All-contains (Shows table) is.stage.settled back.0 is.on.shows back.1);
          }

      by : (settled : Bool) → list_any (λ n. n == document.pair) (pairs_in is.stage.settled) ≡ settled → ShowsFound g.active table document ⊎ ShowsSame table g.table document
      by true found = inl (settled_shown (among_by (pairs_in is.stage.settled) document.pair found))
      by false found =
          inr (is.on.others document there (apart_by (pairs_in is.stage.settled) document.pair found))

  pub shows_either : ShowsEither g.active g.table table
  shows_either = record {
    documents = g.documents;
    of_build = is.of_setting.are.documents;
    each = λ k d h. shown_either (get_or g.documents k d) (Contains-get_or g.documents k d h);
  }
