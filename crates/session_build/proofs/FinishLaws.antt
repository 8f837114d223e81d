-- A check that runs finishes, and its document is settled.
use Rattle.std.proofs.Common.{◌≡◌, ◌≢◌, ◌++◌, ℕ, List, [], ◌∷◌, length, get_or, map, true, Option, Some, ap, sym, subst, ◌∙◌, refl, arith}
use Rattle.std.specs.Prelude.{Vec}
use Rattle.std.specs.declared.alloc.Global.{Global}
use Rattle.std.specs.List.{All, AllPairs, Contains, slice_get}
use Rattle.std.proofs.lemmas.List.{map-append}
use Rattle.std.proofs.lemmas.List.Elements.{All-push, Contains-append_left}
use Rattle.std.proofs.lemmas.Option.{slice_get_within}
use Rattle.bsp_records.specs.Table.{Table}
use Rattle.build_checks.specs.Kept.{AreNumbered, IsKept}
use Rattle.build_checks.specs.Stand as stand
use Rattle.build_checks.specs.Stand.{modules_of, settled_of, taken_of, world_of}
use Rattle.build_checks.proofs.KeptLaws.{kept_list, kept_on, kept_view, numbered_on}
use Rattle.check_cache.specs.Facts.{FactTree, IsFact}
use Rattle.rpc_peer.specs.Said.{Said}
use Rattle.session_law.specs.Builds.{Finding, build_document}
use Rattle.session_law.specs.Course.{Given, Runs, with_checked}
use Rattle.session_law.specs.IsFramed.{IsFramed}
use Rattle.session_law.specs.History.{HasChecked, IsTaskOf, world_in}
use Rattle.session_law.specs.Tasks.{check_starts}
use Rattle.session_law.specs.declared.BuildDocument.{BuildDocument}
use Rattle.session_law.proofs.HistoryLaws.{checked_still}
use Rattle.session_law.proofs.ListLaws.{contains_at}
use Rattle.session_law.proofs.StageLaws.{stage_sound}
use Rattle.session_build.specs.Going.{HasToldStart, IsGoing, IsGoingWith, SettlesBy, all_running, pairs_made, running_of, told_by}
use Rattle.build_messages.specs.Publishing.{IsPublishedOne}
use Rattle.session_build.specs.Setting.{IsSetting}
use Rattle.session_build.specs.Stages.{AreBegun, IsOnCourse, IsRunning}
use Rattle.session_build.specs.Tallies.{AreTallied, IsCount}
use Rattle.session_build.specs.declared.going.Going.{Going}
use Rattle.session_build.specs.declared.going.Job.{Job}
use Rattle.session_build.specs.declared.going.Made.{Made}
use Rattle.session_build.specs.declared.setting.Setting.{Setting}
use Rattle.session_build.proofs.CourseSteps.{apart_settled}
use Rattle.session_build.proofs.StageLaws.{adds_push}
use Rattle.session_build.proofs.TallyLaws.{tallied_settled}
use Rattle.target_graph.specs.Workspace.{Space}
use Rattle.session_build.proofs.GoingLaws.{agrees_same, once_in, one_document}
use Rattle.session_build.proofs.CourseSteps.{on_checked, published_behind}
use Rattle.session_build.proofs.GoingLaws.{document_there, keys_distinct, pairs_distinct}
use Rattle.session_build.proofs.Members.{one_of_image}
use Rattle.session_build.proofs.StageLaws.{agrees_checked, begun_checked, none_here}
use Rattle.session_build.proofs.TallyLaws.{begun_has}
use Rattle.session_law.proofs.HistoryLaws.{checked_now}
use Rattle.session_law.specs.Builds.{build_status, has_error}
use Rattle.session_law.specs.Tasks.{check_finishes}
use Rattle.std.proofs.lemmas.List.Elements.{All-head, All-tail}
use Rattle.std.proofs.lemmas.List.{append_assoc}

module _ (at : Setting) (is : IsSetting at) (g : Given) (old mid : Going) (job : Job) (told queued after : List Said) (made : Vec Made Global) (keys later : List (List ℕ)) (table shown : Table)
    (none : (p : ℕ) → ¬ (stand.CanBeTaken old.checks p)) (fact : FactTree) (is_fact : IsFact fact) (kept_here : IsKept keys (world_of old.checks) job.pair fact)
    (framed : IsFramed (check_finishes at.number job.number job.target (build_status (has_error (record { document = build_document at.workspace.value job.pair; list = fact.checked.list.items })))))
    (sized : length old.tallies.items ≡ length at.documents) (settles : SettlesBy at old mid job.pair true fact keys later table shown queued after)
    (made_is : made.items ≡ mid.made.items ++ record { pair = job.pair; fact = fact } ∷ [])
    (going : IsGoingWith g at old (job ∷ old.jobs.items) told keys table) where
  abbrev document : BuildDocument
  document = build_document at.workspace.value job.pair

  abbrev finding : Finding
  finding = record { document = build_document at.workspace.value job.pair; list = fact.checked.list.items }

  abbrev finish : Said
  finish =
      check_finishes at.number job.number job.target (build_status (has_error (record { document = build_document at.workspace.value job.pair; list = fact.checked.list.items })))

  -- the same as a course says it
  abbrev course_finish : Said
  course_finish = check_finishes g.active.number job.number job.target (build_status (has_error finding))

  own_space : g.active.build.space ≡ at.workspace.value
  own_space = going.of_setting.space

  targets_are : (world_in g.active).targets ≡ at.workspace.value.targets
  targets_are = ap (λ (x : Space). x.targets) own_space

  there : Contains g.documents document
  there = document_there at is g old (job ∷ old.jobs.items) told keys table going settles.index job.pair settles.there

  first : IsRunning g going.stage (running_of job)
  first = All-head (IsRunning g going.stage) (running_of job) (all_running old.jobs.items) going.begun.each

  same_document : first.document ≡ document
  same_document =
      one_of_image (λ (d : BuildDocument). d.pair) g.documents first.document document
      (subst (λ (ds : List BuildDocument). AllPairs ◌≢◌ (map (λ (d : BuildDocument). d.pair) ds)) (sym going.of_setting.documents) (pairs_distinct at is))
      (contains_at g.documents job.document_index first.document first.there) there first.pair_is

  runs : Runs going.stage document job.number
  runs = subst (λ (d : BuildDocument). Runs going.stage d job.number) same_document first.runs

  task : IsTaskOf g.active document.key.target job.target
  task = subst (λ (d : BuildDocument). IsTaskOf g.active d.key.target job.target) same_document first.of_target

  kept_in : IsKept keys (world_in g.active) job.pair fact
  kept_in = subst (λ w. IsKept keys w job.pair fact) going.agrees.world_is kept_here

  finish_is : finish ≡ course_finish
  finish_is = ap (λ n. check_finishes n job.number job.target (build_status (has_error finding))) (sym going.of_setting.number)

  published_here : IsPublishedOne table shown document g.active.build.origin fact.checked.list.items (told ++ course_finish ∷ []) ((told ++ course_finish ∷ []) ++ settles.published.own) settles.failed
  published_here =
      subst (λ (o : Option (List ℕ)). IsPublishedOne table shown document o fact.checked.list.items (told ++ course_finish ∷ []) ((told ++ course_finish ∷ []) ++ settles.published.own) settles.failed)
      (sym going.of_setting.origin)
      (published_behind table shown document at.origin.value fact.checked.list.items queued after settles.failed (told ++ course_finish ∷ []) settles.published)

  on : IsOnCourse g (with_checked going.stage finding) (told ++ finish ∷ settles.published.own) shown
  on =
      subst (λ (ms : List Said). IsOnCourse g (with_checked going.stage finding) ms shown)
      (append_assoc told (course_finish ∷ []) settles.published.own ∙ ap (λ (m : Said). told ++ m ∷ settles.published.own) (sym finish_is))
      (on_checked g going.stage told table finding job.number job.target shown ((told ++ course_finish ∷ []) ++ settles.published.own) settles.failed
      (keys_distinct at is g old (job ∷ old.jobs.items) told keys table going) going.on
      (none_here g going.stage (world_of old.checks) (modules_of old.checks) (taken_of old.checks) (settled_of old.checks) going.agrees none)
      runs task there
      (kept_list keys (world_in g.active) job.pair fact kept_in is_fact (once_in at is (world_in g.active) targets_are))
      (apart_settled g.documents going.stage.settled document (keys_distinct at is g old (job ∷ old.jobs.items) told keys table going) (stage_sound going.on.course).documents there runs.unfinished)
      (subst IsFramed finish_is framed) published_here)

  jobs_same : mid.jobs.items ≡ old.jobs.items
  jobs_same = ap (λ (v : Vec Job Global). v.items) settles.jobs

  made_more : made.items ≡ old.made.items ++ record { pair = job.pair; fact = fact } ∷ []
  made_more = made_is ∙ ap (λ (v : Vec Made Global). v.items ++ record { pair = job.pair; fact = fact } ∷ []) settles.made

  pairs_more : pairs_made made.items ≡ pairs_made old.made.items ++ job.pair ∷ []
  pairs_more = ap pairs_made made_more ∙ map-append (λ (it : Made). it.pair) old.made.items (record { pair = job.pair; fact = fact } ∷ [])

  start_key : build_document g.active.build.space job.pair ≡ document
  start_key = ap (λ (s : Space). build_document s job.pair) own_space

  started_own : Contains told (check_starts g.active.number job.number job.target document.key.document)
  started_own =
      subst (λ (d : BuildDocument). Contains told (check_starts g.active.number job.number job.target d.key.document)) start_key
      (All-head (HasToldStart g told) job old.jobs.items going.started)

  checked_own : HasChecked (told_by g (told ++ finish ∷ settles.published.own)) document.key
  checked_own =
      subst (λ (m : Said). HasChecked (told_by g (told ++ m ∷ settles.published.own)) document.key) (sym finish_is)
      (checked_now g told settles.published.own document.key job.number job.target (has_error finding) task started_own)

  pub finish_goes : IsGoing g at (record mid { made = made }) (told ++ finish ∷ settles.published.own) later shown
  finish_goes = record {
    of_setting = going.of_setting;
    stage = with_checked going.stage finding;
    on = on;
    agrees =
        agrees_same g (with_checked going.stage finding) (world_of old.checks) (world_of mid.checks) (modules_of old.checks) (modules_of mid.checks)
        (taken_of old.checks) (taken_of mid.checks) (settled_of mid.checks) (settled_of mid.checks) settles.world_same settles.modules_same settles.taken_same refl
        (agrees_checked g going.stage (world_of old.checks) (modules_of old.checks) (taken_of old.checks) (settled_of old.checks) going.agrees finding (settled_of mid.checks)
        (adds_push (settled_of old.checks) (settled_of mid.checks) job.pair settles.settled));
    count = settles.count ∙ going.count;
    begun =
        subst (λ (js : List Job). AreBegun g (with_checked going.stage finding) (all_running js) (pairs_made made.items)) (sym jobs_same)
        (subst (AreBegun g (with_checked going.stage finding) (all_running old.jobs.items)) (sym pairs_more)
        (begun_checked g going.stage (running_of job) (all_running old.jobs.items) (pairs_made old.made.items) finding going.begun refl));
    numbered =
        subst (λ (js : List Job). All (λ (j : Job). AreNumbered later (world_of mid.checks) j.pair j.imports.items) js) (sym jobs_same)
        (λ k d h. (let j = get_or old.jobs.items k d in
        numbered_on keys later settles.more (world_of mid.checks) j.pair j.imports.items
        (subst (λ w. AreNumbered keys w j.pair j.imports.items) (sym settles.world_same)
        (All-tail (λ (x : Job). AreNumbered keys (world_of old.checks) x.pair x.imports.items) job old.jobs.items going.numbered k d h))));
    made =
        subst (All (λ (it : Made). IsKept later (world_of mid.checks) it.pair it.fact)) (sym made_more)
        (All-push (λ (it : Made). IsKept later (world_of mid.checks) it.pair it.fact) old.made.items (record { pair = job.pair; fact = fact })
        (λ k d h. (let it = get_or old.made.items k d in
        kept_on keys later settles.more (world_of mid.checks) it.pair it.fact (subst (λ w. IsKept keys w it.pair it.fact) (sym settles.world_same) (going.made k d h))))
        (kept_on keys later settles.more (world_of mid.checks) job.pair fact (subst (λ w. IsKept keys w job.pair fact) (sym settles.world_same) kept_here)));
    tallied =
        subst (AreTallied g.documents (with_checked going.stage finding)) (sym settles.tallies)
        (tallied_settled g.documents going.stage old.tallies.items going.tallied going.stage.taken finding settles.index settles.tally
        (omega (arith, sized, slice_get_within at.documents settles.index document settles.there))
        (subst (λ (ds : List BuildDocument). slice_get ds settles.index ≡ Some document) (sym going.of_setting.documents) settles.there)
        (subst (λ (ds : List BuildDocument). (k : ℕ) (d : BuildDocument) → slice_get ds k ≡ Some d → d.pair ≡ job.pair → k ≡ settles.index) (sym going.of_setting.documents)
        (one_document at is settles.index document settles.there))
        runs.unfinished
        (subst (λ b. IsCount b fact.checked.list.items settles.tally) (sym (begun_has going.stage job.pair (contains_at going.stage.begun runs.before job.pair runs.there))) settles.counted));
    started =
        subst (λ (js : List Job). All (HasToldStart g (told ++ finish ∷ settles.published.own)) js) (sym jobs_same)
        (λ k d h. Contains-append_left told (finish ∷ settles.published.own) _ (All-tail (HasToldStart g told) job old.jobs.items going.started k d h));
    checked =
        subst (All (λ (it : Made). HasChecked (told_by g (told ++ finish ∷ settles.published.own)) (build_document at.workspace.value it.pair).key)) (sym made_more)
        (All-push (λ (it : Made). HasChecked (told_by g (told ++ finish ∷ settles.published.own)) (build_document at.workspace.value it.pair).key) old.made.items (record { pair = job.pair; fact = fact })
        (λ k d h. checked_still g told (finish ∷ settles.published.own) _ (going.checked k d h)) checked_own);
    numbers = settles.numbers (λ acyclic. kept_view keys (world_of old.checks) job.pair fact kept_here is_fact acyclic) going.numbers;
  }
