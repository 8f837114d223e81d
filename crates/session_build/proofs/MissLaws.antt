-- A document whose check isn't kept: a check of it starts.
use Rattle.std.proofs.Common.{◌≡◌, ◌++◌, ℕ, suc, List, [], ◌∷◌, length, get_or, Some, ap, sym, subst, ◌∙◌, arith}
use Rattle.std.specs.Prelude.{Vec}
use Rattle.std.specs.declared.alloc.Global.{Global}
use Rattle.std.specs.List.{All, Contains, slice_get}
use Rattle.std.proofs.lemmas.List.{length-append, map-append}
use Rattle.std.proofs.lemmas.List.Elements.{All-push, Contains-append_left}
use Rattle.bsp_records.specs.Table.{Table}
use Rattle.build_checks.proofs.KeptLaws.{AreApart}
use Rattle.build_checks.specs.Kept.{AreNumbered, IsKept}
use Rattle.build_checks.specs.Looked.{IsLacked}
use Rattle.build_checks.specs.Numbers.{AreNumbersOf}
use Rattle.build_checks.specs.Stand.{modules_of, settled_of, taken_of, world_of}
use Rattle.build_checks.specs.declared.checks.Checks.{Checks}
use Rattle.build_rules.specs.World.{World}
use Rattle.check_cache.specs.Places.{Lacks}
use Rattle.check_cache.specs.Wanted.{IsOf}
use Rattle.check_cache.specs.Pairs.{key_of}
use Rattle.check_cache.specs.declared.cache.Cache.{Cache}
use Rattle.check_cache.specs.Places.{first_at}
use Rattle.build_rules.specs.World.{held_in}
use Rattle.rpc_peer.specs.Said.{Said}
use Rattle.session_law.specs.Builds.{build_document}
use Rattle.session_law.specs.Course.{Given, with_begun}
use Rattle.session_law.specs.IsFramed.{IsFramed}
use Rattle.session_law.specs.History.{Due, HasChecked, IsTaskOf, world_in}
use Rattle.session_law.specs.Tasks.{check_starts}
use Rattle.session_law.specs.declared.BuildDocument.{BuildDocument}
use Rattle.session_law.proofs.HistoryLaws.{checked_still}
use Rattle.session_law.proofs.StageLaws.{stage_sound}
use Rattle.session_build.specs.Going.{Begins, HasToldStart, IsGoing, all_running, pairs_made, running_of, told_by}
use Rattle.session_build.specs.Remembering.{RemembersChecks}
use Rattle.session_build.specs.Setting.{IsSetting}
use Rattle.session_build.specs.Stages.{AreBegun, IsOnCourse, IsRunning, Running}
use Rattle.session_build.specs.Tallies.{AreTallied}
use Rattle.session_build.specs.declared.going.Going.{Going}
use Rattle.session_build.specs.declared.going.Job.{Job}
use Rattle.session_build.specs.declared.going.Made.{Made}
use Rattle.session_build.specs.declared.setting.Setting.{Setting}
use Rattle.session_build.specs.declared.tally.Tally.{Tally}
use Rattle.session_build.proofs.CourseSteps.{on_begun}
use Rattle.session_build.proofs.RememberLaws.{miss_due}
use Rattle.session_build.proofs.StageLaws.{adds_push, agrees_begun, begun_begun}
use Rattle.session_build.proofs.TallyLaws.{tallied_begun}
use Rattle.target_graph.specs.Workspace.{Space, pairs_of}
use Rattle.target_graph.specs.declared.target.Target.{Target}
use Rattle.session_build.proofs.GoingLaws.{Came, IsTakenUp, agrees_same, once_in, taken_up}
use Rattle.session_build.proofs.GoingLaws.{slice_get_last, task_of}
use Rattle.std.proofs.lemmas.List.Elements.{Contains-push}

module _ (at : Setting) (is : IsSetting at) (cache : Cache) (g : Given) (old new : Going) (c : Checks) (pair : ℕ) (told before after : List Said) (keys : List (List ℕ)) (table : Table) (came : Came old.checks c pair)
    (apart : AreApart keys) (imports : List (List ℕ × ℕ)) (numbered : (ks : List (List ℕ)) → AreNumbersOf ks c → AreNumbered ks (world_of c) pair imports)
    (lacked : IsLacked cache (world_of c) pair imports)
    (begins : Begins at (record old { checks = c }) new pair imports before after)
    (remembers : RemembersChecks at.workspace.value g.earlier cache keys) (going : IsGoing g at old told keys table) where
  abbrev document : BuildDocument
  document = build_document at.workspace.value pair

  world_here : world_of c ≡ world_in g.active
  world_here = came.world_same ∙ going.agrees.world_is

  up : IsTakenUp g at going.stage pair
  up = taken_up at is g old old.jobs.items told keys table going begins.job.document_index pair begins.there came.next

  numbered_here : AreNumbered keys (world_in g.active) pair imports
  numbered_here = subst (λ w. AreNumbered keys w pair imports) world_here (numbered keys (came.numbers keys going.numbers))

  own_space : g.active.build.space ≡ at.workspace.value
  own_space = going.of_setting.space

  targets_are : (world_in g.active).targets ≡ at.workspace.value.targets
  targets_are = ap (λ (x : Space). x.targets) own_space

  targets_here : (world_of c).targets ≡ at.workspace.value.targets
  targets_here = ap (λ (w : World). w.targets) world_here ∙ targets_are

  lacks : Lacks (IsOf (held_in (world_in g.active) pair) imports) (first_at cache (key_of at.workspace.value.targets up.target))
  lacks =
      subst (λ (w : World). Lacks (IsOf (held_in w pair) imports) (first_at cache (key_of at.workspace.value.targets up.target))) world_here
      (subst (λ (ts : List Target). Lacks (IsOf (held_in (world_of c) pair) imports) (first_at cache (key_of ts up.target))) targets_here
      (lacked.first up.target (subst (λ (ts : List Target). slice_get (pairs_of ts) pair ≡ Some up.target) (sym targets_here) up.there)))

  due : Due g.earlier g.active document
  due =
      miss_due keys g.earlier at.workspace.value cache remembers g.active own_space pair up.target up.there
      (once_in at is (world_in g.active) targets_are) apart imports numbered_here lacks

  number_is : begins.job.number ≡ suc (length going.stage.begun)
  number_is = begins.number_is ∙ ap (λ n. suc n) going.count

  task : IsTaskOf g.active document.key.target begins.job.target
  task = task_of at g pair begins.job.target going.of_setting begins.of_target

  start_is : check_starts at.number begins.job.number begins.job.target document.key.document
      ≡ check_starts g.active.number (suc (length going.stage.begun)) begins.job.target document.key.document
  start_is =
      ap (λ n. check_starts n begins.job.number begins.job.target document.key.document) (sym going.of_setting.number)
      ∙ ap (λ n. check_starts g.active.number n begins.job.target document.key.document) number_is

  abbrev start : Said
  start = check_starts at.number begins.job.number begins.job.target (build_document at.workspace.value pair).key.document

  on : IsOnCourse g (with_begun going.stage document) (told ++ start ∷ []) table
  on =
      subst (λ (ms : List Said). IsOnCourse g (with_begun going.stage document) ms table)
      (sym (ap (λ (m : Said). told ++ m ∷ []) start_is))
      (on_begun g going.stage told table document begins.job.target going.on up.next due task (subst IsFramed start_is begins.framed))

  world_same : world_of new.checks ≡ world_of old.checks
  world_same = ap world_of begins.checks ∙ came.world_same

  made_same : new.made.items ≡ old.made.items
  made_same = ap (λ (v : Vec Made Global). v.items) begins.made

  running : Running
  running = running_of begins.job

  runs : IsRunning g (with_begun going.stage document) (running_of begins.job)
  runs = record {
    document = document;
    there = subst (λ (ds : List BuildDocument). slice_get ds begins.job.document_index ≡ Some document) (sym going.of_setting.documents) begins.there;
    pair_is = sym begins.pair_is;
    runs = record {
      before = length going.stage.begun;
      there = slice_get_last going.stage.begun pair;
      number_is = number_is;
      unfinished = up.unsettled;
    };
    of_target = task;
  }

  running_all : all_running new.jobs.items ≡ all_running old.jobs.items ++ running_of begins.job ∷ []
  running_all = ap all_running begins.jobs ∙ map-append running_of old.jobs.items (begins.job ∷ [])

  told_own : HasToldStart g (told ++ start ∷ []) begins.job
  told_own =
      subst (Contains (told ++ start ∷ []))
      (ap (λ n. check_starts n begins.job.number begins.job.target document.key.document) (sym going.of_setting.number)
      ∙ (ap (λ (s : Space). check_starts g.active.number begins.job.number begins.job.target (build_document s pair).key.document) (sym own_space)
      ∙ ap (λ q. check_starts g.active.number begins.job.number begins.job.target (build_document g.active.build.space q).key.document) (sym begins.pair_is)))
      (Contains-push told start)

  numbered_own : AreNumbered keys (world_of new.checks) begins.job.pair begins.job.imports.items
  numbered_own =
      subst (λ w. AreNumbered keys w begins.job.pair begins.job.imports.items) (sym (world_same ∙ going.agrees.world_is))
      (subst (λ q. AreNumbered keys (world_in g.active) q begins.job.imports.items) (sym begins.pair_is)
      (subst (AreNumbered keys (world_in g.active) pair) (sym begins.imports_are) numbered_here))

  pub miss_goes : IsGoing g at new (told ++ start ∷ []) keys table
  miss_goes = record {
    of_setting = going.of_setting;
    stage = with_begun going.stage document;
    on = on;
    agrees =
        agrees_same g (with_begun going.stage document) (world_of old.checks) (world_of new.checks) (modules_of old.checks) (modules_of new.checks)
        (taken_of c) (taken_of new.checks) (settled_of old.checks) (settled_of new.checks) world_same (ap modules_of begins.checks ∙ came.modules_same) (ap taken_of begins.checks)
        (ap settled_of begins.checks ∙ came.settled_same)
        (agrees_begun g going.stage (world_of old.checks) (modules_of old.checks) (taken_of old.checks) (settled_of old.checks) going.agrees document (taken_of c)
        (adds_push (taken_of old.checks) (taken_of c) pair came.taken));
    count = begins.count ∙ (ap (λ n. suc n) going.count ∙ omega (arith, length-append going.stage.begun (pair ∷ [])));
    begun =
        subst (λ (ms : List Made). AreBegun g (with_begun going.stage document) (all_running new.jobs.items) (pairs_made ms)) (sym made_same)
        (subst (λ (rs : List Running). AreBegun g (with_begun going.stage document) rs (pairs_made old.made.items)) (sym running_all)
        (begun_begun g going.stage (all_running old.jobs.items) (pairs_made old.made.items) going.begun document (running_of begins.job) up.next.ready.is_new
        (stage_sound going.on.course).begun_taken begins.pair_is runs));
    numbered =
        subst (All (λ (job : Job). AreNumbered keys (world_of new.checks) job.pair job.imports.items)) (sym begins.jobs)
        (All-push (λ (job : Job). AreNumbered keys (world_of new.checks) job.pair job.imports.items) old.jobs.items begins.job
        (λ k d h. (let job = get_or old.jobs.items k d in subst (λ w. AreNumbered keys w job.pair job.imports.items) (sym world_same) (going.numbered k d h))) numbered_own);
    made =
        subst (λ (ms : List Made). All (λ (it : Made). IsKept keys (world_of new.checks) it.pair it.fact) ms) (sym made_same)
        (λ k d h. (let it = get_or old.made.items k d in subst (λ w. IsKept keys w it.pair it.fact) (sym world_same) (going.made k d h)));
    tallied =
        subst (λ (ts : Vec Tally Global). AreTallied g.documents (with_begun going.stage document) ts.items) (sym begins.tallies)
        (tallied_begun g.documents going.stage old.tallies.items going.tallied document up.unsettled);
    started =
        subst (All (HasToldStart g (told ++ start ∷ []))) (sym begins.jobs)
        (All-push (HasToldStart g (told ++ start ∷ [])) old.jobs.items begins.job
        (λ k d h. Contains-append_left told (start ∷ []) _ (going.started k d h)) told_own);
    checked =
        subst (λ (ms : List Made). All (λ (it : Made). HasChecked (told_by g (told ++ start ∷ [])) (build_document at.workspace.value it.pair).key) ms) (sym made_same)
        (λ k d h. checked_still g told (start ∷ []) _ (going.checked k d h));
    numbers = subst (AreNumbersOf keys) (sym begins.checks) (came.numbers keys going.numbers);
  }
