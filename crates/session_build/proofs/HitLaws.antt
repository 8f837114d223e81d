-- A document whose check is kept: it is settled at once.
use Rattle.std.proofs.Common.{◌≡◌, ◌++◌, ℕ, List, [], ◌∷◌, length, get_or, false, Option, Some, ap, sym, subst, ◌∙◌, refl, arith}
use Rattle.std.specs.Prelude.{Vec}
use Rattle.std.specs.declared.alloc.Global.{Global}
use Rattle.std.specs.List.{All, slice_get}
use Rattle.std.proofs.lemmas.List.Elements.{Contains-append_left}
use Rattle.std.proofs.lemmas.Option.{slice_get_within}
use Rattle.bsp_records.specs.Table.{Table}
use Rattle.build_checks.specs.Kept.{AreNumbered, IsKept}
use Rattle.build_checks.specs.Looked.{IsFound}
use Rattle.build_checks.specs.Numbers.{AreNumbersOf}
use Rattle.build_checks.specs.Stand.{modules_of, settled_of, taken_of, world_of}
use Rattle.build_checks.specs.declared.checks.Checks.{Checks}
use Rattle.build_checks.proofs.KeptLaws.{AreApart, kept_list, kept_on, kept_view, numbered_on}
use Rattle.build_rules.specs.World.{World}
use Rattle.check_cache.specs.Facts.{FactTree, IsFact}
use Rattle.check_cache.specs.Places.{Chosen}
use Rattle.check_cache.specs.Wanted.{IsOf}
use Rattle.check_cache.specs.Pairs.{key_of}
use Rattle.check_cache.specs.declared.cache.Cache.{Cache}
use Rattle.check_cache.specs.Places.{first_at, other_at}
use Rattle.build_rules.specs.World.{held_in}
use Rattle.rpc_peer.specs.Said.{Said}
use Rattle.session_law.specs.Builds.{Finding, build_document}
use Rattle.session_law.specs.Course.{Given, with_known}
use Rattle.session_law.specs.History.{HasChecked, world_in}
use Rattle.session_law.specs.declared.BuildDocument.{BuildDocument}
use Rattle.session_law.proofs.HistoryLaws.{checked_still}
use Rattle.session_build.specs.Going.{HasToldStart, IsGoing, SettlesBy, all_running, pairs_made, told_by}
use Rattle.build_messages.specs.Publishing.{IsPublishedOne}
use Rattle.session_build.specs.Remembering.{IsOfSome, RemembersChecks}
use Rattle.session_build.specs.Setting.{IsSetting}
use Rattle.session_build.specs.Stages.{AreBegun, IsOnCourse}
use Rattle.session_build.specs.Tallies.{AreTallied, IsCount}
use Rattle.session_build.specs.declared.going.Going.{Going}
use Rattle.session_build.specs.declared.going.Job.{Job}
use Rattle.session_build.specs.declared.going.Made.{Made}
use Rattle.session_build.specs.declared.setting.Setting.{Setting}
use Rattle.session_build.proofs.CourseSteps.{on_known, published_behind}
use Rattle.session_build.proofs.RememberLaws.{found_made, hit_kept, hit_known}
use Rattle.session_build.proofs.StageLaws.{adds_push, agrees_known, begun_known}
use Rattle.session_build.proofs.TallyLaws.{begun_not, tallied_settled}
use Rattle.target_graph.specs.Workspace.{Space, pairs_of}
use Rattle.target_graph.specs.declared.target.Target.{Target}
use Rattle.session_build.proofs.GoingLaws.{Came, IsTakenUp, agrees_same, keys_distinct, once_in, one_document, taken_up}

module _ (at : Setting) (is : IsSetting at) (cache : Cache) (g : Given) (old new : Going) (c : Checks) (pair : ℕ) (told before after : List Said) (keys later : List (List ℕ)) (table shown : Table) (came : Came old.checks c pair)
    (apart : AreApart keys) (imports : List (List ℕ × ℕ)) (numbered : (ks : List (List ℕ)) → AreNumbersOf ks c → AreNumbered ks (world_of c) pair imports)
    (fact : FactTree) (is_fact : IsFact fact) (found : IsFound cache (world_of c) pair imports fact)
    (sized : length old.tallies.items ≡ length at.documents)
    (settles : SettlesBy at (record old { checks = c }) new pair false fact keys later table shown before after)
    (remembers : RemembersChecks at.workspace.value g.earlier cache keys) (going : IsGoing g at old told keys table) where
  abbrev document : BuildDocument
  document = build_document at.workspace.value pair

  abbrev finding : Finding
  finding = record { document = build_document at.workspace.value pair; list = fact.checked.list.items }

  world_here : world_of c ≡ world_in g.active
  world_here = came.world_same ∙ going.agrees.world_is

  up : IsTakenUp g at going.stage pair
  up = taken_up at is g old old.jobs.items told keys table going settles.index pair settles.there came.next

  numbered_here : AreNumbered keys (world_in g.active) pair imports
  numbered_here = subst (λ w. AreNumbered keys w pair imports) world_here (numbered keys (came.numbers keys going.numbers))

  own_space : g.active.build.space ≡ at.workspace.value
  own_space = going.of_setting.space

  targets_are : (world_in g.active).targets ≡ at.workspace.value.targets
  targets_are = ap (λ (x : Space). x.targets) own_space

  targets_here : (world_of c).targets ≡ at.workspace.value.targets
  targets_here = ap (λ (w : World). w.targets) world_here ∙ targets_are

  chosen : Chosen (IsOf (held_in (world_in g.active) pair) imports) (first_at cache (key_of at.workspace.value.targets up.target)) (other_at cache (key_of at.workspace.value.targets up.target)) fact
  chosen =
      subst (λ (w : World). Chosen (IsOf (held_in w pair) imports) (first_at cache (key_of at.workspace.value.targets up.target)) (other_at cache (key_of at.workspace.value.targets up.target)) fact) world_here
      (subst (λ (ts : List Target). Chosen (IsOf (held_in (world_of c) pair) imports) (first_at cache (key_of ts up.target)) (other_at cache (key_of ts up.target)) fact) targets_here
      (found up.target (subst (λ (ts : List Target). slice_get (pairs_of ts) pair ≡ Some up.target) (sym targets_here) up.there)))

  made : IsOf (held_in (world_in g.active) pair) imports fact × IsOfSome keys g.earlier document.key fact
  made = found_made keys g.earlier at.workspace.value cache remembers g.active own_space pair up.target up.there imports fact chosen

  kept : IsKept keys (world_in g.active) pair fact
  kept = hit_kept keys g.earlier at.workspace.value cache remembers g.active own_space pair up.target up.there imports numbered_here fact made.0 made.1

  one : IsPublishedOne table shown document g.active.build.origin fact.checked.list.items told (told ++ settles.published.own) settles.failed
  one =
      subst (λ (o : Option (List ℕ)). IsPublishedOne table shown document o fact.checked.list.items told (told ++ settles.published.own) settles.failed)
      (sym going.of_setting.origin) (published_behind table shown document at.origin.value fact.checked.list.items before after settles.failed told settles.published)

  on : IsOnCourse g (with_known going.stage finding) (told ++ settles.published.own) shown
  on =
      on_known g going.stage told table finding shown (told ++ settles.published.own) settles.failed (keys_distinct at is g old old.jobs.items told keys table going) going.on up.next
      (hit_known keys g.earlier at.workspace.value cache remembers g.active own_space pair up.target up.there imports numbered_here fact made.0 made.1)
      (kept_list keys (world_in g.active) pair fact kept is_fact (once_in at is (world_in g.active) targets_are))
      up.apart one

  world_same : world_of new.checks ≡ world_of old.checks
  world_same = settles.world_same ∙ came.world_same

  jobs_same : new.jobs.items ≡ old.jobs.items
  jobs_same = ap (λ (v : Vec Job Global). v.items) settles.jobs

  made_same : new.made.items ≡ old.made.items
  made_same = ap (λ (v : Vec Made Global). v.items) settles.made

  pub hit_goes : IsGoing g at new (told ++ settles.published.own) later shown
  hit_goes = record {
    of_setting = going.of_setting;
    stage = with_known going.stage finding;
    on = on;
    agrees =
        agrees_same g (with_known going.stage finding) (world_of old.checks) (world_of new.checks) (modules_of old.checks) (modules_of new.checks)
        (taken_of c) (taken_of new.checks) (settled_of new.checks) (settled_of new.checks) world_same (settles.modules_same ∙ came.modules_same) settles.taken_same refl
        (agrees_known g going.stage (world_of old.checks) (modules_of old.checks) (taken_of old.checks) (settled_of old.checks) going.agrees finding (taken_of c) (settled_of new.checks)
        (adds_push (taken_of old.checks) (taken_of c) pair came.taken)
        (adds_push (settled_of old.checks) (settled_of new.checks) pair (settles.settled ∙ ap (λ xs. xs ++ pair ∷ []) came.settled_same)));
    count = settles.count ∙ going.count;
    begun =
        subst (λ (js : List Job). AreBegun g (with_known going.stage finding) (all_running js) (pairs_made new.made.items)) (sym jobs_same)
        (subst (λ (ms : List Made). AreBegun g (with_known going.stage finding) (all_running old.jobs.items) (pairs_made ms)) (sym made_same)
        (begun_known g going.stage (all_running old.jobs.items) (pairs_made old.made.items) going.begun finding up.unbegun));
    numbered =
        subst (λ (js : List Job). All (λ (job : Job). AreNumbered later (world_of new.checks) job.pair job.imports.items) js) (sym jobs_same)
        (λ k d h. (let job = get_or old.jobs.items k d in
        numbered_on keys later settles.more (world_of new.checks) job.pair job.imports.items
        (subst (λ w. AreNumbered keys w job.pair job.imports.items) (sym world_same) (going.numbered k d h))));
    made =
        subst (λ (ms : List Made). All (λ (it : Made). IsKept later (world_of new.checks) it.pair it.fact) ms) (sym made_same)
        (λ k d h. (let it = get_or old.made.items k d in
        kept_on keys later settles.more (world_of new.checks) it.pair it.fact (subst (λ w. IsKept keys w it.pair it.fact) (sym world_same) (going.made k d h))));
    tallied =
        subst (AreTallied g.documents (with_known going.stage finding)) (sym settles.tallies)
        (tallied_settled g.documents going.stage old.tallies.items going.tallied (going.stage.taken ++ pair ∷ []) finding settles.index settles.tally
        (omega (arith, sized, slice_get_within at.documents settles.index document settles.there))
        (subst (λ (ds : List BuildDocument). slice_get ds settles.index ≡ Some document) (sym going.of_setting.documents) settles.there)
        (subst (λ (ds : List BuildDocument). (k : ℕ) (d : BuildDocument) → slice_get ds k ≡ Some d → d.pair ≡ pair → k ≡ settles.index) (sym going.of_setting.documents)
        (one_document at is settles.index document settles.there))
        up.unsettled
        (subst (λ b. IsCount b fact.checked.list.items settles.tally) (sym (begun_not going.stage pair up.unbegun)) settles.counted));
    started =
        subst (λ (js : List Job). All (HasToldStart g (told ++ settles.published.own)) js) (sym jobs_same)
        (λ k d h. Contains-append_left told settles.published.own _ (going.started k d h));
    checked =
        subst (λ (ms : List Made). All (λ (it : Made). HasChecked (told_by g (told ++ settles.published.own)) (build_document at.workspace.value it.pair).key) ms) (sym made_same)
        (λ k d h. checked_still g told settles.published.own _ (going.checked k d h));
    numbers =
        settles.numbers
        (λ acyclic. kept_view keys (world_of c) pair fact (subst (λ w. IsKept keys w pair fact) (sym world_here) kept) is_fact acyclic)
        (came.numbers keys going.numbers);
  }
