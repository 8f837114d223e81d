-- A build begins: that it and its targets start is told, and no document is taken.
use Rattle.std.proofs.Common.{◌≡◌, ℕ, suc, List, [], ◌∷◌, map, refl, sym, ap, subst, ◌∙◌}
use Rattle.std.specs.List.{All, Contains}
use Rattle.std.proofs.lemmas.List.Elements.{All-nil}
use Rattle.bsp_records.specs.Table.{Table}
use Rattle.build_checks.specs.Kept.{AreNumbered, IsKept}
use Rattle.build_checks.specs.Numbers.{AreNumbersOf}
use Rattle.build_checks.specs.Stand.{modules_of, settled_of, taken_of, world_of}
use Rattle.rpc_peer.specs.Said.{Said}
use Rattle.session_law.specs.Builds.{Shows, build_document, table_behind}
use Rattle.session_law.specs.Course.{Given, all_start, first_stage, starts, targets_start}
use Rattle.session_law.specs.History.{HasChecked, world_in}
use Rattle.session_law.specs.IsFramed.{IsFramed}
use Rattle.session_law.specs.Past.{notice_in}
use Rattle.session_law.specs.Tasks.{build_starts, target_starts}
use Rattle.session_law.specs.declared.BuildDocument.{BuildDocument}
use Rattle.session_law.proofs.ListLaws.{contains_none}
use Rattle.session_law.proofs.PublishedLaws.{all_start_other, filter_none, table_filtered}
use Rattle.session_build.specs.Going.{HasToldStart, IsGoing, all_running, pairs_made, told_by}
use Rattle.session_build.specs.Setting.{IsSettingOf}
use Rattle.session_build.specs.Stages.{AreBegun, IsOnCourse, SameMembers}
use Rattle.session_build.specs.Telling.{TellsStarts, starts_from}
use Rattle.session_build.specs.declared.going.Going.{Going}
use Rattle.session_build.specs.declared.going.Job.{Job}
use Rattle.session_build.specs.declared.going.Made.{Made}
use Rattle.session_build.specs.declared.setting.Setting.{Setting}
use Rattle.session_build.proofs.StageLaws.{begun_none}
use Rattle.session_build.proofs.TallyLaws.{tallied_none}
use Rattle.target_graph.specs.Workspace.{Space, id_of}

module _ (at : Setting) (g : Given) (of_setting : IsSettingOf at g) where
  starts_same : (i : ℕ) (targets : List ℕ) → starts_from at i targets ≡ targets_start g i targets
  starts_same i [] = refl
  starts_same i (t ∷ targets) =
      ap (λ (ms : List Said). target_starts at.number i (id_of at.workspace.value t) ∷ ms) (starts_same (suc i) targets)
      ∙ (ap (λ n. target_starts n i (id_of at.workspace.value t) ∷ targets_start g (suc i) targets) (sym of_setting.number)
      ∙ ap (λ (s : Space). target_starts g.active.number i (id_of s t) ∷ targets_start g (suc i) targets) (sym of_setting.space))

  pub all_start_is : build_starts at.number ∷ starts_from at 1 at.targets.keys ≡ all_start g
  all_start_is =
      ap (λ (ms : List Said). build_starts at.number ∷ ms) (starts_same 1 at.targets.keys ∙ ap (targets_start g 1) (sym of_setting.closure))
      ∙ ap (λ n. build_starts n ∷ targets_start g 1 g.closure) (sym of_setting.number)

  module _ (going : Going) (keys : List (List ℕ)) (world : world_of going.checks ≡ world_in g.active)
      (modules : SameMembers (map (λ (d : BuildDocument). d.pair) at.documents) (modules_of going.checks)) (taken : taken_of going.checks ≡ []) (settled : settled_of going.checks ≡ [])
      (count : going.begun ≡ 0) (jobs : going.jobs.items ≡ []) (made : going.made.items ≡ []) (before after : List Said) (tells : TellsStarts at before after)
      (numbers : AreNumbersOf keys going.checks) where
    abbrev own : List Said
    own = build_starts at.number ∷ starts_from at 1 at.targets.keys

    members_none : (xs : List ℕ) → xs ≡ [] → SameMembers [] xs
    members_none xs none q = (λ there. absurd (contains_none q there), λ there. absurd (contains_none q (subst (λ ys. Contains ys q) none there)))

    pub start_on : IsOnCourse g first_stage (all_start g) g.table
    start_on = record {
      course = starts;
      framed = subst (All IsFramed) all_start_is tells.framed;
      notices = subst (All (λ (m : Said). notice_in m ≡ m ∷ [])) all_start_is tells.notices;
      kept = λ document target.
          ap (λ (t : Table). t document target)
          (sym (sym (table_filtered (all_start g) g.table) ∙ ap (λ (ms : List Said). table_behind ms g.table) (filter_none (all_start g) (all_start_other g))));
      shows = All-nil (Shows g.table);
      others = λ document there unsettled. refl;
    }

    pub start_goes : IsGoing g at going (build_starts at.number ∷ starts_from at 1 at.targets.keys) keys g.table
    start_goes = record {
      of_setting = of_setting;
      stage = first_stage;
      on = subst (λ (ms : List Said). IsOnCourse g first_stage ms g.table) (sym all_start_is) start_on;
      agrees = record {
        world_is = world;
        modules_are = subst (λ (ds : List BuildDocument). SameMembers (map (λ (d : BuildDocument). d.pair) ds) (modules_of going.checks)) (sym of_setting.documents) modules;
        taken_are = members_none (taken_of going.checks) taken;
        settled_are = members_none (settled_of going.checks) settled;
      };
      count = count;
      begun =
          subst (λ (js : List Job). AreBegun g first_stage (all_running js) (pairs_made going.made.items)) (sym jobs)
          (subst (λ (ms : List Made). AreBegun g first_stage [] (pairs_made ms)) (sym made) (begun_none g));
      numbered =
          subst (All (λ (job : Job). AreNumbered keys (world_of going.checks) job.pair job.imports.items)) (sym jobs)
          (All-nil (λ (job : Job). AreNumbered keys (world_of going.checks) job.pair job.imports.items));
      made =
          subst (All (λ (it : Made). IsKept keys (world_of going.checks) it.pair it.fact)) (sym made) (All-nil (λ (it : Made). IsKept keys (world_of going.checks) it.pair it.fact));
      tallied = tallied_none g.documents going.tallies.items;
      started =
          subst (All (HasToldStart g own)) (sym jobs) (All-nil (HasToldStart g own));
      checked =
          subst (All (λ (it : Made). HasChecked (told_by g own) (build_document at.workspace.value it.pair).key)) (sym made)
          (All-nil (λ (it : Made). HasChecked (told_by g own) (build_document at.workspace.value it.pair).key));
      numbers = numbers;
    }
