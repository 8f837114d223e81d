use Rattle.std.proofs.Common.{◌≡◌, ◌++◌, ◌∷◌, List, [], ℕ, length, map, refl, ap, sym, subst, ◌∙◌, arith}
use Rattle.std.specs.List.{All, AllPairs, Contains}
use Rattle.std.specs.Prelude.{◌≢◌}
use Rattle.std.proofs.lemmas.List.Elements.{All-append, All-nil}
use Rattle.build_checks.specs.Kept.{Extends}
use Rattle.build_checks.specs.Numbers.{AreNumbersOf}
use Rattle.build_checks.specs.Stand.{AreChecks, modules_of, settled_of, taken_of, world_of}
use Rattle.build_checks.specs.declared.checks.Checks.{Checks}
use Rattle.build_rules.specs.World.{World}
use Rattle.build_sources.specs.Modules.{AreModules}
use Rattle.ob_text.specs.Held.{Entries}
use Rattle.rpc_peer.specs.Said.{Said}
use Rattle.session_law.specs.Course.{Given}
use Rattle.session_law.specs.Tasks.{build_starts}
use Rattle.session_law.specs.Verdicts.{IsBare}
use Rattle.session_law.specs.declared.BuildDocument.{BuildDocument}
use Rattle.session_law.proofs.ListLaws.{contains_none}
use Rattle.build_messages.specs.Documents.{build_of}
use Rattle.session_build.specs.Documents.{requested}
use Rattle.session_build.specs.Going.{Goes, IsGoing, IsJob}
use Rattle.build_messages.specs.Outgoing.{outgoing_said}
use Rattle.session_build.specs.Remembering.{Remembers}
use Rattle.session_build.specs.Setting.{IsSettingOf}
use Rattle.session_build.specs.Stages.{SameMembers}
use Rattle.session_build.specs.Telling.{TellsStarts, starts_from}
use Rattle.session_build.specs.declared.going.Going.{Going}
use Rattle.session_build.specs.declared.going.Job.{Job}
use Rattle.session_build.proofs.BareSteps.{all_starts_bare}
use Rattle.session_build.proofs.BeginLaws.{start_goes}
use Rattle.session_build.proofs.JobLaws.{ordered_none}
use Rattle.session_build.proofs.ModuleLaws.{modules_of_build}
use Rattle.session_build.proofs.PausedLaws.{rests_of, runs_all}
use Rattle.session_build.proofs.LateLaws.{remembers_with}
use Rattle.session_build.proofs.TellLaws.{tells_on}
use Rattle.target_graph.specs.Workspace.{Space}
use Rattle.task_stream.specs.Showing.{shows}
use Rattle.session_build.proofs.building.Build.begin.Goals as goal

abbrev world_at : (s : Space) (entries : Entries) → World
world_at s entries = record { targets = s.targets; entries = entries }

pub begin-requires-clause-modules : goal.begin-requires-clause-modules
begin-requires-clause-modules c =
    let space : Space = c.args.workspace.value in
    let request = c.args.request in
    let pairs = λ (ds : List BuildDocument). map (λ (d : BuildDocument). d.pair) ds in
    let here = c.as_slice-2.ensures.value ∙ (c.in_ok-modules.ensures ∙ ap pairs (c.as_slice.ensures ∙ c.in_ok-at.ensures.documents)) in
    subst (λ (s : Space). AreModules s.targets c.as_slice-2.result.now) (sym c.in_ok-share.ensures.cases)
    (subst (AreModules space.targets) (sym here)
    (modules_of_build (build_of space request.asked request.origin) request.documents c.requires.documents))

pub take_all-requires-clause-sound : goal.take_all-requires-clause-sound
take_all-requires-clause-sound c =
    let at = c.in_ok-at.at in
    let checks = c.in_ok-checks.ensures in
    let same = c.in_ok-going.ensures.checks in
    let here : c.as_slice-2.result.now ≡ map (λ (d : BuildDocument). d.pair) at.documents =
    c.as_slice-2.ensures.value ∙ (c.in_ok-modules.ensures ∙ ap (map (λ (d : BuildDocument). d.pair)) c.as_slice.ensures) in
    let none : settled_of c.in_ok-going.going.checks ≡ [] = ap settled_of same ∙ checks.settled in
    record {
      checks = subst AreChecks (sym same) checks.checks;
      space =
          ap (λ (k : Checks). (world_of k).targets) same
          ∙ (ap (λ (w : World). w.targets) checks.world ∙ ap (λ (s : Space). s.targets) (c.in_ok-share.ensures.cases ∙ sym c.in_ok-at.ensures.workspace));
      modules =
          subst (λ (xs : List ℕ). SameMembers xs (modules_of c.in_ok-going.going.checks)) here
          (subst (λ (k : Checks). SameMembers c.as_slice-2.result.now (modules_of k)) (sym same) (λ q. ((checks.modules q).1, (checks.modules q).0)));
      sized = c.in_ok-going.ensures.sized ∙ ap length c.as_slice-3.ensures;
      settled_taken = λ p there. absurd (contains_none p (subst (λ (xs : List ℕ). Contains xs p) none there));
      each = subst (All (IsJob c.in_ok-going.going.checks)) (sym c.in_ok-going.ensures.jobs) (All-nil (IsJob c.in_ok-going.going.checks));
      distinct = subst (λ (js : List Job). AllPairs ◌≢◌ (map (λ (job : Job). job.pair) js)) (sym c.in_ok-going.ensures.jobs) (λ i j d h k. absurd (omega arith));
    }

pub go_on-requires : goal.go_on-requires
go_on-requires c = record {
  setting = c.in_ok-at.ensures.setting;
  sound = c.in_ok-take_all.ensures.sound;
  ordered = c.in_ok-take_all.ensures.jobs.ordered (ordered_none c.in_ok-going.going.begun c.in_ok-going.going.jobs.items c.in_ok-going.ensures.jobs);
  none = c.in_ok-take_all.ensures.none;
  through = c.in_ok-take_all.ensures.through;
}

pub returns-clause-begun : goal.returns-clause-begun
returns-clause-begun c =
    let space : Space = c.args.workspace.value in
    let request = c.args.request in
    let cache = c.args.kept.now.cache in
    let at = c.in_ok-at.at in
    let of = c.in_ok-at.ensures in
    let checks = c.in_ok-checks.ensures in
    let begun : Going = c.in_ok-going.going in
    let same = c.in_ok-going.ensures.checks in
    let early = c.args.kept.now.keys in
    let keys = c.begin.new.keys in
    let late = c.take_all.new.keys in
    let first : List Said = map outgoing_said c.args.out.now.items in
    let second : List Said = map outgoing_said c.tell_starts.new.out.items in
    let third : List Said = map outgoing_said c.take_all.new.out.items in
    let last : List Said = map outgoing_said c.go_on.new.out.items in
    let starts : List Said = build_starts at.number ∷ starts_from at 1 at.targets.keys in
    let told : TellsStarts at first second = c.in_ok-tell_starts.ensures in
    let goes : Goes at cache begun c.take_all.new.self second third keys late (shows c.args.shown.now) (shows c.take_all.new.shown) = c.in_ok-take_all.ensures.goes in
    let paused = c.in_ok-went.ensures in
    record {
      own = (starts ++ goes.own) ++ paused.own;
      tells = tells_on (starts ++ goes.own) paused.own first third last (tells_on starts goes.own first second third told goes.tells) paused.tells;
      bare = All-append IsBare (starts ++ goes.own) paused.own (All-append IsBare starts goes.own (all_starts_bare at) goes.bare) paused.bare;
      more = subst (Extends early) (sym paused.same) (λ m k is. goes.more m k (c.begin.ensures.earlier m k is));
      begins = λ id builds remembers.
          (let g : Given =
          record {
            active = requested space request c.args.snapshot.entries id;
            documents = request.documents;
            closure = at.targets.keys;
            earlier = builds;
            table = shows c.args.shown.now;
          } in
          let of_setting : IsSettingOf at g =
          record {
            are = record { documents = c.requires.documents; closed = of.targets };
            space = sym of.workspace;
            number = sym of.number;
            origin = sym of.origin;
            documents = sym of.documents;
            closure = refl;
          } in
          let pairs_are : c.as_slice-2.result.now ≡ map (λ (d : BuildDocument). d.pair) at.documents =
          c.as_slice-2.ensures.value ∙ (c.in_ok-modules.ensures ∙ ap (map (λ (d : BuildDocument). d.pair)) c.as_slice.ensures) in
          let modules : SameMembers (map (λ (d : BuildDocument). d.pair) at.documents) (modules_of begun.checks) =
          subst (λ (xs : List ℕ). SameMembers xs (modules_of begun.checks)) pairs_are
          (subst (λ (k : Checks). SameMembers c.as_slice-2.result.now (modules_of k)) (sym same) (λ q. ((checks.modules q).1, (checks.modules q).0))) in
          let here : Remembers at.workspace.value builds c.args.kept.now = subst (λ (w : Space). Remembers w builds c.args.kept.now) (sym of.workspace) remembers in
          let kept : Remembers at.workspace.value builds (record c.args.kept.now { keys = keys }) =
          remembers_with at.workspace.value builds c.args.kept.now (record c.args.kept.now { keys = keys }) refl refl c.begin.ensures.earlier here in
          let start : IsGoing g at begun starts keys g.table =
          start_goes at g of_setting begun keys (ap world_of same ∙ (checks.world ∙ ap (λ (s : Space). world_at s c.args.snapshot.entries) c.in_ok-share.ensures.cases)) modules (ap taken_of same ∙ checks.taken) (ap settled_of same ∙ checks.settled)
          c.in_ok-going.ensures.begun c.in_ok-going.ensures.jobs c.in_ok-going.ensures.made first second told (subst (AreNumbersOf keys) (sym same) checks.numbers) in
          record {
            given = g;
            are = of_setting.are;
            active_is = refl;
            earlier_is = refl;
            table_is = refl;
            goes =
                paused.goes g (starts ++ goes.own) (shows c.take_all.new.shown) (goes.on g starts kept.checks start)
                (remembers_with at.workspace.value builds (record c.args.kept.now { keys = keys }) (record c.args.kept.now { keys = late }) refl refl goes.more kept);
          });
    }

pub returns-clause-rests : goal.returns-clause-rests
returns-clause-rests c = rests_of (record { at = c.in_ok-at.at; going = c.take_all.new.self }) c.in_ok-went.went c.in_ok-went.ensures.stays

pub returns-clause-run : goal.returns-clause-run
returns-clause-run c =
    let begun = c.in_ok-going.ensures.begun in
    runs_all (record { at = c.in_ok-at.at; going = c.take_all.new.self }) c.in_ok-went.went c.in_ok-went.ensures.stays
    (λ n more less. c.in_ok-take_all.ensures.jobs.fresh n (omega (arith, more, begun)) less)
