use Rattle.std.proofs.Common.{◌≡◌, List, Some, map, refl, ap, sym, subst, ◌∙◌}
use Rattle.std.specs.List.{slice_get}
use Rattle.std.proofs.lemmas.Option.{get_or_from_slice_get}
use Rattle.build_checks.specs.Numbers.{AreNumbersOf}
use Rattle.build_checks.specs.Stand.{world_of}
use Rattle.build_rules.specs.Views.{HasView}
use Rattle.build_rules.specs.World.{IsCyclic}
use Rattle.ob_text.specs.declared.diagnostic.Diagnostic.{Diagnostic}
use Rattle.oberon_module.specs.declared.check.Checked.{Checked}
use Rattle.oberon_types.specs.Memory.{plain_view}
use Rattle.session_law.specs.Builds.{build_document}
use Rattle.session_law.specs.Course.{count_errors, count_warnings}
use Rattle.session_law.specs.declared.BuildDocument.{BuildDocument}
use Rattle.build_messages.specs.Outgoing.{outgoing_said}
use Rattle.build_messages.specs.Publishing.{IsPublishedOne}
use Rattle.task_stream.specs.Showing.{shows}
use Rattle.session_build.proofs.going.Going.settle.Goals as goal

pub returns : goal.returns
returns c =
    let at = c.args.at.now in
    let pair = c.args.pair in
    let fact = c.args.fact.now in
    let old = c.args.self.now in
    let index = c.document_index-index.result in
    let document : BuildDocument = build_document at.workspace.value pair in
    let documents : List BuildDocument = c.as_slice-documents.result.now in
    let here : c.index-documents-index.result ≡ document =
    c.index-documents-index.is
    ∙ get_or_from_slice_get documents index document c.index-documents-index.result
    (subst (λ (ds : List BuildDocument). slice_get ds index ≡ Some document) (sym c.as_slice-documents.ensures) c.document_index-index.ensures) in
    let found : c.checked-checked.result.now ≡ fact.checked = c.checked-checked.ensures.checked in
    let list : c.as_slice.result.now ≡ fact.checked.list.items = c.as_slice.ensures.value ∙ ap (λ (x : Checked). x.list.items) found in
    let own : c.in_ok-list.list.items ≡ fact.checked.list.items = c.in_ok-list.ensures ∙ (c.as_slice-2.ensures.value ∙ ap (λ (x : Checked). x.list.items) found) in
    record {
      is_fact = c.checked-checked.ensures.sound;
      checks = c.in_ok-settle.ensures.checks;
      world_same = c.in_ok-settle.ensures.world;
      modules_same = c.in_ok-settle.ensures.modules;
      taken_same = c.in_ok-settle.ensures.taken;
      left_same = c.in_ok-settle.ensures.left;
      settled = c.in_ok-settle.ensures.settled;
      numbers =
          subst (λ (x : Checked). (¬ (IsCyclic (world_of old.checks) pair) → HasView (world_of old.checks) pair (plain_view x.view))
          → AreNumbersOf c.args.keys.now old.checks → AreNumbersOf c.settle.new.keys c.settle.new.self) found c.in_ok-settle.ensures.numbers;
      stays = c.in_ok-settle.ensures.stays;
      more = c.in_ok-settle.ensures.earlier;
      index = index;
      there = c.document_index-index.ensures;
      tally = c.counted.result;
      counted = record {
        begun_is = c.counted.ensures.begun;
        errors_are = c.counted.ensures.errors ∙ ap count_errors list;
        warnings_are = c.counted.ensures.warnings ∙ ap count_warnings list;
      };
      tallies = refl;
      failed = c.in_ok-publish_one.field-0;
      published =
          subst (λ (d : BuildDocument). IsPublishedOne (shows c.args.shown.now) (shows c.publish_one.new.shown) d at.origin.value fact.checked.list.items
          (map outgoing_said c.args.out.now.items) (map outgoing_said c.publish_one.new.out.items) c.in_ok-publish_one.field-0) here
          (subst (λ (ds : List Diagnostic). IsPublishedOne (shows c.args.shown.now) (shows c.publish_one.new.shown) c.index-documents-index.result at.origin.value ds
          (map outgoing_said c.args.out.now.items) (map outgoing_said c.publish_one.new.out.items) c.in_ok-publish_one.field-0) own c.in_ok-publish_one.ensures);
      count = refl;
      jobs = refl;
      made = refl;
    }
