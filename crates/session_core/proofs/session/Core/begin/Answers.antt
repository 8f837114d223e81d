use Rattle.std.proofs.Common.{◌≡◌, ◌∙◌, [], Some, map, ap, subst, sym}
use Rattle.std.specs.Prelude.{IfSome}
use Rattle.std.proofs.lemmas.Result.{on_ok_weaker}
use Rattle.bsp_records.specs.Limits.{origin_limit}
use Rattle.json_shape.specs.Shapes.{IsTextWithin}
use Rattle.session_build.specs.AtWork.{HasBegun}
use Rattle.build_messages.specs.Outgoing.{outgoing_said}
use Rattle.session_build.specs.declared.building.BuildRequest.{BuildRequest}
use Rattle.session_core.proofs.Bare.{told_bare}
use Rattle.session_core.proofs.Giving.{went_keeps}
use Rattle.session_core.specs.Building.{request_for}
use Rattle.session_core.specs.Handing.{HasWent}
use Rattle.session_verdicts.specs.Plans.{Plan}
use Rattle.session_core.specs.declared.session.Core.{Core}
use Rattle.session_core.proofs.session.Core.begin.Goals as goal
use Rattle.task_stream.specs.Showing.{shows}

pub returns-clause-bare : goal.returns-clause-bare
returns-clause-bare c =
    let begun = c.in_ok-went.ensures.begun in
    on_ok_weaker c.go_with.result
    (λ bare.
    let stays = bare (told_bare (map outgoing_said c.new-told.result.items) (map outgoing_said c.begin.new.out.items) begun.own (ap (map outgoing_said) c.new-told.ensures.items) begun.tells.are begun.bare) in
    record { is = stays.is; one = stays.one })
    c.go_with.ensures.bare

pub returns-clause-ok : goal.returns-clause-ok
returns-clause-ok c =
    let old = c.args.self.now in
    let parts = c.into_parts-asked.result in
    let space = c.in_ok-workspace.workspace.value in
    let told = map outgoing_said c.begin.new.out.items in
    let request : BuildRequest = record { number = c.args.number; asked = parts.0; origin = c.in_ok-copy_of.field-0; documents = parts.2 } in
    let request_is : request ≡ request_for c.args.number c.args.planned
    = (λ i. record request { origin = c.in_ok-copy_of.ensures i }) ∙ ap (request_for c.args.number) (sym c.into_parts-asked.ensures.parts) in
    let begun : HasBegun space (request_for c.args.number c.args.planned) c.args.snapshot.entries c.in_ok-went.went old.kept c.begin.new.kept (shows old.shown) (shows c.begin.new.shown) [] told
    = subst (λ before. HasBegun space (request_for c.args.number c.args.planned) c.args.snapshot.entries c.in_ok-went.went old.kept c.begin.new.kept (shows old.shown) (shows c.begin.new.shown) before told)
    (ap (map outgoing_said) c.new-told.ensures.items)
    (subst (λ (r : BuildRequest). HasBegun space r c.args.snapshot.entries c.in_ok-went.went old.kept c.begin.new.kept (shows old.shown) (shows c.begin.new.shown) (map outgoing_said c.new-told.result.items) told)
    request_is c.in_ok-went.ensures.begun) in
    let origin_is : parts.1 ≡ c.args.planned.origin = ap (λ (p : Plan). p.origin) (sym c.into_parts-asked.ensures.parts) in
    let began : Core = record old { kept = c.begin.new.kept; shown = c.begin.new.shown; jobs = old.given } in
    on_ok_weaker c.go_with.result
    (λ went. let goes : HasWent began c.go_with.new.self c.args.id c.args.number c.args.planned.origin c.in_ok-went.went told
    = subst (λ o. HasWent began c.go_with.new.self c.args.id c.args.number o c.in_ok-went.went told) origin_is went in
    let keeps = went_keeps began c.go_with.new.self c.args.id c.args.number c.args.planned.origin c.in_ok-went.went told goes in
    record {
      space = space;
      in_force = c.in-Some.is ∙ ap Some (sym c.in_ok-workspace.ensures);
      short = subst (λ o. IfSome o (IsTextWithin origin_limit)) origin_is c.into_parts-asked.ensures.short;
      went = c.in_ok-went.went;
      told = told;
      begun = subst (λ k. HasBegun space (request_for c.args.number c.args.planned) c.args.snapshot.entries c.in_ok-went.went old.kept k (shows old.shown) (shows c.go_with.new.self.shown) [] told) keeps.0
          (subst (λ s. HasBegun space (request_for c.args.number c.args.planned) c.args.snapshot.entries c.in_ok-went.went old.kept c.begin.new.kept (shows old.shown) (shows s) [] told) keeps.1 begun);
      rests = c.in_ok-went.ensures.rests;
      runs = c.in_ok-went.ensures.run;
      goes = subst (λ k. HasWent (record old { kept = k; shown = c.go_with.new.self.shown; jobs = old.given }) c.go_with.new.self c.args.id c.args.number c.args.planned.origin c.in_ok-went.went told) keeps.0
          (subst (λ s. HasWent (record old { kept = c.begin.new.kept; shown = s; jobs = old.given }) c.go_with.new.self c.args.id c.args.number c.args.planned.origin c.in_ok-went.went told) keeps.1 goes);
    })
    c.go_with.ensures.ok
