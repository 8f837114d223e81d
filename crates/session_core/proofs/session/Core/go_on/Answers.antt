use Rattle.std.proofs.Common.{[], map, ap, subst}
use Rattle.std.proofs.lemmas.Result.{on_ok_weaker}
use Rattle.session_build.specs.AtWork.{HasGoneOn}
use Rattle.build_messages.specs.Outgoing.{outgoing_said}
use Rattle.session_core.proofs.Giving.{went_keeps}
use Rattle.session_core.specs.Handing.{HasWent}
use Rattle.session_core.specs.declared.session.Core.{Core}
use Rattle.session_core.proofs.session.Core.go_on.Goals as goal
use Rattle.task_stream.specs.Showing.{shows}
use Rattle.worker_pool.specs.Jobs.{plain_check}

pub returns-clause-ok : goal.returns-clause-ok
returns-clause-ok c =
    let old = c.args.self.now in
    let it = c.args.awaiting in
    let work = plain_check c.args.check in
    let told = map outgoing_said c.outcome.new.out.items in
    let kept = c.outcome.new.kept in
    let gone : HasGoneOn it.build it.check work c.in_ok-went.went old.kept kept (shows old.shown) (shows c.outcome.new.shown) [] told
    = subst (λ before. HasGoneOn it.build it.check work c.in_ok-went.went old.kept kept (shows old.shown) (shows c.outcome.new.shown) before told)
    (ap (map outgoing_said) c.new-told.ensures.items) c.in_ok-went.ensures.went in
    let went_on : Core = record old { kept = kept; shown = c.outcome.new.shown } in
    on_ok_weaker c.go_with.result
    (λ goes. let keeps = went_keeps went_on c.go_with.new.self it.id it.number it.origin c.in_ok-went.went told goes in
    record {
      went = c.in_ok-went.went;
      told = told;
      gone = subst (λ k. HasGoneOn it.build it.check work c.in_ok-went.went old.kept k (shows old.shown) (shows c.go_with.new.self.shown) [] told) keeps.0
          (subst (λ s. HasGoneOn it.build it.check work c.in_ok-went.went old.kept kept (shows old.shown) (shows s) [] told) keeps.1 gone);
      rests = c.in_ok-went.ensures.rests;
      leaves = c.in_ok-went.ensures.jobs;
      goes = subst (λ k. HasWent (record old { kept = k; shown = c.go_with.new.self.shown }) c.go_with.new.self it.id it.number it.origin c.in_ok-went.went told) keeps.0
          (subst (λ s. HasWent (record old { kept = kept; shown = s }) c.go_with.new.self it.id it.number it.origin c.in_ok-went.went told) keeps.1 goes);
    })
    c.go_with.ensures.ok
