use Rattle.std.proofs.Common.{refl, sym, subst}
use Rattle.std.specs.Prelude.{option_map}
use Rattle.std.proofs.lemmas.Result.{on_err_weaker, on_ok_weaker}
use Rattle.serde_json.specs.View.{view}
use Rattle.session_core.proofs.Requests.{at_once, loses, loses_unclosing, lost_numbered, ready, serves, serves_again, serves_unclosing}
use Rattle.session_core.proofs.Settling.{on_err_any, on_ok_both}
use Rattle.session_verdicts.specs.Judging.{Judges, queued_call}
use Rattle.session_verdicts.specs.declared.verdicts.Owed.TheVariants as owing
use Rattle.session_law.specs.Methods.{Verdict, asking, queued, verdict}
use Rattle.session_core.proofs.Bare.{bare_call}
use Rattle.session_core.proofs.session.Core.serve.Goals as goal
use Rattle.session_core.proofs.Ready.{IsReady}

pub returns-then-is_open-clause-ok : goal.returns-then-is_open-clause-ok
returns-then-is_open-clause-ok c =
    let old = c.args.self.now in
    let rests : IsReady old = ready old c.requires.settled c.requires.up c.requires.running c.requires.quiet in
    on_ok_weaker c.refuse.result
    (λ both. serves_again old rests c.args.number c.requires.number c.refuse.new.self c.args.id c.args.method.now (option_map view c.args.params) (sym c.if-is_open.ensures) both.0 c.refuse.ensures.same c.refuse.ensures.framed
    both.1)
    (on_ok_both _ _ c.refuse.result c.refuse.ensures.said c.refuse.ensures.notices)

pub returns-then-is_open-clause-lost : goal.returns-then-is_open-clause-lost
returns-then-is_open-clause-lost c =
    let old = c.args.self.now in
    let rests : IsReady old = ready old c.requires.settled c.requires.up c.requires.running c.requires.quiet in
    on_err_weaker c.refuse.result (λ same. lost_numbered old rests c.args.number c.requires.number c.refuse.new.self _ same) c.refuse.ensures.err

pub returns-in_err-answer-clause-lost : goal.returns-in_err-answer-clause-lost
returns-in_err-answer-clause-lost c =
    let old = c.args.self.now in
    let rests : IsReady old = ready old c.requires.settled c.requires.up c.requires.running c.requires.quiet in
    on_err_any c.from_residual.result (lost_numbered old rests c.args.number c.requires.number (record old { taken = c.args.number }) _ refl)

pub returns-in-Answer-clause-ok : goal.returns-in-Answer-clause-ok
returns-in-Answer-clause-ok c =
    let old = c.args.self.now in
    let rests : IsReady old = ready old c.requires.settled c.requires.up c.requires.running c.requires.quiet in
    let v : Verdict = verdict c.args.method.now (option_map view c.args.params) old.workspace old.closed in
    let fits : Judges old.workspace (verdict c.args.method.now (option_map view c.args.params) old.workspace old.closed) (owing.Answer c.in-Answer.answer) = subst (λ m. Judges old.workspace (verdict m (option_map view c.args.params) old.workspace old.closed) (owing.Answer c.in-Answer.answer)) c.as_slice.ensures (rw c.in-Answer.is at c.in_ok-answer.ensures.judged) in
    on_ok_weaker c.answer_now.result
    (λ ok. serves old rests c.args.number c.requires.number c.answer_now.new.self c.args.id c.args.method.now (option_map view c.args.params) (sym c.if-is_open.ensures) v refl
    (ok c.args.number v (at_once c.args.method.now (option_map view c.args.params) old.workspace old.closed c.in-Answer.answer fits) fits))
    c.answer_now.ensures.ok

pub returns-in-Answer-clause-lost : goal.returns-in-Answer-clause-lost
returns-in-Answer-clause-lost c =
    let old = c.args.self.now in
    let rests : IsReady old = ready old c.requires.settled c.requires.up c.requires.running c.requires.quiet in
    let v : Verdict = verdict c.args.method.now (option_map view c.args.params) old.workspace old.closed in
    let fits : Judges old.workspace (verdict c.args.method.now (option_map view c.args.params) old.workspace old.closed) (owing.Answer c.in-Answer.answer) = subst (λ m. Judges old.workspace (verdict m (option_map view c.args.params) old.workspace old.closed) (owing.Answer c.in-Answer.answer)) c.as_slice.ensures (rw c.in-Answer.is at c.in_ok-answer.ensures.judged) in
    on_err_weaker c.answer_now.result
    (λ lost. loses old rests c.args.number c.requires.number c.answer_now.new.self c.args.id c.args.method.now (option_map view c.args.params) (sym c.if-is_open.ensures) v refl
    (lost c.args.number v (at_once c.args.method.now (option_map view c.args.params) old.workspace old.closed c.in-Answer.answer fits) fits))
    c.answer_now.ensures.lost

pub returns-in-Opening-clause-ok : goal.returns-in-Opening-clause-ok
returns-in-Opening-clause-ok c =
    let old = c.args.self.now in
    let rests : IsReady old = ready old c.requires.settled c.requires.up c.requires.running c.requires.quiet in
    let judged : Judges old.workspace (verdict c.args.method.now (option_map view c.args.params) old.workspace old.closed) (owing.Opening c.in-Opening.root)
    = subst (λ m. Judges old.workspace (verdict m (option_map view c.args.params) old.workspace old.closed) (owing.Opening c.in-Opening.root)) c.as_slice.ensures (rw c.in-Opening.is at c.in_ok-answer.ensures.judged) in
    on_ok_weaker c.ask.result
    (λ waits. serves old rests c.args.number c.requires.number c.ask.new.self c.args.id c.args.method.now (option_map view c.args.params) (sym c.if-is_open.ensures) (asking c.in-Opening.root) judged.0
    (serves_unclosing (record old { taken = c.args.number }) c.ask.new.self c.args.id c.args.number (asking c.in-Opening.root) refl waits))
    c.ask.ensures.ok

pub returns-in-Queued-clause-ok : goal.returns-in-Queued-clause-ok
returns-in-Queued-clause-ok c =
    let old = c.args.self.now in
    let rests : IsReady old = ready old c.requires.settled c.requires.up c.requires.running c.requires.quiet in
    let judged : Judges old.workspace (verdict c.args.method.now (option_map view c.args.params) old.workspace old.closed) (owing.Queued c.in-Queued.call)
    = subst (λ m. Judges old.workspace (verdict m (option_map view c.args.params) old.workspace old.closed) (owing.Queued c.in-Queued.call)) c.as_slice.ensures (rw c.in-Queued.is at c.in_ok-answer.ensures.judged) in
    on_ok_weaker c.queue_up.result
    (λ waits. serves old rests c.args.number c.requires.number c.queue_up.new.self c.args.id c.args.method.now (option_map view c.args.params) (sym c.if-is_open.ensures) (queued (queued_call c.in-Queued.call)) judged.0
    (serves_unclosing (record old { taken = c.args.number }) c.queue_up.new.self c.args.id c.args.number (queued (queued_call c.in-Queued.call)) refl waits))
    c.queue_up.ensures.ok

pub returns-in-Queued-clause-lost : goal.returns-in-Queued-clause-lost
returns-in-Queued-clause-lost c =
    let old = c.args.self.now in
    let rests : IsReady old = ready old c.requires.settled c.requires.up c.requires.running c.requires.quiet in
    let judged : Judges old.workspace (verdict c.args.method.now (option_map view c.args.params) old.workspace old.closed) (owing.Queued c.in-Queued.call)
    = subst (λ m. Judges old.workspace (verdict m (option_map view c.args.params) old.workspace old.closed) (owing.Queued c.in-Queued.call)) c.as_slice.ensures (rw c.in-Queued.is at c.in_ok-answer.ensures.judged) in
    on_err_weaker c.queue_up.result
    (λ waits. loses old rests c.args.number c.requires.number c.queue_up.new.self c.args.id c.args.method.now (option_map view c.args.params) (sym c.if-is_open.ensures) (queued (queued_call c.in-Queued.call)) judged.0
    (loses_unclosing (record old { taken = c.args.number }) c.queue_up.new.self c.args.id c.args.number (queued (queued_call c.in-Queued.call)) refl waits))
    c.queue_up.ensures.lost

pub returns-then-is_open-clause-bare : goal.returns-then-is_open-clause-bare
returns-then-is_open-clause-bare c = bare_call c.args.self.now (record c.args.self.now { taken = c.args.number }) c.refuse.new.self c.refuse.result refl c.refuse.ensures.bare

pub returns-in-Answer-clause-bare : goal.returns-in-Answer-clause-bare
returns-in-Answer-clause-bare c = bare_call c.args.self.now (record c.args.self.now { taken = c.args.number }) c.answer_now.new.self c.answer_now.result refl c.answer_now.ensures.bare

pub returns-in-Opening-clause-bare : goal.returns-in-Opening-clause-bare
returns-in-Opening-clause-bare c = bare_call c.args.self.now (record c.args.self.now { taken = c.args.number }) c.ask.new.self c.ask.result refl c.ask.ensures.bare

pub returns-in-Queued-clause-bare : goal.returns-in-Queued-clause-bare
returns-in-Queued-clause-bare c = bare_call c.args.self.now (record c.args.self.now { taken = c.args.number }) c.queue_up.new.self c.queue_up.result refl c.queue_up.ensures.bare
