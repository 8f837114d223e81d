use Rattle.std.proofs.Common.{[], ap, inl, subst, sym, ◌∙◌}
use Rattle.std.specs.Prelude.{Option}
use Rattle.std.proofs.lemmas.Result.{on_err_weaker, on_ok_weaker}
use Rattle.session_core.proofs.Needing.{jobs_on}
use Rattle.session_core.proofs.Requests.{lost_behind, or_no}
use Rattle.session_core.proofs.Resting.{goes_on, sound_behind}
use Rattle.session_core.proofs.Settling.{on_err_any}
use Rattle.session_core.specs.Acting.{is_head}
use Rattle.session_core.specs.Settled.{BuildStays, HeadStays}
use Rattle.session_core.specs.Standing.{IsUpHead}
use Rattle.session_core.specs.declared.head.Head.{Head}
use Rattle.session_core.specs.declared.session.Core.{Core}
use Rattle.session_queue.specs.Waiting.{is_open}
use Rattle.session_core.proofs.Bare.{bare_after}
use Rattle.session_core.proofs.session.Core.queue_up.Goals as goal

pub wait-requires-clause-apart : goal.wait-requires-clause-apart
wait-requires-clause-apart c = or_no (is_head c.args.id c.args.self.now.head) (is_open c.args.id c.args.self.now.queue) c.requires.apart

pub wait-requires-clause-goes_on : goal.wait-requires-clause-goes_on
wait-requires-clause-goes_on c = goes_on c.args.self.now c.requires.settled.sound

pub take_up_next-requires-clause-sound : goal.take_up_next-requires-clause-sound
take_up_next-requires-clause-sound c =
    sound_behind c.args.self.now c.wait.new.self c.requires.settled.sound c.wait.ensures.same c.in_ok-wait.ensures.texts c.in_ok-wait.ensures.goes_on c.requires.begun

pub take_up_next-requires-clause-asking : goal.take_up_next-requires-clause-asking
take_up_next-requires-clause-asking c nothing = subst (λ (h : Option Head). IsUpHead h) (sym (ap (λ (core : Core). core.head) c.wait.ensures.same)) c.requires.up

pub returns-clause-ok : goal.returns-clause-ok
returns-clause-ok c = on_ok_weaker c.take_up_next.result (λ carries order whole. carries order (c.in_ok-wait.ensures.ok order whole)) c.take_up_next.ensures.ok

pub returns-clause-lost : goal.returns-clause-lost
returns-clause-lost c = on_err_weaker c.take_up_next.result (λ loses order whole. loses order (c.in_ok-wait.ensures.ok order whole)) c.take_up_next.ensures.lost

pub returns-clause-stays : goal.returns-clause-stays
returns-clause-stays c =
    on_ok_weaker c.take_up_next.result (λ stays. subst (λ (h : Option Head). HeadStays h c.take_up_next.new.self.head) (ap (λ (core : Core). core.head) c.wait.ensures.same) stays) c.take_up_next.ensures.stays

pub returns-clause-jobs : goal.returns-clause-jobs
returns-clause-jobs c =
    let same = c.wait.ensures.same in
    jobs_on c.wait.new.self c.take_up_next.new.self c.args.self.now c.take_up_next.ensures.beside.jobs (record { jobs = ap (λ (core : Core). core.jobs) same; given = ap (λ (core : Core). core.given) same })

pub returns-in_err-wait-clause-lost : goal.returns-in_err-wait-clause-lost
returns-in_err-wait-clause-lost c =
    on_err_any c.from_residual.result
    (λ order whole. lost_behind c.args.self.now c.wait.new.self (ap (λ (core : Core). core.out.items) c.in_err-wait.ensures.err) [] _ order whole)

pub returns-clause-bare : goal.returns-clause-bare
returns-clause-bare c = bare_after c.args.self.now c.wait.new.self c.take_up_next.new.self c.take_up_next.result c.in_ok-wait.ensures.bare c.take_up_next.ensures.bare

pub returns-clause-drains : goal.returns-clause-drains
returns-clause-drains c =
    let same = c.wait.ensures.same in
    on_ok_weaker c.take_up_next.result
    (λ stays. inl (subst (λ (h : Option Head). BuildStays h c.take_up_next.new.self.head) (ap (λ (core : Core). core.head) same) stays, c.take_up_next.ensures.drains ∙ ap (λ (core : Core). core.drains) same))
    c.take_up_next.ensures.build
