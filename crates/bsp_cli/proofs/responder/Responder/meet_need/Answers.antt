use Rattle.std.proofs.Common.{◌∙◌, ap, sym, true≢false}
use Rattle.session_core.proofs.Settling.{on_err_any, on_ok_any}
use Rattle.session_core.specs.State.{Rest}
use Rattle.session_law.specs.Verdicts.{IsBare}
use Rattle.worker_pool.specs.Plain.{plain_job}
use Rattle.bsp_cli.proofs.ShareLaws.{drained_all, given_leaves, may_give, shares_asked, shares_drained, shares_given, shares_hand}
use Rattle.bsp_cli.proofs.WritingLaws.{steps_none, stopped_so, stops_kept, stops_lost}
use Rattle.bsp_cli.proofs.responder.Responder.meet_need.Goals.{in-Err-give, in-Ok-give}
use Rattle.bsp_cli.proofs.responder.Responder.meet_need.Goals as goal

pub give-requires-clause-number : goal.give-requires-clause-number
give-requires-clause-number g c =
    let needed = rw (c.in-Ok-Some-Job.field-0-is, c.in-Ok-Some-Job.field-0-0-is) at c.in-Ok-Some-Job.ensures.needed in
    record {
      above = may_give _ _ (plain_job c.in-Ok-Some-Job.job) needed.0 c.requires.shares;
      below = needed.1;
    }

pub returns-in-Ok-clause-shares : goal.returns-in-Ok-clause-shares
returns-in-Ok-clause-shares g c =
    let needed = rw (c.in-Ok-Some-Tree.field-0-is, c.in-Ok-Some-Tree.field-0-0-is) at c.in-Ok-Some-Tree.ensures.needed in
    shares_hand _ _ _ c.in-Ok.ensures.took (shares_asked _ _ _ needed.2 c.requires.shares)

pub returns-in-Err-ask_tree-clause-same : goal.returns-in-Err-ask_tree-clause-same
returns-in-Err-ask_tree-clause-same g c = λ other. c.in-Err-ask_tree.ensures.same (λ failed. other (stopped_so _ _ failed))

pub returns-in-Err-ask_tree-clause-stops : goal.returns-in-Err-ask_tree-clause-stops
returns-in-Err-ask_tree-clause-stops g c = stops_kept IsBare c.args.self.now.core c.next_need.new.self _ _ _ _ c.next_need.ensures.stands c.in-Err-ask_tree.ensures.stops

pub returns-in-Ok-Some-Drain-clause-steps : goal.returns-in-Ok-Some-Drain-clause-steps
returns-in-Ok-Some-Drain-clause-steps g c = steps_none IsBare c.args.self.now.core c.next_need.new.self _ c.next_need.ensures.stands

pub returns-in-Ok-Some-Drain-clause-shares : goal.returns-in-Ok-Some-Drain-clause-shares
returns-in-Ok-Some-Drain-clause-shares g c =
    let needed = rw (c.in-Ok-Some-Drain.field-0-is, c.in-Ok-Some-Drain.field-0-0-is) at c.in-Ok-Some-Drain.ensures.needed in
    shares_drained _ _ _ _ _ needed.0 needed.2 c.drain.ensures c.requires.shares

pub returns-in-Ok-None-clause-steps : goal.returns-in-Ok-None-clause-steps
returns-in-Ok-None-clause-steps g c = steps_none IsBare c.args.self.now.core c.next_need.new.self _ c.next_need.ensures.stands

pub returns-in-Err-clause-stops : goal.returns-in-Err-clause-stops
returns-in-Err-clause-stops g c = stops_lost IsBare c.args.self.now.core c.next_need.new.self _ c.next_need.ensures.stands

pub returns-in-Ok-clause-drains : goal.returns-in-Ok-clause-drains
returns-in-Ok-clause-drains g c = λ was now.
    let needed = rw (c.in-Ok-Some-Tree.field-0-is, c.in-Ok-Some-Tree.field-0-0-is) at c.in-Ok-Some-Tree.ensures.needed in
    absurd (true≢false (sym was ∙ needed.1))

pub returns-in-Ok-Some-Drain-clause-drains : goal.returns-in-Ok-Some-Drain-clause-drains
returns-in-Ok-Some-Drain-clause-drains g c = λ was now. drained_all _ _ _ (g.met.C.Crew.adds_up c.args.crew.now) c.requires.shares.free c.drain.ensures

pub returns-in-Ok-None-clause-drains : goal.returns-in-Ok-None-clause-drains
returns-in-Ok-None-clause-drains g c = λ was now.
    let needed = rw c.in-Ok-None.field-0-is at c.in-Ok-None.ensures.needed in
    absurd (true≢false (sym was ∙ (sym (ap (λ (rest : Rest). rest.drains) needed.1) ∙ now)))

pub returns-after-give-clause-steps : goal.returns-after-give-clause-steps
returns-after-give-clause-steps g c = on_ok_any c.match-give.result (steps_none IsBare c.args.self.now.core c.next_need.new.self _ c.next_need.ensures.stands)

pub returns-after-give-clause-shares : goal.returns-after-give-clause-shares
returns-after-give-clause-shares g c =
    let needed = rw (c.in-Ok-Some-Job.field-0-is, c.in-Ok-Some-Job.field-0-0-is) at c.in-Ok-Some-Job.ensures.needed in
    elim c.match-give.branch [
      | in-Ok-give w ↦ on_ok_any c.match-give.result (shares_given _ _ _ _ (plain_job c.in-Ok-Some-Job.job) needed.0 needed.2 needed.3 w.in-Ok-give.ensures c.requires.shares)
      | in-Err-give w ↦ rw w.result-is tt
    ]

pub returns-after-give-clause-less : goal.returns-after-give-clause-less
returns-after-give-clause-less g c =
    let needed = rw (c.in-Ok-Some-Job.field-0-is, c.in-Ok-Some-Job.field-0-0-is) at c.in-Ok-Some-Job.ensures.needed in
    elim c.match-give.branch [
      | in-Ok-give w ↦ on_ok_any c.match-give.result (given_leaves _ _ _ _ (plain_job c.in-Ok-Some-Job.job) needed.0 needed.1 needed.3 w.in-Ok-give.ensures)
      | in-Err-give w ↦ rw w.result-is tt
    ]

pub returns-after-give-clause-stops : goal.returns-after-give-clause-stops
returns-after-give-clause-stops g c = on_err_any c.match-give.result (stops_lost IsBare c.args.self.now.core c.next_need.new.self _ c.next_need.ensures.stands)

pub returns-after-give-clause-drains : goal.returns-after-give-clause-drains
returns-after-give-clause-drains g c =
    let needed = rw (c.in-Ok-Some-Job.field-0-is, c.in-Ok-Some-Job.field-0-0-is) at c.in-Ok-Some-Job.ensures.needed in
    on_ok_any c.match-give.result (λ was now. absurd (true≢false (sym was ∙ (sym (ap (λ (rest : Rest). rest.drains) needed.3) ∙ now))))
