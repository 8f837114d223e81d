use Rattle.std.proofs.Common.{ap, refl, subst, sym, ◌∙◌}
use Rattle.std.specs.Prelude.{Option}
use Rattle.std.proofs.lemmas.Result.{on_ok_weaker}
use Rattle.session_core.proofs.TakingUp.{takes_cleaning, takes_plan, takes_refusal, takes_reread}
use Rattle.session_verdicts.specs.Judging.{Fits, IsCleaningOf, IsPlanOf, IsRereadOf, queued_call}
use Rattle.session_core.specs.Settled.{planned, reread}
use Rattle.session_core.specs.Reloading.{Cleans}
use Rattle.session_core.specs.Standing.{HeadGoesOn, HeadRests}
use Rattle.session_core.specs.State.{rest_of}
use Rattle.session_core.specs.declared.head.Head.{Head}
use Rattle.session_core.specs.declared.session.Core.{Core}
use Rattle.session_verdicts.specs.declared.verdicts.Answer.TheVariants as answers
use Rattle.session_law.specs.Methods.{taken_in}
use Rattle.session_core.proofs.session.Core.take_up.Goals as goal

pub returns-in-Building-clause-ok : goal.returns-in-Building-clause-ok
returns-in-Building-clause-ok c =
    let old = c.args.self.now in
    let waiting = c.args.waiting in
    let of : IsPlanOf old.workspace (taken_in old.workspace (queued_call waiting.call)) c.in-Building.planned = rw c.in-Building.is at c.in_ok-planned.ensures.taken in
    on_ok_weaker c.plan.result (λ plans. takes_plan old c.plan.new.self waiting c.in-Building.planned c.requires.named of plans) c.plan.ensures.ok

pub returns-in-Building-clause-rest : goal.returns-in-Building-clause-rest
returns-in-Building-clause-rest c =
    let old = c.args.self.now in
    let waiting = c.args.waiting in
    let of : IsPlanOf old.workspace (taken_in old.workspace (queued_call waiting.call)) c.in-Building.planned = rw c.in-Building.is at c.in_ok-planned.ensures.taken in
    on_ok_weaker c.plan.result (λ plans. planned c.in-Building.planned (record { space = of.space; in_force = of.in_force; within = of.within }) (ap rest_of plans)) c.plan.ensures.ok

pub returns-in-Building-clause-rests : goal.returns-in-Building-clause-rests
returns-in-Building-clause-rests c =
    on_ok_weaker c.plan.result (λ plans. subst (λ (h : Option Head). HeadRests h) (sym (ap (λ (core : Core). core.head) plans)) (c.requires.named, tt)) c.plan.ensures.ok

pub returns-in-Building-clause-goes_on : goal.returns-in-Building-clause-goes_on
returns-in-Building-clause-goes_on c =
    on_ok_weaker c.plan.result (λ plans. subst (λ (h : Option Head). HeadGoesOn h) (sym (ap (λ (core : Core). core.head) plans)) refl) c.plan.ensures.ok

pub returns-in-Refused-clause-ok : goal.returns-in-Refused-clause-ok
returns-in-Refused-clause-ok c =
    let old = c.args.self.now in
    let waiting = c.args.waiting in
    let fits : Fits (taken_in old.workspace (queued_call waiting.call)) (answers.Refused c.in-Refused.reason) = rw c.in-Refused.is at c.in_ok-planned.ensures.taken in
    on_ok_weaker c.refuse_first.result
    (λ ok. takes_refusal old c.refuse_first.new.self waiting c.in-Refused.reason fits ok (ap (λ (core : Core). core.head) c.refuse_first.ensures.same ∙ c.requires.none))
    c.refuse_first.ensures.ok

pub returns-in-Rereading-clause-ok : goal.returns-in-Rereading-clause-ok
returns-in-Rereading-clause-ok c =
    let old = c.args.self.now in
    let waiting = c.args.waiting in
    let of : IsRereadOf old.workspace (taken_in old.workspace (queued_call waiting.call)) = rw c.in-Rereading.is at c.in_ok-planned.ensures.taken in
    on_ok_weaker c.reread.result (λ rereads. takes_reread old c.reread.new.self waiting c.requires.named of rereads) c.reread.ensures.ok

pub returns-in-Rereading-clause-rest : goal.returns-in-Rereading-clause-rest
returns-in-Rereading-clause-rest c =
    let old = c.args.self.now in
    let waiting = c.args.waiting in
    let of : IsRereadOf old.workspace (taken_in old.workspace (queued_call waiting.call)) = rw c.in-Rereading.is at c.in_ok-planned.ensures.taken in
    on_ok_weaker c.reread.result (λ rereads. reread (record { space = of.space; is = of.in_force }) (ap rest_of rereads)) c.reread.ensures.ok

pub returns-in-Rereading-clause-rests : goal.returns-in-Rereading-clause-rests
returns-in-Rereading-clause-rests c =
    on_ok_weaker c.reread.result (λ rereads. subst (λ (h : Option Head). HeadRests h) (sym (ap (λ (core : Core). core.head) rereads)) (c.requires.named, tt)) c.reread.ensures.ok

pub returns-in-Rereading-clause-goes_on : goal.returns-in-Rereading-clause-goes_on
returns-in-Rereading-clause-goes_on c =
    on_ok_weaker c.reread.result (λ rereads. subst (λ (h : Option Head). HeadGoesOn h) (sym (ap (λ (core : Core). core.head) rereads)) refl) c.reread.ensures.ok

pub returns-in-Cleaning-clause-ok : goal.returns-in-Cleaning-clause-ok
returns-in-Cleaning-clause-ok c =
    let old = c.args.self.now in
    let waiting = c.args.waiting in
    let of : IsCleaningOf old.workspace (taken_in old.workspace (queued_call waiting.call)) c.in-Cleaning.targets = rw c.in-Cleaning.is at c.in_ok-planned.ensures.taken in
    on_ok_weaker c.clean.result
    (λ cleans. takes_cleaning old c.clean.new.self waiting c.in-Cleaning.targets of
    (subst (λ ts. Cleans old c.clean.new.self waiting.id ts) c.as_slice.ensures cleans) (ap (λ (core : Core). core.head) c.clean.ensures.same ∙ c.requires.none))
    c.clean.ensures.ok
