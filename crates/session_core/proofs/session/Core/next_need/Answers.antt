use Rattle.std.proofs.Common.{◌≡◌, ◌∙◌, None, ap, false, refl, subst, sym, true≢false}
use Rattle.std.specs.Prelude.{IfSome}
use Rattle.session_core.proofs.Calls.{stands_asked}
use Rattle.session_core.proofs.Giving.{on_if_ok, settled_asked, settled_needed, settled_noting, unbuilt_awaits}
use Rattle.session_core.specs.Settled.{HeadWants, IsNeeded}
use Rattle.session_core.specs.State.{Rest, rest_of}
use Rattle.session_core.specs.declared.session.Core.{Core}
use Rattle.session_core.proofs.session.Core.next_need.Goals.{then-self-2, else-self-2}
use Rattle.session_core.proofs.session.Core.next_need.Goals as goal

pub returns-then-self-clause-needed : goal.returns-then-self-clause-needed
returns-then-self-clause-needed c =
    let old = c.args.self.now in
    (λ number awaits. unbuilt_awaits old.head old.jobs old.given number (c.requires.settled.sound.drains c.if-self.true) awaits, c.if-self.true, refl)

pub returns-clause-settled : goal.returns-clause-settled
returns-clause-settled c =
    let old = c.args.self.now in
    let taken : Rest = record (rest_of old) { tree = c.take.new.self } in
    let none : taken.tree ≡ None = c.take.ensures.after in
    let new = c.next_job-next.new.self in
    on_if_ok c.next_job-next.result (IsNeeded taken (rest_of new)) c.next_job-next.ensures.needed
    (λ need needed. settled_noting (rest_of new) c.if-self-2.self (settled_needed taken (rest_of new) need (settled_asked (rest_of old) c.take.new.self old.drains old.given c.requires.settled (subst (λ t. IfSome t (HeadWants old.head)) (sym none) tt) c.requires.settled.sound.drains c.requires.settled.sound.numbers c.requires.settled.sound.checks) needed))

pub returns-clause-stands : goal.returns-clause-stands
returns-clause-stands c order stands =
    let old = c.args.self.now in
    let asked = c.next_job-next.new.self in
    let same = c.next_job-next.ensures.same in
    let back = sym same in
    let is : asked ≡ record old { tree = asked.tree; drains = asked.drains; remains = asked.remains; given = asked.given }
    = same ∙ (λ i. record old { tree = (back i).tree; drains = (back i).drains; remains = (back i).remains; given = asked.given }) in
    let was : c.if-self-2.self ≡ false → old.dead ≡ false
    = λ found. elim c.if-self-2.branch [ then-self-2 w ↦ absurd (true≢false (sym w.if-self-2.true ∙ (sym w.self-is ∙ found))) | else-self-2 w ↦ sym (ap (λ (core : Core). core.dead) same) ∙ w.if-self-2.false ] in
    stands_asked old asked c.if-self-2.self is was order stands
