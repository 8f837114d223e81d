use Rattle.std.proofs.Common.{◌∷◌, [], Some, true, ap, subst}
use Rattle.std.proofs.lemmas.Result.{on_err_weaker, on_ok_weaker}
use Rattle.session_core.proofs.Ready.{end_lost, ended, null_whole, IsReady}
use Rattle.session_core.proofs.Requests.{lost_behind, ready}
use Rattle.session_core.proofs.Draining.{stays_on}
use Rattle.session_core.proofs.Resting.{head_gone}
use Rattle.session_core.proofs.Settling.{on_err_any, on_ok_both}
use Rattle.session_core.specs.Marking.{marked}
use Rattle.session_core.specs.Moving.{LosesAll, SettlesAll}
use Rattle.session_core.specs.Standing.{Whole}
use Rattle.session_core.specs.State.{rest_of}
use Rattle.session_core.specs.declared.session.Core.{Core}
use Rattle.session_law.specs.Order.{ends}
use Rattle.session_law.specs.Past.{end_status, nulls_for_end}
use Rattle.session_law.specs.declared.InputEnd.{InputEnd}
use Rattle.session_core.proofs.Bare.{bare_after}
use Rattle.session_core.proofs.session.Core.act_on_end.Goals as goal

abbrev marked_end : Core → InputEnd → Core
marked_end core how = record (marked (λ id. true) core) { status = Some (end_status how) }

pub returns-in_err-cancel_all-clause-lost : goal.returns-in_err-cancel_all-clause-lost
returns-in_err-cancel_all-clause-lost c =
    let old = c.args.self.now in
    let rests : IsReady old = ready old c.requires.settled c.requires.up c.requires.running c.requires.quiet in
    on_err_any c.from_residual.result
    (end_lost old c.cancel_all.new.self c.args.how rests
    (subst (λ s. LosesAll (record (marked (λ id. true) old) { status = Some s }) c.cancel_all.new.self) c.end_status.ensures c.in_err-cancel_all.ensures.lost))

pub returns-in-Damaged-clause-ok : goal.returns-in-Damaged-clause-ok
returns-in-Damaged-clause-ok c =
    let old = c.args.self.now in
    let settled = c.cancel_all.new.self in
    let did = c.in_ok-cancel_all.ensures in
    let rests : IsReady old = ready old c.requires.settled c.requires.up c.requires.running c.requires.quiet in
    let settles : SettlesAll (marked_end old c.args.how) settled = subst (λ s. SettlesAll (record (marked (λ id. true) old) { status = Some s }) settled) c.end_status.ensures did.ok in
    on_ok_weaker c.refuse.result
    (λ both order whole.
    null_whole settled c.refuse.new.self _ both.0 c.refuse.ensures.same c.refuse.ensures.framed both.1 (head_gone _ settled did.rest) did.goes_on [] (ends c.args.how ∷ order)
    (subst (λ nulls. Whole settled [] nulls (ends c.args.how ∷ order)) (ap nulls_for_end c.in-Damaged.is) (ended old settled c.args.how rests settles order whole)))
    (on_ok_both _ _ c.refuse.result c.refuse.ensures.said c.refuse.ensures.notices)

pub returns-in-Damaged-clause-lost : goal.returns-in-Damaged-clause-lost
returns-in-Damaged-clause-lost c =
    let old = c.args.self.now in
    let settled = c.cancel_all.new.self in
    let rests : IsReady old = ready old c.requires.settled c.requires.up c.requires.running c.requires.quiet in
    let settles : SettlesAll (marked_end old c.args.how) settled = subst (λ s. SettlesAll (record (marked (λ id. true) old) { status = Some s }) settled) c.end_status.ensures c.in_ok-cancel_all.ensures.ok in
    on_err_weaker c.refuse.result
    (λ same order whole. lost_behind settled c.refuse.new.self same _ _ (ends c.args.how ∷ order) (ended old settled c.args.how rests settles order whole))
    c.refuse.ensures.err

pub returns-in-Border-clause-ok : goal.returns-in-Border-clause-ok
returns-in-Border-clause-ok c order whole =
    let old = c.args.self.now in
    let settled = c.cancel_all.new.self in
    let rests : IsReady old = ready old c.requires.settled c.requires.up c.requires.running c.requires.quiet in
    let settles : SettlesAll (marked_end old c.args.how) settled = subst (λ s. SettlesAll (record (marked (λ id. true) old) { status = Some s }) settled) c.end_status.ensures c.in_ok-cancel_all.ensures.ok in
    subst (λ nulls. Whole settled [] nulls (ends c.args.how ∷ order)) (ap nulls_for_end c.in-Border.is) (ended old settled c.args.how rests settles order whole)

pub returns-in-Failed-clause-ok : goal.returns-in-Failed-clause-ok
returns-in-Failed-clause-ok c order whole =
    let old = c.args.self.now in
    let settled = c.cancel_all.new.self in
    let rests : IsReady old = ready old c.requires.settled c.requires.up c.requires.running c.requires.quiet in
    let settles : SettlesAll (marked_end old c.args.how) settled = subst (λ s. SettlesAll (record (marked (λ id. true) old) { status = Some s }) settled) c.end_status.ensures c.in_ok-cancel_all.ensures.ok in
    subst (λ nulls. Whole settled [] nulls (ends c.args.how ∷ order)) (ap nulls_for_end c.in-Failed.is) (ended old settled c.args.how rests settles order whole)

pub returns-in-Damaged-clause-bare : goal.returns-in-Damaged-clause-bare
returns-in-Damaged-clause-bare c =
    bare_after c.args.self.now c.cancel_all.new.self c.refuse.new.self c.refuse.result (record { is = c.in_ok-cancel_all.ensures.bare.is; one = c.in_ok-cancel_all.ensures.bare.one }) c.refuse.ensures.bare

pub returns-in-Border-clause-bare : goal.returns-in-Border-clause-bare
returns-in-Border-clause-bare c = record { is = c.in_ok-cancel_all.ensures.bare.is; one = c.in_ok-cancel_all.ensures.bare.one }

pub returns-in-Failed-clause-bare : goal.returns-in-Failed-clause-bare
returns-in-Failed-clause-bare c = record { is = c.in_ok-cancel_all.ensures.bare.is; one = c.in_ok-cancel_all.ensures.bare.one }

pub returns-in-Damaged-clause-drains : goal.returns-in-Damaged-clause-drains
returns-in-Damaged-clause-drains c =
    let new = c.refuse.new.self in
    let same = c.refuse.ensures.same in
    on_ok_weaker c.refuse.result
    (λ said. stays_on (rest_of c.args.self.now) (rest_of c.cancel_all.new.self) (rest_of new) c.in_ok-cancel_all.ensures.rest.stays (ap (λ (core : Core). core.head) same) (ap (λ (core : Core). core.drains) same))
    c.refuse.ensures.said

pub returns-in-Border-clause-drains : goal.returns-in-Border-clause-drains
returns-in-Border-clause-drains c = c.in_ok-cancel_all.ensures.rest.stays

pub returns-in-Failed-clause-drains : goal.returns-in-Failed-clause-drains
returns-in-Failed-clause-drains c = c.in_ok-cancel_all.ensures.rest.stays
