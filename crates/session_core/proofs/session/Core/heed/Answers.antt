use Rattle.std.proofs.Common.{Some, ap, refl, sym, ◌∙◌}
use Rattle.std.specs.Prelude.{codes, option_map}
use Rattle.std.proofs.lemmas.Result.{on_err_weaker, on_ok_weaker}
use Rattle.serde_json.specs.View.{view}
use Rattle.session_core.proofs.Notes.{acts_cancel, acts_exit, acts_other, acts_unnamed, loses_cancel, loses_exit}
use Rattle.session_core.proofs.Requests.{ready}
use Rattle.session_law.specs.Methods.{is_named}
use Rattle.session_core.proofs.Bare.{bare_call}
use Rattle.session_core.proofs.session.Core.heed.Goals as goal
use Rattle.session_core.proofs.Ready.{IsReady}

pub returns-then-eq-clause-ok : goal.returns-then-eq-clause-ok
returns-then-eq-clause-ok c =
    let old = c.args.self.now in
    let rests : IsReady old = ready old c.requires.settled c.requires.up c.requires.running c.requires.quiet in
    on_ok_weaker c.cancel_all.result
    (acts_exit old rests c.args.number c.requires.number c.args.method.now (option_map view c.args.params) c.cancel_all.new.self
    (sym (c.if-eq.ensures ∙ ap (is_named (codes "build/exit")) c.as_slice.ensures)) _ (ap Some c.exit_status.ensures))
    c.cancel_all.ensures.ok

pub returns-then-eq-clause-lost : goal.returns-then-eq-clause-lost
returns-then-eq-clause-lost c =
    let old = c.args.self.now in
    let rests : IsReady old = ready old c.requires.settled c.requires.up c.requires.running c.requires.quiet in
    on_err_weaker c.cancel_all.result
    (loses_exit old rests c.args.number c.requires.number c.args.method.now (option_map view c.args.params) c.cancel_all.new.self
    (sym (c.if-eq.ensures ∙ ap (is_named (codes "build/exit")) c.as_slice.ensures)) _ (ap Some c.exit_status.ensures))
    c.cancel_all.ensures.lost

pub returns-in-Some-clause-ok : goal.returns-in-Some-clause-ok
returns-in-Some-clause-ok c =
    let old = c.args.self.now in
    let rests : IsReady old = ready old c.requires.settled c.requires.up c.requires.running c.requires.quiet in
    on_ok_weaker c.cancel.result
    (acts_cancel old rests c.args.number c.requires.number c.args.method.now (option_map view c.args.params) (sym (c.if-eq.ensures ∙ ap (is_named (codes "build/exit")) c.as_slice.ensures)) c.cancel.new.self
    (sym (c.if-eq-2.ensures ∙ ap (is_named (codes "$/cancelRequest")) c.as_slice-2.ensures)) c.in-Some.id (sym c.cancelled_id.ensures ∙ c.in-Some.is))
    c.cancel.ensures.ok

pub returns-in-Some-clause-lost : goal.returns-in-Some-clause-lost
returns-in-Some-clause-lost c =
    let old = c.args.self.now in
    let rests : IsReady old = ready old c.requires.settled c.requires.up c.requires.running c.requires.quiet in
    on_err_weaker c.cancel.result
    (loses_cancel old rests c.args.number c.requires.number c.args.method.now (option_map view c.args.params) (sym (c.if-eq.ensures ∙ ap (is_named (codes "build/exit")) c.as_slice.ensures)) c.cancel.new.self
    (sym (c.if-eq-2.ensures ∙ ap (is_named (codes "$/cancelRequest")) c.as_slice-2.ensures)) c.in-Some.id (sym c.cancelled_id.ensures ∙ c.in-Some.is))
    c.cancel.ensures.lost

pub returns-in_default-clause-ok : goal.returns-in_default-clause-ok
returns-in_default-clause-ok c =
    let old = c.args.self.now in
    let rests : IsReady old = ready old c.requires.settled c.requires.up c.requires.running c.requires.quiet in
    acts_unnamed old rests c.args.number c.requires.number c.args.method.now (option_map view c.args.params) (sym (c.if-eq.ensures ∙ ap (is_named (codes "build/exit")) c.as_slice.ensures))
    (sym c.cancelled_id.ensures ∙ c.in_default.is)

pub returns-else-eq-2-clause-ok : goal.returns-else-eq-2-clause-ok
returns-else-eq-2-clause-ok c =
    let old = c.args.self.now in
    let rests : IsReady old = ready old c.requires.settled c.requires.up c.requires.running c.requires.quiet in
    acts_other old rests c.args.number c.requires.number c.args.method.now (option_map view c.args.params) (sym (c.if-eq.ensures ∙ ap (is_named (codes "build/exit")) c.as_slice.ensures))
    (sym (c.if-eq-2.ensures ∙ ap (is_named (codes "$/cancelRequest")) c.as_slice-2.ensures))

pub returns-then-eq-clause-bare : goal.returns-then-eq-clause-bare
returns-then-eq-clause-bare c =
    bare_call c.args.self.now (record c.args.self.now { taken = c.args.number; status = Some c.exit_status.result }) c.cancel_all.new.self c.cancel_all.result refl c.cancel_all.ensures.bare

pub returns-in-Some-clause-bare : goal.returns-in-Some-clause-bare
returns-in-Some-clause-bare c =
    bare_call c.args.self.now (record c.args.self.now { taken = c.args.number }) c.cancel.new.self c.cancel.result refl c.cancel.ensures.bare

pub returns-in_default-clause-bare : goal.returns-in_default-clause-bare
returns-in_default-clause-bare c = record { is = λ bare. bare; one = λ one. one }

pub returns-else-eq-2-clause-bare : goal.returns-else-eq-2-clause-bare
returns-else-eq-2-clause-bare c = record { is = λ bare. bare; one = λ one. one }

pub returns-then-eq-clause-drains : goal.returns-then-eq-clause-drains
returns-then-eq-clause-drains c = on_ok_weaker c.cancel_all.result (λ none. none.stays) c.cancel_all.ensures.rest
