use Rattle.std.proofs.Common.{◌≡◌, Err, rules, subst, w32, to_z, of_z}
use Rattle.std.proofs.lemmas.Int.{to_z-of_z}
use Rattle.std.proofs.lemmas.Result.{on_err_weaker, on_ok_weaker}
use Rattle.session_core.proofs.Requests.{lost_numbered, ready, refuses}
use Rattle.session_core.proofs.Settling.{on_ok_both}
use Rattle.session_core.specs.Acting.{ActsOn}
use Rattle.session_core.proofs.session.Core.refuse_body.Goals as goal
use Rattle.session_core.proofs.Ready.{IsReady}

pub returns-clause-ok : goal.returns-clause-ok
returns-clause-ok c =
    let old = c.args.self.now in
    let rests : IsReady old = ready old c.requires.settled c.requires.up c.requires.running c.requires.quiet in
    let code : to_z w32 (of_z w32 c.args.code) ≡ c.args.code = to_z-of_z w32 c.args.code (search rules) in
    on_ok_weaker c.refuse.result
    (λ both. subst (λ z. ActsOn old c.refuse.new.self (Err z)) code
    (refuses old rests c.args.number c.requires.number c.refuse.new.self (to_z w32 (of_z w32 c.args.code)) both.0 c.refuse.ensures.same c.refuse.ensures.framed both.1))
    (on_ok_both _ _ c.refuse.result c.refuse.ensures.said c.refuse.ensures.notices)

pub returns-clause-lost : goal.returns-clause-lost
returns-clause-lost c =
    let old = c.args.self.now in
    let rests : IsReady old = ready old c.requires.settled c.requires.up c.requires.running c.requires.quiet in
    on_err_weaker c.refuse.result (λ same. lost_numbered old rests c.args.number c.requires.number c.refuse.new.self _ same) c.refuse.ensures.err
