use Rattle.std.proofs.Common.{◌≡◌, ◌++◌, ◌∷◌, [], map, ap, ◌∙◌}
use Rattle.std.proofs.lemmas.List.{map-append}
use Rattle.std.proofs.lemmas.Result.{on_ok_weaker}
use Rattle.build_messages.specs.Outgoing.{outgoing_said}
use Rattle.build_messages.specs.declared.outgoing.Outgoing.TheVariants as waiting
use Rattle.session_core.proofs.Cancelled.{core_cancels}
use Rattle.session_core.specs.State.{plain_of, rest_of, said_out}
use Rattle.session_core.specs.declared.session.Core.{Core}
use Rattle.session_law.specs.Builds.{cancelled_said}
use Rattle.session_core.proofs.Bare.{bare_told, told_bare}
use Rattle.std.proofs.Common.{refl}
use Rattle.session_core.proofs.session.Core.cancel_build.Goals as goal

pub returns-clause-ok : goal.returns-clause-ok
returns-clause-ok c =
    let old = c.args.self.now in
    let same = c.tell.ensures.same in
    let told = c.cancel.new.out.items in
    let answer = c.in_ok-cancelled.field-0 in
    let items : map outgoing_said c.push_back.new.self.items ≡ map outgoing_said told ++ cancelled_said c.args.id c.args.origin ∷ [] =
    ap (map outgoing_said) c.in_ok-push_back.ensures.items
    ∙ (map-append outgoing_said told (waiting.Message answer ∷ []) ∙ ap (λ m. map outgoing_said told ++ m ∷ []) c.in_ok-cancelled.ensures) in
    on_ok_weaker c.tell.result
    (λ said o g order mid first id_is origin_is space_is at_work.
    core_cancels old c.tell.new.self c.args.build c.args.id c.args.origin c.cancel.new.kept (map outgoing_said c.new-told.result.items) (map outgoing_said told) c.in_ok-cancel.ensures
    (ap (map outgoing_said) c.new-told.ensures.items) (said ∙ ap (λ ms. said_out old ++ ms) items) (ap plain_of same) (ap (λ (core : Core). core.workspace) same) (ap (λ (core : Core). core.kept) same)
    c.requires.named c.requires.short o g order mid first id_is origin_is space_is at_work)
    c.tell.ensures.said

pub returns-clause-bare : goal.returns-clause-bare
unfolding cancelled_said
returns-clause-bare c =
    let old = c.args.self.now in
    let told = c.cancel.new.out.items in
    let answer = c.in_ok-cancelled.field-0 in
    let items : map outgoing_said c.push_back.new.self.items ≡ map outgoing_said told ++ cancelled_said c.args.id c.args.origin ∷ [] =
    ap (map outgoing_said) c.in_ok-push_back.ensures.items
    ∙ (map-append outgoing_said told (waiting.Message answer ∷ []) ∙ ap (λ m. map outgoing_said told ++ m ∷ []) c.in_ok-cancelled.ensures) in
    on_ok_weaker c.tell.result
    (λ said. bare_told old c.tell.new.self (map outgoing_said told) (cancelled_said c.args.id c.args.origin) (said ∙ ap (λ ms. said_out old ++ ms) items)
    (told_bare (map outgoing_said c.new-told.result.items) (map outgoing_said told) c.in_ok-cancel.ensures.own (ap (map outgoing_said) c.new-told.ensures.items) c.in_ok-cancel.ensures.tells.are c.in_ok-cancel.ensures.bare) refl)
    c.tell.ensures.said

pub returns-clause-rest : goal.returns-clause-rest
returns-clause-rest c = on_ok_weaker c.tell.result (λ said. ap rest_of c.tell.ensures.same) c.tell.ensures.said
