use Rattle.std.proofs.Common.{◌≡◌, ◌+◌, [], ◌∷◌, ℕ, List, refl, get_or, length, map, take, ap, sym, subst, ◌∙◌, arith}
use Rattle.rpc_peer.specs.Said.{Said}
use Rattle.session_law.specs.IsFramed.{IsFramed}
use Rattle.session_law.specs.Tasks.{build_starts, target_starts}
use Rattle.build_messages.specs.Outgoing.{outgoing_said}
use Rattle.session_build.specs.Telling.{TellsBehind, starts_from}
use Rattle.session_build.proofs.CourseSteps.{start_told}
use Rattle.session_build.proofs.TellLaws.{said_push, starts_more, tells_none, tells_push}
use Rattle.target_graph.specs.Workspace.{Space, id_of}
use Rattle.session_build.proofs.telling.tell_starts.Goals as goal

pub loop-before-init : goal.loop-before-init
loop-before-init c =
    let m = build_starts c.args.at.now.number in
    let said = c.in_ok-build_starts.ensures.said in
    let first : List Said = map outgoing_said c.args.out.now.items in
    tells_push [] first first (map outgoing_said c.push_back.new.self.items) m (tells_none first first refl)
    (said_push c.args.out.now.items c.push_back.new.self.items c.in_ok-build_starts.field-0 m c.in_ok-push_back.ensures.items said)
    (subst IsFramed said c.in_ok-build_starts.ensures.framed) (start_told _)

pub loop-before-preserved : goal.loop-before-preserved
loop-before-preserved c =
    let at = c.args.at.now in
    let keys : List ℕ = at.targets.keys in
    let k = c.loop-before.before in
    let first = build_starts at.number in
    let size : length c.as_slice-targets.result.now ≡ length keys = ap (λ (xs : List ℕ). length xs) c.as_slice-targets.ensures.keys in
    let id =
    c.in_ok-id.ensures
    ∙ (ap (λ (s : Space). id_of s (get_or c.as_slice-targets.result.now k 0)) c.deref-space.ensures
    ∙ ap (λ (ts : List ℕ). id_of at.workspace.value (get_or ts k 0)) c.as_slice-targets.ensures.keys) in
    let m = target_starts at.number (k + 1) (id_of at.workspace.value (get_or keys k 0)) in
    let said = c.in_ok-start.ensures.said ∙ ap (λ (i : List ℕ). target_starts at.number (k + 1) i) id in
    subst (λ (told : List Said). TellsBehind (first ∷ told) (map outgoing_said c.args.out.now.items) (map outgoing_said c.push_back-in-loop-before.new.self.items))
    (sym (starts_more at keys k 0 (let h = c.loop-before-test.true in omega (arith, size, h))))
    (tells_push (first ∷ starts_from at 1 (take k keys)) (map outgoing_said c.args.out.now.items) (map outgoing_said c.loop-before.out.items)
    (map outgoing_said c.push_back-in-loop-before.new.self.items) m
    c.loop-before.invariant (said_push c.loop-before.out.items c.push_back-in-loop-before.new.self.items c.in_ok-start.start m c.in_ok-push_back-2.ensures.items said)
    (subst IsFramed said c.in_ok-start.ensures.framed) (start_told _))
