use Rattle.std.proofs.Common.{◌<◌, ◌≤◌, ◌+◌, ℕ, List, get_or, length, map, take, refl, sym, subst}
use Rattle.std.proofs.lemmas.List.{take_all}
use Rattle.rpc_peer.specs.Said.{Said}
use Rattle.session_law.specs.IsFramed.{IsFramed}
use Rattle.session_build.specs.Ending.{target_reported, targets_reported}
use Rattle.build_messages.specs.Outgoing.{outgoing_said}
use Rattle.session_build.specs.Telling.{TellsBehind}
use Rattle.session_build.proofs.CourseSteps.{finish_told}
use Rattle.session_build.proofs.TellLaws.{reported_more, said_push, tells_none, tells_push}
use Rattle.session_build.proofs.ending.report_targets.Goals as goal

pub loop-index-init : goal.loop-index-init
loop-index-init c = tells_none (map outgoing_said c.args.out.now.items) (map outgoing_said c.args.out.now.items) refl

pub loop-index-preserved : goal.loop-index-preserved
loop-index-preserved c =
    let at = c.args.at.now in
    let tallies = c.args.tallies.now in
    let keys = at.targets.keys in
    let k = c.loop-index.index in
    let m = target_reported at tallies (k + 1) (get_or keys k 0) in
    let within : k < length keys = subst (λ n. k < n) c.len-index-end.ensures.len c.loop-index-test.true in
    subst (λ (told : List Said). TellsBehind told (map outgoing_said c.args.out.now.items) (map outgoing_said c.push_back.new.self.items))
    (sym (reported_more at tallies keys k 0 within))
    (tells_push (targets_reported at tallies 1 (take k keys)) (map outgoing_said c.args.out.now.items) (map outgoing_said c.loop-index.out.items)
    (map outgoing_said c.push_back.new.self.items) m c.loop-index.invariant
    (said_push c.loop-index.out.items c.push_back.new.self.items c.in_ok-report_target.field-0 m c.in_ok-push_back.ensures.items c.in_ok-report_target.ensures.said)
    (subst IsFramed c.in_ok-report_target.ensures.said c.in_ok-report_target.ensures.framed) (finish_told _))

pub returns : goal.returns
returns c =
    let at = c.args.at.now in
    subst (λ (keys : List ℕ). TellsBehind (targets_reported at c.args.tallies.now 1 keys) (map outgoing_said c.args.out.now.items) (map outgoing_said c.loop-index.out.items))
    (take_all c.loop-index.index at.targets.keys (subst (λ n. n ≤ c.loop-index.index) c.len-index-end.ensures.len c.loop-index-test.false)) c.loop-index.invariant
