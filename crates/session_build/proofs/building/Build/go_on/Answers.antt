use Rattle.std.proofs.Common.{List, length, map, ap, arith}
use Rattle.build_messages.specs.Outgoing.{outgoing_said}
use Rattle.session_build.specs.declared.going.Job.{Job}
use Rattle.session_build.proofs.JobLaws.{none_left}
use Rattle.session_build.proofs.PausedLaws.{ended, waits}
use Rattle.session_build.proofs.building.Build.go_on.Goals as goal

pub returns-then-len-gt0 : goal.returns-then-len-gt0
returns-then-len-gt0 c =
    let b = c.args.self in
    let is = c.len.ensures in
    let ok = b.going.jobs.ok.0 in
    waits b c.args.kept.now (map outgoing_said c.args.out.now.items) c.requires
    (λ none. (let size = ap (λ (js : List Job). length js) none in
    let some = c.if-len-gt0.true in
    omega (arith, size, some, is, ok)))
    c.begun-count.ensures.few

pub returns : goal.returns
returns c =
    ended c.args.self c.args.kept.now c.end.new.kept (map outgoing_said c.args.out.now.items) (map outgoing_said c.end.new.out.items) c.in_ok-failed.failed c.in_ok-failed.remains
    (none_left c.args.self.going.jobs.items (let none = c.if-len-gt0.false in let is = c.len.ensures in omega (arith, none, is, c.args.self.going.jobs.ok.0))) c.in_ok-failed.ensures
