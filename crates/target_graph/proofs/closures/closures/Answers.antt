use Rattle.std.proofs.Common.{suc, sym, subst, arith}
use Rattle.target_graph.specs.Closures.{AreRows, AreDeep, IsWhole, lists}
use Rattle.target_graph.proofs.Cycles.{no_first_cycle}
use Rattle.target_graph.proofs.Sweeps.{rows_none, deep_none, closures_whole, none_circle, never_deep}
use Rattle.target_graph.proofs.closures.closures.Goals as goal
use Rattle.target_graph.proofs.closures.closures.Goals.{else-loop-test, then-loop-test+in_ok-sweep+else-branch+else-counter-end}

pub loop-init : goal.loop-init
loop-init c =
    let targets = c.args.targets.now in (
      subst (AreRows targets) (sym c.in_ok-rows.ensures) (rows_none targets),
      deep_none targets (lists c.in_ok-rows.rows),
      λ h. absurd (omega arith),
    )

pub returns-then-branch : goal.returns-then-branch
returns-then-branch c =
    let targets = c.args.targets.now in
    let rows = lists c.sweep.new.rows in
    let made = subst (IsWhole targets rows) c.if-branch.true c.in_ok-sweep.ensures.whole in
    (closures_whole targets rows c.in_ok-sweep.ensures.rows made, no_first_cycle targets (none_circle targets rows c.in_ok-sweep.ensures.rows made))

pub loop-preserved : goal.loop-preserved
loop-preserved c =
    let targets = c.args.targets.now in
    let rows = lists c.sweep.new.rows in (
      c.in_ok-sweep.ensures.rows,
      subst (λ n. AreDeep targets n rows) (omega arith) (c.in_ok-sweep.ensures.deep c.loop.counter c.loop.invariant.1),
      λ h. subst (IsWhole targets rows) c.if-branch.false c.in_ok-sweep.ensures.whole,
    )

pub unreachable-requires : goal.unreachable-requires
unreachable-requires c =
    let targets = c.args.targets.now in
    elim c.loop-test.branch [
      | else-loop-test w ↦ absurd (omega (arith, w.loop-test.false, c.loop.auto.counter-end))
      | then-loop-test+in_ok-sweep+else-branch+else-counter-end w ↦ (
          let left = subst (IsWhole targets (lists w.sweep.new.rows)) w.if-branch.false w.in_ok-sweep.ensures.whole in
          never_deep targets c.in-Ok.ensures.0 (suc c.loop.counter) left.index (omega arith)
          (w.in_ok-sweep.ensures.deep c.loop.counter c.loop.invariant.1 left.index left.within left.unmade))
    ]
