use Rattle.std.proofs.Common.{◌+◌, List, ℕ, sym, subst}
use Rattle.target_graph.proofs.Marked.{IsMarkedTo, marked_none, marked_more, marked_less, marked_all}
use Rattle.target_graph.proofs.walk.marked.Goals as goal
use Rattle.target_graph.proofs.walk.marked.Goals.{then-marks-index+in_ok-push, else-marks-index}

pub loop-index-init : goal.loop-index-init
loop-index-init c = subst (λ (ps : List ℕ). IsMarkedTo c.args.marks.now 0 ps) (sym c.new-indices.ensures.items) (marked_none c.args.marks.now)

pub loop-index-preserved : goal.loop-index-preserved
loop-index-preserved c =
    elim c.if-marks-index.branch [
      | then-marks-index+in_ok-push w ↦
          rw w.indices-is
          (subst (λ (ps : List ℕ). IsMarkedTo c.args.marks.now (c.loop-index.index + 1) ps) (sym w.in_ok-push.ensures.items)
          (marked_more c.args.marks.now c.loop-index.index c.loop-index.indices.items c.loop-index.invariant w.if-marks-index.true))
      | else-marks-index w ↦ rw w.indices-is (marked_less c.args.marks.now c.loop-index.index c.loop-index.indices.items c.loop-index.invariant w.if-marks-index.false)
    ]

pub returns : goal.returns
returns c = marked_all c.args.marks.now c.loop-index.index c.loop-index.indices.items c.loop-index-test.false c.loop-index.invariant
