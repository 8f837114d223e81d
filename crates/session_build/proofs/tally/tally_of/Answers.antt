use Rattle.std.proofs.Common.{◌+◌, drop, sym, ap, ◌∙◌, arith}
use Rattle.session_build.proofs.TallyLaws.{step_other, step_same}
use Rattle.session_build.specs.Tallies.{tally_from}
use Rattle.session_build.specs.declared.tally.Tally.{Tally}
use Rattle.session_build.proofs.tally.tally_of.Goals as goal
use Rattle.session_build.proofs.tally.tally_of.Goals.{then-eq+in_ok-sum, else-eq}

pub loop-index-preserved : goal.loop-index-preserved
loop-index-preserved c =
    let id = c.args.id.now in
    let documents = c.args.documents.now in
    let tallies = c.args.tallies.now in
    let k = c.loop-index.index in
    let d = c.index-documents-index.result in
    let rest = λ (sum : Tally). tally_from id sum (drop (k + 1) documents) (drop (k + 1) tallies) in
    elim c.if-eq.branch [
      | then-eq+in_ok-sum w ↦
          ap rest (w.sum-is ∙ w.in_ok-sum.ensures)
          ∙ (step_same id c.loop-index.sum documents tallies k d _ c.loop-index-test.true (omega arith) (sym w.if-eq.true ∙ c.eq.ensures) ∙ c.loop-index.invariant)
      | else-eq w ↦
          ap rest w.sum-is
          ∙ (step_other id c.loop-index.sum documents tallies k d c.loop-index.sum c.loop-index-test.true (omega arith) (sym w.if-eq.false ∙ c.eq.ensures) ∙ c.loop-index.invariant)
    ]
