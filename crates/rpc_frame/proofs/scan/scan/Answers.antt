use Rattle.std.proofs.Common.{ℕ, ◌+◌, List, sym, subst, arith}
use Rattle.rpc_frame.proofs.ScanLaws.{ReadsOn, reads_on_step, goes_on_trans}
use Rattle.rpc_frame.proofs.scan.scan.Goals as goal

pub pieces-preserved : goal.pieces-preserved
pieces-preserved c =
    let kept = c.pieces.invariant in
    let first = c.args.marks.now.items in
    let now = c.pieces.marks.items in
    let next = c.settle.new.marks.items in
    let taken = c.step-step.result.1 in
    record {
      within = c.in_ok-reading.ensures.within;
      bound = omega (arith, kept.bound, c.split_at.ensures.back_len, c.step-step.ensures.inside);
      reads_on = subst (λ (t : List ℕ). ReadsOn c.args.reading c.in_ok-reading.reading first next c.args.piece.now t c.args.begun (c.pieces.offset + taken)) (sym c.split_at.ensures.back)
          (reads_on_step c.args.reading c.pieces.reading c.in_ok-reading.reading first now next c.args.piece.now c.pieces.rest.now c.args.begun c.pieces.offset c.step-step.result.0 taken
          kept.reads_on c.step-step.ensures.inside c.step-step.ensures.makes c.in_ok-reading.ensures.scanned);
      goes_on = goes_on_trans first now next kept.goes_on c.settle.ensures.goes_on;
    }
