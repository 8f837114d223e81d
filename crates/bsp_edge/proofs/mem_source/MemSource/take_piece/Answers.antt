use Rattle.std.proofs.Common.{Some, ap, arith, length}
use Rattle.bsp_edge.proofs.PieceLaws.{piece_taken}
use Rattle.bsp_edge.proofs.mem_source.MemSource.take_piece.Goals as goal

pub upto_quiet-count-requires : goal.upto_quiet-count-requires
upto_quiet-count-requires c = rw c.as_slice-3.ensures.value c.self.invariant.polls_rise

pub returns-clause-left : goal.returns-clause-left
returns-clause-left c =
    let copied = rw (c.split_at.ensures.back, c.as_slice.ensures.value) at c.copy_front.ensures in
    rw (← c.self.view_is) (record {
      some = omega arith;
      within = omega arith;
      taken = ap Some (piece_taken c.self.inside.bytes.items _ c.self.inside.offset c.upto_quiet-count.result copied);
    })

pub returns-clause-answer : goal.returns-clause-answer
returns-clause-answer c =
    let left = rw c.as_slice.ensures.value at (ap length c.split_at.ensures.back) in
    let uncut = rw c.as_slice-2.ensures.value at c.upto_cut-uncut.ensures.cuts in
    let awake = rw c.as_slice-3.ensures.value at c.upto_quiet-count.ensures.quiet in
    let longest = rw c.as_slice-2.ensures.value at c.upto_cut-uncut.ensures.longest in
    let longest_awake = rw c.as_slice-3.ensures.value at c.upto_quiet-count.ensures.longest in
    rw (← c.self.view_is) (record {
      piece = record {
        fits = omega arith;
        there = omega (arith, left);
        uncut = λ k d below ahead. omega (arith, uncut k d below ahead);
        awake = awake;
      };
      longest = λ other piece. longest_awake other (longest other (omega (arith, left, piece.fits, piece.there)) piece.uncut) piece.awake;
    })
