use Rattle.std.proofs.Common.{◌∙◌}
use Rattle.bsp_cli.proofs.WritingLaws.{goes_on}
use Rattle.bsp_cli.proofs.writing.write_all.Goals as goal

pub pieces-preserved : goal.pieces-preserved
pieces-preserved g c =
    record {
      gives = rw c.split_at.ensures.back (goes_on _ _ _ c.args.bytes.now c.pieces.rest.now c.in-Took.count c.pieces.invariant.gives c.in-Took.ensures.given);
      same = c.in-Took.ensures.faults ∙ c.pieces.invariant.same;
    }
