use Rattle.std.proofs.Common.{◌≡◌, ◌++◌, ◌<◌}
use Rattle.task_stream.specs.Pieces.{pieces}
use Rattle.task_stream.specs.Waiting.{records_of}
use Rattle.task_stream.proofs.CutLaws.{pieces_left}
use Rattle.task_stream.proofs.shown.cut.Given as goal

abbrev pub decreases-pieces : goal.decreases-pieces
decreases-pieces l = l.left

abbrev pub invariant-pieces : goal.invariant-pieces
invariant-pieces l =
    record {
      -- the first piece was made
      some : 0 < l.left → l.left < l.count;
      goes_on : l.pieces.items ++ pieces_left l.fn.whole.key l.fn.whole.origin.value (records_of l.fn.whole) l.count l.left
          ≡ pieces l.fn.whole.key l.fn.whole.origin.value (records_of l.fn.whole);
    }
