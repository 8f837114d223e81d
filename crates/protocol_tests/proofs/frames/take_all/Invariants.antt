use Rattle.std.proofs.Common.{◌+◌, ◌≤◌, length}
use Rattle.protocol_tests.proofs.frames.take_all.Given as goal

abbrev pub invariant-frames : goal.invariant-frames
invariant-frames l =
    l.decoder.given_end + length l.decoder.bytes ≤ l.fn.decoder.given_end + length l.fn.decoder.bytes

abbrev pub decreases-frames : goal.decreases-frames
decreases-frames l = length l.decoder.bytes
