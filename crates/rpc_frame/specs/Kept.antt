-- What a decoder knows of the bytes that it keeps.
use Rattle.std.specs.Prelude.{◌+◌, ◌≤◌, length, drop}
use Rattle.rpc_frame.specs.Limits.{stream_limit}
use Rattle.rpc_frame.specs.declared.stream.Decoder.TheInside.{Inside}
use Rattle.rpc_frame.specs.Partial.{IsFitReading, Scanned}

pub record KnowsBytes (d : Inside) : Type 0 where
  -- the bytes that were given and are still in memory are no more than those that wait
  pub half : d.start ≤ length (drop d.start d.bytes.items)
  pub bound : d.given_end + length (drop d.start d.bytes.items) ≤ stream_limit
  pub within : IsFitReading d.reading
  pub scanned : Scanned d.given_end d.reading d.marks.items (drop d.start d.bytes.items)
