-- The numbers of a spot are within their limits.
use Rattle.std.specs.Prelude.{◌≤◌}
use Rattle.rpc_frame.specs.Limits.{content_limit, digit_limit}
use Rattle.rpc_frame.specs.declared.head.Spot.{Spot}
use Rattle.rpc_frame.specs.declared.head.Spot.TheVariants.{Field, Name, Value, Digits, Behind, LineEnd, Closing}
use Rattle.rpc_frame.specs.declared.head.Next.{Next}
use Rattle.rpc_frame.specs.declared.head.Next.TheVariants.{On, Closed, Bad}

abbrev pub IsFit : Spot → Type 0
IsFit (Field at) = at ≤ 14
IsFit Name = Unit {0}
IsFit Value = Unit {0}
IsFit (Digits count number) = (count ≤ digit_limit) × (number ≤ content_limit)
IsFit (Behind number) = Unit {0}
IsFit LineEnd = Unit {0}
IsFit (Closing size) = Unit {0}

abbrev pub IsFitNext : Next → Type 0
IsFitNext (On head) = IsFit head.spot
IsFitNext (Closed size) = Unit {0}
IsFitNext (Bad kind) = Unit {0}
