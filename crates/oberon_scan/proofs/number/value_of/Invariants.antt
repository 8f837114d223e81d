use Rattle.std.proofs.Common.{◌≡◌, min, take}
use Rattle.oberon_scan.specs.Numbers.{digits_value}
use Rattle.oberon_scan.proofs.number.value_of.Given as goal

abbrev pub invariant-loop-byte : goal.invariant-loop-byte
invariant-loop-byte l = l.value ≡ min (digits_value l.base (take l.byte-index l.digits)) 4294967296
