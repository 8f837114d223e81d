-- Which messages are read again as what they said, once they were written.
use Rattle.std.specs.Prelude.{◌≤◌, FitsSigned, Option, Some, None}
use Rattle.std.specs.Int.{w64}
use Rattle.serde_json.specs.Data.{Data, null, boolean, number, string, array, object, depth}
use Rattle.rpc_peer.specs.Meaning.{nesting_limit}
use Rattle.rpc_peer.specs.Said.{Said, request, notification, result, failure, said_data, HasId}

-- params are an array, an object, or none
abbrev pub IsParams : Option Data → Type 0
IsParams None = Unit {0}
IsParams (Some null) = ⊥
IsParams (Some (boolean b)) = ⊥
IsParams (Some (number n)) = ⊥
IsParams (Some (string t)) = ⊥
IsParams (Some (array items)) = Unit {0}
IsParams (Some (object ms)) = Unit {0}

abbrev pub HasParams : Said → Type 0
HasParams (request id method params) = IsParams params
HasParams (notification method params) = IsParams params
HasParams (result id value) = Unit {0}
HasParams (failure id code message) = Unit {0}

-- the code of a failure has 64 bits with sign, as each in memory has
abbrev pub HasCode : Said → Type 0
HasCode (request id method params) = Unit {0}
HasCode (notification method params) = Unit {0}
HasCode (result id value) = Unit {0}
HasCode (failure id code message) = FitsSigned w64 code

-- its id is one, its params are params, and it doesn't nest deeper than a body may
pub record Returns (m : Said) : Type 0 where
  pub id : HasId m
  pub params : HasParams m
  pub nests : depth (said_data m) ≤ nesting_limit
