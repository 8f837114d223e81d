-- Calls of which some were told to fail, counted from 1.
use Rattle.std.specs.Prelude.{ℕ, List, Contains}
use Rattle.bsp_edge.specs.Faults.{counted}

pub record Calls : Type 0 where
  -- the ordinals of the calls that fail
  pub failing : List ℕ
  -- how many calls were made
  pub made : ℕ
  -- how many faults were counted
  pub faults : ℕ

-- the next call is one of those that fail
abbrev pub FailsNext : Calls → Type 0
FailsNext calls = Contains calls.failing (counted calls.made)

-- one more call was made
abbrev pub passed_call : Calls → Calls
passed_call calls = record { failing = calls.failing; made = counted calls.made; faults = calls.faults }

-- one more call was made, and it failed
abbrev pub failed_call : Calls → Calls
failed_call calls = record { failing = calls.failing; made = counted calls.made; faults = counted calls.faults }
