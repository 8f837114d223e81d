-- Where in an order checks finish that were made.
use Rattle.std.specs.Prelude.{◌≡◌, ◌≢◌, ◌⊎◌, ℕ, List, [], ◌∷◌}
use Rattle.std.specs.List.{All}
use Rattle.bsp_records.specs.declared.results.StatusCode.{StatusCode}
use Rattle.bsp_records.specs.declared.results.StatusCode.TheVariants as statuses
use Rattle.rpc_peer.specs.Said.{Said}
use Rattle.session_law.specs.Order.{Event, take, ends, hand, write, takes_of}
use Rattle.session_law.specs.Tasks.{check_finishes}

-- the message tells that a check finishes, and with an error or with none
pub record IsVerdict (m : Said) : Type 0 where
  pub number : ℕ
  pub check : ℕ
  pub target : ℕ
  pub status : StatusCode
  pub is : m ≡ check_finishes number check target status
  pub made : status ≢ statuses.Cancelled

abbrev pub IsBare : Said → Type 0
IsBare m = IsVerdict m → ⊥

-- First of these messages a check finishes, and none finishes by the others that was made.
pub record FinishesOneFirst (messages : List Said) : Type 0 where
  pub number : ℕ
  pub check : ℕ
  pub target : ℕ
  pub status : StatusCode
  pub others : List Said
  pub are : messages ≡ check_finishes number check target status ∷ others
  pub bare : All IsBare others

-- such a message was written where these bodies had been taken
abbrev pub HasVerdict : List Event → List (List ℕ) → Type 0
HasVerdict [] taken = ⊥
HasVerdict (take body ∷ past) taken = HasVerdict past taken
HasVerdict (ends how ∷ past) taken = HasVerdict past taken
HasVerdict (hand handed ∷ past) taken = HasVerdict past taken
HasVerdict (write m ∷ past) taken = (IsVerdict m × (takes_of past ≡ taken)) ⊎ HasVerdict past taken
