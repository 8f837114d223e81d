-- The set of ids beside a queue.
use Rattle.std.specs.Prelude.{◌≡◌, List, Bool}
use Rattle.indexmap.specs.IndexSet.{IndexSet, contains}
use Rattle.rpc_peer.specs.contracts.message.IdPartialEq.TheImpl.{eq-value}
use Rattle.rpc_peer.specs.declared.message.Id.{Id}
use Rattle.session_queue.specs.Waiting.{AreApart, ids, is_open}
use Rattle.session_queue.specs.declared.waiting.Waiting.{Waiting}

-- as a set compares ids
abbrev pub equal : Id → Id → Bool
equal = eq-value.it

-- no two requests have one id, and the set has those of all that wait
pub record HasIdsOf {T S : Type 0} (queue : List (Waiting T)) (set : IndexSet Id S) : Type 0 where
  pub apart : AreApart (ids queue)
  pub known : (id : Id) → contains equal set id ≡ is_open id queue
