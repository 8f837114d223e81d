-- The ids of the open requests, in order of arrival.
use Rattle.std.specs.Prelude.{◌≡◌, ◌==◌, List, [], ◌∷◌, Bool, true, false, if◌then◌else◌, Result, Ok, Err, ⊤}
use Rattle.std.specs.Cmp.Lexicographic.{pointwise}
use Rattle.std.specs.List.{list_any}
use Rattle.std.specs.Ordering.{int_eq}
use Rattle.rpc_peer.specs.declared.message.Id.{Id}
use Rattle.rpc_peer.specs.declared.message.Id.TheVariants.{Number, Text}
use Rattle.rpc_peer.specs.declared.open_ids.BeginFault.{BeginFault}
use Rattle.rpc_peer.specs.declared.open_ids.BeginFault.TheVariants.{AlreadyOpen, NoMemory}

-- a number and a text are never the same id
abbrev pub same_id : Id → Id → Bool
same_id (Number m) (Number n) = int_eq m n
same_id (Text s) (Text t) = pointwise ◌==◌ s t
same_id (Number m) (Text t) = false
same_id (Text s) (Number n) = false

abbrev pub has_id : Id → List Id → Bool
has_id id ids = list_any (same_id id) ids

-- the open ids without this one
abbrev pub without_id : Id → List Id → List Id
without_id id [] = []
without_id id (other ∷ ids) = if same_id id other then ids else other ∷ without_id id ids

-- an id is refused as open exactly where it is; there may be no memory for one that isn't
abbrev pub BeginsAs : Result ⊤ BeginFault → Bool → Type 0
BeginsAs (Ok u) was_open = was_open ≡ false
BeginsAs (Err AlreadyOpen) was_open = was_open ≡ true
BeginsAs (Err NoMemory) was_open = was_open ≡ false
