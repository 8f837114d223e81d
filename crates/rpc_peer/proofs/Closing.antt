-- What `indexmap` removes is what is closed.
use Rattle.std.proofs.Common.{◌≡◌, List, [], ◌∷◌, cond, refl, ap, ◌∙◌}
use Rattle.std.specs.Set.{remove_key}
use Rattle.rpc_peer.specs.declared.message.Id.{Id}
use Rattle.rpc_peer.specs.declared.message.Id.TheVariants.{Number, Text}
use Rattle.rpc_peer.specs.contracts.message.IdPartialEq.TheImpl.{eq-value}
use Rattle.rpc_peer.specs.OpenIds.{same_id, without_id}

equal_is_same : (id other : Id) → eq-value.it id other ≡ same_id id other
equal_is_same (Number m) (Number n) = refl
equal_is_same (Number m) (Text t) = refl
equal_is_same (Text s) (Number n) = refl
equal_is_same (Text s) (Text t) = refl

pub removed_is_closed : (id : Id) (ids : List Id) → remove_key (eq-value.it id) ids ≡ without_id id ids
removed_is_closed id [] = refl
removed_is_closed id (other ∷ ids) = ap (λ b. cond b ids (other ∷ remove_key (eq-value.it id) ids)) (equal_is_same id other) ∙ ap (λ rest. cond (same_id id other) ids (other ∷ rest)) (removed_is_closed id ids)
