-- What an order tells once more messages are written in it.
use Rattle.std.proofs.Common.{◌≡◌, ◌++◌, List, [], ◌∷◌, refl, sym, ◌∙◌, append_assoc, append-nil}
use Rattle.rpc_peer.specs.Said.{Said}
use Rattle.session_law.specs.Order.{Event, onto, write, takes_of, writes_of, hands_of, failures_of, end_of}

pub onto-push : (messages : List Said) (m : Said) (order : List Event) → onto (messages ++ m ∷ []) order ≡ write m ∷ onto messages order
onto-push [] m order = refl
onto-push (first ∷ messages) m order = onto-push messages m (write first ∷ order)

pub takes_of-onto : (messages : List Said) (order : List Event) → takes_of (onto messages order) ≡ takes_of order
takes_of-onto [] order = refl
takes_of-onto (m ∷ messages) order = takes_of-onto messages (write m ∷ order)

pub hands_of-onto : (messages : List Said) (order : List Event) → hands_of (onto messages order) ≡ hands_of order
hands_of-onto [] order = refl
hands_of-onto (m ∷ messages) order = hands_of-onto messages (write m ∷ order)

pub failures_of-onto : (messages : List Said) (order : List Event) → failures_of (onto messages order) ≡ failures_of order
failures_of-onto [] order = refl
failures_of-onto (m ∷ messages) order = failures_of-onto messages (write m ∷ order)

pub end_of-onto : (messages : List Said) (order : List Event) → end_of (onto messages order) ≡ end_of order
end_of-onto [] order = refl
end_of-onto (m ∷ messages) order = end_of-onto messages (write m ∷ order)

pub writes_of-onto : (messages : List Said) (order : List Event) → writes_of (onto messages order) ≡ writes_of order ++ messages
writes_of-onto [] order = sym (append-nil (writes_of order))
writes_of-onto (m ∷ messages) order = writes_of-onto messages (write m ∷ order) ∙ append_assoc (writes_of order) (m ∷ []) messages

-- messages that are written behind events are written behind these events of an order
pub onto-append : (messages : List Said) (events order : List Event) → onto messages events ++ order ≡ onto messages (events ++ order)
onto-append [] events order = refl
onto-append (m ∷ messages) events order = onto-append messages (write m ∷ events) order
