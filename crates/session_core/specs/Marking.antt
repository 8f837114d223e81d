-- Requests that are marked by their ids: each is to be cancelled.
use Rattle.std.specs.Prelude.{◌||◌, Bool, true, Option, Some, None}
use Rattle.rpc_peer.specs.declared.message.Id.{Id}
use Rattle.rpc_peer.specs.OpenIds.{same_id}
use Rattle.session_core.specs.declared.head.Head.{Head}
use Rattle.session_core.specs.declared.session.Core.{Core}
use Rattle.session_queue.specs.Waiting.{marked_where}

abbrev pub marked_head : (Id → Bool) → Option Head → Option Head
marked_head by None = None
marked_head by (Some head) = Some (record head { cancelled = head.cancelled || by head.id })

-- the head, and those that wait behind it
abbrev pub marked : (Id → Bool) → Core → Core
marked by core = record core { head = marked_head by core.head; queue = marked_where (λ waiting. by waiting.id) core.queue }

-- the one with this id
abbrev pub marked_one : Id → Core → Core
marked_one id core = marked (same_id id) core

abbrev pub marked_all : Core → Core
marked_all core = marked (λ id. true) core
