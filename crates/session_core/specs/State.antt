-- What a core keeps of a session, in the words of the law.
use Rattle.std.specs.Prelude.{ℕ, List, map, Bool, Option, option_map}
use Rattle.ob_text.specs.Held.{Entries}
use Rattle.ob_text.specs.declared.held.Snapshot.{Snapshot}
use Rattle.rpc_peer.specs.Said.{Said}
use Rattle.build_messages.specs.Outgoing.{outgoing_said}
use Rattle.session_verdicts.specs.Judging.{queued_call}
use Rattle.session_core.specs.declared.head.Head.{Head}
use Rattle.session_core.specs.declared.session.Core.{Core}
use Rattle.session_verdicts.specs.declared.verdicts.Queued.{Queued}
use Rattle.session_law.specs.Methods.{queued}
use Rattle.session_law.specs.Open.{Plain}
use Rattle.session_law.specs.Requests.{Asked}
use Rattle.session_queue.specs.declared.waiting.Waiting.{Waiting}
use Rattle.target_graph.specs.Workspace.{Space}
use Rattle.task_stream.specs.Showing.{shows}

-- what is still to be written
abbrev pub said_out : Core → List Said
said_out core = map outgoing_said core.out.items

abbrev pub plain_of : Core → Plain
plain_of core = record { force = core.workspace; closed = core.closed; table = shows core.shown; taken = core.taken; status = core.status }

-- a request that waits
abbrev pub asked_of : Waiting Queued → Asked
asked_of waiting = record { id = waiting.id; number = waiting.number; verdict = queued (queued_call waiting.call); cancelled = waiting.cancelled }

abbrev pub waiting_of : Core → List Asked
waiting_of core = map asked_of core.queue

-- what was handed out, as the law has it
abbrev pub handed_of : Option Snapshot → Option Entries
handed_of got = option_map (λ snapshot. snapshot.entries) got

-- What a core keeps beside what is to be written, what a client shows and the checks of earlier builds.
pub record Rest : Type 0 where
  pub head : Option Head
  pub queue : List (Waiting Queued)
  pub workspace : Option Space
  -- what the tree is to be asked for
  pub tree : Option (List (List ℕ))
  pub drains : Bool
  -- where the numbers of the head's jobs begin, and the first that wasn't given yet
  pub jobs : ℕ
  pub given : ℕ
  pub status : Option ℕ
  pub dead : Bool

abbrev pub rest_of : Core → Rest
rest_of core =
    record {
      head = core.head;
      queue = core.queue;
      workspace = core.workspace;
      tree = core.tree;
      drains = core.drains;
      jobs = core.jobs;
      given = core.given;
      status = core.status;
      dead = core.dead;
    }
