-- What a session is behind the events of its order so far: what it owes, has opened, shows and has ended with.
use Rattle.std.specs.Prelude.{◌||◌, ℕ, ℤ, suc, List, [], ◌∷◌, ◌++◌, codes, Bool, true, false, Option, Some, None, Result, Ok, Err, drop, if◌then◌else◌}
use Rattle.bsp_records.specs.Table.{Table, nothing_shown}
use Rattle.rpc_peer.specs.Meaning.{meaning, invalid_request, parse_error}
use Rattle.rpc_peer.specs.OpenIds.{same_id}
use Rattle.rpc_peer.specs.Said.{Said, request, notification, result, failure}
use Rattle.target_graph.specs.Workspace.{Space}
use Rattle.session_law.specs.Builds.{shown_by}
use Rattle.session_law.specs.History.{Told, all_cleaned}
use Rattle.session_law.specs.Methods.{Verdict, opening, reloading, cleaning, is_named}
use Rattle.session_law.specs.Order.{Event, take, ends, hand, write}
use Rattle.session_law.specs.Reloading.{keys_dropped, keys_of_targets, space_in}
use Rattle.session_law.specs.Requests.{Active, Asked, active_of, all_marked, closed_by, first_up, granted_by, handed_by, is_closing, is_open, opened_by}
use Rattle.session_law.specs.declared.InputEnd.{InputEnd}
use Rattle.session_law.specs.declared.InputEnd.TheVariants.{Border, Damaged, Failed}

-- ---- what an event changes, part by part

-- the workspace in force once a request was answered with a result that was owed this
abbrev pub force_by : Option Verdict → Option Space → Option Space
force_by (Some (opening root file)) force = Some (space_in root file)
force_by (Some (reloading space file)) force = Some (space_in space.root file)
force_by granted force = force

-- a shutdown was answered with this
abbrev pub closes : Option Verdict → Bool
closes (Some v) = is_closing v
closes None = false

-- the codes that a body is owed with the id null: it is no message, or a request whose id is open
abbrev pub nulls_for : Result Said ℤ → List Asked → List ℤ
nulls_for (Ok (request id method params)) requests = if is_open id requests then invalid_request ∷ [] else []
nulls_for (Ok m) requests = []
nulls_for (Err code) requests = code ∷ []

abbrev pub nulls_for_end : InputEnd → List ℤ
nulls_for_end Border = []
nulls_for_end Damaged = parse_error ∷ []
nulls_for_end Failed = []

-- what is still owed with the id null once a message was written
abbrev pub nulls_behind : Said → List ℤ → List ℤ
nulls_behind (failure None code text) nulls = drop 1 nulls
nulls_behind m nulls = nulls

-- the status that a session ends with where it takes an exit
abbrev pub exit_status : Result Said ℤ → Bool → Option ℕ
exit_status (Ok (notification method params)) closed =
    if is_named (codes "build/exit") method then Some (if closed then 0 else 1) else None
exit_status meant closed = None

abbrev pub end_status : InputEnd → ℕ
end_status Border = 1
end_status Damaged = 2
end_status Failed = 3

-- the builds that were answered, once this message is written where these notifications were
abbrev pub builds_by : Said → Option Active → List Said → List Told → List Told
builds_by (result (Some id) value) (Some active) notices builds =
    if same_id id active.id then record { active = active; notices = notices; cleaned = [] } ∷ builds else builds
builds_by m active notices builds = builds

-- the builds once a request was answered with a result that was owed this: it may clean documents
abbrev pub cleaned_by : Option Verdict → List Told → List Told
cleaned_by (Some (cleaning space targets)) builds = all_cleaned (keys_of_targets space targets) builds
cleaned_by (Some (reloading space file)) builds = all_cleaned (keys_dropped space file) builds
cleaned_by granted builds = builds

-- what a message is for the client beside the responses
abbrev pub notice_in : Said → List Said
notice_in (notification method params) = notification method params ∷ []
notice_in (request id method params) = []
notice_in (result id value) = []
notice_in (failure id code text) = []

-- the message is a notification
abbrev pub is_notice : Said → Bool
is_notice (notification method params) = true
is_notice (request id method params) = false
is_notice (result id value) = false
is_notice (failure id code text) = false

-- ---- one record, and one step

pub record Now : Type 0 where
  -- how many bodies were taken
  pub taken : ℕ
  -- the requests that are open, in order of arrival
  pub requests : List Asked
  -- the workspace in force: that of the last initialize or reload that was answered with a result
  pub force : Option Space
  -- a shutdown was answered with a result
  pub closed : Bool
  -- the codes that are owed with the id null, in order of arrival
  pub nulls : List ℤ
  -- the status that the session ended with, where it ended
  pub status : Option ℕ
  -- what a client shows for each document and target
  pub table : Table
  -- what it showed as the tree answered last
  pub table_at_hand : Table
  -- the notifications that were written since then, the oldest first
  pub notices : List Said
  -- what happened last is that a notification was written
  pub telling : Bool
  -- the builds that were answered with a result, the newest first, each with what it told and what was cleaned since
  pub builds : List Told

abbrev pub at_start : Now
at_start =
    record {
      taken = 0;
      requests = [];
      force = None;
      closed = false;
      nulls = [];
      status = None;
      table = nothing_shown;
      table_at_hand = nothing_shown;
      notices = [];
      telling = false;
      builds = [];
    }

-- the requests that are open, the first of them judged by the workspace in force
abbrev pub standing : Now → List Asked
standing now = first_up now.force now.requests

-- what the request is owed then that a message answers with a result
abbrev pub granted_in : Said → Now → Option Verdict
granted_in m now = granted_by m (standing now)

abbrev pub by_event : Event → Now → Now
by_event (take body) now =
    record now {
      taken = suc now.taken;
      requests = opened_by (meaning body) (suc now.taken) now.force now.closed now.requests;
      nulls = now.nulls ++ nulls_for (meaning body) now.requests;
      status = exit_status (meaning body) now.closed;
      telling = false;
    }
by_event (ends how) now =
    record now {
      requests = all_marked now.requests;
      nulls = now.nulls ++ nulls_for_end how;
      status = Some (end_status how);
      telling = false;
    }
by_event (hand handed) now =
    record now {
      requests = handed_by handed (standing now);
      table_at_hand = now.table;
      notices = [];
      telling = false;
    }
by_event (write m) now =
    record now {
      requests = closed_by m now.requests;
      force = force_by (granted_in m now) now.force;
      closed = now.closed || closes (granted_in m now);
      nulls = nulls_behind m now.nulls;
      table = shown_by m now.table;
      notices = now.notices ++ notice_in m;
      telling = is_notice m;
      builds = cleaned_by (granted_in m now) (builds_by m (active_of now.requests) now.notices now.builds);
    }

-- what the session is behind these events
abbrev pub after : List Event → Now
after [] = at_start
after (event ∷ past) = by_event event (after past)

-- ---- parts of it that are spoken of alone

abbrev pub status_after : List Event → Option ℕ
status_after order = (after order).status
