-- A build that is asked for by a request, once its documents are handed out.
use Rattle.ob_text.specs.Held.{Entries}
use Rattle.rpc_peer.specs.declared.message.Id.{Id}
use Rattle.build_messages.specs.Documents.{build_of}
use Rattle.session_build.specs.declared.building.BuildRequest.{BuildRequest}
use Rattle.session_law.specs.Requests.{Active}
use Rattle.target_graph.specs.Workspace.{Space}

-- the build that is asked for by the request with this id, once these documents are handed out
abbrev pub requested : Space → BuildRequest → Entries → Id → Active
requested space request entries id =
    record { id = id; number = request.number; build = build_of space request.asked request.origin; entries = entries }
