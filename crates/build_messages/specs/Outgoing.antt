-- What a message says that waits to be written.
use Rattle.rpc_peer.specs.Said.{Said, said}
use Rattle.build_messages.specs.declared.outgoing.Outgoing.{Outgoing}
use Rattle.build_messages.specs.declared.outgoing.Outgoing.TheVariants.{Message, Publication}
use Rattle.session_law.specs.Builds.{publication_said}

abbrev pub outgoing_said : Outgoing → Said
outgoing_said (Message message) = said message
outgoing_said (Publication piece) = publication_said piece
