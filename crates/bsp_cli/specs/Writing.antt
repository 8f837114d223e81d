-- What is written on the way of a session.
use Rattle.std.specs.Prelude.{◌≡◌, ◌≢◌, ◌++◌, ◌<◌, ℕ, List, [], ◌∷◌, length, flat_map, Option, Result, Ok, Err}
use Rattle.std.specs.List.{All}
use Rattle.bsp_edge.specs.Streams.{Gives}
use Rattle.rpc_peer.specs.Said.{Said}
use Rattle.session_law.specs.IsFramed.{text_of}
use Rattle.session_law.specs.EachRests.{EachRests}
use Rattle.session_law.specs.Lawful.{Lawful}
use Rattle.session_law.specs.Order.{Event, onto, takes_of, writes_of, end_of}
use Rattle.session_law.specs.declared.InputEnd.{InputEnd}
use Rattle.session_core.specs.Standing.{StandsFor}
use Rattle.session_core.specs.State.{said_out}
use Rattle.session_core.specs.declared.session.Core.{Core}
use Rattle.bsp_cli.specs.Outside.{Told, ToldBy}
use Rattle.bsp_cli.specs.Session.{IsCut}
use Rattle.bsp_cli.specs.declared.stop.Stop.{Stop}
use Rattle.bsp_cli.specs.declared.stop.Stop.TheVariants.{Sink, NoMemory}

-- these bytes were given but for the last of them
pub record GivesFront (old new : Option (List ℕ)) (bytes : List ℕ) : Type 0 where
  pub front : List ℕ
  pub rest : List ℕ
  pub more : 0 < length rest
  pub whole : bytes ≡ front ++ rest
  pub given : Gives old new front

-- the order is lawful, and each step of it goes as far as it can
pub record GoesWell (order : List Event) : Type 0 where
  pub lawful : Lawful order
  pub rests : EachRests order

-- the core went from one state to the next by writing messages, the next that it had to write
pub record Flushes (c d : Core) (old new : Option (List ℕ)) : Type 0 where
  pub messages : List Said
  pub all : said_out c ≡ messages ++ said_out d
  pub stands : (order : List Event) → StandsFor c order → StandsFor d (onto messages order)
  pub put : Gives old new (flat_map text_of messages)

-- the core wrote messages, and at most a proper front of the next, when it had to stop
pub record Halts (c : Core) (old new : Option (List ℕ)) : Type 0 where
  pub messages : List Said
  pub unwritten : List Said
  pub all : said_out c ≡ messages ++ unwritten
  pub tail : List ℕ
  pub well : (order : List Event) → StandsFor c order → GoesWell (onto messages order)
  pub put : Gives old new (flat_map text_of messages ++ tail)
  pub cut : tail ≢ [] → IsCut tail

-- the core acted on an event, and wrote messages, each of which is such
pub record ActsThrough (Such : Said → Type 0) (c d : Core) (event : Event) (old new : Option (List ℕ)) : Type 0 where
  pub messages : List Said
  pub such : All Such messages
  pub stands : (order : List Event) → StandsFor c order → StandsFor d (onto messages (event ∷ order))
  pub put : Gives old new (flat_map text_of messages)

-- the core wrote messages on an event, and at most a proper front of the next, when it had to stop
pub record HaltsAt (Such : Said → Type 0) (c : Core) (event : Event) (old new : Option (List ℕ)) : Type 0 where
  pub messages : List Said
  pub such : All Such messages
  pub tail : List ℕ
  pub well : (order : List Event) → StandsFor c order → GoesWell (onto messages (event ∷ order))
  pub put : Gives old new (flat_map text_of messages ++ tail)
  pub cut : tail ≢ [] → IsCut tail

-- any message
abbrev pub IsAny : Said → Type 0
IsAny m = Unit {0}

-- The core went from one state to the next by these events, the newest first: it took these bodies, was told of this end of
-- the input, where it was told of one, and wrote such messages.
pub record GoesThrough (Such : Said → Type 0) (c d : Core) (bodies : List (List ℕ)) (end : Option InputEnd) (old new : Told) : Type 0 where
  pub events : List Event
  pub stands : (order : List Event) → StandsFor c order → StandsFor d (events ++ order)
  pub takes : takes_of events ≡ bodies
  pub ended : end_of events ≡ end
  pub such : All Such (writes_of events)
  pub tells : ToldBy events [] old new

-- the core went on by these events, and wrote at most a proper front of the next message, when it had to stop
pub record Stops (Such : Said → Type 0) (c : Core) (bodies : List (List ℕ)) (end : Option InputEnd) (old new : Told) : Type 0 where
  pub events : List Event
  pub well : (order : List Event) → StandsFor c order → GoesWell (events ++ order)
  pub takes : takes_of events ≡ bodies
  pub ended : end_of events ≡ end
  pub such : All Such (writes_of events)
  pub tail : List ℕ
  pub tells : ToldBy events tail old new
  pub cut : tail ≢ [] → IsCut tail

-- what a message became that was sent: given whole, or in part where the sink failed, or not at all
abbrev pub Sends : Option (List ℕ) → Option (List ℕ) → List ℕ → Result Unit Stop → Type 0
Sends old new text (Ok done) = Gives old new text
Sends old new text (Err Sink) = GivesFront old new text
Sends old new text (Err NoMemory) = new ≡ old
