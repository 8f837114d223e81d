-- What the tree, the output, the input and the crew tell, and how that changes by the events of a session.
use Rattle.std.specs.Prelude.{◌++◌, ℕ, List, flat_map, Option}
use Rattle.ob_text.specs.Held.{Entries}
use Rattle.bsp_edge.specs.Course.{Course}
use Rattle.bsp_edge.specs.Handing.{Hands}
use Rattle.bsp_edge.specs.Streams.{Gives}
use Rattle.session_law.specs.IsFramed.{text_of}
use Rattle.session_law.specs.Order.{Event, writes_of, hands_of, failures_of}
use Rattle.bsp_cli.specs.Session.{RoseBy}

-- what they tell at one moment: what the output was given, what the tree handed out, and its faults
pub record Told : Type 0 where
  pub given : Option (List ℕ)
  pub handed : Option (List Entries)
  pub faults : ℕ

abbrev pub told : Option (List ℕ) → Option (List Entries) → ℕ → Told
told given handed faults = record { given = given; handed = handed; faults = faults }

-- what is left of the input, how far it is, and how many outcomes were collected
pub record Heard : Type 0 where
  pub left : Option (List ℕ)
  pub course : Option Course
  pub collected : ℕ

abbrev pub heard : Option (List ℕ) → Option Course → ℕ → Heard
heard left course collected = record { left = left; course = course; collected = collected }

-- what is told between two moments is the hands and the writes of these events, and these bytes more
pub record ToldBy (events : List Event) (tail : List ℕ) (old new : Told) : Type 0 where
  pub hands : Hands old.handed new.handed (hands_of events)
  pub failures : RoseBy (failures_of events) old.faults new.faults
  pub put : Gives old.given new.given (flat_map text_of (writes_of events) ++ tail)
