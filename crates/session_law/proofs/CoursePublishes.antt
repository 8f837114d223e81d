-- What a build publishes on its course is what is found of its documents.
use Rattle.std.proofs.Common.{◌≡◌, List, All, Contains}
use Rattle.std.proofs.lemmas.List.Elements.{All-contains}
use Rattle.rpc_peer.specs.Said.{Said}
use Rattle.session_law.proofs.PublishedLaws.{published_some, published_whole}
use Rattle.session_law.proofs.StageLaws.{stage_sound}
use Rattle.session_law.proofs.WrittenLaws.{PublishesOf}
use Rattle.session_law.specs.Builds.{Finding, IsFindingOf}
use Rattle.session_law.specs.Course.{AreGiven, Course, Given, HasEnded, Stage}

settled_findings : {g : Given} {s : Stage} {messages : List Said} → AreGiven g → Course g s messages → All (IsFindingOf g.active.build g.active.entries) s.settled
settled_findings {g} {s} given course k d h =
    let sound = stage_sound course in
    record { documents = g.documents; of_build = given.documents; there = sound.documents k d h; found = sound.found k d h }

pub course_publishes : {g : Given} {s : Stage} {messages : List Said} → AreGiven g → Course g s messages → PublishesOf g messages
course_publishes {g} {s} given course = record { done = s.settled; each = settled_findings given course; publishes = published_some course }

pub ended_publishes : {g : Given} {messages : List Said} → AreGiven g → (ended : HasEnded g messages) → PublishesOf g messages
ended_publishes given ended = record { done = ended.stage.settled; each = settled_findings given ended.course; publishes = published_whole ended }
