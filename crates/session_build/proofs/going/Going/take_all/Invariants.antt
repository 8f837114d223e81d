use Rattle.std.proofs.Common.{◌≤◌, map}
use Rattle.session_build.specs.Going.{Goes, IsSound, StartsMore, all_left}
use Rattle.build_messages.specs.Outgoing.{outgoing_said}
use Rattle.task_stream.specs.Showing.{shows}
use Rattle.session_build.proofs.going.Going.take_all.Given as goal

abbrev pub invariant-documents : goal.invariant-documents
invariant-documents l =
    record {
      sound : IsSound l.at l.self;
      goes :
          Goes l.at l.cache l.fn.self l.self (map outgoing_said l.fn.out.items) (map outgoing_said l.out.items) l.fn.keys l.keys (shows l.fn.shown) (shows l.shown);
      jobs : StartsMore l.fn.self l.self;
      left : all_left l.self.checks l.self.jobs.items ≤ all_left l.fn.self.checks l.fn.self.jobs.items;
    }

abbrev pub decreases-documents : goal.decreases-documents
decreases-documents l = all_left l.self.checks l.self.jobs.items
