use Rattle.std.proofs.Common.{◌≡◌, ◌≤◌, false}
use Rattle.pool_tests.proofs.acting.told.Given as goal

abbrev pub invariant-acts : goal.invariant-acts
invariant-acts g l =
    record {
      going : (g.C.Crew.sight l.crew).finished ≡ false;
      next : (g.C.Crew.sight l.crew).next ≤ l.number;
      number : l.number ≡ l.act-index;
    }
