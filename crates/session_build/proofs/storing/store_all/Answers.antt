use Rattle.std.proofs.Common.{rules}
use Rattle.std.proofs.lemmas.Iterator.Adapters.{YieldsList-from_vec}
use Rattle.std.proofs.lemmas.Iterator.Consumers.{YieldsList-so_far, YieldsList-turn}
use Rattle.session_build.proofs.StoringLaws.{next_new, one_more_stored}
use Rattle.session_build.proofs.storing.store_all.Goals as goal

pub made-preserved : goal.made-preserved
made-preserved c =
    let made = c.args.made.items in
    let road = YieldsList-from_vec {s = c.into_iter-it-iterator.result} made (search rules) (search rules) in
    let turn = YieldsList-turn road c.made.yielded c.made.it-iterator c.made.yielded_by c.next.result c.next.new.self c.in-Some.it c.in-Some.is c.next.ensures.steps in
    let so_far = YieldsList-so_far road c.made.yielded c.made.it-iterator c.made.yielded_by in
    λ distinct.
    one_more_stored c.args.workspace.now c.made.yielded c.in-Some.it c.args.cache.now c.made.cache c.store_one.new.cache (c.made.invariant distinct) c.in_ok-store_one.ensures
    (next_new made c.made.yielded c.in-Some.it turn.0 turn.1 so_far distinct)
