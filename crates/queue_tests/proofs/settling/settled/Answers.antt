use Rattle.std.proofs.Common.{◌++◌, List, ap, sym, ◌∙◌}
use Rattle.std.proofs.lemmas.List.{append-nil}
use Rattle.session_queue.specs.declared.waiting.Waiting.{Waiting}
use Rattle.session_queue.proofs.CallerLaws.{none_marked}
use Rattle.queue_tests.proofs.settling.settled.Goals as goal

pub returns-clause-taken : goal.returns-clause-taken
returns-clause-taken g c =
    let none = (none_marked c.loop-waiting.queue (sym c.in_default.ensures.first)).0 in
    let taken = c.loop-waiting.taken.items in
    sym (append-nil taken) ∙ (ap (λ (rest : List (Waiting g.row.T.Denot)). taken ++ rest) (sym none) ∙ c.loop-waiting.invariant.taken)

pub returns-clause-kept : goal.returns-clause-kept
returns-clause-kept g c =
    let kept = (none_marked c.loop-waiting.queue (sym c.in_default.ensures.first)).1 in
    c.in_default.ensures.none ∙ (sym kept ∙ c.loop-waiting.invariant.kept)
