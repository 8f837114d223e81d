use Rattle.std.proofs.Common.{◌≡◌, true, is_ok}
use Rattle.std.specs.List.Sorted.{IsNonDecreasing}
use Rattle.std.proofs.lemmas.Bool.{OnTrue_from}
use Rattle.bsp_edge.specs.Calls.{FailsNext}
use Rattle.bsp_edge.proofs.Searches.{contains_found}
use Rattle.bsp_edge.proofs.calls.FailingCalls.fails_next.Goals as goal

pub returns-clause-fails : goal.returns-clause-fails
returns-clause-fails c =
    let rises : IsNonDecreasing c.deref.result.now = rw c.deref.ensures.value c.self.invariant in
    OnTrue_from c.is_ok.result (FailsNext c.args.self.now) (λ true_is.
    let found : is_ok c.binary_search.result ≡ true = cc in
    let listed = contains_found _ _ c.binary_search.result c.binary_search.ensures.position rises found in
    rw (← c.self.view_is) (rw (c.deref.ensures.value, c.next_call.ensures, ← c.self.view_is) at listed))
