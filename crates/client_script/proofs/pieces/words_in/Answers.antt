use Rattle.std.proofs.Common.{arith, rules}
use Rattle.client_script.proofs.PieceLaws.{all_taken, none_more, one_more, taken}
use Rattle.client_script.proofs.pieces.words_in.Goals as goal

pub words-preserved : goal.words-preserved
words-preserved c =
    (taken _ _ c.in-Some.word _ _ _ c.words.invariant.0 c.in_ok-push.ensures.items (one_more 32 (omega arith) c.words.rest.now _ c.split_once.ensures.cases _ c.in-Some.is), search rules)

pub returns : goal.returns
returns c = all_taken _ _ c.words.rest _ _ c.words.invariant.0 c.in_ok-push-2.ensures.items (none_more 32 (omega arith) c.words.rest.now _ c.split_once.ensures.cases c.in_default.is)
