use Rattle.std.proofs.Common.{◌≡◌, ◌∙◌, ℕ, List, length, map, subst, sym, arith}
use Rattle.client_script.specs.Lines.{AreNames}
use Rattle.client_script.specs.Pieces.{now_of}
use Rattle.client_script.proofs.WordLaws.{all_names, each_more, is_word, more_names, no_names}
use Rattle.client_script.proofs.reading.names.Goals as goal

pub returns-then-is_empty-2 : goal.returns-then-is_empty-2
returns-then-is_empty-2 c names are same =
    no_names c.args.words.now _ c.loop-word.word-index _ c.loop-word-test.true c.is_empty-in-loop-word.ensures c.if-is_empty-2.true names are.each same

pub loop-word-preserved : goal.loop-word-preserved
loop-word-preserved c = (
  more_names c.args.words.now _ c.loop-word.word-index _ _ _ c.loop-word-test.true (c.in_ok-new.ensures ∙ c.as_bytes.ensures.value) c.in_ok-push.ensures.items c.loop-word.invariant.0,
  each_more _ _ _ c.in_ok-push.ensures.items c.loop-word.invariant.1 (is_word c.as_bytes.result.now _ c.in_ok-new.ensures c.as_bytes.ensures.utf8 (grind (arith, c.is_empty-in-loop-word.ensures, c.if-is_empty-2.false, c.as_bytes.ensures.len))),
)

pub returns : goal.returns
returns c =
    let at_end : c.loop-word.word-index ≡ length c.args.words.now = omega arith in
    subst (λ (names : List (List ℕ)). AreNames names × (names ≡ map now_of c.args.words.now)) (sym c.from_vec.ensures)
    (all_names c.args.words.now c.loop-word.word-index c.loop-word.names.items at_end c.loop-word.invariant.0 c.loop-word.invariant.1 (grind (arith, c.is_empty.ensures, c.if-is_empty.false)) c.if-words-gt-NAMES_LIMIT.false)
