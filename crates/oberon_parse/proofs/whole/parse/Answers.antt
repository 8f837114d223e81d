use Rattle.std.proofs.Common.{sym, arith}
use Rattle.oberon_productions.specs.Machine.{module_parts}
use Rattle.document_rules.specs.Sentence.{most_levels}
use Rattle.oberon_parse.proofs.First.{first_bad_at, left_within}
use Rattle.oberon_parse.proofs.whole.parse.Goals as goal

pub overflow_sub-result : goal.overflow_sub-result
overflow_sub-result c =
    omega (arith, left_within (module_parts most_levels) c.args.tokens.now _ (c.in-Err-Left.ensures _ c.in-Err-Left.field-0-is), c.in-Err-Left.left-is)

pub returns-in-Err-Left-clause-first_bad : goal.returns-in-Err-Left-clause-first_bad
returns-in-Err-Left-clause-first_bad c = λ k f.
    first_bad_at c.args.tokens.now c.in-Err-Left.left _ k (c.in-Err-Left.ensures _ c.in-Err-Left.field-0-is) (sym c.in-Err-Left.left-is) f
