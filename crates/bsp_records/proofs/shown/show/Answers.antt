use Rattle.std.proofs.Common.{arith}
use Rattle.std.proofs.lemmas.Grind.{common_steps}
use Rattle.bsp_records.proofs.ShortLaws.{shown_short}
use Rattle.bsp_records.proofs.shown.show.Goals as goal

pub returns-clause-short : goal.returns-clause-short
returns-clause-short c = shown_short c.args.diagnostic.now _ (grind (arith, common_steps)) c.shown_range.ensures.start c.shown_range.ensures.end
