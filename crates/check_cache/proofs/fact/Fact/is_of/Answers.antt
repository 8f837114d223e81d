use Rattle.check_cache.proofs.SameLaws.{decides_fact}
use Rattle.check_cache.proofs.fact.Fact.is_of.Goals as goal

pub returns : goal.returns
returns c =
    rw c.both.ensures (decides_fact c.same_held-text.result c.same_imports-numbers.result c.args.self.now c.args.held.now c.held.result.now c.args.imports.now c.imports.result.now c.held.ensures c.imports.ensures c.same_held-text.ensures c.same_imports-numbers.ensures)
