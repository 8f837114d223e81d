use Rattle.check_cache.proofs.FilterLaws.{kept}
use Rattle.check_cache.proofs.cache.Cache.keep_pairs.Goals as goal

pub returns-clause-first : goal.returns-clause-first
returns-clause-first c = λ q. kept c.args.self.now.first c.keep_of.new.map q c.args.pairs.now.keys c.keep_of.ensures

pub returns-clause-other : goal.returns-clause-other
returns-clause-other c = λ q. kept c.args.self.now.other c.keep_of-2.new.map q c.args.pairs.now.keys c.keep_of-2.ensures
