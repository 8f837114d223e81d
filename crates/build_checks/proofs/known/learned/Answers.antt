use Rattle.check_cache.specs.Places.{first_at, other_at}
use Rattle.build_checks.proofs.KnownLaws.{chosen_names}
use Rattle.build_checks.proofs.known.learned.Goals as goal

pub returns-in-None : goal.returns-in-None
returns-in-None c = chosen_names c.args.held.now (first_at c.args.cache.now c.args.key.now) (other_at c.args.cache.now c.args.key.now) c.imports.result c.imports.ensures.some
