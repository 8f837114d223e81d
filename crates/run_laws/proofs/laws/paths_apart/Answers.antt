use Rattle.run_laws.proofs.Apart.{paths_apart}
use Rattle.run_laws.proofs.laws.paths_apart.Goals as goal

pub returns : goal.returns
returns c = paths_apart
