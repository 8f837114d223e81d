use Rattle.build_plan.proofs.GetsThrough.{gets_through}
use Rattle.build_plan.proofs.laws.gets_through.Goals as goal

pub returns : goal.returns
returns c = λ places within stuck done. gets_through places within stuck done
