use Rattle.std.proofs.Common.{sym, subst, ◌∙◌}
use Rattle.std.proofs.lemmas.Result.{IfOk-weaker}
use Rattle.build_rules.specs.World.{World}
use Rattle.build_sources.specs.Modules.{AreModules}
use Rattle.build_checks.proofs.checks.Checks.begin.Goals as goal

pub begun-requires-clause-modules : goal.begun-requires-clause-modules
begun-requires-clause-modules c = subst (λ (w : World). AreModules w.targets c.args.modules.now) (sym c.in_ok-sources.ensures.world) c.requires.modules

pub returns-clause-world : goal.returns-clause-world
returns-clause-world c = IfOk-weaker c.begun.result _ _ (λ checks is. is ∙ c.in_ok-sources.ensures.world) c.begun.ensures.world

pub returns-clause-numbers : goal.returns-clause-numbers
returns-clause-numbers c = IfOk-weaker c.begun.result _ _ (λ checks known. known _ c.in_ok-first.ensures.first) c.begun.ensures.numbers
