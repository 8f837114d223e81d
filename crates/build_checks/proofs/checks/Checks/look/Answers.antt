use Rattle.build_checks.specs.Stand.{world_of}
use Rattle.build_checks.proofs.LookLaws.{found_here, lacked_here, none_both, some_weaker}
use Rattle.build_checks.proofs.checks.Checks.look.Goals as goal

pub held-requires-clause-within : goal.held-requires-clause-within
held-requires-clause-within c = c.requires.checks.so_far.within c.args.index c.requires.among

pub returns-clause-some : goal.returns-clause-some
returns-clause-some c =
    some_weaker c.look.result _ _
    (λ hit chosen. found_here c.args.cache.now (world_of c.args.self.now) c.args.index c.args.imports.now c.in_ok-key.key c.in_ok-key.ensures c.held.result.now c.held.ensures hit.fact.now chosen)
    c.look.ensures.some

pub returns-clause-none : goal.returns-clause-none
returns-clause-none c =
    none_both c.look.result _ _ _
    (λ first other. lacked_here c.args.cache.now (world_of c.args.self.now) c.args.index c.args.imports.now c.in_ok-key.key c.in_ok-key.ensures c.held.result.now c.held.ensures first other)
    c.look.ensures.first_none c.look.ensures.other_none
