use Rattle.build_checks.proofs.checks.Checks.key.Goals as goal

pub pair-requires : goal.pair-requires
pair-requires c = c.requires.checks.so_far.within c.args.index c.requires.among
