use Rattle.build_checks.proofs.checks.Checks.stem.Goals as goal

pub stem-requires : goal.stem-requires
stem-requires c = c.requires.checks.so_far.within c.args.index c.requires.among
