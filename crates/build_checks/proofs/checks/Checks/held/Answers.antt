use Rattle.std.proofs.Common.{◌∙◌}
use Rattle.build_checks.proofs.checks.Checks.held.Goals as goal

pub document-requires-clause-within : goal.document-requires-clause-within
document-requires-clause-within c = c.requires.checks.so_far.within c.args.index c.requires.among
