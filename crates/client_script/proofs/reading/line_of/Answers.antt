use Rattle.std.proofs.Common.{rules}
use Rattle.client_script.proofs.reading.line_of.Goals as goal

pub returns-in_ok-names-in-Test : goal.returns-in_ok-names-in-Test
returns-in_ok-names-in-Test c = search rules
