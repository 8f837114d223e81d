use Rattle.std.proofs.Common.{refl}
use Rattle.oberon_scan.specs.Lexis.{IsFault}
use Rattle.oberon_scan.proofs.piece.open_string.Goals as goal

pub returns : goal.returns
returns c line rest h e = IsFault.open_string c.args.run.now (record { line = line; first = refl; longest = h }) e
