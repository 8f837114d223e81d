use Rattle.std.proofs.Common.{subst}
use Rattle.ob_text.specs.Position.{is_continuation}
use Rattle.oberon_scan.specs.Runs.{IsRun}
use Rattle.oberon_scan.proofs.OneCharacter.{one_character}
use Rattle.oberon_scan.proofs.piece.bad_character.Goals as goal

pub returns : goal.returns
returns c =
    one_character c.args.text.now c.run_of.result.0.now c.run_of.result.1.now c.requires.some c.requires.utf8 c.requires.first c.requires.no_symbol
    (subst (λ xs. IsRun is_continuation xs c.run_of.result.0.now c.run_of.result.1.now) c.split_at.ensures.back c.run_of.ensures)
