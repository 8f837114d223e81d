use Rattle.std.proofs.Common.{sym, ◌∙◌}
use Rattle.std.specs.Char.{is_ascii_whitespace}
use Rattle.oberon_scan.specs.Lexis.{IsGap}
use Rattle.oberon_scan.proofs.LongestRuns.{begins_so}
use Rattle.oberon_scan.proofs.piece.piece_at.Goals as goal

pub returns-then-is_ascii_whitespace : goal.returns-then-is_ascii_whitespace
returns-then-is_ascii_whitespace c =
    IsGap.blanks c.run_of.result.0.now
    (begins_so is_ascii_whitespace c.args.text.now c.requires.some (sym c.is_ascii_whitespace.ensures.value ∙ c.if-is_ascii_whitespace.true))
    c.run_of.ensures
