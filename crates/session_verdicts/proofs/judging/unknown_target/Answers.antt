use Rattle.std.proofs.Common.{List, ℕ, sym, subst}
use Rattle.ob_text.specs.Ascii.{IsPlain}
use Rattle.session_verdicts.specs.Judging.{said_limit}
use Rattle.session_verdicts.proofs.Judged.{short_path}
use Rattle.session_verdicts.proofs.judging.unknown_target.Goals as goal

pub returns-clause-short : goal.returns-clause-short
returns-clause-short c =
    subst (λ (path : List ℕ). IsPlain said_limit path) (sym c.in_ok-target_path.ensures) (short_path c.args.index c.ranges.index.fits)
