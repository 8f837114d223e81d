use Rattle.reload_rows.proofs.OwnLaws as laws
use Rattle.reload_rows.proofs.laws.shows_own.Goals as goal

pub returns : goal.returns
returns c = record { own = laws.shows_own; others = laws.others_show_nothing }
