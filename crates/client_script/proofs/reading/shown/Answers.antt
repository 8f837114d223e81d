use Rattle.std.proofs.Common.{◌∙◌, refl, sym}
use Rattle.client_script.proofs.WordLaws.{one_word}
use Rattle.client_script.proofs.reading.shown.Goals as goal

pub returns-in-len1 : goal.returns-in-len1
returns-in-len1 c = (tt, refl, one_word c.args.words.now _ _ c.in-len1.len_at_least c.in-len1.len_below (sym c.eq.ensures ∙ c.if-eq.true))

pub returns-in-len1-2 : goal.returns-in-len1-2
returns-in-len1-2 c = (tt, refl, one_word c.args.words.now _ _ c.in-len1.len_at_least c.in-len1.len_below (sym c.eq-then-words-lt2.ensures ∙ c.if-eq-2.true))
