use Rattle.recordings.proofs.spelling.out_into.Goals as goal

pub returns-clause-ok : goal.returns-clause-ok
returns-clause-ok c = c.spell.ensures.ok
