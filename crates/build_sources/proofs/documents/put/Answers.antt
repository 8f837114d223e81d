use Rattle.build_sources.proofs.documents.put.Goals as goal

pub returns : goal.returns
returns c = λ other. c.in_ok-old.ensures.updates.0 other
