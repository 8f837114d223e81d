use Rattle.build_sources.proofs.ViewLaws.{view_put}
use Rattle.build_sources.proofs.sources.put.Goals as goal

pub returns : goal.returns
returns c = λ other. view_put c.args.views.now.entries c.insert.new.self.entries c.args.name c.args.view other (c.in_ok-old.ensures.updates.0 other)
