use Rattle.reload_rules.specs.Dropped as rules
use Rattle.session_build.proofs.CleaningLaws.{keeps_in, reloaded}
use Rattle.session_build.proofs.kept.Kept.reload.Goals as goal

pub returns-clause-reloaded : goal.returns-clause-reloaded
returns-clause-reloaded c = reloaded c.args.old.now c.args.new.now c.requires.root c.args.kept.now c.requires.kept c.args.self.now c.keep.new.self c.in_ok-keep.ensures

pub returns-clause-only : goal.returns-clause-only
returns-clause-only c =
    let old = c.args.old.now.targets in
    keeps_in old c.args.kept.now (rules.kept old c.args.new.now.targets) c.requires.kept c.args.self.now c.keep.new.self c.in_ok-keep.ensures
