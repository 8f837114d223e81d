use Rattle.std.proofs.Common.{sym, subst}
use Rattle.build_rules.specs.World.{held_in}
use Rattle.build_sources.specs.Documents.{AreImportsOf}
use Rattle.build_sources.specs.Sources.{world}
use Rattle.build_sources.proofs.sources.Sources.imports.Goals as goal

pub returns : goal.returns
returns c =
    let held = held_in (world c.args.self.now) c.args.index in
    subst (AreImportsOf held) (sym c.as_slice.ensures.value) c.document.ensures.imported
