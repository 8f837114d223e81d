use Rattle.std.proofs.Common.{take}
use Rattle.build_plan.specs.Lists.{lists}
use Rattle.build_plan.specs.Links.{IsAdded}
use Rattle.build_plan.proofs.links.add_importer.Given as goal

abbrev pub invariant-loop-import : goal.invariant-loop-import
invariant-loop-import l = IsAdded (lists l.initial.importers) (lists l.importers) l.importer (take l.import-index l.imports)
