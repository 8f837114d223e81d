use Rattle.build_plan.proofs.InMemory.{added_step}
use Rattle.build_plan.proofs.links.add_importer.Goals as goal

pub loop-import-preserved : goal.loop-import-preserved
loop-import-preserved c =
    added_step c.args.importers.now.items c.loop-import.importers.items c.args.importer c.args.imports.now c.loop-import.import-index
    c.index_mut.result.now c.push.new.self c.loop-import-test.true c.requires c.loop-import.invariant c.index_mut.ensures.value c.in_ok-push.ensures.items
