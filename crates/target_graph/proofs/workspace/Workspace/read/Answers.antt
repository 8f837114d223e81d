use Rattle.target_graph.proofs.Sound.{sound_of}
use Rattle.target_graph.proofs.Refusals.{accepts}
use Rattle.target_graph.proofs.workspace.Workspace.read.Goals as goal

pub of_listing-requires : goal.of_listing-requires
of_listing-requires c = sound_of c.args.file.now c.in-Ok.listing c.in-Ok.ensures

pub returns-in-Ok : goal.returns-in-Ok
returns-in-Ok c =
    let all = accepts c.args.file.now c.args.root c.of_listing.result (c.of_listing.ensures c.args.file.now c.in-Ok.ensures) in
    record { accepted = all.0; refused = all.1; plain = all.2 }

pub returns-in-Err : goal.returns-in-Err
returns-in-Err c = record { accepted = tt; refused = c.in-Err.ensures.0; plain = c.in-Err.ensures.1 }
