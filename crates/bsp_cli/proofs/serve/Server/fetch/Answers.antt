use Rattle.bsp_cli.proofs.WaitLaws.{ends_as}
use Rattle.bsp_cli.proofs.serve.Server.fetch.Goals as goal

pub returns-in-Ok-End-clause-at_end : goal.returns-in-Ok-End-clause-at_end
returns-in-Ok-End-clause-at_end g c = λ ending same from start so.
    let finds = rw c.in-Ok-End.field-0-is at c.in-Ok-End.ensures.finds in
    ends_as ending c.await_piece.new.self.core c.args.self.now.decoder from _ start _ (finds c.args.self.now.decoder from start c.requires.drained so)

pub returns-in-Err-clause-stopped : goal.returns-in-Err-clause-stopped
returns-in-Err-clause-stopped g c = λ from start so. c.in-Err.ensures.stopped c.args.self.now.decoder from start c.requires.drained so
