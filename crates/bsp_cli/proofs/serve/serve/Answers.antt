use Rattle.bsp_cli.specs.Outside.{heard, told}
use Rattle.bsp_cli.proofs.SessionLaws.{serves_nothing}
use Rattle.bsp_cli.proofs.ShareLaws.{shares_fresh}
use Rattle.bsp_cli.proofs.serve.serve.Goals as goal

pub returns-in-Err-clause-serves : goal.returns-in-Err-clause-serves
returns-in-Err-clause-serves g c =
    serves_nothing (heard (g.S.Source.left c.args.input.now) (g.S.Source.course c.args.input.now) (g.C.Crew.sight c.args.crew.now).collected)
    (told (g.K.Sink.given c.args.output.now) (g.T.Tree.handed c.args.tree.now) (g.T.Tree.faults c.args.tree.now)) _ _

pub serve-requires-clause-shares : goal.serve-requires-clause-shares
serve-requires-clause-shares g c = shares_fresh _ _ c.new.ensures.idle c.requires
