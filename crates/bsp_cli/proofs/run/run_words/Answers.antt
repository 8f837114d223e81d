use Rattle.bsp_cli.specs.Outcomes.{code_of}
use Rattle.bsp_cli.proofs.RunLaws.{collected_same, completes, served_dismissed}
use Rattle.bsp_cli.proofs.WritingLaws.{on_ok_then}
use Rattle.bsp_cli.proofs.run.run_words.Goals as goal

pub returns-clause-session : goal.returns-clause-session
returns-clause-session g c =
    on_ok_then _ _ _ (served_dismissed _ _ _ _ _ _ _ (code_of c.run_asked-ended.result.status) c.run_asked-ended.result.taken (collected_same _ _ c.run_asked-ended.ensures.free c.finish.ensures.finished)) c.run_asked-ended.ensures.session

pub returns-clause-complete : goal.returns-clause-complete
returns-clause-complete g c =
    let ran = c.run_asked-ended.ensures in
    on_ok_then _ _ _ (completes (code_of c.run_asked-ended.result.status) _ _ _ _ _ _ ran.input ran.sink) ran.within
