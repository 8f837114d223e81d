use Rattle.worker_pool.specs.Script.{script_sight}
use Rattle.worker_pool.proofs.BacklogLaws.{took_waits}
use Rattle.worker_pool.proofs.script.ScriptCrewCrew.wait.Goals as goal

pub returns-clause-out : goal.returns-clause-out
returns-clause-out c = took_waits c.next_index-index.result (script_sight c.args.self.now) _ c.take_up.ensures
