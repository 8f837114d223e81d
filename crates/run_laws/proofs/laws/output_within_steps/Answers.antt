use Rattle.run_laws.proofs.Runs.{run_within, test_within}
use Rattle.run_laws.proofs.laws.output_within_steps.Goals as goal

pub returns-clause-run : goal.returns-clause-run
returns-clause-run c = run_within

pub returns-clause-test : goal.returns-clause-test
returns-clause-test c = test_within
