-- What the outcome of a job promises.
use Rattle.oberon_module.specs.declared.check.Checked.{Checked}
use Rattle.oberon_rules.specs.Local.{Local, view_in}
use Rattle.oberon_types.specs.Memory.{plain_view}
use Rattle.worker_pool.specs.declared.job.Job.{Job}
use Rattle.worker_pool.specs.declared.outcome.Done.{Done}
use Rattle.worker_pool.specs.declared.outcome.Done.TheVariants as dones
use Rattle.worker_pool.specs.Jobs.{CheckTree, WorkTree, check_work}

-- what a check found is what the rules say of the text and the stem, by these views
pub record IsCheckOf (check : CheckTree) (checked : Checked) : Type 0 where
  pub found : Local check.held check.stem (view_in check.views) checked.list.items checked.imports.items (plain_view checked.view)

-- what came of work is what the rules say of it; where no memory was found nothing is said
abbrev pub IsDone : WorkTree → Done → Type 0
IsDone (check_work check) (dones.Checked checked) = IsCheckOf check checked
IsDone (check_work check) dones.NoMemory = Unit {0}

-- a job that was done, and what came of it
pub record OutcomeParts : Type 0 where
  pub job : Job
  pub done : Done

abbrev pub outcome_of : Job → Done → OutcomeParts
outcome_of job done = record { job = job; done = done }
