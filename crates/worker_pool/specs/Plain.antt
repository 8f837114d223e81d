-- From jobs in memory to plain ones.
use Rattle.worker_pool.specs.declared.job.Job.{Job}
use Rattle.worker_pool.specs.declared.job.Work.{Work}
use Rattle.worker_pool.specs.declared.job.Work.TheVariants as works
use Rattle.worker_pool.specs.Jobs.{JobTree, WorkTree, check_work, plain_check}

abbrev pub plain_work : Work → WorkTree
plain_work (works.Check check) = check_work (plain_check check)

abbrev pub plain_job : Job → JobTree
plain_job job = record { number = job.number; work = plain_work job.work }
