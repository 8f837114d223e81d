-- What is seen of a crew that does the oldest job in each wait.
use Rattle.worker_pool.specs.declared.inline.InlineCrew.{InlineCrew}
use Rattle.worker_pool.specs.Backlogs.{sight_of}
use Rattle.worker_pool.specs.Crews.{Sight}

abbrev pub inline_sight : InlineCrew → Sight
inline_sight crew = sight_of crew.backlog
