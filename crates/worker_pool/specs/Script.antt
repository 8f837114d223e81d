-- What is seen of a crew that does its jobs in a given order.
use Rattle.std.specs.Prelude.{◌%◌, ℕ, List, [], ◌∷◌}
use Rattle.worker_pool.specs.declared.script.ScriptCrew.{ScriptCrew}
use Rattle.worker_pool.specs.Backlogs.{sight_of}
use Rattle.worker_pool.specs.Crews.{Sight}

abbrev pub script_sight : ScriptCrew → Sight
script_sight crew = sight_of crew.backlog

-- what is left of its order
abbrev pub order_of : ScriptCrew → List ℕ
order_of crew = crew.order.items

-- the index that an order names among so many, and the first one behind its end
abbrev pub index_in : List ℕ → ℕ → ℕ
index_in [] count = 0
index_in (n ∷ ns) count = n % count
