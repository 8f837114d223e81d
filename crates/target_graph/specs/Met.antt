-- What a walk has met.
use Rattle.target_graph.specs.declared.walk.Walk.{Walk}
use Rattle.target_graph.specs.Walk.{Met}

abbrev pub met : Walk → Met
met walk = record { marks = walk.marks.items; order = walk.order.items }
