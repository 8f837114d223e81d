use Rattle.std.proofs.Common.{◌≡◌, ◌<◌, ℕ, [], map, get_or}
use Rattle.target_graph.specs.Workspace.{name_at}
use Rattle.session_reload.proofs.same.same_dependencies.Given as goal

abbrev pub invariant-loop-index : goal.invariant-loop-index
invariant-loop-index l = (k : ℕ) → k < l.index → get_or (map (name_at l.old) l.a) k [] ≡ get_or (map (name_at l.new) l.b) k []
