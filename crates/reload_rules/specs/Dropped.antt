-- Which documents a new workspace drops. The root of both is the same, so that a document in its target is the same where
-- the name of the target and the path are.
use Rattle.std.specs.Prelude.{◌&&◌, ℕ, Bool, not, List, filter}
use Rattle.std.specs.List.{list_any}
use Rattle.std.specs.Str.{bytes_eq}
use Rattle.target_graph.specs.Workspace.{pairs_of, name_at}
use Rattle.target_graph.specs.declared.target.Pair.{Pair}
use Rattle.target_graph.specs.declared.target.Target.{Target}

-- some target has this name and lists a module of this path
abbrev pub has_pair : List Target → List ℕ → List ℕ → Bool
has_pair targets name path = list_any (λ target. bytes_eq name target.name && list_any (bytes_eq path) target.modules) targets

-- the new workspace has the pair of the old one too
abbrev pub stays : List Target → List Target → Pair → Bool
stays old new pair = has_pair new (name_at old pair.target) pair.path

-- The pairs of the old workspace that the new one has too, and those that it lacks, in the order of the old one. A pair may
-- be dropped though its target stays.
abbrev pub kept : List Target → List Target → List Pair
kept old new = filter (stays old new) (pairs_of old)

abbrev pub dropped : List Target → List Target → List Pair
dropped old new = filter (λ pair. not (stays old new pair)) (pairs_of old)
