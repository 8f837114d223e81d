-- The build that is asked for by its targets and its `originId`.
use Rattle.std.specs.Prelude.{ℕ, List, Option}
use Rattle.session_law.specs.Methods.{Build}
use Rattle.target_graph.specs.Workspace.{Space}

abbrev pub build_of : Space → List ℕ → Option (List ℕ) → Build
build_of space asked origin = record { space = space; asked = asked; origin = origin }
