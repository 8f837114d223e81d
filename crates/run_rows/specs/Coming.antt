-- What a program comes to: how it ends, what it writes, and how many steps it takes. Its trees are those of its texts.
use Rattle.std.specs.Prelude.{◌≡◌, ℕ, true, List}
use Rattle.run_rules.specs.Linked.{Source}
use Rattle.run_rules.specs.Runs.{End, run_main, run_test}
use Rattle.run_rows.specs.Spelled.{trees_fit}

-- a run of the module of this stem, with a limit of steps
abbrev pub Runs : List Source → List ℕ → ℕ → End → List ℕ → ℕ → Type 0
Runs sources main limit end output steps = (trees_fit sources ≡ true) × (run_main sources main limit ≡ record { end = end; output = output; steps = steps })

-- a test of this name
abbrev pub Tests : List Source → List ℕ → List ℕ → ℕ → End → List ℕ → ℕ → Type 0
Tests sources module_stem test limit end output steps = (trees_fit sources ≡ true) × (run_test sources module_stem test limit ≡ record { end = end; output = output; steps = steps })
