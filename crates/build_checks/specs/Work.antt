-- The check of a module, to be made apart from its build. How far the build is isn't looked at, nor whether it is there still.
use Rattle.std.specs.Prelude.{◌≡◌, ℕ}
use Rattle.oberon_rules.specs.Local.{view_in}
use Rattle.target_graph.specs.Workspace.{stem_at}
use Rattle.worker_pool.specs.Jobs.{CheckTree}
use Rattle.build_rules.specs.World.{World, held_in}
use Rattle.build_checks.specs.Kept.{AreShown}

-- the check is of what is held at the module's path, under its stem, and by the views that its imports show to it
pub record IsWorkOf (w : World) (p : ℕ) (check : CheckTree) : Type 0 where
  pub held_is : check.held ≡ held_in w p
  pub stem_is : check.stem ≡ stem_at w.targets p
  pub shown : AreShown w p (view_in check.views)
