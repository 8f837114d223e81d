-- A build between the taking of its documents and the end of the call: it waits where some check runs, and else it ends.
use Rattle.std.specs.Prelude.{◌≡◌, ◌++◌, List, [], Bool}
use Rattle.std.specs.List.{All}
use Rattle.bsp_records.specs.Table.{Table}
use Rattle.rpc_peer.specs.Said.{Said}
use Rattle.session_build.specs.AtWork.{IsWith, Rests}
use Rattle.session_build.specs.Building.{IsBuilt}
use Rattle.session_build.specs.Going.{GoesThrough, IsGoing, IsOrdered, IsSound, NoneCanBeTaken}
use Rattle.session_build.specs.Remembering.{Remembers}
use Rattle.session_build.specs.Setting.{IsSetting}
use Rattle.session_build.specs.Telling.{TellsBehind}
use Rattle.session_build.specs.declared.building.Build.{Build}
use Rattle.session_build.specs.declared.building.Went.{Went}
use Rattle.session_build.specs.declared.building.Went.TheVariants.{On, Ended}
use Rattle.session_build.specs.declared.kept.Kept.{Kept}
use Rattle.session_law.specs.Course.{Given}
use Rattle.session_law.specs.Verdicts.{IsBare}

-- no document can be taken
pub record IsPaused (b : Build) : Type 0 where
  pub setting : IsSetting b.at
  pub sound : IsSound b.at b.going
  pub ordered : IsOrdered b.going
  pub none : NoneCanBeTaken b.going.checks
  pub through : GoesThrough b.going.checks

-- The build ended, whatever course it was on. What it told goes behind other messages.
pub record HasFinished (b : Build) (old new : Kept) (before after : List Said) (failed : Bool) : Type 0 where
  pub own : List Said
  pub tells : TellsBehind own before after
  pub bare : All IsBare own
  pub same : new.keys ≡ old.keys
  pub ends : (g : Given) (told : List Said) (table : Table) → IsGoing g b.at b.going told old.keys table → Remembers b.at.workspace.value g.earlier old
      → IsBuilt g.active g.earlier g.table table new (told ++ own) failed

-- it waits as it is, or no check ran any more
abbrev pub Stays : Build → Went → Type 0
Stays b (On new) = (new ≡ b) × Rests new
Stays b (Ended failed remains) = b.going.jobs.items ≡ []

pub record HasPaused (b : Build) (went : Went) (old new : Kept) (before after : List Said) : Type 0 where
  pub own : List Said
  pub tells : TellsBehind own before after
  pub bare : All IsBare own
  pub same : new.keys ≡ old.keys
  pub stays : Stays b went
  pub goes : (g : Given) (told : List Said) (table : Table) → IsGoing g b.at b.going told old.keys table → Remembers b.at.workspace.value g.earlier old
      → IsWith g went (told ++ own) table new
