-- Checks of cancelled builds that come back behind the end of their builds.
use Rattle.std.specs.Prelude.{◌≡◌, ◌⊎◌, ℕ, List, Option, Some, None, IfSome, All, Contains, slice_get}
use Rattle.bsp_records.specs.Table.{Table}
use Rattle.build_checks.specs.Kept.{Extends}
use Rattle.build_checks.specs.Looked.{IsKeyIn}
use Rattle.build_checks.specs.Stand.{world_of}
use Rattle.build_checks.specs.declared.checks.Checks.{Checks}
use Rattle.build_rules.specs.World.{held_in}
use Rattle.check_cache.specs.Facts.{FactTree}
use Rattle.check_cache.specs.Places.{other_at}
use Rattle.check_cache.specs.declared.cache.Cache.{Cache}
use Rattle.check_cache.specs.declared.pair.PairKey.{PairKey}
use Rattle.iface_key.specs.Keys.{key_of_view}
use Rattle.oberon_module.specs.declared.check.Checked.{Checked}
use Rattle.oberon_rules.specs.Local.{view_in}
use Rattle.oberon_types.specs.Entities.{ViewTree}
use Rattle.rpc_peer.specs.Said.{Said}
use Rattle.session_build.specs.AtWork.{IsAtWork}
use Rattle.session_build.specs.Remembering.{Remembers}
use Rattle.session_build.specs.declared.building.Build.{Build}
use Rattle.session_build.specs.declared.going.Job.{Job}
use Rattle.session_build.specs.declared.kept.Kept.{Kept}
use Rattle.session_build.specs.declared.late.Late.{Late}
use Rattle.session_law.specs.Course.{Given}
use Rattle.session_law.specs.History.{Told}
use Rattle.target_graph.specs.Workspace.{Space, stem_at}
use Rattle.worker_pool.specs.Jobs.{CheckTree}

-- ---- as a build is cancelled

-- what is waited for of a check that runs: its document and the stem of its path, what is held there, and its imports
pub record IsLateJob (c : Checks) (job : Job) (late : Late) : Type 0 where
  pub key_is : IsKeyIn (world_of c) job.pair late.key
  pub stem_is : late.stem ≡ stem_at (world_of c).targets job.pair
  pub held_is : late.held.value ≡ held_in (world_of c) job.pair
  pub imports_are : late.imports.items ≡ job.imports.items

-- it is waited for, and no other but those before
pub record AddsLate (old : List Late) (one : Late) (new : List Late) : Type 0 where
  pub there : Contains new one
  pub either : (late : Late) → Contains new late → (late ≡ one) ⊎ Contains old late

-- one of these checks that run
pub record IsOfJob (c : Checks) (jobs : List Job) (late : Late) : Type 0 where
  pub job : Job
  pub there : Contains jobs job
  pub is : IsLateJob c job late

-- these checks are waited for, as far as they aren't forgotten, and no others but those before
abbrev pub AddsLateOf : Checks → List Job → List Late → List Late → Type 0
AddsLateOf c jobs old new = (late : Late) → Contains new late → IsOfJob c jobs late ⊎ Contains old late

-- ---- as an outcome comes

-- the name shows what has this number
abbrev pub ShowsAs : List (List ℕ) → (List ℕ → ViewTree) → List ℕ × ℕ → Type 0
ShowsAs keys shown import = slice_get keys import.1 ≡ Some (key_of_view (shown import.0))

-- the check is of the same text, under the same stem, and each import shows what has its number
pub record IsSameCheck (keys : List (List ℕ)) (late : Late) (check : CheckTree) : Type 0 where
  pub held_is : check.held ≡ late.held.value
  pub stem_is : check.stem ≡ late.stem
  pub shown : All (ShowsAs keys (view_in check.views)) late.imports.items

abbrev pub IsTaken : List Late → ℕ → Option Late → Type 0
IsTaken old number None = (late : Late) → Contains old late → ¬ (late.number ≡ number)
IsTaken old number (Some late) = Contains old late × (late.number ≡ number)

-- one that was waited for under this number, if any, is waited for no more
pub record TakesLate (old : List Late) (number : ℕ) (taken : Option Late) (new : List Late) : Type 0 where
  pub is : IsTaken old number taken
  pub rest : (late : Late) → Contains new late → Contains old late

-- the index of one that is waited for under this number, if any
abbrev pub IsLateIndex : List Late → ℕ → Option ℕ → Type 0
IsLateIndex late number None = (one : Late) → Contains late one → ¬ (one.number ≡ number)
IsLateIndex late number (Some index) = (one : Late) × (slice_get late index ≡ Some one) × (one.number ≡ number)

-- the other place of the pair with this key has what the check found
pub record IsPlaced (new : Cache) (key : PairKey) (checked : Checked) : Type 0 where
  pub fact : FactTree
  pub there : other_at new key ≡ Some fact
  pub is : fact.checked ≡ checked

-- if it is the check that was waited for it is kept
abbrev pub KeepsIf : CheckTree → Checked → Kept → Late → Type 0
KeepsIf check checked new late = IsSameCheck new.keys late check → IsPlaced new.cache late.key checked

-- An outcome comes of the job with this number. If a check is waited for under this number, and it is that check, what it
-- found is kept. What was kept as of builds that were answered is so still, whatever workspace is in force, and a build that
-- is at work stays so.
pub record HasKept (number : ℕ) (check : CheckTree) (checked : Checked) (old new : Kept) : Type 0 where
  pub late : Option Late
  pub takes : TakesLate old.late.items number late new.late.items
  pub keeps : IfSome late (KeepsIf check checked new)
  pub more : Extends old.keys new.keys
  pub remembers : (space : Space) (builds : List Told) → Remembers space builds old → Remembers space builds new
  pub at_work : (g : Given) (b : Build) (told : List Said) (table : Table) → IsAtWork g b told old.keys table → IsAtWork g b told new.keys table
