-- A build that lasts through many calls: it tells its starts, and then waits for the outcomes of its checks, which come one at
-- a time, in any order. In between it may be cancelled.
use Rattle.std.specs.Prelude.{◌≡◌, ◌≢◌, ◌≤◌, ◌<◌, ◌^◌, ◌⊎◌, ◌++◌, ℕ, suc, List, ◌∷◌}
use Rattle.std.specs.List.{All}
use Rattle.bsp_records.specs.Table.{Table}
use Rattle.build_checks.specs.Kept.{Extends}
use Rattle.build_checks.specs.Numbers.{AreNumbersOf}
use Rattle.build_checks.specs.Stand.{world_of}
use Rattle.build_checks.specs.Work.{IsWorkOf}
use Rattle.ob_text.specs.Held.{Entries}
use Rattle.rpc_peer.specs.Said.{Said}
use Rattle.rpc_peer.specs.declared.message.Id.{Id}
use Rattle.session_build.specs.Building.{IsBuilt}
use Rattle.session_build.specs.Documents.{requested}
use Rattle.session_build.specs.Going.{IsAmong, IsGoing, IsOrdered, IsSound, KeepsViews, NoneCanBeTaken, all_left}
pub use Rattle.session_build.specs.Going.{told_by}
use Rattle.session_build.specs.Remembering.{Remembers}
use Rattle.session_build.specs.Setting.{IsSetting}
use Rattle.session_build.specs.Telling.{TellsBehind}
use Rattle.session_build.specs.declared.building.Build.{Build}
use Rattle.session_build.specs.declared.building.BuildRequest.{BuildRequest}
use Rattle.session_build.specs.declared.building.Went.{Went}
use Rattle.session_build.specs.declared.building.Went.TheVariants.{On, Ended}
use Rattle.session_build.specs.declared.kept.Kept.{Kept}
use Rattle.session_law.specs.Cancelling.{IsCancelledBy}
use Rattle.session_law.specs.Course.{Given, AreGiven}
use Rattle.session_law.specs.History.{Told, world_in}
use Rattle.session_law.specs.Requests.{Active}
use Rattle.session_law.specs.ShowsOldOrNew.{ShowsEither}
use Rattle.session_law.specs.Verdicts.{FinishesOneFirst, IsBare}
use Rattle.target_graph.specs.Workspace.{Space}
use Rattle.worker_pool.specs.Jobs.{CheckTree}

-- ---- the checks that run

-- one of them has this number, and is of the document of this pair
abbrev pub Runs : Build → ℕ → ℕ → Type 0
Runs b number pair = IsAmong b.going.jobs.items number pair

-- how many checks started
abbrev pub begun_in : Build → ℕ
begun_in b = b.going.begun

-- how much is left to do, at most
abbrev pub left_in : Build → ℕ
left_in b = all_left b.going.checks b.going.jobs.items

-- ---- at rest

-- Nothing can be done but wait: some check runs, and no document can be taken before one finishes. Numbers of 64 bits count
-- the checks that started, and what is left to do.
pub record Rests (b : Build) : Type 0 where
  pub setting : IsSetting b.at
  pub sound : IsSound b.at b.going
  pub ordered : IsOrdered b.going
  pub none : NoneCanBeTaken b.going.checks
  pub some : (k : ℕ) × (pair : ℕ) × Runs b (suc k) pair
  pub begun : (k pair : ℕ) → Runs b (suc k) pair → k < begun_in b
  pub few : begun_in b < 2 ^ 64
  pub short : left_in b < 2 ^ 64

-- The build rests on this course: it told this since its hand, these keys have numbers, and a client shows this.
pub record IsAtWork (g : Given) (b : Build) (told : List Said) (keys : List (List ℕ)) (table : Table) : Type 0 where
  pub rests : Rests b
  pub going : IsGoing g b.at b.going told keys table

-- ---- work

-- The work is that of the check with this number: what is held at its document's path, and the views that the imports show
-- to it.
pub record IsWork (g : Given) (b : Build) (number : ℕ) (work : CheckTree) : Type 0 where
  pub is : (pair : ℕ) → Runs b number pair → IsWorkOf (world_in g.active) pair work

-- The same, whatever course the build is on, where all that is settled has its own view.
pub record IsOwnWork (b : Build) (number : ℕ) (work : CheckTree) : Type 0 where
  pub is : (pair : ℕ) → Runs b number pair → (keys : List (List ℕ)) → AreNumbersOf keys b.going.checks → IsWorkOf (world_of b.going.checks) pair work

-- The check with this number runs no more, and each other goes on. So does each that started since, under a number of its own.
pub record RunsOn (old : Build) (number : ℕ) (new : Build) : Type 0 where
  pub others : (n p : ℕ) → Runs old n p → n ≢ number → Runs new n p
  pub either : (n p : ℕ) → Runs new n p → (Runs old n p × (n ≢ number)) ⊎ (begun_in old < n)
  pub fresh : (n : ℕ) → begun_in old < n → n ≤ begun_in new → (p : ℕ) × Runs new n p
  pub more : begun_in old ≤ begun_in new
  pub less : left_in new < left_in old
  pub checks : KeepsViews old.going.checks new.going.checks

-- ---- what a call did

abbrev pub IfOn : Went → (Build → Type 0) → Type 0
IfOn (On b) P = P b
IfOn (Ended failed remains) P = Unit {0}

-- no check runs any more where the build ended
abbrev pub Leaves : Build → ℕ → Went → Type 0
Leaves b number (On new) = RunsOn b number new
Leaves b number (Ended failed remains) = (n p : ℕ) → Runs b n p → n ≡ number

-- The build told this since its hand. Either it is at work, and what is kept is still of the builds before it, or it is whole.
abbrev pub IsWith : Given → Went → List Said → Table → Kept → Type 0
IsWith g (On b) told table kept = IsAtWork g b told kept.keys table × Remembers g.active.build.space g.earlier kept
IsWith g (Ended failed remains) told table kept = IsBuilt g.active g.earlier g.table table kept told failed

-- the same of a build that began behind these, as a client showed this
pub record IsBegun (active : Active) (builds : List Told) (shown : Table) (went : Went) (told : List Said) (table : Table) (kept : Kept) : Type 0 where
  pub given : Given
  pub are : AreGiven given
  pub active_is : given.active ≡ active
  pub earlier_is : given.earlier ≡ builds
  pub table_is : given.table ≡ shown
  pub goes : IsWith given went told table kept

-- A build began. What it told goes behind other messages, and no check finishes by it.
pub record HasBegun (space : Space) (request : BuildRequest) (entries : Entries) (went : Went) (old new : Kept) (table shown : Table) (before after : List Said) : Type 0 where
  pub own : List Said
  pub tells : TellsBehind own before after
  pub bare : All IsBare own
  pub more : Extends old.keys new.keys
  pub begins : (id : Id) (builds : List Told) → Remembers space builds old → IsBegun (requested space request entries id) builds table went own shown new

-- The build went on by what the check of this work found, whatever course it was on. First that check finishes, and no other
-- does.
pub record HasGoneOn (b : Build) (number : ℕ) (work : CheckTree) (went : Went) (old new : Kept) (table shown : Table) (before after : List Said) : Type 0 where
  pub own : List Said
  pub tells : TellsBehind own before after
  pub one : FinishesOneFirst own
  pub more : Extends old.keys new.keys
  pub goes : (g : Given) (told : List Said) → IsAtWork g b told old.keys table → Remembers g.active.build.space g.earlier old → IsWork g b number work
      → IsWith g went (told ++ own) shown new

-- The build is cancelled, whatever course it was on. The checks that it made are kept, and what a client shows stays. No check
-- finishes but as cancelled.
pub record HasCancelled (b : Build) (old new : Kept) (before after : List Said) : Type 0 where
  pub own : List Said
  pub tells : TellsBehind own before after
  pub bare : All IsBare own
  pub same : new.keys ≡ old.keys
  pub cancels : (g : Given) (told : List Said) (table : Table) → IsAtWork g b told old.keys table → IsCancelledBy g told own
  pub shows : (g : Given) (told : List Said) (table : Table) → IsAtWork g b told old.keys table → ShowsEither g.active g.table table
  pub remembers : (g : Given) (told : List Said) (table : Table) → IsAtWork g b told old.keys table → Remembers g.active.build.space g.earlier old
      → Remembers g.active.build.space (told_by g (told ++ own) ∷ g.earlier) new
