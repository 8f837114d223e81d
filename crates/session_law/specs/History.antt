-- What earlier builds checked, and so which checks of a build are due.
use Rattle.std.specs.Prelude.{◌≡◌, ◌++◌, ℕ, suc, List, ◌∷◌, map, Bool, Some, Contains}
use Rattle.std.specs.List.{slice_get}
use Rattle.build_rules.specs.Views.{as_view, IsShown}
use Rattle.build_rules.specs.World.{World, HasImports, held_in}
use Rattle.oberon_types.specs.Entities.{ViewTree}
use Rattle.rpc_peer.specs.Said.{Said}
use Rattle.session_law.specs.Builds.{build_document, build_status, world_of}
use Rattle.session_law.specs.Requests.{Active}
use Rattle.session_law.specs.Tasks.{check_starts, check_finishes}
use Rattle.session_law.specs.declared.BuildDocument.{BuildDocument}
use Rattle.target_graph.specs.Workspace.{IsClosure, id_of, pairs_of}
use Rattle.target_graph.specs.declared.target.Pair.{Pair}
use Rattle.task_stream.specs.declared.shown.TableKey.{TableKey}

-- A build that was answered.
pub record Told : Type 0 where
  pub active : Active
  -- the notifications that it wrote, the oldest first
  pub notices : List Said
  -- the documents that were cleaned since, by their keys
  pub cleaned : List TableKey

-- the documents at these keys are cleaned: the build's checks of them don't count any more
abbrev pub with_cleaned : List TableKey → Told → Told
with_cleaned keys told = record told { cleaned = told.cleaned ++ keys }

abbrev pub all_cleaned : List TableKey → List Told → List Told
all_cleaned keys builds = map (with_cleaned keys) builds

-- ---- targets and their tasks

-- the target with this id is the i-th of the closure of a build, counted from 1
pub record IsTaskOf (active : Active) (id : List ℕ) (i : ℕ) : Type 0 where
  pub closure : List ℕ
  pub closed : IsClosure active.build.space.targets active.build.asked closure
  pub before : ℕ
  pub target : ℕ
  pub there : slice_get closure before ≡ Some target
  pub number_is : i ≡ suc before
  pub id_is : id_of active.build.space target ≡ id

-- ---- what a build checked

-- a check of the document with this key started in the build, and the document wasn't cleaned since
pub record HasStarted (told : Told) (key : TableKey) : Type 0 where
  pub j : ℕ
  pub i : ℕ
  pub of_target : IsTaskOf told.active key.target i
  pub started : Contains told.notices (check_starts told.active.number j i key.document)
  pub uncleaned : ¬ (Contains told.cleaned key)

-- and it finished with the status 1 or 2, so it wasn't cancelled
pub record HasChecked (told : Told) (key : TableKey) : Type 0 where
  pub j : ℕ
  pub i : ℕ
  pub failed : Bool
  pub of_target : IsTaskOf told.active key.target i
  pub started : Contains told.notices (check_starts told.active.number j i key.document)
  pub finished : Contains told.notices (check_finishes told.active.number j i (build_status failed))
  pub uncleaned : ¬ (Contains told.cleaned key)

-- Of some builds, the newest first, this is the last one that checked the document.
pub data LastChecked (key : TableKey) : List Told → Told → Type 0 where
  newest : {told : Told} {earlier : List Told} → HasChecked told key → LastChecked key (told ∷ earlier) told
  older : {told last : Told} {earlier : List Told} → ¬ (HasChecked told key) → LastChecked key earlier last → LastChecked key (told ∷ earlier) last

-- ---- when a check needn't be made again

-- each name that the module imports is shown to it as this
abbrev pub AreShown : World → ℕ → (List ℕ → ViewTree) → Type 0
AreShown w p shown = (names : List (List ℕ)) → HasImports (held_in w p) names → (name : List ℕ) → Contains names name → IsShown w as_view p name (shown name)

abbrev pub world_in : Active → World
world_in active = world_of active.build.space active.entries

-- the pair of the build's workspace has this key
pub record IsKeyOf (active : Active) (p : ℕ) (key : TableKey) : Type 0 where
  pub pair : Pair
  pub there : slice_get (pairs_of active.build.space.targets) p ≡ Some pair
  pub is : (build_document active.build.space p).key ≡ key

-- The document has the same text in both builds, and the same view of each name that it imports.
pub record SameCheck (earlier now : Active) (document : BuildDocument) : Type 0 where
  pub pair : ℕ
  pub there : IsKeyOf earlier pair document.key
  pub text : held_in (world_in earlier) pair ≡ held_in (world_in now) document.pair
  pub shown : List ℕ → ViewTree
  pub before : AreShown (world_in earlier) pair shown
  pub still : AreShown (world_in now) document.pair shown

-- A check of the document is due: no earlier build checked it, or the last one that did had another text of it, or
-- another view of some name that it imports.
abbrev pub Due : List Told → Active → BuildDocument → Type 0
Due builds now document = (last : Told) → LastChecked document.key builds last → ¬ (SameCheck last.active now document)

-- A check of the document is known: one started in an earlier build with the same text and views.
pub record Known (builds : List Told) (now : Active) (document : BuildDocument) : Type 0 where
  pub earlier : Told
  pub there : Contains builds earlier
  pub started : HasStarted earlier document.key
  pub same : SameCheck earlier.active now document
