-- What the checks that a session keeps have to do with the builds that it answered. The workspaces of those builds may be
-- others than the one in force, but they have its root: so a document in its target is the same where the name of the target
-- and the path are, and its key stays.
use Rattle.std.specs.Prelude.{◌≡◌, ◌≢◌, ℕ, List, [], Contains, Option, Some, None}
use Rattle.std.specs.List.{All, AllPairs, slice_get}
use Rattle.build_checks.specs.Kept.{AreNumbered, IsKept}
use Rattle.build_rules.specs.World.{held_in}
use Rattle.check_cache.specs.Facts.{FactTree}
use Rattle.check_cache.specs.Pairs.{key_of}
use Rattle.check_cache.specs.Places.{first_at, other_at}
use Rattle.check_cache.specs.declared.cache.Cache.{Cache}
use Rattle.check_cache.specs.declared.pair.PairKey.{PairKey}
use Rattle.session_build.specs.declared.kept.Kept.{Kept}
use Rattle.session_build.specs.declared.late.Late.{Late}
use Rattle.session_law.specs.Builds.{build_document}
use Rattle.session_law.specs.History.{Told, HasStarted, IsKeyOf, LastChecked, world_in}
use Rattle.target_graph.specs.Address.{document_address, target_address}
use Rattle.target_graph.specs.Faults.{IsRepeat}
use Rattle.target_graph.specs.Workspace.{Space, id_of, pairs_of, stem_at}
use Rattle.target_graph.specs.declared.target.Pair.{Pair}
use Rattle.task_stream.specs.declared.shown.TableKey.{TableKey}

-- the key at which a client shows the document of a pair with this key
abbrev pub table_key : List ℕ → PairKey → TableKey
table_key root key = record { document = document_address root key.path; target = target_address root key.target }

-- ---- what stands in a place

-- The fact in the first place of a pair is of the last build that checked its document, and there of the pair that had the
-- document's key. None stands there where none did.
pub record IsOfLast (keys : List (List ℕ)) (builds : List Told) (key : TableKey) (fact : FactTree) : Type 0 where
  pub told : Told
  pub last : LastChecked key builds told
  pub pair : ℕ
  pub at : IsKeyOf told.active pair key
  pub kept : IsKept keys (world_in told.active) pair fact

abbrev pub FirstFits : List (List ℕ) → List Told → TableKey → Option FactTree → Type 0
FirstFits keys builds key None = (told : Told) → ¬ (LastChecked key builds told)
FirstFits keys builds key (Some fact) = IsOfLast keys builds key fact

-- The fact in the other place is of some build in which a check of the document started.
pub record IsOfSome (keys : List (List ℕ)) (builds : List Told) (key : TableKey) (fact : FactTree) : Type 0 where
  pub told : Told
  pub there : Contains builds told
  pub started : HasStarted told key
  pub pair : ℕ
  pub at : IsKeyOf told.active pair key
  pub kept : IsKept keys (world_in told.active) pair fact

abbrev pub OtherFits : List (List ℕ) → List Told → TableKey → Option FactTree → Type 0
OtherFits keys builds key None = Unit {0}
OtherFits keys builds key (Some fact) = IsOfSome keys builds key fact

-- ---- the builds, and the workspace in force

-- the build was of a workspace with this root, which was accepted
pub record IsOfRoot (root : List ℕ) (told : Told) : Type 0 where
  pub root_is : told.active.build.space.root ≡ root
  pub apart : AllPairs (λ p q. document_address told.active.build.space.root p.path ≡ document_address told.active.build.space.root q.path
      → id_of told.active.build.space p.target ≢ id_of told.active.build.space q.target) (pairs_of told.active.build.space.targets)
  pub once : (target pair : ℕ) → ¬ (IsRepeat told.active.build.space.targets target pair)

-- the workspace has a pair whose document has this key
pub record HasDocument (space : Space) (key : TableKey) : Type 0 where
  pub index : ℕ
  pub pair : Pair
  pub there : slice_get (pairs_of space.targets) index ≡ Some pair
  pub is : (build_document space index).key ≡ key

-- Of a session that answered these builds, the newest first, and in which this workspace is in force, these checks are kept,
-- and these keys have numbers.
pub record RemembersChecks (space : Space) (builds : List Told) (cache : Cache) (keys : List (List ℕ)) : Type 0 where
  pub of_root : All (IsOfRoot space.root) builds
  -- a document whose check started, and which wasn't cleaned since, is in the workspace
  pub within : (told : Told) (key : TableKey) → Contains builds told → HasStarted told key → HasDocument space key
  pub first : (p : ℕ) (pair : Pair) → slice_get (pairs_of space.targets) p ≡ Some pair
      → FirstFits keys builds (build_document space p).key (first_at cache (key_of space.targets pair))
  pub other : (p : ℕ) (pair : Pair) → slice_get (pairs_of space.targets) p ≡ Some pair
      → OtherFits keys builds (build_document space p).key (other_at cache (key_of space.targets pair))

-- ---- checks that may come late

-- A check that may come late started in some build, under the stem of its document's path: of what was held there then, and
-- by what its imports showed. The document wasn't cleaned since.
pub record IsLateOf (keys : List (List ℕ)) (root : List ℕ) (builds : List Told) (late : Late) : Type 0 where
  pub told : Told
  pub there : Contains builds told
  pub started : HasStarted told (table_key root late.key)
  pub pair : ℕ
  pub at : IsKeyOf told.active pair (table_key root late.key)
  pub stem_is : late.stem ≡ stem_at told.active.build.space.targets pair
  pub held_is : late.held.value ≡ held_in (world_in told.active) pair
  pub numbered : AreNumbered keys (world_in told.active) pair late.imports.items

abbrev pub AreLate : List (List ℕ) → List ℕ → List Told → List Late → Type 0
AreLate keys root builds late = All (IsLateOf keys root builds) late

-- ---- all of it

-- all that is kept
pub record Remembers (space : Space) (builds : List Told) (kept : Kept) : Type 0 where
  pub checks : RemembersChecks space builds kept.cache kept.keys
  pub late : AreLate kept.keys space.root builds kept.late.items

-- nothing is kept yet
pub record IsEmpty (kept : Kept) : Type 0 where
  pub first : (key : PairKey) → first_at kept.cache key ≡ None
  pub other : (key : PairKey) → other_at kept.cache key ≡ None
  pub late : kept.late.items ≡ []
