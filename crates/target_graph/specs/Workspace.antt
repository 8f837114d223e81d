-- What a workspace is: its targets, in the order of the file, and what they lead to.
use Rattle.std.specs.Prelude.{◌≡◌, ℕ, suc, ◌<◌, List, length, [], ◌∷◌, ◌++◌, map, true, Option, Some, option_and_then, Contains, All}
use Rattle.std.specs.List.{slice_get, slice_index_or, AllPairs, position}
use Rattle.std.specs.Option.{option_or}
use Rattle.std.specs.Str.{bytes_eq}
use Rattle.target_graph.specs.declared.target.Pair.{Pair}
use Rattle.target_graph.specs.declared.target.Target.{Target}
use Rattle.target_graph.specs.Address.{target_address, document_address, printed, IsSpelling}
use Rattle.target_graph.specs.Names.{is_name, is_path, stem}

-- what contracts see of a workspace
pub record Space : Type 0 where
  pub root : List ℕ
  pub targets : List Target

-- ---- pairs

abbrev pub pairs_at : ℕ → List (List ℕ) → List Pair
pairs_at n modules = map (λ path. record { target = n; path = path }) modules

abbrev pub pairs_from : ℕ → List Target → List Pair
pairs_from n [] = []
pairs_from n (target ∷ targets) = pairs_at n target.modules ++ pairs_from (suc n) targets

-- A pair is a target and one of its module paths. They stand in the order of the file.
unfoldable pub pairs_of : List Target → List Pair
pairs_of targets = pairs_from 0 targets

-- ---- dependencies

-- one target lists another as a dependency
pub record IsDirect (targets : List Target) (a b : ℕ) : Type 0 where
  pub target : Target
  pub there : slice_get targets a ≡ Some target
  pub listed : Contains target.dependencies b

-- The way leads from one target to another: each target in it is a direct dependency of the one before.
abbrev pub IsWay : List Target → ℕ → List ℕ → ℕ → Type 0
IsWay targets a [] b = a ≡ b
IsWay targets a (next ∷ way) b = IsDirect targets a next × IsWay targets next way b

-- Some way leads from one target to another. Each target leads to itself.
pub record Leads (targets : List Target) (a b : ℕ) : Type 0 where
  pub way : List ℕ
  pub is_way : IsWay targets a way b

-- a target depends on itself, directly or not
pub record Circles (targets : List Target) (a : ℕ) : Type 0 where
  pub next : ℕ
  pub direct : IsDirect targets a next
  pub back : Leads targets next a

-- one of these targets leads to a target
pub record IsReached (targets : List Target) (asked : List ℕ) (b : ℕ) : Type 0 where
  pub from : ℕ
  pub asked_for : Contains asked from
  pub leads : Leads targets from b

-- The closure of some targets: these and all that they depend on, directly or not, in the order of the file.
pub record IsClosure (targets : List Target) (asked closure : List ℕ) : Type 0 where
  pub ordered : AllPairs ◌<◌ closure
  pub reached : All (IsReached targets asked) closure
  pub whole : (b : ℕ) → IsReached targets asked b → Contains closure b

-- ---- what a module sees

-- a module of the target sees the pair
pub record Sees (targets : List Target) (a q : ℕ) : Type 0 where
  pub pair : Pair
  pub there : slice_get (pairs_of targets) q ≡ Some pair
  pub leads : Leads targets a pair.target

-- the stem of each pair
abbrev pub stems_of : List Pair → List (List ℕ)
stems_of pairs = map (λ pair. stem pair.path) pairs

abbrev pub stem_at : List Target → ℕ → List ℕ
stem_at targets q = slice_index_or (stems_of (pairs_of targets)) q []

-- what the name means to a module of the target: a pair that it sees, whose stem is the name
pub record IsVisible (targets : List Target) (a : ℕ) (name : List ℕ) (q : ℕ) : Type 0 where
  pub sees : Sees targets a q
  pub named : stem_at targets q ≡ name

-- the names and the paths of the targets are ones
abbrev pub AreValid : List Target → Type 0
AreValid targets = All (λ target. (is_name target.name ≡ true) × All (λ path. is_path path ≡ true) target.modules) targets

-- ---- addresses

abbrev pub name_at : List Target → ℕ → List ℕ
name_at targets t = slice_index_or (map (λ target. target.name) targets) t []

abbrev pub path_at : List Target → ℕ → List ℕ
path_at targets q = slice_index_or (map (λ pair. pair.path) (pairs_of targets)) q []

abbrev pub id_of : Space → ℕ → List ℕ
id_of space t = target_address space.root (name_at space.targets t)

-- the address, in either spelling, is the id of the target
pub record Names (space : Space) (uri : List ℕ) (t : ℕ) : Type 0 where
  pub within : t < length space.targets
  pub spelled : IsSpelling uri (id_of space t)

-- the index of the target that has this id
abbrev pub with_id : Space → List ℕ → Option ℕ
with_id space id = position (λ target. bytes_eq id (target_address space.root target.name)) space.targets

-- The target that an address names: the one whose id it is as it is spelled, and else as url prints it.
unfoldable pub named : Space → List ℕ → Option ℕ
named space uri = option_or (with_id space uri) (option_and_then (with_id space) (printed uri))

-- the target lists a document that has the address in either spelling
pub record Lists (space : Space) (uri : List ℕ) (t : ℕ) : Type 0 where
  pub target : Target
  pub there : slice_get space.targets t ≡ Some target
  pub path : List ℕ
  pub listed : Contains target.modules path
  pub spelled : IsSpelling uri (document_address space.root path)

-- the targets that list the document themselves, in the order of the file
pub record IsInverse (space : Space) (uri targets : List ℕ) : Type 0 where
  pub ordered : AllPairs ◌<◌ targets
  pub each : All (Lists space uri) targets
  pub whole : (t : ℕ) → Lists space uri t → Contains targets t
