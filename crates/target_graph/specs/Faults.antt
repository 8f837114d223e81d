-- Which workspace files are accepted, and why others are refused.
use Rattle.std.specs.Prelude.{◌≡◌, ◌≢◌, ℕ, ◌<◌, List, [], ◌∷◌, ◌++◌, map, length, nat_lt, codes, Option, None, Some, option_and_then, if◌then◌else◌, Contains, All, Result, Ok, Err}
use Rattle.std.specs.Option.{option_map_or}
use Rattle.std.specs.List.{slice_get, position_or_len, flat_map, AllPairs}
use Rattle.std.specs.Str.{is_utf8, bytes_eq}
use Rattle.ob_text.specs.declared.held.Held.{Held}
use Rattle.ob_text.specs.declared.held.Held.TheVariants as helds
use Rattle.serde_json.specs.Data.{Data}
use Rattle.serde_json.specs.Read.{read}
use Rattle.target_graph.specs.Limits.{dependencies_limit, pairs_limit, targets_limit}
use Rattle.target_graph.specs.declared.entry.Entry.{Entry}
use Rattle.target_graph.specs.declared.fault.FaultKind.{FaultKind}
use Rattle.target_graph.specs.declared.fault.FaultKind.TheVariants as kinds
use Rattle.target_graph.specs.declared.fault.WorkspaceRefusal.{WorkspaceRefusal}
use Rattle.target_graph.specs.declared.fault.WorkspaceRefusal.TheVariants as refusals
use Rattle.target_graph.specs.declared.target.Target.{Target}
use Rattle.target_graph.specs.File.{bad_file, entries_of}
use Rattle.target_graph.specs.Names.{IsPlainName}
use Rattle.target_graph.specs.Workspace.{Space, Circles, Sees, stem_at}

-- ---- what a file says

abbrev pub file_text : Held → Option (List ℕ)
file_text (helds.Text text) = Some text
file_text helds.Absent = None
file_text helds.TooLarge = None
file_text helds.NotText = None

abbrev pub json_of : List ℕ → Option Data
json_of text = if is_utf8 text then read text else None

abbrev pub file_value : Held → Option Data
file_value held = option_and_then json_of (file_text held)

-- what the file says of its targets, where it says anything
unfoldable pub file_entries : Held → List Entry
file_entries held = option_map_or entries_of (file_value held) []

abbrev pub names_of : List Entry → List (List ℕ)
names_of entries = map (λ entry. entry.name) entries

abbrev pub modules_of : List Entry → List (List ℕ)
modules_of entries = flat_map (λ entry. entry.modules) entries

abbrev pub dependencies_of : List Entry → List (List ℕ)
dependencies_of entries = flat_map (λ entry. entry.dependencies) entries

-- the index of a name
abbrev pub index_of : List (List ℕ) → List ℕ → ℕ
index_of names name = position_or_len (bytes_eq name) names

-- a target, its dependencies by their indices
abbrev pub target_of : List (List ℕ) → Entry → Target
target_of names entry = record {
  name = entry.name;
  kind = entry.kind;
  modules = entry.modules;
  dependencies = map (index_of names) entry.dependencies;
  main = entry.main;
}

abbrev pub targets_of : List Entry → List Target
targets_of entries = map (target_of (names_of entries)) entries

abbrev pub file_targets : Held → List Target
file_targets held = targets_of (file_entries held)

-- ---- faults

-- of what there are too many
abbrev pub too_many : List Entry → Option (List ℕ)
too_many entries =
    if nat_lt targets_limit (length entries) then Some (codes "targets") else
    if nat_lt pairs_limit (length (modules_of entries)) then Some (codes "modules") else
    if nat_lt dependencies_limit (length (dependencies_of entries)) then Some (codes "dependencies") else None

-- the first name that an earlier one equals
pub record IsFirstRepeat (names : List (List ℕ)) (name : List ℕ) : Type 0 where
  pub before : List (List ℕ)
  pub after : List (List ℕ)
  pub whole : names ≡ before ++ name ∷ after
  pub seen : Contains before name
  pub fresh : AllPairs ◌≢◌ before

-- the first dependency that is no name of a target
pub record IsFirstUnknown (names dependencies : List (List ℕ)) (name : List ℕ) : Type 0 where
  pub before : List (List ℕ)
  pub after : List (List ℕ)
  pub whole : dependencies ≡ before ++ name ∷ after
  pub unknown : ¬ (Contains names name)
  pub known : All (Contains names) before

-- the name of the first target that depends on itself
pub record IsFirstCycle (targets : List Target) (name : List ℕ) : Type 0 where
  pub index : ℕ
  pub target : Target
  pub there : slice_get targets index ≡ Some target
  pub named : target.name ≡ name
  pub circles : Circles targets index
  pub first : (earlier : ℕ) → earlier < index → ¬ (Circles targets earlier)

-- a pair that the target sees has the stem of an earlier one
pub record IsRepeat (targets : List Target) (index q : ℕ) : Type 0 where
  pub earlier : ℕ
  pub before : earlier < q
  pub sees_earlier : Sees targets index earlier
  pub sees : Sees targets index q
  pub same : stem_at targets earlier ≡ stem_at targets q

-- the stem of the first pair that has an earlier one's stem, for the first target that sees two such pairs
pub record IsFirstStemTwice (targets : List Target) (name : List ℕ) : Type 0 where
  pub index : ℕ
  pub pair : ℕ
  pub repeats : IsRepeat targets index pair
  pub named : stem_at targets pair ≡ name
  pub first_pair : (q : ℕ) → q < pair → ¬ (IsRepeat targets index q)
  pub first_target : (earlier : ℕ) → earlier < index → (q : ℕ) → ¬ (IsRepeat targets earlier q)

-- The fault stands in the file, and is about this name.
abbrev pub HasFault : Held → FaultKind → List ℕ → Type 0
HasFault held kinds.NoFile name = (file_text held ≡ None) × (name ≡ [])
HasFault held kinds.BadJson name = (file_value held ≡ None) × (name ≡ [])
HasFault held kinds.BadField name = option_and_then bad_file (file_value held) ≡ Some name
HasFault held kinds.TooMany name = too_many (file_entries held) ≡ Some name
HasFault held kinds.NameTwice name = IsFirstRepeat (names_of (file_entries held)) name
HasFault held kinds.UnknownDependency name = IsFirstUnknown (names_of (file_entries held)) (dependencies_of (file_entries held)) name
HasFault held kinds.DependencyCycle name = IsFirstCycle (file_targets held) name
HasFault held kinds.StemTwice name = IsFirstStemTwice (file_targets held) name

-- the order in which faults are looked for
abbrev pub rank : FaultKind → ℕ
rank kinds.NoFile = 0
rank kinds.BadJson = 1
rank kinds.BadField = 2
rank kinds.TooMany = 3
rank kinds.NameTwice = 4
rank kinds.UnknownDependency = 5
rank kinds.DependencyCycle = 6
rank kinds.StemTwice = 7

-- no fault of a lower rank stands in the file
abbrev pub Passed : Held → ℕ → Type 0
Passed held limit = (earlier : FaultKind) (other : List ℕ) → rank earlier < limit → ¬ (HasFault held earlier other)

-- The file is refused by the first of its faults.
pub record Refused (held : Held) (kind : FaultKind) (name : List ℕ) : Type 0 where
  pub fault : HasFault held kind name
  pub first : Passed held (rank kind)

-- The file has no fault, and this is the workspace at this root.
pub record Accepted (held : Held) (root : List ℕ) (space : Space) : Type 0 where
  pub faultless : (kind : FaultKind) (name : List ℕ) → ¬ (HasFault held kind name)
  pub at_root : space.root ≡ root
  pub all_targets : space.targets ≡ file_targets held

-- a refusal gives the first fault; want of memory says nothing
abbrev pub IsRefusal : Held → WorkspaceRefusal → Type 0
IsRefusal held (refusals.Fault fault) = Refused held fault.kind fault.name
IsRefusal held refusals.NoMemory = Unit {0}

-- what a refusal names is plain
abbrev pub IsPlainRefusal : WorkspaceRefusal → Type 0
IsPlainRefusal (refusals.Fault fault) = IsPlainName fault.name
IsPlainRefusal refusals.NoMemory = Unit {0}

-- an index of these names: no two are equal
pub record IsNameIndex (keys names : List (List ℕ)) : Type 0 where
  pub same : keys ≡ names
  pub distinct : AllPairs ◌≢◌ names

-- these are the targets, and each dependency is one of them
pub record IsResolved (names : List (List ℕ)) (entries : List Entry) (targets : List Target) : Type 0 where
  pub each : targets ≡ map (target_of names) entries
  pub known : All (Contains names) (dependencies_of entries)

-- ---- a step of reading, which looks for faults of one kind

abbrev pub Looks : {T : Type 0} → Result T WorkspaceRefusal → FaultKind → (List ℕ → Type 0) → (T → Type 0) → Type 0
Looks (Ok x) kind IsBad IsGood = IsGood x × ((name : List ℕ) → ¬ (IsBad name))
Looks (Err (refusals.Fault fault)) kind IsBad IsGood = (fault.kind ≡ kind) × IsBad fault.name
Looks (Err refusals.NoMemory) kind IsBad IsGood = Unit {0}

-- the refusal has this kind and this name
abbrev pub IsAbout : WorkspaceRefusal → FaultKind → List ℕ → Type 0
IsAbout (refusals.Fault fault) kind name = (fault.kind ≡ kind) × (fault.name ≡ name)
IsAbout refusals.NoMemory kind name = Unit {0}
