-- Which targets are created, changed and deleted between two workspaces.
use Rattle.std.specs.Prelude.{◌≡◌, ◌&&◌, ◌++◌, ℕ, Bool, true, false, List, map, find, Contains, All, Option, None, Some, if◌then◌else◌}
use Rattle.std.specs.Cmp.Lexicographic.{pointwise, slice_cmp}
use Rattle.std.specs.List.{AllPairs, filter_map}
use Rattle.std.specs.Option.{option_map}
use Rattle.std.specs.Ordering.{nat_cmp}
use Rattle.std.specs.declared.cmp.Ordering.TheVariants.{Less}
use Rattle.std.specs.Str.{bytes_eq}
use Rattle.target_graph.specs.Workspace.{name_at}
use Rattle.target_graph.specs.declared.target.Target.{Target}
use Rattle.target_graph.specs.declared.target.TargetKind.{TargetKind}
use Rattle.target_graph.specs.declared.target.TargetKind.TheVariants.{Library, Application, Test}
use Rattle.reload_rules.specs.declared.change.Change.{Change}
use Rattle.reload_rules.specs.declared.change.Change.TheVariants.{Created, Changed, Deleted}
use Rattle.reload_rules.specs.declared.change.ChangedTarget.{ChangedTarget}

-- ---- what a workspace says of a target

-- the names of its dependencies: the same target may have another index in another workspace
abbrev pub dependencies_of : List Target → Target → List (List ℕ)
dependencies_of targets target = map (name_at targets) target.dependencies

abbrev pub same_kind : TargetKind → TargetKind → Bool
same_kind Library Library = true
same_kind Application Application = true
same_kind Test Test = true
same_kind a b = false

abbrev pub same_texts : List (List ℕ) → List (List ℕ) → Bool
same_texts = pointwise bytes_eq

abbrev pub same_main : Option (List ℕ) → Option (List ℕ) → Bool
same_main None None = true
same_main (Some a) (Some b) = bytes_eq a b
same_main a b = false

-- Two workspaces say the same of a target: its kind, its modules and its dependencies in the order of the file, and its main
-- module, which an application alone has.
abbrev pub says_same : List Target → Target → List Target → Target → Bool
says_same old a new b = same_kind a.kind b.kind && same_texts a.modules b.modules && same_texts (dependencies_of old a) (dependencies_of new b) && same_main a.main b.main

-- the same, of two targets
pub record SaysSame (old : List Target) (a : Target) (new : List Target) (b : Target) : Type 0 where
  pub kind : a.kind ≡ b.kind
  pub modules : a.modules ≡ b.modules
  pub dependencies : dependencies_of old a ≡ dependencies_of new b
  pub main : a.main ≡ b.main

-- ---- what became of a name

-- the target of this name
abbrev pub with_name : List ℕ → List Target → Option Target
with_name name targets = find (λ target. bytes_eq name target.name) targets

abbrev pub change_between : List Target → List Target → Option Target → Option Target → Option Change
change_between old new None None = None
change_between old new None (Some b) = Some Created
change_between old new (Some a) None = Some Deleted
change_between old new (Some a) (Some b) = if says_same old a new b then None else Some Changed

-- what became of the target of this name, where it isn't what it was
abbrev pub change_of : List Target → List Target → List ℕ → Option Change
change_of old new name = change_between old new (with_name name old) (with_name name new)

-- ---- all changes

abbrev pub names_of : List Target → List (List ℕ)
names_of targets = map (λ target. target.name) targets

-- one name stands before another by their bytes
abbrev pub IsBefore : List ℕ → List ℕ → Type 0
IsBefore a b = slice_cmp nat_cmp a b ≡ Less

-- the names of the targets of both workspaces, each once, in the order of their bytes
pub record AreNames (old new : List Target) (names : List (List ℕ)) : Type 0 where
  pub ordered : AllPairs IsBefore names
  pub each : All (Contains (names_of (old ++ new))) names
  pub whole : All (Contains names) (names_of (old ++ new))

abbrev pub changed : List ℕ → Option Change → Option ChangedTarget
changed name change = option_map (λ change. record { name = name; change = change }) change

-- the changes among these names
abbrev pub changes_in : List Target → List Target → List (List ℕ) → List ChangedTarget
changes_in old new names = filter_map (λ name. changed name (change_of old new name)) names

-- all changes, in the order of the names
pub record AreChanges (old new : List Target) (changes : List ChangedTarget) : Type 0 where
  pub names : List (List ℕ)
  pub are_names : AreNames old new names
  pub are_changes : changes ≡ changes_in old new names
