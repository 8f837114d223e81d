-- From one step of reading to the next.
use Rattle.std.proofs.Common.{◌≡◌, ◌⊎◌, inl, inr, ℕ, ◌+◌, ◌<◌, List, [], Option, Some, Result, Ok, Err, IfOk, IfErr, ap, sym, subst, refl, arith}
use Rattle.std.specs.Option.{option_and_then, option_map_or}
use Rattle.std.proofs.lemmas.Bool.{cases_eq}
use Rattle.ob_text.specs.declared.held.Held.{Held}
use Rattle.serde_json.specs.Data.{Data}
use Rattle.target_graph.specs.declared.fault.FaultKind.{FaultKind}
use Rattle.target_graph.specs.declared.fault.FaultKind.TheVariants as kinds
use Rattle.target_graph.specs.declared.fault.WorkspaceRefusal.{WorkspaceRefusal}
use Rattle.target_graph.specs.declared.fault.WorkspaceRefusal.TheVariants as refusals
use Rattle.target_graph.specs.File.{bad_file, entries_of}
use Rattle.target_graph.specs.Faults.{json_of, file_text, file_value, file_entries, rank, Passed, HasFault, IsRefusal, IsPlainRefusal, Accepted, Looks}
use Rattle.target_graph.specs.Listing.{Accepts}
use Rattle.target_graph.specs.Workspace.{Space}

rank_same : (a b : FaultKind) → rank a ≡ rank b → a ≡ b
rank_same kinds.NoFile kinds.NoFile e = refl
rank_same kinds.BadJson kinds.BadJson e = refl
rank_same kinds.BadField kinds.BadField e = refl
rank_same kinds.TooMany kinds.TooMany e = refl
rank_same kinds.NameTwice kinds.NameTwice e = refl
rank_same kinds.UnknownDependency kinds.UnknownDependency e = refl
rank_same kinds.DependencyCycle kinds.DependencyCycle e = refl
rank_same kinds.StemTwice kinds.StemTwice e = refl
rank_same a b e = absurd (omega arith)

pub passed_none : (held : Held) → Passed held 0
passed_none held k n h = absurd (omega arith)

pub passed_more : (held : Held) (kind : FaultKind) → Passed held (rank kind) → ((name : List ℕ) → ¬ (HasFault held kind name)) → Passed held (rank kind + 1)
passed_more held kind before here k n h f = by (cases_eq (rank k) (rank kind))
  where
    by : (rank k ≡ rank kind) ⊎ (rank k ≡ rank kind → ⊥) → ⊥
    by (inl e) = here n (subst (λ (x : FaultKind). HasFault held x n) (rank_same k kind e) f)
    by (inr other) = before k n (omega arith) f

-- a step that found a fault refuses the file
pub refused : {T : Type 0} (held : Held) (kind : FaultKind) (r : WorkspaceRefusal) (IsBad : List ℕ → Type 0) (IsGood : T → Type 0) → Passed held (rank kind)
    → ((name : List ℕ) → IsBad name → HasFault held kind name) → Looks (Err r) kind IsBad IsGood → IsRefusal held r
refused held kind (refusals.Fault fault) IsBad IsGood before is h = record {
  fault = subst (λ (k : FaultKind). HasFault held k fault.name) (sym h.0) (is fault.name h.1);
  first = subst (λ (k : FaultKind). Passed held (rank k)) (sym h.0) before;
}
refused held kind refusals.NoMemory IsBad IsGood before is h = tt

-- ---- what a file says, by its text and by its value

pub value_of_text : (held : Held) (text : List ℕ) → file_text held ≡ Some text → file_value held ≡ json_of text
value_of_text held text e = ap (option_and_then json_of) e

pub bad_of_value : (held : Held) (d : Data) → file_value held ≡ Some d → option_and_then bad_file (file_value held) ≡ bad_file d
bad_of_value held d e = ap (option_and_then bad_file) e

pub entries_of_value : (held : Held) (d : Data) → file_value held ≡ Some d → file_entries held ≡ entries_of d
unfolding file_entries
entries_of_value held d e = ap (λ (o : Option Data). option_map_or entries_of o []) e

pub faultless : (held : Held) → Passed held 8 → (kind : FaultKind) (name : List ℕ) → ¬ (HasFault held kind name)
faultless held passed kind name = passed kind name (below kind)
  where
    below : (k : FaultKind) → rank k < 8
    below kinds.NoFile = omega arith
    below kinds.BadJson = omega arith
    below kinds.BadField = omega arith
    below kinds.TooMany = omega arith
    below kinds.NameTwice = omega arith
    below kinds.UnknownDependency = omega arith
    below kinds.DependencyCycle = omega arith
    below kinds.StemTwice = omega arith

pub accepts : (held : Held) (root : List ℕ) (r : Result Space WorkspaceRefusal) → Accepts held root r → IfOk r (Accepted held root) × IfErr r (IsRefusal held) × IfErr r IsPlainRefusal
accepts held root (Ok space) h = (h, tt, tt)
accepts held root (Err refusal) h = (tt, h.0, h.1)
