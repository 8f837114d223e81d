-- A step of reading that has found a fault.
use Rattle.std.proofs.Common.{ℕ, List, Err, sym, subst}
use Rattle.target_graph.specs.declared.fault.FaultKind.{FaultKind}
use Rattle.target_graph.specs.declared.fault.WorkspaceRefusal.{WorkspaceRefusal}
use Rattle.target_graph.specs.declared.fault.WorkspaceRefusal.TheVariants as refusals
use Rattle.target_graph.specs.Faults.{IsAbout, Looks}

pub found : {T : Type 0} (r : WorkspaceRefusal) (kind : FaultKind) (IsBad : List ℕ → Type 0) (IsGood : T → Type 0) (name : List ℕ)
    → IsAbout r kind name → IsBad name → Looks (Err r) kind IsBad IsGood
found (refusals.Fault fault) kind IsBad IsGood name a b = (a.0, subst IsBad (sym a.1) b)
found refusals.NoMemory kind IsBad IsGood name a b = tt

pub passed_on : {T U : Type 0} (r : WorkspaceRefusal) (kind : FaultKind) (IsBad IsWorse : List ℕ → Type 0) (IsGood : T → Type 0) (IsBetter : U → Type 0)
    → ((name : List ℕ) → IsBad name → IsWorse name) → Looks (Err r) kind IsBad IsGood → Looks (Err r) kind IsWorse IsBetter
passed_on (refusals.Fault fault) kind IsBad IsWorse IsGood IsBetter f h = (h.0, f fault.name h.1)
passed_on refusals.NoMemory kind IsBad IsWorse IsGood IsBetter f h = tt
