-- What reading a file gives, up to the indices of the dependencies.
use Rattle.std.specs.Prelude.{◌≡◌, ℕ, List, None, Result, Ok, Err}
use Rattle.ob_text.specs.declared.held.Held.{Held}
use Rattle.target_graph.specs.declared.fault.WorkspaceRefusal.{WorkspaceRefusal}
use Rattle.target_graph.specs.declared.reading.Listing.{Listing}
use Rattle.target_graph.specs.Workspace.{Space}
use Rattle.target_graph.specs.Faults.{file_entries, names_of, too_many, Passed, IsNameIndex, IsResolved, IsRefusal, IsPlainRefusal, Accepted}

pub record IsListing (held : Held) (listing : Listing) : Type 0 where
  pub few : too_many (file_entries held) ≡ None
  pub index : IsNameIndex listing.names.keys (names_of (file_entries held))
  pub resolved : IsResolved listing.names.keys (file_entries held) listing.targets.items
  pub passed : Passed held 6

-- a refusal by the first fault, with a plain name
abbrev pub Refuses : Held → WorkspaceRefusal → Type 0
Refuses held refusal = IsRefusal held refusal × IsPlainRefusal refusal

abbrev pub GivesListing : Held → Result Listing WorkspaceRefusal → Type 0
GivesListing held (Ok listing) = IsListing held listing
GivesListing held (Err refusal) = Refuses held refusal

abbrev pub Accepts : Held → List ℕ → Result Space WorkspaceRefusal → Type 0
Accepts held root (Ok workspace) = Accepted held root workspace
Accepts held root (Err refusal) = Refuses held refusal
