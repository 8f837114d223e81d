-- What a tree in memory answers, and why.
use Rattle.std.specs.Prelude.{◌≡◌, ◌==◌, ◌&&◌, ℕ, zero, suc, List, map, reverse, find, Option, None, unwrap_or, Result, Ok, Err}
use Rattle.std.specs.Option.{option_map, option_or}
use Rattle.std.specs.Str.{bytes_eq}
use Rattle.ob_text.specs.declared.held.Held.{Held}
use Rattle.ob_text.specs.declared.held.Held.TheVariants.{Absent}
use Rattle.ob_text.specs.declared.held.Snapshot.{Snapshot}
use Rattle.ob_text.specs.Held.{Entries, held_at}
use Rattle.bsp_edge.specs.declared.handing.TreeFault.{TreeFault}
use Rattle.bsp_edge.specs.declared.handing.TreeFault.TheVariants.{Failed, NoMemory}
use Rattle.bsp_edge.specs.Calls.{Calls, FailsNext, passed_call, failed_call}
use Rattle.bsp_edge.specs.Documents.{as_handed}
use Rattle.bsp_edge.specs.Faults.{counted}

-- the number of a call, a path, and what is held there from that call on
abbrev pub FileChange : Type 0
FileChange = ℕ × List ℕ × Held

-- a tree in memory
pub record TreeState : Type 0 where
  -- the files before all changes
  pub files : Entries
  pub changes : List FileChange
  -- the snapshots handed out, oldest first
  pub handed : List Entries
  pub calls : Calls

-- what the last change of this number to this path put there
abbrev pub put_by : List FileChange → ℕ → List ℕ → Option Held
put_by changes number path =
    option_map (λ change. change.2) (find (λ change. (change.0 == number) && bytes_eq change.1 path) (reverse changes))

-- what the changes of the numbers from 1 to a call's, made one after another, left at this path
abbrev pub left_by : List FileChange → ℕ → List ℕ → Option Held
left_by changes zero path = None
left_by changes (suc call) path = option_or (put_by changes (suc call) path) (left_by changes call path)

-- what a path holds at a call, counted from 1
abbrev pub held_in_call : Entries → List FileChange → ℕ → List ℕ → Held
held_in_call files changes call path = unwrap_or (option_or (left_by changes call path) (held_at files path)) Absent

-- what the next call hands out of these paths
abbrev pub next_entries : TreeState → List (List ℕ) → Entries
next_entries tree paths =
    map (λ path. (path, as_handed (held_in_call tree.files tree.changes (counted tree.calls.made) path))) paths

-- what a call that is asked for these paths answers
abbrev pub TreeAnswers : TreeState → List (List ℕ) → Result Snapshot TreeFault → Type 0
TreeAnswers tree paths (Ok snapshot) = ¬ FailsNext tree.calls × (snapshot.entries ≡ next_entries tree paths)
TreeAnswers tree paths (Err Failed) = FailsNext tree.calls
TreeAnswers tree paths (Err NoMemory) = ¬ FailsNext tree.calls

-- the calls behind one that answered so; one that found no memory counts as not made
abbrev pub calls_asked : Result Snapshot TreeFault → Calls → Calls
calls_asked (Ok snapshot) calls = passed_call calls
calls_asked (Err Failed) calls = failed_call calls
calls_asked (Err NoMemory) calls = calls
