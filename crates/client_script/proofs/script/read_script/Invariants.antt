use denote.Shadow.{shadow}
use denote.Text.{Utf8}
use Rattle.std.proofs.Common.{◌≡◌, ◌++◌, ◌+◌, ◌≤◌, ℕ, List, length}
use Rattle.client_script.specs.Pieces.{pieces}
use Rattle.client_script.proofs.ScriptLaws.{Leads}
use Rattle.client_script.proofs.script.read_script.Given as goal

abbrev pub invariant-lines : goal.invariant-lines
invariant-lines l =
    (before : List (List ℕ)) × (pieces 10 l.initial.rest ≡ before ++ pieces 10 l.rest) × (l.number ≡ length before + 1) × (l.number + length l.rest ≤ 262145) × Leads before l.lines.items
    × shadow (Utf8 l.rest)

abbrev pub decreases-lines : goal.decreases-lines
decreases-lines l = length l.rest
