use Rattle.std.proofs.Common.{◌≡◌, ◌+◌, ◌≤◌, ◌++◌, All, length}
use Rattle.reload_rules.specs.Changes.{changes_in}
use Rattle.session_reload.specs.Sides.{IsEntryOf, names_in}
use Rattle.session_reload.proofs.changing.changes_of.Given as goal

abbrev pub invariant-names : goal.invariant-names
invariant-names l = record {
  done : l.changes.items ++ changes_in l.old l.new (names_in l.sides.entries) ≡ changes_in l.old l.new (names_in l.initial.sides.entries);
  each : All (IsEntryOf l.old l.new) l.sides.entries;
  few : length l.changes.items + length l.sides.entries ≤ length l.initial.sides.entries;
}

abbrev pub decreases-names : goal.decreases-names
decreases-names l = length l.sides.entries
