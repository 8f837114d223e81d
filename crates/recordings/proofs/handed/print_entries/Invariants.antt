use Rattle.std.proofs.Common.{◌≡◌, ◌++◌, length}
use Rattle.std.specs.List.{All}
use Rattle.serde_json.specs.Data.{array}
use Rattle.serde_json.specs.Written.{compact_text, items_text}
use Rattle.recordings.specs.Recordings.{IsTextEntry, entries_items}
use Rattle.recordings.proofs.handed.print_entries.Given as goal

abbrev pub decreases-entries : goal.decreases-entries
decreases-entries l = length l.rest

abbrev pub invariant-entries : goal.invariant-entries
invariant-entries l = record {
  texts : All IsTextEntry l.rest;
  printed : l.out.items ++ items_text l.later (entries_items l.rest) ≡ l.fn.out.items ++ compact_text (array (entries_items l.fn.entries));
}
