use Rattle.std.proofs.Common.{◌≡◌, ◌++◌, length, map}
use Rattle.serde_json.specs.View.{items_of}
use Rattle.serde_json.specs.Written.{compact_text, items_text}
use Rattle.bsp_records.specs.Diagnostics.{diagnostic_data}
use Rattle.bsp_records.specs.Shown.{shown}
use Rattle.bsp_records.specs.Writing.{array_with}
use Rattle.bsp_records.proofs.printing.print_list.Given as goal

abbrev pub decreases-diagnostics : goal.decreases-diagnostics
decreases-diagnostics l = length l.rest

abbrev pub invariant-diagnostics : goal.invariant-diagnostics
invariant-diagnostics l =
    l.out.items ++ items_text l.later (items_of (map diagnostic_data (map shown l.rest)))
    ≡ l.fn.out.items ++ compact_text (array_with (map diagnostic_data (map shown l.fn.list)))
