use Rattle.std.proofs.Common.{◌≡◌, map, take}
use Rattle.std.specs.List.{All}
use Rattle.bsp_records.specs.Diagnostics.{HasDiagnosticTexts}
use Rattle.bsp_records.specs.Short.{IsShortRecord}
use Rattle.bsp_records.specs.Shown.{shown}
use Rattle.bsp_records.proofs.shown.show_all.Given as goal

abbrev pub invariant-loop-diagnostic : goal.invariant-loop-diagnostic
invariant-loop-diagnostic l =
    record {
      shown : l.records.items ≡ map shown (take l.diagnostic-index l.list);
      texts : All HasDiagnosticTexts l.records.items;
      short : All IsShortRecord l.records.items;
    }
