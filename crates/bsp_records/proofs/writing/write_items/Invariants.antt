use Rattle.std.proofs.Common.{◌≡◌, false, map, take}
use Rattle.serde_json.specs.View.{view, items_of}
use Rattle.serde_json.specs.Written.{items_have_float}
use Rattle.bsp_records.proofs.writing.write_items.Given as goal

abbrev pub invariant-loop-item : goal.invariant-loop-item
invariant-loop-item g l =
    record {
      written : map view l.values.items ≡ map g.T.Write.data_of (take l.item-index l.items);
      exact : items_have_float (items_of (map view l.values.items)) ≡ false;
    }
