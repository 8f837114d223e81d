use Rattle.std.proofs.Common.{◌≡◌, map, take, drop}
use Rattle.std.specs.List.{All}
use Rattle.serde_json.specs.View.{view}
use Rattle.json_shape.specs.Shapes.{bad, bad_item}
use Rattle.json_shape.proofs.reading.read_items.Given as goal

-- No value so far is bad, and each is read.
abbrev pub invariant-loop-index : goal.invariant-loop-index
invariant-loop-index g l =
    record {
      bad : bad_item (bad g.T.Read.shape) 0 (map view l.values) ≡ bad_item (bad g.T.Read.shape) l.index (map view (drop l.index l.values));
      read : l.items.items ≡ map g.T.Read.value_in (map view (take l.index l.values));
      texts : All g.T.Read.HasTexts l.items.items;
    }
