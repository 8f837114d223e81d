use Rattle.std.proofs.Common.{map}
use Rattle.serde_json.specs.View.{view}
use Rattle.json_shape.specs.Shapes.{bad}
use Rattle.json_shape.proofs.ListLaws.{list_reads}
use Rattle.json_shape.proofs.reading.ItemsRead.read.Goals as goal

pub returns-in-Some-clause-read : goal.returns-in-Some-clause-read
returns-in-Some-clause-read g c =
    list_reads (bad g.T.Read.shape) g.T.Read.value_in (view c.args.value.now) (map view c.in-Some.values.now.items) c.read_items.result c.in-Some.ensures (rw c.as_slice.ensures.value at c.read_items.ensures.read)
