use Rattle.std.proofs.Common.{sym, ◌∙◌}
use Rattle.iface_key.proofs.ViewLaws.{opened}
use Rattle.iface_key.proofs.reading_view.view_of.Goals as goal

pub returns-in-Ok : goal.returns-in-Ok
returns-in-Ok c = opened c.args.key.now c.in-Ok.read.1.now c.in-Ok.read.0 c.unless_more.result (sym c.as_slice.ensures ∙ c.in-Ok.ensures) c.unless_more.ensures
