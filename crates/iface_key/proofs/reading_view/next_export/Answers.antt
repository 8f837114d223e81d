use Rattle.oberon_types.specs.Memory.{plain_entity}
use Rattle.iface_key.proofs.Listed.{exits}
use Rattle.iface_key.specs.Keys.{export_then}
use Rattle.iface_key.specs.ReadViews.{IsNextExport}
use Rattle.iface_key.proofs.PartLaws.{no_option_mark}
use Rattle.iface_key.proofs.ViewLaws.{no_export_name, no_export_entity, export_read}
use Rattle.iface_key.proofs.reading_view.next_export.Goals as goal

pub returns-in_err-more : goal.returns-in_err-more
returns-in_err-more c = exits _ _ c.from_residual.result c.in_err-more.field-0.0 c.from_residual.ensures.1 (λ e. no_option_mark export_then IsNextExport c.args.text.now (c.in_err-more.ensures e))

pub returns-in_err-name : goal.returns-in_err-name
returns-in_err-name c = exits _ _ c.from_residual-in_err-name.result c.in_err-name.field-0.0 c.from_residual-in_err-name.ensures.1 (λ e. no_export_name c.args.text.now c.in_ok-more.behind_mark.now c.in_ok-more.more c.in_ok-more.ensures c.if-more.true (c.in_err-name.ensures e))

pub returns-in_err-entity : goal.returns-in_err-entity
returns-in_err-entity c = exits _ _ c.from_residual-in_err-entity.result c.in_err-entity.field-0.0 c.from_residual-in_err-entity.ensures.1 (λ e. no_export_entity c.args.text.now c.in_ok-more.behind_mark.now c.in_ok-more.more c.in_ok-more.ensures c.if-more.true c.in_ok-name.behind_name.now c.in_ok-name.name c.in_ok-name.ensures (c.in_err-entity.ensures e))

pub returns-then-more : goal.returns-then-more
returns-then-more c = export_read c.args.text.now c.in_ok-more.behind_mark.now c.in_ok-more.more c.in_ok-more.ensures c.if-more.true c.in_ok-name.behind_name.now c.in_ok-entity.behind.now c.in_ok-name.name (plain_entity c.in_ok-entity.entity) c.in_ok-name.ensures c.in_ok-entity.ensures
