use Rattle.std.proofs.Common.{ap, sym, map, ◌∙◌, ◌==◌}
use Rattle.std.specs.Cmp.Lexicographic.{pointwise}
use Rattle.indexmap.proofs.CallerLemmas.{insert_entry-new}
use Rattle.std.specs.Option.{option_map}
use Rattle.oberon_types.specs.Memory.{plain_export}
use Rattle.iface_key.specs.Keys.{option_then, list_then, export_then}
use Rattle.iface_key.specs.Views.{AreExports}
use Rattle.iface_key.specs.ReadViews.{IsNextExport}
use Rattle.iface_key.proofs.Listed.{exits, none_next, so_far_step, so_far_last, map_more}
use Rattle.iface_key.proofs.Longer.{item_smaller, export_longer}
use Rattle.iface_key.proofs.ViewLaws.{export_listing, next_is_export, no_twice, none_of, some_of}
use Rattle.iface_key.proofs.reading_view.read_exports.Goals as goal

pub returns-in_err-next : goal.returns-in_err-next
returns-in_err-next c = exits _ _ c.from_residual.result c.in_err-next.field-0.0 c.from_residual.ensures.1
    (λ e. none_next (option_then export_then) (list_then export_then) export_listing IsNextExport AreExports tt next_is_export (map plain_export c.exports.entities.entries) c.args.text.now c.exports.left.now c.exports.invariant (c.in_err-next.ensures e))

pub returns-in-None : goal.returns-in-None
returns-in-None c = so_far_last (option_then export_then) (list_then export_then) export_listing (map plain_export c.exports.entities.entries) _ c.args.text.now c.exports.left.now c.in_ok-next.behind.now c.exports.invariant c.in_ok-next.ensures (ap (option_map plain_export) c.in-None.is)

pub exports-smaller : goal.exports-smaller
exports-smaller c = item_smaller export_then export_longer _ c.exports.left.now c.in_ok-next.behind.now c.in_ok-next.ensures

pub exports-preserved : goal.exports-preserved
exports-preserved c =
    let none = none_of c.in_ok-old-in-Some.old (sym c.was_there-is_twice.ensures ∙ c.if-is_twice.false) in
    let new = insert_entry-new (pointwise ◌==◌) c.exports.entities c.in-Some.export.0 c.in-Some.export.1 (sym c.in_ok-old-in-Some.ensures.old ∙ none) in
    so_far_step (option_then export_then) (list_then export_then) export_listing (map plain_export c.exports.entities.entries) (map plain_export c.insert.new.self.entries) (plain_export c.in-Some.export) _ c.args.text.now c.exports.left.now c.in_ok-next.behind.now c.exports.invariant c.in_ok-next.ensures (ap (option_map plain_export) c.in-Some.is) (ap (map plain_export) (c.in_ok-old-in-Some.ensures.entries ∙ new) ∙ map_more plain_export c.exports.entities.entries c.in-Some.export)

pub returns-then-is_twice : goal.returns-then-is_twice
returns-then-is_twice c e =
    let there = some_of c.in_ok-old-in-Some.old (sym c.was_there-is_twice.ensures ∙ c.if-is_twice.true) in
    no_twice c.exports.left.now c.in_ok-next.behind.now c.exports.entities.entries c.in-Some.export.0 there.0 c.in-Some.export.1
    (c.in_ok-next.ensures ∙ ap (λ o. option_then export_then (option_map plain_export o) c.in_ok-next.behind.now) c.in-Some.is)
    (sym c.in_ok-old-in-Some.ensures.old ∙ there.1) c.args.text.now c.exports.invariant
