use Rattle.std.proofs.Common.{ap, sym, ◌∙◌, ◌++◌, ◌∷◌, map}
use Rattle.oberon_types.specs.declared.entity.Exports.{Exports}
use Rattle.oberon_types.specs.Memory.{plain_export, plain_view}
use Rattle.iface_key.specs.Keys.{list_then, export_then, view_then}
use Rattle.iface_key.proofs.PutLaws.{on_ok}
use Rattle.iface_key.proofs.printing.put_view.Goals as goal

pub returns-in_ok-put_byte-in-Exports : goal.returns-in_ok-put_byte-in-Exports
returns-in_ok-put_byte-in-Exports c =
    on_ok c.put_exports.result
    (λ printed rest.
    printed rest
    ∙ c.in_ok-put_byte-in-Exports.ensures _
    ∙ ap (λ (e : Exports). c.args.key.now.items ++ 3 ∷ list_then export_then (map plain_export e.entities.entries) rest) c.deref.ensures
    ∙ ap (λ v. c.args.key.now.items ++ view_then (plain_view v) rest) (sym c.in-Exports.is))
    c.put_exports.ensures
