use Rattle.std.proofs.Common.{slice_get, ap, ◌∙◌}
use Rattle.iface_key.proofs.KeyLaws.{one_number, stored_key, kept_key}
use Rattle.iface_key.proofs.keys.Keys.intern.Goals as goal

pub returns-clause-only : goal.returns-clause-only
returns-clause-only c m at =
    let found = c.in_ok-index.ensures.stored in
    let keys = c.insert_full.new.self.keys in
    one_number keys m c.in_ok-index.index c.args.key c.in_ok-index.ensures.unique at (stored_key keys c.in_ok-index.index c.args.key found.0 found.1 found.2)

pub returns-clause-earlier : goal.returns-clause-earlier
returns-clause-earlier c m k at = kept_key c.self.inside.keys.keys c.insert_full.new.self.keys c.args.key _ c.in_ok-index.ensures.keys m k (ap (λ ks. slice_get ks m) c.self.view_is ∙ at)
