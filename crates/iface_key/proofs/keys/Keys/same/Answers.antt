use Rattle.std.proofs.Common.{slice_get, ap, ◌∙◌}
use Rattle.iface_key.proofs.KeyLaws.{same_keys}
use Rattle.iface_key.proofs.keys.Keys.same.Goals as goal

pub returns : goal.returns
returns c k l at_a at_b =
    let keys = c.self.inside.keys.keys in
    same_keys keys c.args.a c.args.b k l c.len-count.ensures.unique (ap (λ ks. slice_get ks c.args.a) c.self.view_is ∙ at_a) (ap (λ ks. slice_get ks c.args.b) c.self.view_is ∙ at_b)
