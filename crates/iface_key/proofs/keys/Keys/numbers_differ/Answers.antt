use Rattle.std.proofs.Common.{slice_get, ap, ◌∙◌}
use Rattle.iface_key.proofs.KeyLaws.{one_number}
use Rattle.iface_key.proofs.keys.Keys.numbers_differ.Goals as goal

pub returns : goal.returns
returns c m n k at_m at_n =
    let keys = c.self.inside.keys.keys in
    one_number keys m n k c.len-count.ensures.unique (ap (λ ks. slice_get ks m) c.self.view_is ∙ at_m) (ap (λ ks. slice_get ks n) c.self.view_is ∙ at_n)
