use Rattle.std.proofs.Common.{sym, ◌∙◌}
use Rattle.iface_key.proofs.OneWay.{view_one}
use Rattle.iface_key.proofs.laws.one_view.Goals as goal

pub returns : goal.returns
returns c key a b of_a of_b = (view_one a b _ _ (sym of_a ∙ of_b)).0
