-- The numbers of the keys that are known before any check.
use Rattle.std.specs.Prelude.{◌≡◌, ℕ, List, Some, slice_get}
use Rattle.iface_key.specs.Keys.{key_of_view}
use Rattle.oberon_rules.specs.Views.{out_view}
use Rattle.oberon_types.specs.Entities.{cyclic_view, missing_view}
use Rattle.build_checks.specs.declared.begin.First.{First}

pub record AreFirst (keys : List (List ℕ)) (first : First) : Type 0 where
  pub for_out : slice_get keys first.out ≡ Some (key_of_view out_view)
  pub for_missing : slice_get keys first.missing ≡ Some (key_of_view missing_view)
  pub for_cyclic : slice_get keys first.cyclic ≡ Some (key_of_view cyclic_view)
