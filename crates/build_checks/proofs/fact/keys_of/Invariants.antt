use Rattle.std.proofs.Common.{◌≡◌, map, take}
use Rattle.iface_key.specs.Keys.{key_of_view}
use Rattle.oberon_module.specs.Views.{plain_views}
use Rattle.oberon_rules.specs.Local.{view_in}
use Rattle.build_checks.proofs.fact.keys_of.Given as goal

abbrev pub invariant-loop-import : goal.invariant-loop-import
invariant-loop-import l = l.keys.items ≡ map (λ i. key_of_view (view_in (plain_views l.fn.views.entries) i.0)) (take l.import-index l.fn.imports)
