use Rattle.std.proofs.Common.{◌≡◌, drop, option_copied}
use Rattle.std.specs.List.{list_any}
use Rattle.target_graph.specs.Listers.{is_one}
use Rattle.target_graph.proofs.address.lists.Given as goal

abbrev pub invariant-loop-path : goal.invariant-loop-path
invariant-loop-path l = list_any (is_one (option_copied l.own) (option_copied l.other)) l.modules ≡ list_any (is_one (option_copied l.own) (option_copied l.other)) (drop l.path-index l.modules)
