use Rattle.std.specs.Prelude.{◌≡◌, drop}
use Rattle.oberon_tree.specs.Memory.{more_exprs_list}
use Rattle.oberon_rules.specs.TypeRules.{element_steps}
use Rattle.oberon_declare.specs.Origins.{at_path}
use Rattle.oberon_declare.proofs.origins.element_origin.Given as goal

abbrev pub invariant-loop-next : goal.invariant-loop-next
invariant-loop-next l = element_steps (at_path l.origin l.path.items) (more_exprs_list (drop l._next-index l._next-items)) ≡ element_steps (at_path l.origin l.initial.path.items) (more_exprs_list l._next-items)
