use Rattle.std.specs.Prelude.{drop, map}
use Rattle.oberon_tree.specs.declared.module.NextImport.{NextImport}
use Rattle.oberon_rules.specs.Module.{unused_say}
use Rattle.oberon_infer.specs.Adds.{Goes}
use Rattle.oberon_infer.specs.Memory.{plain_scopes, plain_said}
use Rattle.oberon_module.specs.Views.{views_of}
use Rattle.oberon_module.proofs.unused.unused.Given as goal

abbrev pub invariant-loop-next : goal.invariant-loop-next
invariant-loop-next l =
    Goes l.initial.said.items l.said.items
    (unused_say (views_of l.views) (plain_scopes l.initial.earlier) (map (λ (n : NextImport). n.import) l.next-items) (map plain_said l.fn.said.items))
    (unused_say (views_of l.views) (plain_scopes l.earlier) (map (λ (n : NextImport). n.import) (drop l.next-index l.next-items)) (map plain_said l.fn.said.items))
