use Rattle.std.specs.Prelude.{◌≡◌, drop, map}
use Rattle.oberon_tree.specs.declared.module.NextImport.{NextImport}
use Rattle.oberon_rules.specs.Module.{imports_behind, imports_say}
use Rattle.oberon_infer.specs.Adds.{Goes}
use Rattle.oberon_infer.specs.Memory.{plain_scopes}
use Rattle.oberon_module.specs.Views.{views_of}
use Rattle.oberon_module.proofs.importing.imports.Given as goal

abbrev pub invariant-loop-next : goal.invariant-loop-next
invariant-loop-next l = record {
  behind : imports_behind (views_of l.views) (plain_scopes l.scopes) (map (λ (n : NextImport). n.import) (drop l.next-index l.next-items)) ≡ imports_behind (views_of l.views) (plain_scopes l.initial.scopes) (map (λ (n : NextImport). n.import) l.next-items);
  says : Goes l.initial.said.items l.said.items (imports_say (views_of l.views) (plain_scopes l.initial.scopes) (map (λ (n : NextImport). n.import) l.next-items)) (imports_say (views_of l.views) (plain_scopes l.scopes) (map (λ (n : NextImport). n.import) (drop l.next-index l.next-items)));
}
