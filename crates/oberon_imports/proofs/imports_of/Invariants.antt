use Rattle.std.proofs.Common.{◌≡◌, ◌==◌, take, map, fold}
use Rattle.std.specs.Cmp.Lexicographic.{pointwise}
use Rattle.oberon_tree.specs.declared.module.NextImport.{NextImport}
use Rattle.ob_text.specs.Once.{once_more}
use Rattle.document_rules.specs.Imports.{imported_name}
use Rattle.oberon_imports.proofs.imports_of.Given as goal

abbrev pub invariant-loop-next : goal.invariant-loop-next
invariant-loop-next l =
    l.names.keys ≡ fold (once_more (pointwise ◌==◌)) l.initial.names.keys (map (λ (n : NextImport). imported_name n.import) (take l.next-index l.next-items))
