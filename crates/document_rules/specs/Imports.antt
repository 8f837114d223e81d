-- The names of the modules that a module imports, each once, in the order of the text.
use Rattle.std.specs.Prelude.{ℕ, ◌==◌, List, [], ◌∷◌, Option, Some, None, map}
use Rattle.std.specs.Cmp.Lexicographic.{pointwise}
use Rattle.ob_text.specs.Once.{each_once}
use Rattle.oberon_tree.specs.declared.module.Import.{Import}
use Rattle.oberon_tree.specs.declared.module.NextImport.{NextImport}
use Rattle.oberon_tree.specs.Trees.{ModuleTree, ImportsTree}

-- the module's own name, which stands behind the local one where there are two
abbrev pub imported_name : Import → List ℕ
imported_name i = elim i.alias [ None ↦ i.name.name | Some a ↦ a.imported.name ]

abbrev pub names_in : Option ImportsTree → List (List ℕ)
names_in None = []
names_in (Some x) = imported_name x.first ∷ map (λ (n : NextImport). imported_name n.import) x.rest

abbrev pub imports_in : ModuleTree → List (List ℕ)
imports_in m = each_once (pointwise ◌==◌) (names_in m.imports)
