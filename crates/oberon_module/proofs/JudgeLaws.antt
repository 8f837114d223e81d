-- Behind its declarations a module is outside of all procedures; and what is said of it, with the use of its imports.
use Rattle.std.specs.Prelude.{ℕ, ◌≡◌, ◌++◌, List, [], refl}
use Rattle.std.proofs.Common.{ap, sym, ◌∙◌}
use Rattle.std.proofs.lemmas.List.{append-nil}
use Rattle.oberon_tree.specs.Trees.{ModuleTree}
use Rattle.oberon_types.specs.Entities.{ViewTree}
use Rattle.oberon_procedures.specs.Levels.{IsOutside}
use Rattle.oberon_procedures.proofs.ProcedureLaws.{decls_outside}
use Rattle.oberon_module.proofs.ImportLaws.{imports_outside}
use Rattle.oberon_rules.specs.Module.{import_list, unused_say, start, with_imports, with_decls, whole_says, module_says}
use Rattle.oberon_rules.specs.Scopes.{Scopes, Said}

pub decls_inside : (me : List ℕ) (views : List ℕ → ViewTree) (m : ModuleTree) (two : Scopes) → two ≡ with_decls me views m → IsOutside two
decls_inside me views m two e =
    let o = decls_outside me (with_imports views m) m.declarations (imports_outside views start (import_list m.imports) (record { procedure = refl; locals = refl })) in
    record { procedure = ap (λ (s : Scopes). s.procedure) e ∙ o.procedure; locals = ap (λ (s : Scopes). s.locals) e ∙ o.locals }

-- all that is said of a module: what is said without the use of imports, and then of that
pub module_spoken : (me : List ℕ) (views : List ℕ → ViewTree) (m : ModuleTree) (whole all : List Said) → whole ≡ whole_says me views m → all ++ [] ≡ whole ++ unused_say views start (import_list m.imports) whole [] → all ≡ module_says me views m
module_spoken me views m whole all is more =
    sym (append-nil all) ∙ more ∙ ap (λ (xs : List Said). xs ++ unused_say views start (import_list m.imports) xs []) is
