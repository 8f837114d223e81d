-- The names that a module imports are those of its list of imports.
use Rattle.std.proofs.Common.{◌≡◌, ◌==◌, ℕ, Bool, true, false, cond, List, [], ◌∷◌, ◌++◌, fold, Option, Some, None, map, Contains, subst, refl}
use Rattle.std.specs.List.{list_any}
use Rattle.std.specs.Cmp.Lexicographic.{pointwise}
use Rattle.std.proofs.lemmas.List.Elements.{Contains-append_left, Contains-push}
use Rattle.std.proofs.lemmas.Map.Views.{Contains-from_any}
use Rattle.std.proofs.lemmas.Slice.Eq.{bytes_eq-Decides}
use Rattle.ob_text.specs.Once.{each_once, once_more}
use Rattle.document_rules.specs.Imports.{imported_name, names_in, imports_in}
use Rattle.oberon_tree.specs.declared.leaf.Ident.{Ident}
use Rattle.oberon_tree.specs.declared.module.Alias.{Alias}
use Rattle.oberon_tree.specs.declared.module.Import.{Import}
use Rattle.oberon_tree.specs.declared.module.NextImport.{NextImport}
use Rattle.oberon_tree.specs.Trees.{ImportsTree, ModuleTree}
use Rattle.oberon_types.specs.Types.{same_name}
use Rattle.oberon_rules.specs.Module.{import_list, imported}

-- ---- each name of a list is in it once

once_holds : (xs : List (List ℕ)) (x : List ℕ) → Contains (once_more (pointwise ◌==◌) xs x) x
once_holds xs x = by (list_any (same_name x) xs) refl
  where
    by : (b : Bool) → list_any (same_name x) xs ≡ b → Contains (cond b xs (xs ++ x ∷ [])) x
    by true is = Contains-from_any (λ y z e. (bytes_eq-Decides y z).0 e) x xs is
    by false is = Contains-push xs x

once_keeps : (xs : List (List ℕ)) (x y : List ℕ) → Contains xs y → Contains (once_more (pointwise ◌==◌) xs x) y
once_keeps xs x y c = by (list_any (same_name x) xs)
  where
    by : (b : Bool) → Contains (cond b xs (xs ++ x ∷ [])) y
    by true = c
    by false = Contains-append_left xs (x ∷ []) y c

fold_keeps : (ys xs : List (List ℕ)) (y : List ℕ) → Contains xs y → Contains (fold (once_more (pointwise ◌==◌)) xs ys) y
fold_keeps [] xs y c = c
fold_keeps (z ∷ ys) xs y c = fold_keeps ys (once_more (pointwise ◌==◌) xs z) y (once_keeps xs z y c)

-- ---- a fact of each imported name holds of each import

abbrev pub EachImport : (List ℕ → Type 0) → List Import → Type 0
EachImport Q [] = Unit {0}
EachImport Q (i ∷ is) = Q (imported i).name × EachImport Q is

one_name : (x : Ident) (a : Option Alias) (i : Import) → i ≡ record { name = x; alias = a } → imported_name i ≡ (imported i).name
one_name x None i is = rw is refl
one_name x (Some a) i is = rw is refl

same_import : (i : Import) → imported_name i ≡ (imported i).name
same_import i = one_name i.name i.alias i refl

module _ (Q : List ℕ → Type 0) where
  rest_each : (ns : List NextImport) (xs : List (List ℕ)) → ((x : List ℕ) → Contains (fold (once_more (pointwise ◌==◌)) xs (map (λ (n : NextImport). imported_name n.import) ns)) x → Q x)
      → EachImport Q (map (λ (n : NextImport). n.import) ns)
  rest_each [] xs all = tt
  rest_each (n ∷ ns) xs all = (
    subst Q (same_import n.import)
        (all (imported_name n.import) (fold_keeps (map (λ (m : NextImport). imported_name m.import) ns) (once_more (pointwise ◌==◌) xs (imported_name n.import)) (imported_name n.import) (once_holds xs (imported_name n.import)))),
    rest_each ns (once_more (pointwise ◌==◌) xs (imported_name n.import)) all,
  )

  list_each : (is : Option ImportsTree) → ((x : List ℕ) → Contains (each_once (pointwise ◌==◌) (names_in is)) x → Q x) → EachImport Q (import_list is)
  list_each None all = tt
  list_each (Some x) all = (
    subst Q (same_import x.first)
        (all (imported_name x.first) (fold_keeps (map (λ (n : NextImport). imported_name n.import) x.rest) (once_more (pointwise ◌==◌) [] (imported_name x.first)) (imported_name x.first) (once_holds [] (imported_name x.first)))),
    rest_each x.rest (once_more (pointwise ◌==◌) [] (imported_name x.first)) all,
  )

  pub each_import : (m : ModuleTree) → ((x : List ℕ) → Contains (imports_in m) x → Q x) → EachImport Q (import_list m.imports)
  each_import m all = list_each m.imports all
