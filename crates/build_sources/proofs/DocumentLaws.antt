-- The names that a document imports, by what was read of it and by what a check of it found.
use Rattle.std.proofs.Common.{◌≡◌, ℕ, List, [], ◌∷◌, inl, inr, sym, subst, refl, ◌∙◌, arith}
use Rattle.std.specs.Prelude.{Contains}
use Rattle.ob_text.specs.declared.diagnostic.Diagnostic.{Diagnostic}
use Rattle.ob_text.specs.declared.held.Held.{Held}
use Rattle.ob_text.specs.declared.held.Held.TheVariants.{Text, Absent, TooLarge, NotText}
use Rattle.document_rules.proofs.OneDiagnosis.{none_bad}
use Rattle.document_rules.proofs.OneImportList.{one_import_list}
use Rattle.document_rules.specs.Imports.{imports_in}
use Rattle.document_rules.specs.Sentence.{most_levels}
use Rattle.oberon_scan.proofs.OneCut.{one_cut}
use Rattle.oberon_scan.specs.Lexis.{Lex}
use Rattle.oberon_scan.specs.declared.token.Token.{Token}
use Rattle.oberon_tree.specs.Memory.{tree_of}
use Rattle.oberon_tree.specs.Trees.{ModuleTree}
use Rattle.oberon_types.specs.Entities.{ViewTree, missing_view, broken_view}
use Rattle.oberon_rules.specs.Local.{Local, TextLocal, FaultsLocal, TokensLocal, IsTreeless}
use Rattle.oberon_module.specs.Reading.{HasTree, IsRead, imports_read}
use Rattle.oberon_module.specs.declared.reading.Reading.{Reading}
use Rattle.oberon_module.specs.declared.reading.Reading.TheVariants as readings
use Rattle.build_rules.proofs.OneImports.{one_imports}
use Rattle.build_rules.specs.World.{HasImports}
use Rattle.build_sources.specs.Documents.{AreImportsOf}

listed_some : (names : List (List ℕ)) (name : List ℕ) → names ≡ [] → Contains names name → ⊥
listed_some names name is c = let none : Contains [] name = subst (λ (ns : List (List ℕ)). Contains ns name) is c in let h = none.1 in omega (arith, h)

-- ---- what a check finds

module _ (me : List ℕ) (views : List ℕ → ViewTree) (list : List Diagnostic) (imports : List (List ℕ)) (view : ViewTree) where
  -- of a document that is a module

  module _ (held : Held) (names : List (List ℕ)) (has : HasImports held names) where
    by_tokens : TokensLocal has.parsed.text has.parsed.tokens me views list imports view → names ≡ imports
    by_tokens (inl found) = has.imported ∙ one_import_list has.tree found.tree (has.parsed.printed ∙ sym found.printed) ∙ sym found.imported
    by_tokens (inr found) = absurd (none_bad most_levels has.parsed.tokens found.0.index (has.tree, has.parsed.printed, has.parsed.levels) found.0.first)

    by_text : TextLocal has.parsed.text me views list imports view → names ≡ imports
    by_text found =
        let cut = one_cut found.lexis has.parsed.lexis in
        by_tokens (subst (λ ts. TokensLocal has.parsed.text ts me views list imports view) cut.0
        (subst (λ (faults : List Diagnostic). FaultsLocal has.parsed.text found.tokens faults me views list imports view) cut.1 found.told))

    whole_imports : Local held me views list imports view → names ≡ imports
    whole_imports found = by_text (subst (λ (h : Held). Local h me views list imports view) has.parsed.is found)

  -- a document of which a name is imported is a module

  module _ (name : List ℕ) (listed : Contains imports name) where
    no_tree : (held : Held) → IsTreeless imports view → HasImports held imports
    no_tree held treeless = absurd (listed_some imports name treeless.imported listed)

    named_tokens : (text : List ℕ) (tokens : List Token) → Lex text tokens [] → TokensLocal text tokens me views list imports view → HasImports (Text text) imports
    named_tokens text tokens lexis (inl found) = record {
      tree = found.tree;
      parsed = record { text = text; is = refl; tokens = tokens; lexis = lexis; printed = found.printed; levels = found.levels };
      imported = found.imported;
    }
    named_tokens text tokens lexis (inr found) = no_tree (Text text) found.1

    named_faults : (text : List ℕ) (tokens : List Token) (faults : List Diagnostic) → Lex text tokens faults → FaultsLocal text tokens faults me views list imports view → HasImports (Text text) imports
    named_faults text tokens [] lexis found = named_tokens text tokens lexis found
    named_faults text tokens (fault ∷ faults) lexis found = no_tree (Text text) found.1

    named_import : (held : Held) → Local held me views list imports view → HasImports held imports
    named_import (Text text) found = named_faults text found.tokens found.faults found.lexis found.told
    named_import Absent found = no_tree Absent found.1
    named_import TooLarge found = no_tree TooLarge found.1
    named_import NotText found = no_tree NotText found.1

  pub checked_imports : (held : Held) → Local held me views list imports view → AreImportsOf held imports
  checked_imports held found = record { named = λ name listed. named_import name listed held found; whole = λ others has. whole_imports held others has found }

-- ---- what is read

tree_imports : (held : Held) (tree : ModuleTree) → HasTree held tree → HasImports held (imports_in tree)
tree_imports held tree has = record {
  tree = tree;
  parsed = record { text = has.has_tokens.text; is = has.has_tokens.is; tokens = has.tokens; lexis = has.has_tokens.lexis; printed = has.printed; levels = has.levels };
  imported = refl;
}

abbrev no_views : List ℕ → ViewTree
no_views name = missing_view

pub read_imports : (held : Held) (r : Reading) → IsRead held r → AreImportsOf held (imports_read r)
read_imports held (readings.Listed list) read = checked_imports [] no_views list.items [] broken_view held (read [] no_views)
read_imports held (readings.Scanned tokens) read = absurd read
read_imports held (readings.Parsed tree) read = record {
  named = λ name listed. tree_imports held (tree_of tree) read;
  whole = λ others has. one_imports held others (imports_in (tree_of tree)) has (tree_imports held (tree_of tree) read);
}

-- ---- the names that a document imports are ones

pub same_names : (held : Held) (xs ys : List (List ℕ)) → AreImportsOf held xs → AreImportsOf held ys → xs ≡ ys
same_names held [] [] a b = refl
same_names held (x ∷ xs) ys a b = b.whole (x ∷ xs) (a.named x (0, omega arith, refl))
same_names held [] (y ∷ ys) a b = sym (a.whole (y ∷ ys) (b.named y (0, omega arith, refl)))
