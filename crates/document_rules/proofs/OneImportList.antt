-- The imports of a module are read off its tokens: they stand behind the first three, if the fourth is IMPORT, and
-- each ends with the imported module's own name, before a comma or the semicolon.
use Rattle.std.proofs.Common.{◌≡◌, ◌==◌, ℕ, List, [], ◌∷◌, Option, Some, None, map, refl, sym, ◌∙◌, ap}
use Rattle.std.specs.Cmp.Lexicographic.{pointwise}
use Rattle.ob_text.specs.declared.span.Span.{Span}
use Rattle.ob_text.specs.Once.{each_once}
use Rattle.oberon_scan.specs.declared.token.Token.{Token}
use Rattle.oberon_scan.specs.declared.token.TokenKind.{TokenKind}
use Rattle.oberon_scan.specs.declared.token.TokenKind.TheVariants as kinds
use Rattle.oberon_scan.specs.declared.token.Word.TheVariants as words
use Rattle.oberon_scan.specs.declared.token.Symbol.TheVariants as symbols
use Rattle.oberon_tree.specs.declared.leaf.Ident.{Ident}
use Rattle.oberon_tree.specs.declared.module.Alias.{Alias}
use Rattle.oberon_tree.specs.declared.module.NextImport.{NextImport}
use Rattle.oberon_tree.specs.Tokens.{symbol_token, word_token, ident_token}
use Rattle.oberon_tree.specs.Trees.{ConstantsTree, TypesTree, VariablesTree, ProcedureItemTree, BodyTree, ImportsTree, ModuleTree}
use Rattle.oberon_tree.specs.Print.{print_some, print_each, print_constants, print_types, print_variables, print_declarations, print_procedure_item, print_body, print_import, print_next_import, print_imports, tokens_of}
use Rattle.document_rules.specs.Imports.{imported_name, names_in, imports_in}

-- ---- the names of the tokens

-- what a token of a list of imports adds, by the last name before it and by what the later tokens give
abbrev names_at : TokenKind → List ℕ → (List ℕ → List (List ℕ)) → List (List ℕ)
names_at (kinds.Ident name) last later = later name
names_at (kinds.Symbol symbols.Comma) last later = last ∷ later last
names_at (kinds.Symbol symbols.Semicolon) last later = last ∷ []
names_at _ last later = later last

-- the names in a list of imports, which ends at its semicolon
abbrev listed_names : List Token → List ℕ → List (List ℕ)
listed_names [] last = []
listed_names (t ∷ ts) last = names_at t.kind last (listed_names ts)

abbrev if_import : TokenKind → List (List ℕ) → List (List ℕ)
if_import (kinds.Word words.Import) names = names
if_import _ names = []

-- the names in what stands behind the heading of a module
abbrev names_behind : List Token → List (List ℕ)
names_behind [] = []
names_behind (t ∷ ts) = if_import t.kind (listed_names ts [])

-- the names in the tokens of a module
abbrev names_of : List Token → List (List ℕ)
names_of (word ∷ name ∷ semicolon ∷ ts) = names_behind ts
names_of _ = []

-- ---- they are those of the tree

list_names : (name : Ident) (alias : Option Alias) (more : List NextImport) (semicolon : Span) (rest : List Token) (last : List ℕ) → listed_names (print_import (record { name = name; alias = alias }) (print_each print_next_import more (symbol_token symbols.Semicolon semicolon ∷ rest))) last ≡ imported_name (record { name = name; alias = alias }) ∷ map (λ (n : NextImport). imported_name n.import) more
list_names name None [] semicolon rest last = refl
list_names name (Some a) [] semicolon rest last = refl
list_names name None (n ∷ more) semicolon rest last =
    ap (λ names. name.name ∷ names) (list_names n.import.name n.import.alias more semicolon rest name.name)
list_names name (Some a) (n ∷ more) semicolon rest last =
    ap (λ names. a.imported.name ∷ names) (list_names n.import.name n.import.alias more semicolon rest a.imported.name)

-- without imports, whichever part comes first begins with another word than IMPORT
no_names : (cs : Option ConstantsTree) (ts : Option TypesTree) (vs : Option VariablesTree) (ps : List ProcedureItemTree) (b : Option BodyTree) (end : Span) (rest : List Token) → names_behind (print_some print_constants cs (print_some print_types ts (print_some print_variables vs (print_each print_procedure_item ps (print_some print_body b (word_token words.End end ∷ rest)))))) ≡ []
no_names (Some cs) ts vs ps b end rest = refl
no_names None (Some ts) vs ps b end rest = refl
no_names None None (Some vs) ps b end rest = refl
no_names None None None (p ∷ ps) b end rest = refl
no_names None None None [] (Some b) end rest = refl
no_names None None None [] None end rest = refl

names_of_imports : (imports : Option ImportsTree) (rest : List Token) → names_behind rest ≡ [] → names_behind (print_some print_imports imports rest) ≡ names_in imports
names_of_imports None rest none = none
names_of_imports (Some i) rest none = list_names i.first.name i.first.alias i.rest i.semicolon rest []

module_names : (m : ModuleTree) → names_of (tokens_of m) ≡ names_in m.imports
module_names m =
    names_of_imports m.imports (print_declarations m.declarations (print_each print_procedure_item m.procedures (print_some print_body m.body (word_token words.End m.end ∷ ident_token m.end_name ∷ symbol_token symbols.Period m.period ∷ []))))
    (no_names m.declarations.constants m.declarations.types m.declarations.variables m.procedures m.body m.end (ident_token m.end_name ∷ symbol_token symbols.Period m.period ∷ []))

-- modules of the same tokens import the same modules
pub one_import_list : (a b : ModuleTree) → tokens_of a ≡ tokens_of b → imports_in a ≡ imports_in b
one_import_list a b same = ap (each_once (pointwise ◌==◌)) (sym (module_names a) ∙ ap names_of same ∙ module_names b)
