-- The tokens of a module are those of one tree, and so is a text.
use Rattle.std.specs.Prelude.{◌≡◌, ℕ, List, [], ◌∷◌, refl}
use Rattle.std.proofs.Common.{sym, ◌∙◌, arith}
use Rattle.ob_text.specs.declared.diagnostic.Diagnostic.{Diagnostic}
use Rattle.ob_text.specs.declared.span.Span.{Span}
use Rattle.oberon_scan.specs.declared.token.Token.{Token}
use Rattle.oberon_scan.specs.declared.token.Word.TheVariants as words
use Rattle.oberon_scan.specs.declared.token.Symbol.TheVariants as symbols
use Rattle.oberon_scan.specs.Lexis.{Lex}
use Rattle.oberon_scan.proofs.OneCut.{one_cut}
use Rattle.oberon_tree.specs.declared.module.NextImport.{NextImport}
use Rattle.oberon_tree.specs.Tokens.{symbol_token, word_token, ident_token}
use Rattle.oberon_tree.specs.Trees.{ModuleTree}
use Rattle.oberon_tree.specs.Print.{print_each, print_some, print_declarations, print_alias, print_import, print_next_import, print_imports, print_procedure_item, print_body, print_module, tokens_of}
use Rattle.oberon_productions.specs.Tests.{is_symbol}
use Rattle.oberon_productions.proofs.Found.{no_symbol}
use Rattle.grammar_laws.proofs.One.{One, Under, Before, Lacks, Any, reaches, stages, begins, head_one, rest_one, span_one, each_one, some_one}
use Rattle.grammar_laws.proofs.Leaves.{ident_one}
use Rattle.grammar_laws.proofs.Declarations.{declarations_one, declarations_next}
use Rattle.grammar_laws.proofs.Procedures.{EndsBody, some_body_one, body_next, procedures_one, procedures_next}

-- ---- imports

alias_one : One print_alias Any
alias_one a b r s h k e =
    let name = rest_one e in
    (λ i. record { becomes = span_one e i; imported = ident_one a.imported b.imported (head_one name) i }, rest_one name)

some_alias_one : One (print_some print_alias) (Lacks (is_symbol symbols.Becomes))
some_alias_one = some_one print_alias Any (Lacks (is_symbol symbols.Becomes)) alias_one (λ r h. tt) (λ x q r. begins (is_symbol symbols.Becomes) r (print_alias x q) refl)

import_one : One print_import (Lacks (is_symbol symbols.Becomes))
import_one a b r s h k e =
    let p = some_alias_one a.alias b.alias r s h k (rest_one e) in
    (λ i. record { name = ident_one a.name b.name (head_one e) i; alias = p.0 i }, p.1)

next_import_one : One print_next_import (Lacks (is_symbol symbols.Becomes))
next_import_one a b r s h k e =
    let p = import_one a.import b.import r s h k (rest_one e) in
    (λ i. record { comma = span_one e i; import = p.0 i }, p.1)

imports_next : (xs : List NextImport) (r : List Token) → Under 3 r → Lacks (is_symbol symbols.Becomes) (print_each print_next_import xs r)
imports_next [] r h = no_symbol symbols.Becomes r h
imports_next (x ∷ xs) r h = refl

more_imports_one : One (print_each print_next_import) (Under 3)
more_imports_one = each_one print_next_import (Lacks (is_symbol symbols.Becomes)) (Under 3) next_import_one imports_next (λ x q r. reaches 3 r (print_next_import x q) (omega arith))

imports_one : One print_imports Any
imports_one a b r s h k e =
    let u : List Token = symbol_token symbols.Semicolon a.semicolon ∷ r in
    let v : List Token = symbol_token symbols.Semicolon b.semicolon ∷ s in
    let p = import_one a.first b.first (print_each print_next_import a.rest u) (print_each print_next_import b.rest v) (imports_next a.rest u (omega arith)) (imports_next b.rest v (omega arith)) (rest_one e) in
    let q = more_imports_one a.rest b.rest u v (omega arith) (omega arith) p.1 in
    (λ i. record { word = span_one e i; first = p.0 i; rest = q.0 i; semicolon = span_one q.1 i }, rest_one q.1)

some_imports_one : One (print_some print_imports) (Before 8)
some_imports_one = some_one print_imports Any (Before 8) imports_one (λ r h. tt) (λ x q r. stages 8 r (print_imports x q) (omega arith))

-- ---- the module

end_ends : (span : Span) (r : List Token) → EndsBody (word_token words.End span ∷ r)
end_ends span r = record { later = omega arith; low = omega arith }

module_one : One print_module Any
module_one a b r s h k e =
    let ends : List Token = word_token words.End a.end ∷ ident_token a.end_name ∷ symbol_token symbols.Period a.period ∷ r in
    let ends₂ : List Token = word_token words.End b.end ∷ ident_token b.end_name ∷ symbol_token symbols.Period b.period ∷ s in
    let low : EndsBody ends = end_ends a.end (ident_token a.end_name ∷ symbol_token symbols.Period a.period ∷ r) in
    let low₂ : EndsBody ends₂ = end_ends b.end (ident_token b.end_name ∷ symbol_token symbols.Period b.period ∷ s) in
    let body : List Token = print_some print_body a.body ends in
    let body₂ : List Token = print_some print_body b.body ends₂ in
    let next : Before 3 body = body_next a.body ends low in
    let next₂ : Before 3 body₂ = body_next b.body ends₂ low₂ in
    let items : List Token = print_each print_procedure_item a.procedures body in
    let items₂ : List Token = print_each print_procedure_item b.procedures body₂ in
    let middle : Before 4 items = procedures_next a.procedures body next in
    let middle₂ : Before 4 items₂ = procedures_next b.procedures body₂ next₂ in
    let name = rest_one e in
    let semicolon = rest_one name in
    let imports = some_imports_one a.imports b.imports (print_declarations a.declarations items) (print_declarations b.declarations items₂) (declarations_next a.declarations items middle) (declarations_next b.declarations items₂ middle₂) (rest_one semicolon) in
    let declarations = declarations_one a.declarations b.declarations items items₂ middle middle₂ imports.1 in
    let procedures = procedures_one a.procedures b.procedures body body₂ next next₂ declarations.1 in
    let bodies = some_body_one a.body b.body ends ends₂ low low₂ procedures.1 in
    let end_name = rest_one bodies.1 in
    let period = rest_one end_name in (
      λ i. record { word = span_one e i; name = ident_one a.name b.name (head_one name) i; semicolon = span_one semicolon i; imports = imports.0 i; declarations = declarations.0 i; procedures = procedures.0 i; body = bodies.0 i; end = span_one bodies.1 i; end_name = ident_one a.end_name b.end_name (head_one end_name) i; period = span_one period i },
      rest_one period,
    )

pub one_tree : (a b : ModuleTree) → tokens_of a ≡ tokens_of b → a ≡ b
one_tree a b e = (module_one a b [] [] tt tt e).0

pub one_tree_of_text : (text : List ℕ) (ts us : List Token) (ds es : List Diagnostic) (a b : ModuleTree) → Lex text ts ds → Lex text us es → tokens_of a ≡ ts → tokens_of b ≡ us → a ≡ b
one_tree_of_text text ts us ds es a b l m e f = one_tree a b (e ∙ (one_cut l m).0 ∙ sym f)
