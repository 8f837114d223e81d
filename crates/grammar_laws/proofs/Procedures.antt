-- Procedures are read back in one way, with their formal parameters.
use Rattle.std.specs.Prelude.{◌≡◌, Bool, true, cond, List, [], ◌∷◌, Option, Some, None, refl}
use Rattle.std.proofs.Common.{arith}
use Rattle.ob_text.specs.declared.span.Span.{Span}
use Rattle.oberon_scan.specs.declared.token.Token.{Token}
use Rattle.oberon_scan.specs.declared.token.TokenKind.{TokenKind}
use Rattle.oberon_scan.specs.declared.token.Word.TheVariants as words
use Rattle.oberon_scan.specs.declared.token.Symbol.TheVariants as symbols
use Rattle.oberon_tree.specs.declared.leaf.Ident.{Ident}
use Rattle.oberon_tree.specs.Tokens.{symbol_token, word_token, ident_token}
use Rattle.oberon_tree.specs.Trees.{NextSectionTree, FormalsTree, BodyTree, ReturnTree, ProcedureItemTree}
use Rattle.oberon_tree.specs.Print.{print_each, print_some, print_open_array, print_qualident, print_formal_type, print_by_var, print_idents, print_section, print_next_section, print_sections, print_result_type, print_formals, print_body, print_return, print_procedure, print_procedure_item, print_locals}
use Rattle.oberon_productions.specs.Tests.{is_symbol, is_word, is_ident, next_is}
use Rattle.grammar_laws.proofs.One.{One, Under, Before, Lacks, Any, reaches, stages, begins, head_one, rest_one, span_one, each_one, some_one}
use Rattle.grammar_laws.proofs.Leaves.{ident_one}
use Rattle.grammar_laws.proofs.Names.{qualident_one, ident_def_one, idents_one}
use Rattle.grammar_laws.proofs.Expressions.{expr_one}
use Rattle.grammar_laws.proofs.Statements.{statements_one}
use Rattle.grammar_laws.proofs.Declarations.{locals_one}

-- ---- formal parameters

open_array_one : One print_open_array Any
open_array_one a b r s h k e =
    let of_word = rest_one e in
    (λ i. record { word = span_one e i; of = span_one of_word i }, rest_one of_word)

opens_one : One (print_each print_open_array) (Lacks (is_word words.Array))
opens_one = each_one print_open_array Any (Lacks (is_word words.Array)) open_array_one (λ xs r h. tt) (λ x q r. begins (is_word words.Array) r (print_open_array x q) refl)

formal_type_one : One print_formal_type (Under 9)
formal_type_one a b r s h k e =
    let p = opens_one a.opens b.opens (print_qualident a.name r) (print_qualident b.name s) refl refl e in
    let q = qualident_one a.name b.name r s h k p.1 in
    (λ i. record { opens = p.0 i; name = q.0 i }, q.1)

by_var_one : One print_by_var Any
by_var_one a b r s h k e = (span_one e, rest_one e)

some_by_var_one : One (print_some print_by_var) (Lacks (is_word words.Var))
some_by_var_one = some_one print_by_var Any (Lacks (is_word words.Var)) by_var_one (λ r h. tt) (λ x q r. begins (is_word words.Var) r (print_by_var x q) refl)

section_one : One print_section (Under 9)
section_one a b r s h k e =
    let u : List Token = symbol_token symbols.Colon a.colon ∷ print_formal_type a.of_type r in
    let v : List Token = symbol_token symbols.Colon b.colon ∷ print_formal_type b.of_type s in
    let o = some_by_var_one a.by_var b.by_var (print_idents a.names u) (print_idents b.names v) refl refl e in
    let p = idents_one a.names b.names u v (omega arith) (omega arith) o.1 in
    let q = formal_type_one a.of_type b.of_type r s h k (rest_one p.1) in
    (λ i. record { by_var = o.0 i; names = p.0 i; colon = span_one p.1 i; of_type = q.0 i }, q.1)

next_section_one : One print_next_section (Under 9)
next_section_one a b r s h k e =
    let p = section_one a.section b.section r s h k (rest_one e) in
    (λ i. record { semicolon = span_one e i; section = p.0 i }, p.1)

more_sections_next : (xs : List NextSectionTree) (r : List Token) → Under 1 r → Under 9 (print_each print_next_section xs r)
more_sections_next [] r h = omega arith
more_sections_next (x ∷ xs) r h = omega arith

more_sections_one : One (print_each print_next_section) (Under 1)
more_sections_one = each_one print_next_section (Under 9) (Under 1) next_section_one more_sections_next (λ x q r. reaches 1 r (print_next_section x q) (omega arith))

sections_one : One print_sections (Under 1)
sections_one a b r s h k e =
    let p = section_one a.first b.first (print_each print_next_section a.rest r) (print_each print_next_section b.rest s) (more_sections_next a.rest r h) (more_sections_next b.rest s k) e in
    let q = more_sections_one a.rest b.rest r s h k p.1 in
    (λ i. record { first = p.0 i; rest = q.0 i }, q.1)

-- what begins a section
abbrev is_section : TokenKind → Bool
is_section k = cond (is_word words.Var k) true (is_ident k)

by_var_begins : (x : Option Span) (i : Ident) (r : List Token) → next_is is_section (print_some print_by_var x (ident_token i ∷ r)) ≡ true
by_var_begins None i r = refl
by_var_begins (Some x) i r = refl

-- what ends the sections
record EndsSections (r : List Token) : Type 0 where
  other : Lacks is_section r
  low : Under 1 r

some_sections_one : One (print_some print_sections) EndsSections
some_sections_one = some_one print_sections (Under 1) EndsSections sections_one (λ r h. h.low) (λ x q r h. begins is_section r (print_sections x q) (by_var_begins x.first.by_var x.first.names.first _) h.other)

result_type_one : One print_result_type (Under 9)
result_type_one a b r s h k e =
    let p = qualident_one a.name b.name r s h k (rest_one e) in
    (λ i. record { colon = span_one e i; name = p.0 i }, p.1)

-- what ends the formal parameters
record EndsFormals (r : List Token) : Type 0 where
  other : Lacks (is_symbol symbols.Colon) r
  low : Under 9 r

some_result_type_one : One (print_some print_result_type) EndsFormals
some_result_type_one = some_one print_result_type (Under 9) EndsFormals result_type_one (λ r h. h.low) (λ x q r h. begins (is_symbol symbols.Colon) r (print_result_type x q) refl h.other)

formals_one : One print_formals EndsFormals
formals_one a b r s h k e =
    let p = some_sections_one a.sections b.sections (symbol_token symbols.CloseParen a.closing ∷ print_some print_result_type a.result_type r) (symbol_token symbols.CloseParen b.closing ∷ print_some print_result_type b.result_type s) (record { other = refl; low = omega arith }) (record { other = refl; low = omega arith }) (rest_one e) in
    let q = some_result_type_one a.result_type b.result_type r s h k (rest_one p.1) in
    (λ i. record { opening = span_one e i; sections = p.0 i; closing = span_one p.1 i; result_type = q.0 i }, q.1)

some_formals_one : One (print_some print_formals) EndsFormals
some_formals_one = some_one print_formals EndsFormals EndsFormals formals_one (λ r h. h) (λ x q r h. reaches 9 r (print_formals x q) (omega arith) h.low)

formals_no_star : (x : Option FormalsTree) (semicolon : Span) (r : List Token) → Lacks (is_symbol symbols.Star) (print_some print_formals x (symbol_token symbols.Semicolon semicolon ∷ r))
formals_no_star None semicolon r = refl
formals_no_star (Some x) semicolon r = refl

-- ---- bodies

-- what ends a body
pub record EndsBody (r : List Token) : Type 0 where
  pub later : Before 2 r
  pub low : Under 1 r

body_one : One print_body (Under 1)
body_one a b r s h k e =
    let p = statements_one a.statements b.statements r s h k (rest_one e) in
    (λ i. record { word = span_one e i; statements = p.0 i }, p.1)

pub some_body_one : One (print_some print_body) EndsBody
some_body_one = some_one print_body (Under 1) EndsBody body_one (λ r h. h.low) (λ x q r h. stages 2 r (print_body x q) (omega arith) h.later)

pub body_next : (x : Option BodyTree) (r : List Token) → EndsBody r → Before 3 (print_some print_body x r)
body_next None r h = let later : Before 2 r = h.later in omega arith
body_next (Some x) r h = omega arith

return_one : One print_return (Under 6)
return_one a b r s h k e =
    let p = expr_one a.value b.value r s h k (rest_one e) in
    (λ i. record { word = span_one e i; value = p.0 i }, p.1)

record EndsReturn (r : List Token) : Type 0 where
  later : Before 1 r
  low : Under 6 r

some_return_one : One (print_some print_return) EndsReturn
some_return_one = some_one print_return (Under 6) EndsReturn return_one (λ r h. h.low) (λ x q r h. stages 1 r (print_return x q) (omega arith) h.later)

return_ends : (x : Option ReturnTree) (span : Span) (r : List Token) → EndsBody (print_some print_return x (word_token words.End span ∷ r))
return_ends None span r = record { later = omega arith; low = omega arith }
return_ends (Some x) span r = record { later = omega arith; low = omega arith }

-- ---- procedures

procedure_one : One print_procedure Any
procedure_one a b r s h k e =
    let ends : List Token = word_token words.End a.end ∷ ident_token a.end_name ∷ r in
    let ends₂ : List Token = word_token words.End b.end ∷ ident_token b.end_name ∷ s in
    let returns : List Token = print_some print_return a.returns ends in
    let returns₂ : List Token = print_some print_return b.returns ends₂ in
    let body : List Token = print_some print_body a.body returns in
    let body₂ : List Token = print_some print_body b.body returns₂ in
    let low : EndsBody returns = return_ends a.returns a.end (ident_token a.end_name ∷ r) in
    let low₂ : EndsBody returns₂ = return_ends b.returns b.end (ident_token b.end_name ∷ s) in
    let next : Before 3 body = body_next a.body returns low in
    let next₂ : Before 3 body₂ = body_next b.body returns₂ low₂ in
    let locals : List Token = print_locals a.locals body in
    let locals₂ : List Token = print_locals b.locals body₂ in
    let u : List Token = symbol_token symbols.Semicolon a.semicolon ∷ locals in
    let v : List Token = symbol_token symbols.Semicolon b.semicolon ∷ locals₂ in
    let name = ident_def_one a.name b.name (print_some print_formals a.formals u) (print_some print_formals b.formals v) (formals_no_star a.formals a.semicolon locals) (formals_no_star b.formals b.semicolon locals₂) (rest_one e) in
    let formals = some_formals_one a.formals b.formals u v (record { other = refl; low = omega arith }) (record { other = refl; low = omega arith }) name.1 in
    let inside = locals_one a.locals b.locals body body₂ (omega arith) (omega arith) (rest_one formals.1) in
    let bodies = some_body_one a.body b.body returns returns₂ low low₂ inside.1 in
    let last = some_return_one a.returns b.returns ends ends₂ (record { later = omega arith; low = omega arith }) (record { later = omega arith; low = omega arith }) bodies.1 in
    let end_name = rest_one last.1 in (
      λ i. record { word = span_one e i; name = name.0 i; formals = formals.0 i; semicolon = span_one formals.1 i; locals = inside.0 i; body = bodies.0 i; returns = last.0 i; end = span_one last.1 i; end_name = ident_one a.end_name b.end_name (head_one end_name) i },
      rest_one end_name,
    )

procedure_item_one : One print_procedure_item Any
procedure_item_one a b r s h k e =
    let p = procedure_one a.procedure b.procedure (symbol_token symbols.Semicolon a.semicolon ∷ r) (symbol_token symbols.Semicolon b.semicolon ∷ s) tt tt e in
    (λ i. record { procedure = p.0 i; semicolon = span_one p.1 i }, rest_one p.1)

pub procedures_one : One (print_each print_procedure_item) (Before 3)
procedures_one = each_one print_procedure_item Any (Before 3) procedure_item_one (λ xs r h. tt) (λ x q r. stages 3 r (print_procedure_item x q) (omega arith))

pub procedures_next : (xs : List ProcedureItemTree) (r : List Token) → Before 3 r → Before 4 (print_each print_procedure_item xs r)
procedures_next [] r h = omega arith
procedures_next (x ∷ xs) r h = omega arith
