-- The machine takes declarations, procedures, imports and the module whole.
use Rattle.std.specs.Prelude.{◌≡◌, ℕ, zero, suc, ◌<◌, ◌≤◌, false, List, [], ◌∷◌, ◌++◌, length, Option, Some, None, refl}
use Rattle.std.proofs.Common.{◌∙◌, arith}
use Rattle.ob_text.specs.declared.span.Span.{Span}
use Rattle.oberon_scan.specs.declared.token.Token.{Token}
use Rattle.oberon_scan.specs.declared.token.Word.TheVariants as words
use Rattle.oberon_scan.specs.declared.token.Symbol.TheVariants as symbols
use Rattle.oberon_tree.specs.declared.leaf.Ident.{Ident}
use Rattle.oberon_tree.specs.declared.module.Alias.{Alias}
use Rattle.oberon_tree.specs.declared.module.NextImport.{NextImport}
use Rattle.oberon_tree.specs.declared.module.OpenArray.{OpenArray}
use Rattle.oberon_tree.specs.declared.module.ResultType.{ResultType}
use Rattle.oberon_tree.specs.Tokens.{symbol_token, word_token, ident_token}
use Rattle.oberon_tree.specs.Trees.{ConstantTree, ConstantsTree, TypeDeclarationTree, TypesTree, VariableTree, VariablesTree, DeclarationsTree, LocalConstantTree, LocalConstantsTree, LocalVariableTree, LocalVariablesTree, SectionTree, NextSectionTree, SectionsTree, FormalsTree, BodyTree, ReturnTree, ProcedureTree, ProcedureItemTree, ImportsTree, ModuleTree}
use Rattle.oberon_tree.specs.Print.{print_each, print_some, print_mark, print_next_ident, print_expr, print_type, print_constant, print_constants, print_type_declaration, print_types, print_variable, print_variables, print_declarations, print_local_constant, print_local_constants, print_local_variable, print_local_variables, print_locals, print_open_array, print_formal_type, print_by_var, print_next_section, print_sections, print_result_type, print_formals, print_body, print_return, print_procedure_item, print_alias, print_next_import, print_imports, print_qualident, print_module}
use Rattle.oberon_tree.specs.Levels.{depth_of_each, depth_of_some, depth_of_constant, depth_of_constants, depth_of_type_declaration, depth_of_types, depth_of_variable, depth_of_variables, depth_of_declarations, depth_of_local_constant, depth_of_local_constants, depth_of_local_variable, depth_of_local_variables, depth_of_section, depth_of_next_section, depth_of_sections, depth_of_formals, depth_of_body, depth_of_return, depth_of_procedure, depth_of_procedure_item, depth_of_module}
use Rattle.oberon_productions.specs.Expected.{Expected}
use Rattle.oberon_productions.specs.Expected as want
use Rattle.oberon_productions.specs.Tests.{is_symbol, is_word, is_ident, next_is}
use Rattle.oberon_productions.proofs.Follows.{next_reach, next_stage}
use Rattle.oberon_productions.specs.Machine.{expr_parts, statements_parts, qualident_parts, section_parts, section_tail, formal_type_parts, procedure_parts, import_parts, declarations_parts, module_parts, feed, stops}
use Rattle.oberon_productions.proofs.Found.{past_word, past_ident}
use Rattle.oberon_productions.proofs.Steps.{skip, skip_opens, skip_procedures}
use Rattle.oberon_productions.proofs.ForthNames.{over_qualident, over_mark, over_ident_defs, over_more_idents}
use Rattle.oberon_productions.proofs.ForthExpressions.{over_expr}
use Rattle.oberon_productions.proofs.ForthTypes.{over_type}
use Rattle.oberon_productions.proofs.ForthStatements.{over_statements}

-- ---- declarations of a module

pub over_constants : (xs : List ConstantTree) (d : ℕ) (s : List Expected) (rest : List Token) → depth_of_each depth_of_constant xs ≤ d → next_is is_ident rest ≡ false → stops (want.constants d ∷ s) (print_each print_constant xs rest) ≡ stops s rest
unfolding stops feed
over_constants [] d s rest h q = skip (want.constants d) is_ident (want.some_mark ∷ want.symbol symbols.Equal ∷ expr_parts d ++ want.symbol symbols.Semicolon ∷ want.constants d ∷ []) s rest refl (λ k. refl) q
over_constants (x ∷ xs) d s rest h q =
    over_mark x.name.export (want.symbol symbols.Equal ∷ expr_parts d ++ want.symbol symbols.Semicolon ∷ want.constants d ∷ s) (symbol_token symbols.Equal x.equal ∷ print_expr x.value (symbol_token symbols.Semicolon x.semicolon ∷ print_each print_constant xs rest)) refl ∙ over_expr x.value d (want.symbol symbols.Semicolon ∷ want.constants d ∷ s) (symbol_token symbols.Semicolon x.semicolon ∷ print_each print_constant xs rest) (omega arith) (omega arith) ∙ over_constants xs d s rest (omega arith) q

pub over_types : (xs : List TypeDeclarationTree) (d : ℕ) (s : List Expected) (rest : List Token) → depth_of_each depth_of_type_declaration xs ≤ d → next_is is_ident rest ≡ false → stops (want.types d ∷ s) (print_each print_type_declaration xs rest) ≡ stops s rest
unfolding stops feed
over_types [] d s rest h q = skip (want.types d) is_ident (want.some_mark ∷ want.symbol symbols.Equal ∷ want.type_part d ∷ want.symbol symbols.Semicolon ∷ want.types d ∷ []) s rest refl (λ k. refl) q
over_types (x ∷ xs) d s rest h q =
    over_mark x.name.export (want.symbol symbols.Equal ∷ want.type_part d ∷ want.symbol symbols.Semicolon ∷ want.types d ∷ s) (symbol_token symbols.Equal x.equal ∷ print_type x.of_type (symbol_token symbols.Semicolon x.semicolon ∷ print_each print_type_declaration xs rest)) refl ∙ over_type x.of_type d (want.symbol symbols.Semicolon ∷ want.types d ∷ s) (symbol_token symbols.Semicolon x.semicolon ∷ print_each print_type_declaration xs rest) (omega arith) (omega arith) ∙ over_types xs d s rest (omega arith) q

pub over_variables : (xs : List VariableTree) (d : ℕ) (s : List Expected) (rest : List Token) → depth_of_each depth_of_variable xs ≤ d → next_is is_ident rest ≡ false → stops (want.variables d ∷ s) (print_each print_variable xs rest) ≡ stops s rest
unfolding stops feed
over_variables [] d s rest h q = skip (want.variables d) is_ident (want.some_mark ∷ want.ident_defs ∷ want.symbol symbols.Colon ∷ want.type_part d ∷ want.symbol symbols.Semicolon ∷ want.variables d ∷ []) s rest refl (λ k. refl) q
over_variables (x ∷ xs) d s rest h q =
    over_ident_defs x.names (want.symbol symbols.Colon ∷ want.type_part d ∷ want.symbol symbols.Semicolon ∷ want.variables d ∷ s) (symbol_token symbols.Colon x.colon ∷ print_type x.of_type (symbol_token symbols.Semicolon x.semicolon ∷ print_each print_variable xs rest)) (omega arith) ∙ over_type x.of_type d (want.symbol symbols.Semicolon ∷ want.variables d ∷ s) (symbol_token symbols.Semicolon x.semicolon ∷ print_each print_variable xs rest) (omega arith) (omega arith) ∙ over_variables xs d s rest (omega arith) q

pub over_some_constants : (o : Option ConstantsTree) (d : ℕ) (s : List Expected) (rest : List Token) → depth_of_some depth_of_constants o ≤ d → next_stage rest < 6 → stops (want.some_constants d ∷ s) (print_some print_constants o rest) ≡ stops s rest
unfolding stops feed
over_some_constants None d s rest h q = skip (want.some_constants d) (is_word words.Const) (want.constants d ∷ []) s rest refl (λ k. refl) (past_word words.Const rest q)
over_some_constants (Some x) d s rest h q = over_constants x.items d s rest h (past_ident rest (omega arith))

pub over_some_types : (o : Option TypesTree) (d : ℕ) (s : List Expected) (rest : List Token) → depth_of_some depth_of_types o ≤ d → next_stage rest < 5 → stops (want.some_types d ∷ s) (print_some print_types o rest) ≡ stops s rest
unfolding stops feed
over_some_types None d s rest h q = skip (want.some_types d) (is_word words.Type) (want.types d ∷ []) s rest refl (λ k. refl) (past_word words.Type rest q)
over_some_types (Some x) d s rest h q = over_types x.items d s rest h (past_ident rest (omega arith))

pub over_some_variables : (o : Option VariablesTree) (d : ℕ) (s : List Expected) (rest : List Token) → depth_of_some depth_of_variables o ≤ d → next_stage rest < 4 → stops (want.some_variables d ∷ s) (print_some print_variables o rest) ≡ stops s rest
unfolding stops feed
over_some_variables None d s rest h q = skip (want.some_variables d) (is_word words.Var) (want.variables d ∷ []) s rest refl (λ k. refl) (past_word words.Var rest q)
over_some_variables (Some x) d s rest h q = over_variables x.items d s rest h (past_ident rest (omega arith))

types_stage : (o : Option TypesTree) (rest : List Token) → next_stage rest < 5 → next_stage (print_some print_types o rest) < 6
types_stage None rest h = omega arith
types_stage (Some x) rest h = omega arith

variables_stage : (o : Option VariablesTree) (rest : List Token) → next_stage rest < 4 → next_stage (print_some print_variables o rest) < 5
variables_stage None rest h = omega arith
variables_stage (Some x) rest h = omega arith

pub over_declarations : (x : DeclarationsTree) (d : ℕ) (s : List Expected) (rest : List Token) → depth_of_declarations x ≤ d → next_stage rest < 4 → stops (declarations_parts d ++ s) (print_declarations x rest) ≡ stops s rest
over_declarations x d s rest h q =
    over_some_constants x.constants d (want.some_types d ∷ want.some_variables d ∷ s) (print_some print_types x.types (print_some print_variables x.variables rest)) (omega arith) (types_stage x.types (print_some print_variables x.variables rest) (variables_stage x.variables rest q)) ∙ over_some_types x.types d (want.some_variables d ∷ s) (print_some print_variables x.variables rest) (omega arith) (variables_stage x.variables rest q) ∙ over_some_variables x.variables d s rest (omega arith) q

-- ---- declarations of a procedure

pub over_local_constants : (xs : List LocalConstantTree) (d : ℕ) (s : List Expected) (rest : List Token) → depth_of_each depth_of_local_constant xs ≤ d → next_is is_ident rest ≡ false → stops (want.local_constants d ∷ s) (print_each print_local_constant xs rest) ≡ stops s rest
unfolding stops feed
over_local_constants [] d s rest h q = skip (want.local_constants d) is_ident (want.symbol symbols.Equal ∷ expr_parts d ++ want.symbol symbols.Semicolon ∷ want.local_constants d ∷ []) s rest refl (λ k. refl) q
over_local_constants (x ∷ xs) d s rest h q =
    over_expr x.value d (want.symbol symbols.Semicolon ∷ want.local_constants d ∷ s) (symbol_token symbols.Semicolon x.semicolon ∷ print_each print_local_constant xs rest) (omega arith) (omega arith) ∙ over_local_constants xs d s rest (omega arith) q

pub over_local_variables : (xs : List LocalVariableTree) (d : ℕ) (s : List Expected) (rest : List Token) → depth_of_each depth_of_local_variable xs ≤ d → next_is is_ident rest ≡ false → stops (want.local_variables d ∷ s) (print_each print_local_variable xs rest) ≡ stops s rest
unfolding stops feed
over_local_variables [] d s rest h q = skip (want.local_variables d) is_ident (want.idents ∷ want.symbol symbols.Colon ∷ want.type_part d ∷ want.symbol symbols.Semicolon ∷ want.local_variables d ∷ []) s rest refl (λ k. refl) q
over_local_variables (x ∷ xs) d s rest h q =
    over_more_idents x.names.rest (want.symbol symbols.Colon ∷ want.type_part d ∷ want.symbol symbols.Semicolon ∷ want.local_variables d ∷ s) (symbol_token symbols.Colon x.colon ∷ print_type x.of_type (symbol_token symbols.Semicolon x.semicolon ∷ print_each print_local_variable xs rest)) (omega arith) ∙ over_type x.of_type d (want.symbol symbols.Semicolon ∷ want.local_variables d ∷ s) (symbol_token symbols.Semicolon x.semicolon ∷ print_each print_local_variable xs rest) (omega arith) (omega arith) ∙ over_local_variables xs d s rest (omega arith) q

pub over_some_local_constants : (o : Option LocalConstantsTree) (d : ℕ) (s : List Expected) (rest : List Token) → depth_of_some depth_of_local_constants o ≤ d → next_stage rest < 6 → stops (want.some_local_constants d ∷ s) (print_some print_local_constants o rest) ≡ stops s rest
unfolding stops feed
over_some_local_constants None d s rest h q = skip (want.some_local_constants d) (is_word words.Const) (want.local_constants d ∷ []) s rest refl (λ k. refl) (past_word words.Const rest q)
over_some_local_constants (Some x) d s rest h q = over_local_constants x.items d s rest h (past_ident rest (omega arith))

pub over_some_local_variables : (o : Option LocalVariablesTree) (d : ℕ) (s : List Expected) (rest : List Token) → depth_of_some depth_of_local_variables o ≤ d → next_stage rest < 4 → stops (want.some_local_variables d ∷ s) (print_some print_local_variables o rest) ≡ stops s rest
unfolding stops feed
over_some_local_variables None d s rest h q = skip (want.some_local_variables d) (is_word words.Var) (want.local_variables d ∷ []) s rest refl (λ k. refl) (past_word words.Var rest q)
over_some_local_variables (Some x) d s rest h q = over_local_variables x.items d s rest h (past_ident rest (omega arith))

local_variables_stage : (o : Option LocalVariablesTree) (rest : List Token) → next_stage rest < 4 → next_stage (print_some print_local_variables o rest) < 6
local_variables_stage None rest h = omega arith
local_variables_stage (Some x) rest h = omega arith

-- ---- formal parameters

pub over_opens : (xs : List OpenArray) (d : ℕ) (s : List Expected) (rest : List Token) → length xs ≤ d → next_is (is_word words.Array) rest ≡ false → stops (want.opens d ∷ s) (print_each print_open_array xs rest) ≡ stops s rest
unfolding stops feed
over_opens [] d s rest h q = skip_opens d s rest q
over_opens (x ∷ xs) zero s rest h q = absurd (omega arith)
over_opens (x ∷ xs) (suc d) s rest h q = over_opens xs d s rest (omega arith) q

by_var_past : (o : Option Span) (i : Ident) (s : List Expected) (ts : List Token) → stops (want.some_by_var ∷ s) (print_some print_by_var o (ident_token i ∷ ts)) ≡ stops s (ident_token i ∷ ts)
unfolding stops feed
by_var_past None i s ts = refl
by_var_past (Some span) i s ts = refl

over_section_tail : (x : SectionTree) (d : ℕ) (s : List Expected) (rest : List Token) → depth_of_section x ≤ d → next_is (is_symbol symbols.Period) rest ≡ false → stops (section_tail d ++ s) (print_each print_next_ident x.names.rest (symbol_token symbols.Colon x.colon ∷ print_formal_type x.of_type rest)) ≡ stops s rest
unfolding stops feed
over_section_tail x d s rest h q =
    over_more_idents x.names.rest (want.symbol symbols.Colon ∷ formal_type_parts d ++ s) (symbol_token symbols.Colon x.colon ∷ print_formal_type x.of_type rest) (omega arith) ∙ over_opens x.of_type.opens d (qualident_parts ++ s) (print_qualident x.of_type.name rest) h refl ∙ over_qualident x.of_type.name s rest q

sections_no_period : (xs : List NextSectionTree) (rest : List Token) → next_is (is_symbol symbols.Period) rest ≡ false → next_is (is_symbol symbols.Period) (print_each print_next_section xs rest) ≡ false
sections_no_period [] rest q = q
sections_no_period (x ∷ xs) rest q = refl

pub over_sections : (xs : List NextSectionTree) (d : ℕ) (s : List Expected) (rest : List Token) → depth_of_each depth_of_next_section xs ≤ d → next_is (is_symbol symbols.Period) rest ≡ false → next_is (is_symbol symbols.Semicolon) rest ≡ false → stops (want.sections d ∷ s) (print_each print_next_section xs rest) ≡ stops s rest
unfolding stops feed
over_sections [] d s rest h p q = skip (want.sections d) (is_symbol symbols.Semicolon) (section_parts d ++ want.sections d ∷ []) s rest refl (λ k. refl) q
over_sections (x ∷ xs) d s rest h p q =
    by_var_past x.section.by_var x.section.names.first (want.ident ∷ section_tail d ++ want.sections d ∷ s) (print_each print_next_ident x.section.names.rest (symbol_token symbols.Colon x.section.colon ∷ print_formal_type x.section.of_type (print_each print_next_section xs rest))) ∙ over_section_tail x.section d (want.sections d ∷ s) (print_each print_next_section xs rest) (omega arith) (sections_no_period xs rest p) ∙ over_sections xs d s rest (omega arith) p q

formals_first : (o : Option Span) (i : Ident) (d : ℕ) (s : List Expected) (ts : List Token) → stops (want.rest_of_formals d ∷ s) (print_some print_by_var o (ident_token i ∷ ts)) ≡ stops (section_tail d ++ want.sections d ∷ want.symbol symbols.CloseParen ∷ s) ts
unfolding stops feed
formals_first None i d s ts = refl
formals_first (Some span) i d s ts = refl

over_some_sections : (o : Option SectionsTree) (d : ℕ) (b : Span) (s : List Expected) (rest : List Token) → depth_of_some depth_of_sections o ≤ d → stops (want.rest_of_formals d ∷ s) (print_some print_sections o (symbol_token symbols.CloseParen b ∷ rest)) ≡ stops s rest
unfolding stops feed
over_some_sections None d b s rest h = refl
over_some_sections (Some x) d b s rest h =
    formals_first x.first.by_var x.first.names.first d s (print_each print_next_ident x.first.names.rest (symbol_token symbols.Colon x.first.colon ∷ print_formal_type x.first.of_type (print_each print_next_section x.rest (symbol_token symbols.CloseParen b ∷ rest)))) ∙ over_section_tail x.first d (want.sections d ∷ want.symbol symbols.CloseParen ∷ s) (print_each print_next_section x.rest (symbol_token symbols.CloseParen b ∷ rest)) (omega arith) (sections_no_period x.rest (symbol_token symbols.CloseParen b ∷ rest) refl) ∙ over_sections x.rest d (want.symbol symbols.CloseParen ∷ s) (symbol_token symbols.CloseParen b ∷ rest) (omega arith) refl refl

over_result : (o : Option ResultType) (s : List Expected) (semicolon : Span) (rest : List Token) → stops (want.some_result ∷ s) (print_some print_result_type o (symbol_token symbols.Semicolon semicolon ∷ rest)) ≡ stops s (symbol_token symbols.Semicolon semicolon ∷ rest)
unfolding stops feed
over_result None s semicolon rest = refl
over_result (Some x) s semicolon rest = over_qualident x.name s (symbol_token symbols.Semicolon semicolon ∷ rest) refl

over_some_formals : (o : Option FormalsTree) (d : ℕ) (s : List Expected) (semicolon : Span) (rest : List Token) → depth_of_some depth_of_formals o ≤ d → stops (want.some_formals d ∷ s) (print_some print_formals o (symbol_token symbols.Semicolon semicolon ∷ rest)) ≡ stops s (symbol_token symbols.Semicolon semicolon ∷ rest)
unfolding stops feed
over_some_formals None d s semicolon rest h = refl
over_some_formals (Some x) d s semicolon rest h = over_some_sections x.sections d x.closing (want.some_result ∷ s) (print_some print_result_type x.result_type (symbol_token symbols.Semicolon semicolon ∷ rest)) h ∙ over_result x.result_type s semicolon rest

formals_no_star : (o : Option FormalsTree) (semicolon : Span) (rest : List Token) → next_is (is_symbol symbols.Star) (print_some print_formals o (symbol_token symbols.Semicolon semicolon ∷ rest)) ≡ false
formals_no_star None semicolon rest = refl
formals_no_star (Some x) semicolon rest = refl

-- ---- procedures

pub over_some_body : (o : Option BodyTree) (d : ℕ) (s : List Expected) (rest : List Token) → depth_of_some depth_of_body o ≤ d → next_stage rest < 2 → next_reach rest < 1 → stops (want.some_body d ∷ s) (print_some print_body o rest) ≡ stops s rest
unfolding stops feed
over_some_body None d s rest h q r = skip (want.some_body d) (is_word words.Begin) (statements_parts d) s rest refl (λ k. refl) (past_word words.Begin rest q)
over_some_body (Some x) d s rest h q r = over_statements x.statements d s rest h r

over_some_return : (o : Option ReturnTree) (d : ℕ) (last : Span) (s : List Expected) (rest : List Token) → depth_of_some depth_of_return o ≤ d → stops (want.some_return d ∷ s) (print_some print_return o (word_token words.End last ∷ rest)) ≡ stops s (word_token words.End last ∷ rest)
unfolding stops feed
over_some_return None d last s rest h = refl
over_some_return (Some x) d last s rest h = over_expr x.value d s (word_token words.End last ∷ rest) h (omega arith)

return_stage : (o : Option ReturnTree) (last : Span) (rest : List Token) → next_stage (print_some print_return o (word_token words.End last ∷ rest)) < 2
return_stage None last rest = omega arith
return_stage (Some x) last rest = omega arith

return_rank : (o : Option ReturnTree) (last : Span) (rest : List Token) → next_reach (print_some print_return o (word_token words.End last ∷ rest)) < 1
return_rank None last rest = omega arith
return_rank (Some x) last rest = omega arith

body_stage : (o : Option BodyTree) (rest : List Token) → next_stage rest < 2 → next_stage (print_some print_body o rest) < 3
body_stage None rest h = omega arith
body_stage (Some x) rest h = omega arith

-- what stands behind PROCEDURE
print_rest_of_procedure : ProcedureTree → List Token → List Token
print_rest_of_procedure p rest = ident_token p.name.name ∷ print_some print_mark p.name.export (print_some print_formals p.formals (symbol_token symbols.Semicolon p.semicolon ∷ print_locals p.locals (print_some print_body p.body (print_some print_return p.returns (word_token words.End p.end ∷ ident_token p.end_name ∷ rest)))))

over_procedure : (p : ProcedureTree) (d : ℕ) (s : List Expected) (rest : List Token) → depth_of_procedure p ≤ suc d → stops (procedure_parts d ++ s) (print_rest_of_procedure p rest) ≡ stops s rest
unfolding stops feed print_rest_of_procedure
over_procedure p d s rest h =
    let after : List Token = word_token words.End p.end ∷ ident_token p.end_name ∷ rest in
    let returns : List Token = print_some print_return p.returns after in
    let body : List Token = print_some print_body p.body returns in
    let low : next_stage body < 3 = body_stage p.body returns (return_stage p.returns p.end (ident_token p.end_name ∷ rest)) in
    over_mark p.name.export _ (print_some print_formals p.formals (symbol_token symbols.Semicolon p.semicolon ∷ print_locals p.locals body)) (formals_no_star p.formals p.semicolon (print_locals p.locals body)) ∙ over_some_formals p.formals d (want.symbol symbols.Semicolon ∷ want.some_local_constants d ∷ want.some_local_variables d ∷ want.some_body d ∷ want.some_return d ∷ want.word words.End ∷ want.ident ∷ s) p.semicolon (print_locals p.locals body) (omega arith) ∙ over_some_local_constants p.locals.constants d (want.some_local_variables d ∷ want.some_body d ∷ want.some_return d ∷ want.word words.End ∷ want.ident ∷ s) (print_some print_local_variables p.locals.variables body) (omega arith) (local_variables_stage p.locals.variables body (omega arith)) ∙ over_some_local_variables p.locals.variables d (want.some_body d ∷ want.some_return d ∷ want.word words.End ∷ want.ident ∷ s) body (omega arith) (omega arith) ∙ over_some_body p.body d (want.some_return d ∷ want.word words.End ∷ want.ident ∷ s) returns (omega arith) (return_stage p.returns p.end (ident_token p.end_name ∷ rest)) (return_rank p.returns p.end (ident_token p.end_name ∷ rest)) ∙ over_some_return p.returns d p.end (want.word words.End ∷ want.ident ∷ s) (ident_token p.end_name ∷ rest) (omega arith)

pub over_procedures : (xs : List ProcedureItemTree) (d : ℕ) (s : List Expected) (rest : List Token) → depth_of_each depth_of_procedure_item xs ≤ d → next_is (is_word words.Procedure) rest ≡ false → stops (want.procedures d ∷ s) (print_each print_procedure_item xs rest) ≡ stops s rest
unfolding stops feed print_rest_of_procedure
over_procedures [] d s rest h q = skip_procedures d s rest q
over_procedures (x ∷ xs) zero s rest h q = absurd (omega arith)
over_procedures (x ∷ xs) (suc d) s rest h q = over_procedure x.procedure d (want.symbol symbols.Semicolon ∷ want.procedures (suc d) ∷ s) (symbol_token symbols.Semicolon x.semicolon ∷ print_each print_procedure_item xs rest) (omega arith) ∙ over_procedures xs (suc d) s rest (omega arith) q

procedures_stage : (xs : List ProcedureItemTree) (rest : List Token) → next_stage rest < 3 → next_stage (print_each print_procedure_item xs rest) < 4
procedures_stage [] rest h = omega arith
procedures_stage (x ∷ xs) rest h = omega arith

-- ---- imports and the module

over_alias : (o : Option Alias) (s : List Expected) (rest : List Token) → next_is (is_symbol symbols.Becomes) rest ≡ false → stops (want.some_alias ∷ s) (print_some print_alias o rest) ≡ stops s rest
unfolding stops feed
over_alias None s rest q = skip want.some_alias (is_symbol symbols.Becomes) (want.ident ∷ []) s rest refl (λ k. refl) q
over_alias (Some x) s rest q = refl

imports_next : (xs : List NextImport) (semicolon : Span) (rest : List Token) → next_is (is_symbol symbols.Becomes) (print_each print_next_import xs (symbol_token symbols.Semicolon semicolon ∷ rest)) ≡ false
imports_next [] semicolon rest = refl
imports_next (x ∷ xs) semicolon rest = refl

over_imports : (xs : List NextImport) (semicolon : Span) (s : List Expected) (rest : List Token) → stops (want.imports ∷ want.symbol symbols.Semicolon ∷ s) (print_each print_next_import xs (symbol_token symbols.Semicolon semicolon ∷ rest)) ≡ stops s rest
unfolding stops feed
over_imports [] semicolon s rest = refl
over_imports (x ∷ xs) semicolon s rest = over_alias x.import.alias (want.imports ∷ want.symbol symbols.Semicolon ∷ s) (print_each print_next_import xs (symbol_token symbols.Semicolon semicolon ∷ rest)) (imports_next xs semicolon rest) ∙ over_imports xs semicolon s rest

over_some_imports : (o : Option ImportsTree) (s : List Expected) (rest : List Token) → next_stage rest < 8 → stops (want.some_imports ∷ s) (print_some print_imports o rest) ≡ stops s rest
unfolding stops feed
over_some_imports None s rest h = skip want.some_imports (is_word words.Import) (import_parts ++ want.imports ∷ want.symbol symbols.Semicolon ∷ []) s rest refl (λ k. refl) (past_word words.Import rest h)
over_some_imports (Some x) s rest h = over_alias x.first.alias (want.imports ∷ want.symbol symbols.Semicolon ∷ s) (print_each print_next_import x.rest (symbol_token symbols.Semicolon x.semicolon ∷ rest)) (imports_next x.rest x.semicolon rest) ∙ over_imports x.rest x.semicolon s rest

constants_stage : (o : Option ConstantsTree) (rest : List Token) → next_stage rest < 6 → next_stage (print_some print_constants o rest) < 8
constants_stage None rest h = omega arith
constants_stage (Some x) rest h = omega arith

declarations_stage : (x : DeclarationsTree) (rest : List Token) → next_stage rest < 4 → next_stage (print_declarations x rest) < 8
declarations_stage x rest h = constants_stage x.constants _ (types_stage x.types (print_some print_variables x.variables rest) (variables_stage x.variables rest h))

pub over_module : (m : ModuleTree) (d : ℕ) (s : List Expected) (rest : List Token) → depth_of_module m ≤ d → stops (module_parts d ++ s) (print_module m rest) ≡ stops s rest
unfolding stops feed
over_module m d s rest h =
    let after : List Token = ident_token m.end_name ∷ symbol_token symbols.Period m.period ∷ rest in
    let body : List Token = print_some print_body m.body (word_token words.End m.end ∷ after) in
    let procedures : List Token = print_each print_procedure_item m.procedures body in
    let low : next_stage body < 3 = body_stage m.body (word_token words.End m.end ∷ after) (omega arith) in
    let middle : next_stage procedures < 4 = procedures_stage m.procedures body low in
    let ends : List Expected = want.word words.End ∷ want.ident ∷ want.symbol symbols.Period ∷ s in
    over_some_imports m.imports (declarations_parts d ++ want.procedures d ∷ want.some_body d ∷ ends) (print_declarations m.declarations procedures) (declarations_stage m.declarations procedures middle) ∙ over_declarations m.declarations d (want.procedures d ∷ want.some_body d ∷ ends) procedures (omega arith) middle ∙ over_procedures m.procedures d (want.some_body d ∷ ends) body (omega arith) (past_word words.Procedure body low) ∙ over_some_body m.body d ends (word_token words.End m.end ∷ after) (omega arith) (omega arith) (omega arith)
