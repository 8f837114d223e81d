-- A machine that reads the tokens of a module one by one, with a stack of what is expected. It knows the
-- grammar and its levels, and no trees. The contracts of the private functions that read a module speak
-- of it; what the public function promises speaks of trees alone.
use Rattle.std.specs.Prelude.{ℕ, zero, suc, Bool, true, false, cond, eqb, List, [], ◌∷◌, ◌++◌, length, Option, Some, None}
use Rattle.oberon_scan.specs.declared.token.Token.{Token}
use Rattle.oberon_scan.specs.declared.token.TokenKind.{TokenKind}
use Rattle.oberon_scan.specs.declared.token.Word.{Word}
use Rattle.oberon_scan.specs.declared.token.Word.TheVariants as words
use Rattle.oberon_scan.specs.declared.token.Symbol.TheVariants as symbols
use Rattle.oberon_productions.specs.Tests.{is_word, is_symbol, is_ident, is_literal, is_sign, is_constant, reach}
use Rattle.oberon_productions.specs.Expected.{Expected}
use Rattle.oberon_productions.specs.Expected as want

-- ---- constructs without a choice at their head are lists of what they expect

abbrev pub term_parts : ℕ → List Expected
term_parts d = want.factor d ∷ want.multipliers d ∷ []

abbrev pub simple_parts : ℕ → List Expected
simple_parts d = want.some_sign ∷ want.factor d ∷ want.multipliers d ∷ want.addends d ∷ []

abbrev pub expr_parts : ℕ → List Expected
expr_parts d = want.some_sign ∷ want.factor d ∷ want.multipliers d ∷ want.addends d ∷ want.some_relation d ∷ []

abbrev pub exprs_parts : ℕ → List Expected
exprs_parts d = expr_parts d ++ want.exprs d ∷ []

abbrev pub element_parts : ℕ → List Expected
element_parts d = expr_parts d ++ want.some_upper d ∷ []

abbrev pub qualident_parts : List Expected
qualident_parts = want.ident ∷ want.some_member ∷ []

abbrev pub ident_def_parts : List Expected
ident_def_parts = want.ident ∷ want.some_mark ∷ []

abbrev pub ident_defs_parts : List Expected
ident_defs_parts = want.ident ∷ want.some_mark ∷ want.ident_defs ∷ []

abbrev pub idents_parts : List Expected
idents_parts = want.ident ∷ want.idents ∷ []

abbrev pub fields_parts : ℕ → List Expected
fields_parts d = ident_defs_parts ++ want.symbol symbols.Colon ∷ want.type_part d ∷ []

abbrev pub label_parts : List Expected
label_parts = want.value ∷ want.some_label_upper ∷ []

abbrev pub statements_parts : ℕ → List Expected
statements_parts d = want.statement d ∷ want.statements d ∷ []

-- what stands behind the first word of an arm of IF or WHILE
abbrev pub guarded_parts : Word → ℕ → List Expected
guarded_parts then_word d = expr_parts d ++ want.word then_word ∷ statements_parts d

abbrev pub formal_type_parts : ℕ → List Expected
formal_type_parts d = want.opens d ∷ qualident_parts

-- what stands behind the first name of a section
abbrev pub section_tail : ℕ → List Expected
section_tail d = want.idents ∷ want.symbol symbols.Colon ∷ formal_type_parts d

abbrev pub section_parts : ℕ → List Expected
section_parts d = want.some_by_var ∷ want.ident ∷ section_tail d

abbrev pub locals_parts : ℕ → List Expected
locals_parts d = want.some_local_constants d ∷ want.some_local_variables d ∷ []

-- what stands behind PROCEDURE
abbrev pub procedure_parts : ℕ → List Expected
procedure_parts d =
    want.ident ∷ want.some_mark ∷ want.some_formals d ∷ want.symbol symbols.Semicolon ∷ want.some_local_constants d ∷ want.some_local_variables d ∷ want.some_body d ∷ want.some_return d ∷ want.word words.End ∷ want.ident ∷ []

abbrev pub import_parts : List Expected
import_parts = want.ident ∷ want.some_alias ∷ []

abbrev pub declarations_parts : ℕ → List Expected
declarations_parts d = want.some_constants d ∷ want.some_types d ∷ want.some_variables d ∷ []

abbrev pub module_parts : ℕ → List Expected
module_parts d =
    want.word words.Module ∷ want.ident ∷ want.symbol symbols.Semicolon ∷ want.some_imports ∷ want.some_constants d ∷ want.some_types d ∷ want.some_variables d ∷ want.procedures d ∷ want.some_body d ∷ want.word words.End ∷ want.ident ∷ want.symbol symbols.Period ∷ []

-- ---- one step

-- What the top of the stack does with a token: takes it, and these are expected in its span; is done,
-- and the token is the next one's; or refuses it.
pub data Move : Type 0 where
  takes : List Expected → Move
  passes : Move
  refuses : Move

-- what has to stand here
abbrev pub needs : Bool → List Expected → Move
needs test next = cond test (takes next) refuses

-- what may stand here
abbrev pub allows : Bool → List Expected → Move
allows test next = cond test (takes next) passes

-- the token opens a level, where one more is left
abbrev pub deeper : ℕ → (ℕ → List Expected) → Move
deeper zero next = refuses
deeper (suc d) next = takes (next d)

-- a factor, with more behind it
abbrev pub begins_factor : ℕ → TokenKind → List Expected → Move
begins_factor d k more =
    cond (is_constant k) (takes more) (cond (is_ident k) (takes (want.selectors d ∷ more)) (cond (is_symbol symbols.OpenParen k) (deeper d (λ e. expr_parts e ++ want.symbol symbols.CloseParen ∷ more)) (cond (is_symbol symbols.Tilde k) (deeper d (λ e. want.factor e ∷ more)) (cond (is_symbol symbols.OpenBrace k) (deeper d (λ e. want.rest_of_set e ∷ more)) refuses))))

-- an expression, with more behind it
abbrev pub begins_expr : ℕ → TokenKind → List Expected → Move
begins_expr d k more =
    cond (is_sign k) (takes (want.factor d ∷ want.multipliers d ∷ want.addends d ∷ want.some_relation d ∷ more)) (begins_factor d k (want.multipliers d ∷ want.addends d ∷ want.some_relation d ∷ more))

abbrev pub move : Expected → TokenKind → Move
move want.ident k = needs (is_ident k) []
move (want.word w) k = needs (is_word w k) []
move (want.symbol s) k = needs (is_symbol s k) []
move want.some_member k = allows (is_symbol symbols.Period k) (want.ident ∷ [])
move want.some_mark k = allows (is_symbol symbols.Star k) []
move want.ident_defs k = allows (is_symbol symbols.Comma k) ident_defs_parts
move want.idents k = allows (is_symbol symbols.Comma k) idents_parts
move want.some_sign k = allows (is_sign k) []
move (want.factor d) k = begins_factor d k []
move (want.multipliers d) k = allows (eqb (reach k) 8) (term_parts d)
move (want.addends d) k = allows (eqb (reach k) 7) (term_parts d ++ want.addends d ∷ [])
move (want.some_relation d) k = allows (eqb (reach k) 6) (simple_parts d)
move (want.rest_of_set d) k = cond (is_symbol symbols.CloseBrace k) (takes []) (begins_expr d k (want.some_upper d ∷ want.elements d ∷ want.symbol symbols.CloseBrace ∷ []))
move (want.some_upper d) k = allows (is_symbol symbols.DotDot k) (expr_parts d)
move (want.elements d) k = allows (is_symbol symbols.Comma k) (element_parts d ++ want.elements d ∷ [])
move (want.selectors d) k =
    cond (is_symbol symbols.Period k) (takes (want.ident ∷ want.selectors d ∷ [])) (cond (is_symbol symbols.OpenBracket k) (deeper d (λ e. exprs_parts e ++ want.symbol symbols.CloseBracket ∷ want.selectors d ∷ [])) (cond (is_symbol symbols.OpenParen k) (deeper d (λ e. want.rest_of_call e ∷ want.selectors d ∷ [])) passes))
move (want.rest_of_call d) k = cond (is_symbol symbols.CloseParen k) (takes []) (begins_expr d k (want.exprs d ∷ want.symbol symbols.CloseParen ∷ []))
move (want.exprs d) k = allows (is_symbol symbols.Comma k) (exprs_parts d)
move (want.type_part d) k =
    cond (is_ident k) (takes (want.some_member ∷ [])) (cond (is_word words.Array k) (deeper d (λ e. exprs_parts e ++ want.word words.Of ∷ want.type_part e ∷ [])) (cond (is_word words.Record k) (deeper d (λ e. want.some_base ∷ want.rest_of_record e ∷ [])) refuses))
move want.some_base k = allows (is_symbol symbols.OpenParen k) (qualident_parts ++ want.symbol symbols.CloseParen ∷ [])
move (want.rest_of_record d) k =
    cond (is_word words.End k) (takes []) (needs (is_ident k) (want.some_mark ∷ want.ident_defs ∷ want.symbol symbols.Colon ∷ want.type_part d ∷ want.fields d ∷ want.word words.End ∷ []))
move (want.fields d) k = allows (is_symbol symbols.Semicolon k) (fields_parts d ++ want.fields d ∷ [])
move want.value k = cond (is_literal k) (takes []) (needs (is_ident k) (want.some_member ∷ []))
move want.some_label_upper k = allows (is_symbol symbols.DotDot k) (want.value ∷ [])
move want.labels k = allows (is_symbol symbols.Comma k) (label_parts ++ want.labels ∷ [])
move (want.statement d) k =
    cond (is_ident k) (takes (want.selectors d ∷ want.some_assigned d ∷ [])) (cond (is_word words.If k) (deeper d (λ e. guarded_parts words.Then e ++ want.elsifs words.Then e ∷ want.some_else e ∷ want.word words.End ∷ [])) (cond (is_word words.Case k) (deeper d (λ e. expr_parts e ++ want.word words.Of ∷ want.arm e ∷ want.arms e ∷ want.word words.End ∷ [])) (cond (is_word words.While k) (deeper d (λ e. guarded_parts words.Do e ++ want.elsifs words.Do e ∷ want.word words.End ∷ [])) (cond (is_word words.Repeat k) (deeper d (λ e. statements_parts e ++ want.word words.Until ∷ expr_parts e)) (cond (is_word words.For k) (deeper d (λ e. want.ident ∷ want.symbol symbols.Becomes ∷ expr_parts e ++ want.word words.To ∷ expr_parts e ++ want.some_step e ∷ want.word words.Do ∷ statements_parts e ++ want.word words.End ∷ [])) passes)))))
move (want.some_assigned d) k = allows (is_symbol symbols.Becomes k) (expr_parts d)
move (want.statements d) k = allows (is_symbol symbols.Semicolon k) (statements_parts d)
move (want.elsifs w d) k = allows (is_word words.Elsif k) (guarded_parts w d ++ want.elsifs w d ∷ [])
move (want.some_else d) k = allows (is_word words.Else k) (statements_parts d)
move (want.arm d) k =
    cond (is_literal k) (takes (want.some_label_upper ∷ want.labels ∷ want.symbol symbols.Colon ∷ statements_parts d)) (allows (is_ident k) (want.some_member ∷ want.some_label_upper ∷ want.labels ∷ want.symbol symbols.Colon ∷ statements_parts d))
move (want.arms d) k = allows (is_symbol symbols.Bar k) (want.arm d ∷ want.arms d ∷ [])
move (want.some_step d) k = allows (is_word words.By k) (expr_parts d)
move (want.some_constants d) k = allows (is_word words.Const k) (want.constants d ∷ [])
move (want.constants d) k = allows (is_ident k) (want.some_mark ∷ want.symbol symbols.Equal ∷ expr_parts d ++ want.symbol symbols.Semicolon ∷ want.constants d ∷ [])
move (want.some_types d) k = allows (is_word words.Type k) (want.types d ∷ [])
move (want.types d) k = allows (is_ident k) (want.some_mark ∷ want.symbol symbols.Equal ∷ want.type_part d ∷ want.symbol symbols.Semicolon ∷ want.types d ∷ [])
move (want.some_variables d) k = allows (is_word words.Var k) (want.variables d ∷ [])
move (want.variables d) k = allows (is_ident k) (want.some_mark ∷ want.ident_defs ∷ want.symbol symbols.Colon ∷ want.type_part d ∷ want.symbol symbols.Semicolon ∷ want.variables d ∷ [])
move (want.some_local_constants d) k = allows (is_word words.Const k) (want.local_constants d ∷ [])
move (want.local_constants d) k = allows (is_ident k) (want.symbol symbols.Equal ∷ expr_parts d ++ want.symbol symbols.Semicolon ∷ want.local_constants d ∷ [])
move (want.some_local_variables d) k = allows (is_word words.Var k) (want.local_variables d ∷ [])
move (want.local_variables d) k = allows (is_ident k) (want.idents ∷ want.symbol symbols.Colon ∷ want.type_part d ∷ want.symbol symbols.Semicolon ∷ want.local_variables d ∷ [])
move want.some_by_var k = allows (is_word words.Var k) []
move (want.opens d) k = cond (is_word words.Array k) (deeper d (λ e. want.word words.Of ∷ want.opens e ∷ [])) passes
move (want.sections d) k = allows (is_symbol symbols.Semicolon k) (section_parts d ++ want.sections d ∷ [])
move (want.rest_of_formals d) k =
    cond (is_symbol symbols.CloseParen k) (takes []) (cond (is_word words.Var k) (takes (want.ident ∷ section_tail d ++ want.sections d ∷ want.symbol symbols.CloseParen ∷ [])) (needs (is_ident k) (section_tail d ++ want.sections d ∷ want.symbol symbols.CloseParen ∷ [])))
move (want.some_formals d) k = allows (is_symbol symbols.OpenParen k) (want.rest_of_formals d ∷ want.some_result ∷ [])
move want.some_result k = allows (is_symbol symbols.Colon k) qualident_parts
move (want.some_body d) k = allows (is_word words.Begin k) (statements_parts d)
move (want.some_return d) k = allows (is_word words.Return k) (expr_parts d)
move (want.procedures d) k = cond (is_word words.Procedure k) (deeper d (λ e. procedure_parts e ++ want.symbol symbols.Semicolon ∷ want.procedures d ∷ [])) passes
move want.some_alias k = allows (is_symbol symbols.Becomes k) (want.ident ∷ [])
move want.imports k = allows (is_symbol symbols.Comma k) (import_parts ++ want.imports ∷ [])
move want.some_imports k = allows (is_word words.Import k) (import_parts ++ want.imports ∷ want.symbol symbols.Semicolon ∷ [])

-- whether nothing may stand here
abbrev pub may_miss : Expected → Bool
may_miss want.ident = false
may_miss (want.word w) = false
may_miss (want.symbol s) = false
may_miss (want.factor d) = false
may_miss (want.rest_of_set d) = false
may_miss (want.rest_of_call d) = false
may_miss (want.type_part d) = false
may_miss (want.rest_of_record d) = false
may_miss want.value = false
may_miss (want.rest_of_formals d) = false
may_miss _ = true

-- ---- the machine

-- the stack behind a token, if it is taken
unfoldable pub feed : List Expected → TokenKind → Option (List Expected)
feed [] k = None
feed (x ∷ s) k = elim (move x k) [ takes xs ↦ Some (xs ++ s) | passes ↦ feed s k | refuses ↦ None ]

-- whether the tokens may end here
unfoldable pub may_end : List Expected → Bool
may_end [] = true
may_end (x ∷ s) = cond (may_miss x) (may_end s) false

-- Where the machine stops: nowhere, with all tokens taken, or before this many tokens that are left. It
-- is before 0 where the tokens end too early.
unfoldable pub stops : List Expected → List Token → Option ℕ
stops s [] = cond (may_end s) None (Some 0)
stops s (t ∷ ts) = elim (feed s t.kind) [ None ↦ Some (suc (length ts)) | Some next ↦ stops next ts ]
