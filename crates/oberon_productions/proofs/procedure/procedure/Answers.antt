use Rattle.std.proofs.Common.{suc, refl, arith, ◌∷◌, ◌++◌, ◌∙◌, []}
use Rattle.oberon_productions.specs.Machine.{ident_def_parts, locals_parts}
use Rattle.oberon_productions.proofs.Descending.{via, after_symbol, entered, fewer, exits, onto, behind}
use Rattle.oberon_tree.specs.Tokens.{word_token}
use Rattle.oberon_productions.specs.Expected as want
use Rattle.oberon_scan.specs.declared.token.Symbol.TheVariants as symbols
use Rattle.oberon_scan.specs.declared.token.Word.TheVariants as words
use Rattle.oberon_productions.proofs.procedure.procedure.Goals as goal

pub returns-in_err-found : goal.returns-in_err-found
returns-in_err-found c =
    exits _ _ c.from_residual.result c.in_err-found.field-0.0 c.from_residual.ensures.1
    (via (ident_def_parts ++ (want.some_formals c.args.levels ∷ (want.symbol symbols.Semicolon ∷ []))) ((want.procedures (suc c.args.levels)) ∷ []) _ (word_token words.Procedure c.args.span ∷ c.args.given.now) _ (λ s. (locals_parts c.args.levels ++ (want.some_body c.args.levels ∷ (want.some_return c.args.levels ∷ (want.word words.End ∷ (want.ident ∷ (want.symbol symbols.Semicolon ∷ (want.procedures (suc c.args.levels) ∷ s)))))))) (λ s. entered (want.procedures (suc c.args.levels)) (ident_def_parts ++ (want.some_formals c.args.levels ∷ (want.symbol symbols.Semicolon ∷ (locals_parts c.args.levels ++ (want.some_body c.args.levels ∷ (want.some_return c.args.levels ∷ (want.word words.End ∷ (want.ident ∷ (want.symbol symbols.Semicolon ∷ (want.procedures (suc c.args.levels) ∷ [])))))))))) s _ _ _ refl refl) c.in_err-found.ensures)

pub returns-in_err-behind : goal.returns-in_err-behind
returns-in_err-behind c =
    exits _ _ c.from_residual-in_err-behind.result c.in_err-behind.field-0.0 c.from_residual-in_err-behind.ensures.1
    (via (locals_parts c.args.levels ++ (want.some_body c.args.levels ∷ (want.some_return c.args.levels ∷ (want.word words.End ∷ (want.ident ∷ []))))) ((want.procedures (suc c.args.levels)) ∷ []) _ (word_token words.Procedure c.args.span ∷ c.args.given.now) _ (λ s. (want.symbol symbols.Semicolon ∷ (want.procedures (suc c.args.levels) ∷ s))) (λ s. entered (want.procedures (suc c.args.levels)) (ident_def_parts ++ (want.some_formals c.args.levels ∷ (want.symbol symbols.Semicolon ∷ (locals_parts c.args.levels ++ (want.some_body c.args.levels ∷ (want.some_return c.args.levels ∷ (want.word words.End ∷ (want.ident ∷ (want.symbol symbols.Semicolon ∷ (want.procedures (suc c.args.levels) ∷ [])))))))))) s _ _ _ refl refl ∙ c.in_ok-found.ensures.moves (locals_parts c.args.levels ++ (want.some_body c.args.levels ∷ (want.some_return c.args.levels ∷ (want.word words.End ∷ (want.ident ∷ (want.symbol symbols.Semicolon ∷ (want.procedures (suc c.args.levels) ∷ s)))))))) (rw c.in_err-behind.ensures at c.rest_of_procedure.ensures))

pub returns-in_err-separator : goal.returns-in_err-separator
returns-in_err-separator c =
    let ok_behind = rw c.in_ok-behind.ensures.0 at c.rest_of_procedure.ensures in
    exits _ _ c.from_residual-in_err-separator.result c.in_err-separator.field-0.0 c.from_residual-in_err-separator.ensures.1
    (via (want.symbol symbols.Semicolon ∷ []) ((want.procedures (suc c.args.levels)) ∷ []) _ (word_token words.Procedure c.args.span ∷ c.args.given.now) _ (λ s. (want.procedures (suc c.args.levels) ∷ s)) (λ s. entered (want.procedures (suc c.args.levels)) (ident_def_parts ++ (want.some_formals c.args.levels ∷ (want.symbol symbols.Semicolon ∷ (locals_parts c.args.levels ++ (want.some_body c.args.levels ∷ (want.some_return c.args.levels ∷ (want.word words.End ∷ (want.ident ∷ (want.symbol symbols.Semicolon ∷ (want.procedures (suc c.args.levels) ∷ [])))))))))) s _ _ _ refl refl ∙ c.in_ok-found.ensures.moves (locals_parts c.args.levels ++ (want.some_body c.args.levels ∷ (want.some_return c.args.levels ∷ (want.word words.End ∷ (want.ident ∷ (want.symbol symbols.Semicolon ∷ (want.procedures (suc c.args.levels) ∷ s))))))) ∙ ok_behind.moves (want.symbol symbols.Semicolon ∷ (want.procedures (suc c.args.levels) ∷ s))) (rw c.in_err-separator.ensures at c.need_symbol.ensures))

pub returns : goal.returns
returns c =
    let ok_behind = rw c.in_ok-behind.ensures.0 at c.rest_of_procedure.ensures in
    let ok_separator = rw c.in_ok-separator.ensures.0 at c.need_symbol.ensures in
    rw (c.in_ok-separator.ensures.1, c.in_ok-behind.ensures.1) (
      record {
        spelled = onto refl (behind c.in_ok-found.ensures (behind ok_behind (onto ok_separator refl)));
        moves = λ s. entered (want.procedures (suc c.args.levels)) (ident_def_parts ++ (want.some_formals c.args.levels ∷ (want.symbol symbols.Semicolon ∷ (locals_parts c.args.levels ++ (want.some_body c.args.levels ∷ (want.some_return c.args.levels ∷ (want.word words.End ∷ (want.ident ∷ (want.symbol symbols.Semicolon ∷ (want.procedures (suc c.args.levels) ∷ [])))))))))) s _ _ _ refl refl ∙ c.in_ok-found.ensures.moves (locals_parts c.args.levels ++ (want.some_body c.args.levels ∷ (want.some_return c.args.levels ∷ (want.word words.End ∷ (want.ident ∷ (want.symbol symbols.Semicolon ∷ (want.procedures (suc c.args.levels) ∷ s))))))) ∙ ok_behind.moves (want.symbol symbols.Semicolon ∷ (want.procedures (suc c.args.levels) ∷ s)) ∙ after_symbol symbols.Semicolon (want.procedures (suc c.args.levels) ∷ s) ok_separator;
        within = omega (arith, c.in_ok-found.ensures.within, ok_behind.within);
        shorter = omega (arith, c.in_ok-found.ensures.shorter, ok_behind.shorter, fewer ok_separator);
      },
      omega (arith, c.in_ok-found.ensures.shorter, ok_behind.shorter, fewer ok_separator),
    )
