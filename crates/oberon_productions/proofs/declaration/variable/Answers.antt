use Rattle.std.proofs.Common.{refl, arith, ◌∷◌, ◌∙◌, []}
use Rattle.oberon_productions.proofs.Descending.{via, after_symbol, entered, fewer, exits, onto, behind}
use Rattle.oberon_tree.specs.Tokens.{ident_token}
use Rattle.oberon_productions.specs.Expected as want
use Rattle.oberon_scan.specs.declared.token.Symbol.TheVariants as symbols
use Rattle.oberon_productions.proofs.declaration.variable.Goals as goal

pub returns-in_err-next : goal.returns-in_err-next
returns-in_err-next c =
    exits _ _ c.from_residual.result c.in_err-next.field-0.0 c.from_residual.ensures.1
    (via (want.ident_defs ∷ []) ((want.variables c.args.levels) ∷ []) _ (ident_token c.args.name ∷ c.args.given.now) _ (λ s. (want.symbol symbols.Colon ∷ (want.type_part c.args.levels ∷ (want.symbol symbols.Semicolon ∷ (want.variables c.args.levels ∷ s))))) (λ s. entered (want.variables c.args.levels) (want.some_mark ∷ (want.ident_defs ∷ (want.symbol symbols.Colon ∷ (want.type_part c.args.levels ∷ (want.symbol symbols.Semicolon ∷ (want.variables c.args.levels ∷ [])))))) s _ _ _ refl refl ∙ c.mark-export.ensures.moves (want.ident_defs ∷ (want.symbol symbols.Colon ∷ (want.type_part c.args.levels ∷ (want.symbol symbols.Semicolon ∷ (want.variables c.args.levels ∷ s)))))) (rw c.in_err-next.ensures at c.more_ident_defs.ensures))

pub returns-in_err-colon : goal.returns-in_err-colon
returns-in_err-colon c =
    let ok_next = rw c.in_ok-next.ensures.0 at c.more_ident_defs.ensures in
    exits _ _ c.from_residual-in_err-colon.result c.in_err-colon.field-0.0 c.from_residual-in_err-colon.ensures.1
    (via (want.symbol symbols.Colon ∷ []) ((want.variables c.args.levels) ∷ []) _ (ident_token c.args.name ∷ c.args.given.now) _ (λ s. (want.type_part c.args.levels ∷ (want.symbol symbols.Semicolon ∷ (want.variables c.args.levels ∷ s)))) (λ s. entered (want.variables c.args.levels) (want.some_mark ∷ (want.ident_defs ∷ (want.symbol symbols.Colon ∷ (want.type_part c.args.levels ∷ (want.symbol symbols.Semicolon ∷ (want.variables c.args.levels ∷ [])))))) s _ _ _ refl refl ∙ c.mark-export.ensures.moves (want.ident_defs ∷ (want.symbol symbols.Colon ∷ (want.type_part c.args.levels ∷ (want.symbol symbols.Semicolon ∷ (want.variables c.args.levels ∷ s))))) ∙ ok_next.moves (want.symbol symbols.Colon ∷ (want.type_part c.args.levels ∷ (want.symbol symbols.Semicolon ∷ (want.variables c.args.levels ∷ s))))) (rw c.in_err-colon.ensures at c.need_symbol.ensures))

pub returns-in_err-of_type : goal.returns-in_err-of_type
returns-in_err-of_type c =
    let ok_next = rw c.in_ok-next.ensures.0 at c.more_ident_defs.ensures in
    let ok_colon = rw c.in_ok-colon.ensures.0 at c.need_symbol.ensures in
    exits _ _ c.from_residual-in_err-of_type.result c.in_err-of_type.field-0.0 c.from_residual-in_err-of_type.ensures.1
    (via (want.type_part c.args.levels ∷ []) ((want.variables c.args.levels) ∷ []) _ (ident_token c.args.name ∷ c.args.given.now) _ (λ s. (want.symbol symbols.Semicolon ∷ (want.variables c.args.levels ∷ s))) (λ s. entered (want.variables c.args.levels) (want.some_mark ∷ (want.ident_defs ∷ (want.symbol symbols.Colon ∷ (want.type_part c.args.levels ∷ (want.symbol symbols.Semicolon ∷ (want.variables c.args.levels ∷ [])))))) s _ _ _ refl refl ∙ c.mark-export.ensures.moves (want.ident_defs ∷ (want.symbol symbols.Colon ∷ (want.type_part c.args.levels ∷ (want.symbol symbols.Semicolon ∷ (want.variables c.args.levels ∷ s))))) ∙ ok_next.moves (want.symbol symbols.Colon ∷ (want.type_part c.args.levels ∷ (want.symbol symbols.Semicolon ∷ (want.variables c.args.levels ∷ s)))) ∙ after_symbol symbols.Colon (want.type_part c.args.levels ∷ (want.symbol symbols.Semicolon ∷ (want.variables c.args.levels ∷ s))) ok_colon) (rw c.in_err-of_type.ensures at c.any_type.ensures))

pub returns-in_err-semicolon : goal.returns-in_err-semicolon
returns-in_err-semicolon c =
    let ok_next = rw c.in_ok-next.ensures.0 at c.more_ident_defs.ensures in
    let ok_colon = rw c.in_ok-colon.ensures.0 at c.need_symbol.ensures in
    let ok_of_type = rw c.in_ok-of_type.ensures.0 at c.any_type.ensures in
    exits _ _ c.from_residual-in_err-semicolon.result c.in_err-semicolon.field-0.0 c.from_residual-in_err-semicolon.ensures.1
    (via (want.symbol symbols.Semicolon ∷ []) ((want.variables c.args.levels) ∷ []) _ (ident_token c.args.name ∷ c.args.given.now) _ (λ s. (want.variables c.args.levels ∷ s)) (λ s. entered (want.variables c.args.levels) (want.some_mark ∷ (want.ident_defs ∷ (want.symbol symbols.Colon ∷ (want.type_part c.args.levels ∷ (want.symbol symbols.Semicolon ∷ (want.variables c.args.levels ∷ [])))))) s _ _ _ refl refl ∙ c.mark-export.ensures.moves (want.ident_defs ∷ (want.symbol symbols.Colon ∷ (want.type_part c.args.levels ∷ (want.symbol symbols.Semicolon ∷ (want.variables c.args.levels ∷ s))))) ∙ ok_next.moves (want.symbol symbols.Colon ∷ (want.type_part c.args.levels ∷ (want.symbol symbols.Semicolon ∷ (want.variables c.args.levels ∷ s)))) ∙ after_symbol symbols.Colon (want.type_part c.args.levels ∷ (want.symbol symbols.Semicolon ∷ (want.variables c.args.levels ∷ s))) ok_colon ∙ ok_of_type.moves (want.symbol symbols.Semicolon ∷ (want.variables c.args.levels ∷ s))) (rw c.in_err-semicolon.ensures at c.need_symbol-2.ensures))

pub returns : goal.returns
returns c =
    let ok_next = rw c.in_ok-next.ensures.0 at c.more_ident_defs.ensures in
    let ok_colon = rw c.in_ok-colon.ensures.0 at c.need_symbol.ensures in
    let ok_of_type = rw c.in_ok-of_type.ensures.0 at c.any_type.ensures in
    let ok_semicolon = rw c.in_ok-semicolon.ensures.0 at c.need_symbol-2.ensures in
    rw (c.in_ok-semicolon.ensures.1, c.in_ok-of_type.ensures.1, c.in_ok-colon.ensures.1, c.in_ok-next.ensures.1) (
      record {
        spelled = onto refl (behind c.mark-export.ensures (behind ok_next (onto ok_colon (behind ok_of_type (onto ok_semicolon refl)))));
        moves = λ s. entered (want.variables c.args.levels) (want.some_mark ∷ (want.ident_defs ∷ (want.symbol symbols.Colon ∷ (want.type_part c.args.levels ∷ (want.symbol symbols.Semicolon ∷ (want.variables c.args.levels ∷ [])))))) s _ _ _ refl refl ∙ c.mark-export.ensures.moves (want.ident_defs ∷ (want.symbol symbols.Colon ∷ (want.type_part c.args.levels ∷ (want.symbol symbols.Semicolon ∷ (want.variables c.args.levels ∷ s))))) ∙ ok_next.moves (want.symbol symbols.Colon ∷ (want.type_part c.args.levels ∷ (want.symbol symbols.Semicolon ∷ (want.variables c.args.levels ∷ s)))) ∙ after_symbol symbols.Colon (want.type_part c.args.levels ∷ (want.symbol symbols.Semicolon ∷ (want.variables c.args.levels ∷ s))) ok_colon ∙ ok_of_type.moves (want.symbol symbols.Semicolon ∷ (want.variables c.args.levels ∷ s)) ∙ after_symbol symbols.Semicolon (want.variables c.args.levels ∷ s) ok_semicolon;
        within = omega (arith, c.mark-export.ensures.within, ok_next.within, ok_of_type.within);
        shorter = omega (arith, c.mark-export.ensures.shorter, ok_next.shorter, fewer ok_colon, ok_of_type.shorter, fewer ok_semicolon);
      },
      omega (arith, c.mark-export.ensures.shorter, ok_next.shorter, fewer ok_colon, ok_of_type.shorter, fewer ok_semicolon),
    )
