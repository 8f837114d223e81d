use Rattle.std.proofs.Common.{refl, arith, ◌∷◌, ◌++◌, ◌∙◌, []}
use Rattle.oberon_productions.specs.Machine.{expr_parts}
use Rattle.oberon_productions.proofs.Descending.{via, after_symbol, entered, fewer, exits, onto, behind}
use Rattle.oberon_tree.specs.Tokens.{ident_token}
use Rattle.oberon_productions.specs.Expected as want
use Rattle.oberon_scan.specs.declared.token.Symbol.TheVariants as symbols
use Rattle.oberon_productions.proofs.declaration.constant.Goals as goal

pub returns-in_err-equal : goal.returns-in_err-equal
returns-in_err-equal c =
    exits _ _ c.from_residual.result c.in_err-equal.field-0.0 c.from_residual.ensures.1
    (via (want.symbol symbols.Equal ∷ []) ((want.constants c.args.levels) ∷ []) _ (ident_token c.args.name ∷ c.args.given.now) _ (λ s. (expr_parts c.args.levels ++ (want.symbol symbols.Semicolon ∷ (want.constants c.args.levels ∷ s)))) (λ s. entered (want.constants c.args.levels) (want.some_mark ∷ (want.symbol symbols.Equal ∷ (expr_parts c.args.levels ++ (want.symbol symbols.Semicolon ∷ (want.constants c.args.levels ∷ []))))) s _ _ _ refl refl ∙ c.mark-export.ensures.moves (want.symbol symbols.Equal ∷ (expr_parts c.args.levels ++ (want.symbol symbols.Semicolon ∷ (want.constants c.args.levels ∷ s))))) (rw c.in_err-equal.ensures at c.need_symbol.ensures))

pub returns-in_err-value : goal.returns-in_err-value
returns-in_err-value c =
    let ok_equal = rw c.in_ok-equal.ensures.0 at c.need_symbol.ensures in
    exits _ _ c.from_residual-in_err-value.result c.in_err-value.field-0.0 c.from_residual-in_err-value.ensures.1
    (via (expr_parts c.args.levels ++ []) ((want.constants c.args.levels) ∷ []) _ (ident_token c.args.name ∷ c.args.given.now) _ (λ s. (want.symbol symbols.Semicolon ∷ (want.constants c.args.levels ∷ s))) (λ s. entered (want.constants c.args.levels) (want.some_mark ∷ (want.symbol symbols.Equal ∷ (expr_parts c.args.levels ++ (want.symbol symbols.Semicolon ∷ (want.constants c.args.levels ∷ []))))) s _ _ _ refl refl ∙ c.mark-export.ensures.moves (want.symbol symbols.Equal ∷ (expr_parts c.args.levels ++ (want.symbol symbols.Semicolon ∷ (want.constants c.args.levels ∷ s)))) ∙ after_symbol symbols.Equal (expr_parts c.args.levels ++ (want.symbol symbols.Semicolon ∷ (want.constants c.args.levels ∷ s))) ok_equal) (rw c.in_err-value.ensures at c.expr.ensures))

pub returns-in_err-semicolon : goal.returns-in_err-semicolon
returns-in_err-semicolon c =
    let ok_equal = rw c.in_ok-equal.ensures.0 at c.need_symbol.ensures in
    let ok_value = rw c.in_ok-value.ensures.0 at c.expr.ensures in
    exits _ _ c.from_residual-in_err-semicolon.result c.in_err-semicolon.field-0.0 c.from_residual-in_err-semicolon.ensures.1
    (via (want.symbol symbols.Semicolon ∷ []) ((want.constants c.args.levels) ∷ []) _ (ident_token c.args.name ∷ c.args.given.now) _ (λ s. (want.constants c.args.levels ∷ s)) (λ s. entered (want.constants c.args.levels) (want.some_mark ∷ (want.symbol symbols.Equal ∷ (expr_parts c.args.levels ++ (want.symbol symbols.Semicolon ∷ (want.constants c.args.levels ∷ []))))) s _ _ _ refl refl ∙ c.mark-export.ensures.moves (want.symbol symbols.Equal ∷ (expr_parts c.args.levels ++ (want.symbol symbols.Semicolon ∷ (want.constants c.args.levels ∷ s)))) ∙ after_symbol symbols.Equal (expr_parts c.args.levels ++ (want.symbol symbols.Semicolon ∷ (want.constants c.args.levels ∷ s))) ok_equal ∙ ok_value.moves (want.symbol symbols.Semicolon ∷ (want.constants c.args.levels ∷ s))) (rw c.in_err-semicolon.ensures at c.need_symbol-2.ensures))

pub returns : goal.returns
returns c =
    let ok_equal = rw c.in_ok-equal.ensures.0 at c.need_symbol.ensures in
    let ok_value = rw c.in_ok-value.ensures.0 at c.expr.ensures in
    let ok_semicolon = rw c.in_ok-semicolon.ensures.0 at c.need_symbol-2.ensures in
    rw (c.in_ok-semicolon.ensures.1, c.in_ok-value.ensures.1, c.in_ok-equal.ensures.1) (
      record {
        spelled = onto refl (behind c.mark-export.ensures (onto ok_equal (behind ok_value (onto ok_semicolon refl))));
        moves = λ s. entered (want.constants c.args.levels) (want.some_mark ∷ (want.symbol symbols.Equal ∷ (expr_parts c.args.levels ++ (want.symbol symbols.Semicolon ∷ (want.constants c.args.levels ∷ []))))) s _ _ _ refl refl ∙ c.mark-export.ensures.moves (want.symbol symbols.Equal ∷ (expr_parts c.args.levels ++ (want.symbol symbols.Semicolon ∷ (want.constants c.args.levels ∷ s)))) ∙ after_symbol symbols.Equal (expr_parts c.args.levels ++ (want.symbol symbols.Semicolon ∷ (want.constants c.args.levels ∷ s))) ok_equal ∙ ok_value.moves (want.symbol symbols.Semicolon ∷ (want.constants c.args.levels ∷ s)) ∙ after_symbol symbols.Semicolon (want.constants c.args.levels ∷ s) ok_semicolon;
        within = omega (arith, c.mark-export.ensures.within, ok_value.within);
        shorter = omega (arith, c.mark-export.ensures.shorter, fewer ok_equal, ok_value.shorter, fewer ok_semicolon);
      },
      omega (arith, c.mark-export.ensures.shorter, fewer ok_equal, ok_value.shorter, fewer ok_semicolon),
    )
