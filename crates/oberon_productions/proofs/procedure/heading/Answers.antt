use Rattle.std.proofs.Common.{refl, arith, ◌∷◌, ◌++◌, ◌∙◌, []}
use Rattle.oberon_productions.specs.Machine.{ident_def_parts}
use Rattle.oberon_productions.proofs.Descending.{via, after_symbol, fewer, exits, onto, behind}
use Rattle.oberon_productions.specs.Expected as want
use Rattle.oberon_scan.specs.declared.token.Symbol.TheVariants as symbols
use Rattle.oberon_productions.proofs.procedure.heading.Goals as goal

pub returns-in_err-formals : goal.returns-in_err-formals
returns-in_err-formals c =
    exits _ _ c.from_residual-in_err-formals.result c.in_err-formals.field-0.0 c.from_residual-in_err-formals.ensures.1
    (via (want.some_formals c.args.levels ∷ []) (ident_def_parts ++ want.some_formals c.args.levels ∷ want.symbol symbols.Semicolon ∷ []) _ c.args.given.now _ (λ s. (want.symbol symbols.Semicolon ∷ s)) (λ s. c.in_ok-name.ensures.moves (want.some_formals c.args.levels ∷ (want.symbol symbols.Semicolon ∷ s))) (rw c.in_err-formals.ensures at c.formals.ensures))

pub returns-in_err-semicolon : goal.returns-in_err-semicolon
returns-in_err-semicolon c =
    let ok_formals = rw c.in_ok-formals.ensures.0 at c.formals.ensures in
    exits _ _ c.from_residual-in_err-semicolon.result c.in_err-semicolon.field-0.0 c.from_residual-in_err-semicolon.ensures.1
    (via (want.symbol symbols.Semicolon ∷ []) (ident_def_parts ++ want.some_formals c.args.levels ∷ want.symbol symbols.Semicolon ∷ []) _ c.args.given.now _ (λ s. s) (λ s. c.in_ok-name.ensures.moves (want.some_formals c.args.levels ∷ (want.symbol symbols.Semicolon ∷ s)) ∙ ok_formals.moves (want.symbol symbols.Semicolon ∷ s)) (rw c.in_err-semicolon.ensures at c.need_symbol.ensures))

pub returns : goal.returns
returns c =
    let ok_formals = rw c.in_ok-formals.ensures.0 at c.formals.ensures in
    let ok_semicolon = rw c.in_ok-semicolon.ensures.0 at c.need_symbol.ensures in
    rw (c.in_ok-semicolon.ensures.1, c.in_ok-formals.ensures.1) (record {
      spelled = behind c.in_ok-name.ensures (behind ok_formals (onto ok_semicolon refl));
      moves = λ s. c.in_ok-name.ensures.moves (want.some_formals c.args.levels ∷ (want.symbol symbols.Semicolon ∷ s)) ∙ ok_formals.moves (want.symbol symbols.Semicolon ∷ s) ∙ after_symbol symbols.Semicolon s ok_semicolon;
      within = omega (arith, c.in_ok-name.ensures.within, ok_formals.within);
      shorter = omega (arith, c.in_ok-name.ensures.shorter, ok_formals.shorter, fewer ok_semicolon);
    })
