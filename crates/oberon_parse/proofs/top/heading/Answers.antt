use Rattle.std.proofs.Common.{refl, arith, ◌∷◌, ◌∙◌, []}
use Rattle.oberon_productions.proofs.Descending.{via, after_symbol, after_word, after_ident, fewer, exits, onto, behind}
use Rattle.oberon_productions.specs.Expected as want
use Rattle.oberon_scan.specs.declared.token.Symbol.TheVariants as symbols
use Rattle.oberon_scan.specs.declared.token.Word.TheVariants as words
use Rattle.oberon_parse.proofs.top.heading.Goals as goal

pub returns-in_err-name : goal.returns-in_err-name
returns-in_err-name c =
    exits _ _ c.from_residual-in_err-name.result c.in_err-name.field-0.0 c.from_residual-in_err-name.ensures.1
    (via (want.ident ∷ []) (want.word words.Module ∷ (want.ident ∷ (want.symbol symbols.Semicolon ∷ (want.some_imports ∷ [])))) _ c.args.given.now _ (λ s. (want.symbol symbols.Semicolon ∷ (want.some_imports ∷ s))) (λ s. after_word words.Module (want.ident ∷ (want.symbol symbols.Semicolon ∷ (want.some_imports ∷ s))) c.in_ok-span.ensures) c.in_err-name.ensures)

pub returns-in_err-semicolon : goal.returns-in_err-semicolon
returns-in_err-semicolon c =
    exits _ _ c.from_residual-in_err-semicolon.result c.in_err-semicolon.field-0.0 c.from_residual-in_err-semicolon.ensures.1
    (via (want.symbol symbols.Semicolon ∷ []) (want.word words.Module ∷ (want.ident ∷ (want.symbol symbols.Semicolon ∷ (want.some_imports ∷ [])))) _ c.args.given.now _ (λ s. (want.some_imports ∷ s)) (λ s. after_word words.Module (want.ident ∷ (want.symbol symbols.Semicolon ∷ (want.some_imports ∷ s))) c.in_ok-span.ensures ∙ after_ident (want.symbol symbols.Semicolon ∷ (want.some_imports ∷ s)) c.in_ok-name.ensures) (rw c.in_err-semicolon.ensures at c.need_symbol.ensures))

pub returns-in_err-imports : goal.returns-in_err-imports
returns-in_err-imports c =
    let ok_semicolon = rw c.in_ok-semicolon.ensures.0 at c.need_symbol.ensures in
    exits _ _ c.from_residual-in_err-imports.result c.in_err-imports.field-0.0 c.from_residual-in_err-imports.ensures.1
    (via (want.some_imports ∷ []) (want.word words.Module ∷ (want.ident ∷ (want.symbol symbols.Semicolon ∷ (want.some_imports ∷ [])))) _ c.args.given.now _ (λ s. s) (λ s. after_word words.Module (want.ident ∷ (want.symbol symbols.Semicolon ∷ (want.some_imports ∷ s))) c.in_ok-span.ensures ∙ after_ident (want.symbol symbols.Semicolon ∷ (want.some_imports ∷ s)) c.in_ok-name.ensures ∙ after_symbol symbols.Semicolon (want.some_imports ∷ s) ok_semicolon) (rw c.in_err-imports.ensures at c.imports.ensures))

pub returns : goal.returns
returns c =
    let ok_semicolon = rw c.in_ok-semicolon.ensures.0 at c.need_symbol.ensures in
    let ok_imports = rw c.in_ok-imports.ensures.0 at c.imports.ensures in
    rw (c.in_ok-imports.ensures.1, c.in_ok-semicolon.ensures.1) (record {
      spelled = onto c.in_ok-span.ensures (onto c.in_ok-name.ensures (onto ok_semicolon (behind ok_imports refl)));
      moves = λ s. after_word words.Module (want.ident ∷ (want.symbol symbols.Semicolon ∷ (want.some_imports ∷ s))) c.in_ok-span.ensures ∙ after_ident (want.symbol symbols.Semicolon ∷ (want.some_imports ∷ s)) c.in_ok-name.ensures ∙ after_symbol symbols.Semicolon (want.some_imports ∷ s) ok_semicolon ∙ ok_imports.moves s;
      within = omega (arith, ok_imports.within);
      shorter = omega (arith, fewer c.in_ok-span.ensures, fewer c.in_ok-name.ensures, fewer ok_semicolon, ok_imports.shorter);
    })
