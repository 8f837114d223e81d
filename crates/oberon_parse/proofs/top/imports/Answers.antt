use Rattle.std.proofs.Common.{refl, arith, ◌∷◌, ◌++◌, ◌∙◌, []}
use Rattle.oberon_productions.specs.Machine.{import_parts}
use Rattle.oberon_productions.specs.Tests.{is_word}
use Rattle.oberon_productions.proofs.Descending.{via, after_symbol, entered, fewer, exits, onto, behind}
use Rattle.oberon_productions.proofs.Steps.{skip}
use Rattle.oberon_productions.specs.Expected as want
use Rattle.oberon_scan.specs.declared.token.Symbol.TheVariants as symbols
use Rattle.oberon_scan.specs.declared.token.Word.TheVariants as words
use Rattle.oberon_parse.proofs.top.imports.Goals as goal

pub returns-in_default : goal.returns-in_default
returns-in_default c =
    record {
      spelled = refl;
      moves = λ s. skip want.some_imports (is_word words.Import) (import_parts ++ (want.imports ∷ (want.symbol symbols.Semicolon ∷ []))) s c.args.given.now refl (λ k. refl) c.in_default.ensures.none;
      within = omega arith;
      shorter = omega arith;
    }

pub returns-in_err-first : goal.returns-in_err-first
returns-in_err-first c =
    exits _ _ c.from_residual.result c.in_err-first.field-0.0 c.from_residual.ensures.1
    (via (import_parts ++ []) (want.some_imports ∷ []) _ c.args.given.now _ (λ s. (want.imports ∷ (want.symbol symbols.Semicolon ∷ s))) (λ s. entered want.some_imports (import_parts ++ (want.imports ∷ (want.symbol symbols.Semicolon ∷ []))) s _ _ _ c.in-Some.ensures.some refl) c.in_err-first.ensures)

pub returns-in_err-next : goal.returns-in_err-next
returns-in_err-next c =
    exits _ _ c.from_residual-in_err-next.result c.in_err-next.field-0.0 c.from_residual-in_err-next.ensures.1
    (via (want.imports ∷ []) (want.some_imports ∷ []) _ c.args.given.now _ (λ s. (want.symbol symbols.Semicolon ∷ s)) (λ s. entered want.some_imports (import_parts ++ (want.imports ∷ (want.symbol symbols.Semicolon ∷ []))) s _ _ _ c.in-Some.ensures.some refl ∙ c.in_ok-first.ensures.moves (want.imports ∷ (want.symbol symbols.Semicolon ∷ s))) (rw c.in_err-next.ensures at c.more_imports.ensures))

pub returns-in_err-semicolon : goal.returns-in_err-semicolon
returns-in_err-semicolon c =
    let ok_next = rw c.in_ok-next.ensures.0 at c.more_imports.ensures in
    exits _ _ c.from_residual-in_err-semicolon.result c.in_err-semicolon.field-0.0 c.from_residual-in_err-semicolon.ensures.1
    (via (want.symbol symbols.Semicolon ∷ []) (want.some_imports ∷ []) _ c.args.given.now _ (λ s. s) (λ s. entered want.some_imports (import_parts ++ (want.imports ∷ (want.symbol symbols.Semicolon ∷ []))) s _ _ _ c.in-Some.ensures.some refl ∙ c.in_ok-first.ensures.moves (want.imports ∷ (want.symbol symbols.Semicolon ∷ s)) ∙ ok_next.moves (want.symbol symbols.Semicolon ∷ s)) (rw c.in_err-semicolon.ensures at c.need_symbol.ensures))

pub returns : goal.returns
returns c =
    let ok_next = rw c.in_ok-next.ensures.0 at c.more_imports.ensures in
    let ok_semicolon = rw c.in_ok-semicolon.ensures.0 at c.need_symbol.ensures in
    rw (c.in_ok-semicolon.ensures.1, c.in_ok-next.ensures.1) (record {
      spelled = onto c.in-Some.ensures.some (behind c.in_ok-first.ensures (behind ok_next (onto ok_semicolon refl)));
      moves = λ s. entered want.some_imports (import_parts ++ (want.imports ∷ (want.symbol symbols.Semicolon ∷ []))) s _ _ _ c.in-Some.ensures.some refl ∙ c.in_ok-first.ensures.moves (want.imports ∷ (want.symbol symbols.Semicolon ∷ s)) ∙ ok_next.moves (want.symbol symbols.Semicolon ∷ s) ∙ after_symbol symbols.Semicolon s ok_semicolon;
      within = omega (arith, c.in_ok-first.ensures.within, ok_next.within);
      shorter = omega (arith, fewer c.in-Some.ensures.some, c.in_ok-first.ensures.shorter, ok_next.shorter, fewer ok_semicolon);
    })
