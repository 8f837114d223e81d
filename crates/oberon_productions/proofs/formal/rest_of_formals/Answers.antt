use Rattle.std.proofs.Common.{refl, arith, ◌∷◌, ◌++◌, ◌∙◌, []}
use Rattle.oberon_productions.specs.Machine.{section_parts}
use Rattle.oberon_productions.proofs.Descending.{via, after_symbol, entered, fewer, exits, onto, behind}
use Rattle.oberon_productions.proofs.Expand.{expand_formals}
use Rattle.oberon_productions.specs.Expected as want
use Rattle.oberon_scan.specs.declared.token.Symbol.TheVariants as symbols
use Rattle.oberon_productions.proofs.formal.rest_of_formals.Goals as goal

pub returns-in-Some : goal.returns-in-Some
returns-in-Some c =
    record {
      spelled = onto c.in-Some.ensures.some refl;
      moves = λ s. entered (want.rest_of_formals c.args.levels) [] s _ _ _ c.in-Some.ensures.some refl;
      within = omega arith;
      shorter = omega (arith, fewer c.in-Some.ensures.some);
    }

pub returns-in_err-first : goal.returns-in_err-first
returns-in_err-first c =
    exits _ _ c.from_residual.result c.in_err-first.field-0.0 c.from_residual.ensures.1
    (via (section_parts c.args.levels ++ []) ((want.rest_of_formals c.args.levels) ∷ []) _ c.args.given.now _ (λ s. (want.sections c.args.levels ∷ (want.symbol symbols.CloseParen ∷ s))) (λ s. expand_formals c.args.levels s c.args.given.now c.in_default.ensures.none) c.in_err-first.ensures)

pub returns-in_err-next : goal.returns-in_err-next
returns-in_err-next c =
    exits _ _ c.from_residual-in_err-next.result c.in_err-next.field-0.0 c.from_residual-in_err-next.ensures.1
    (via (want.sections c.args.levels ∷ []) ((want.rest_of_formals c.args.levels) ∷ []) _ c.args.given.now _ (λ s. (want.symbol symbols.CloseParen ∷ s)) (λ s. expand_formals c.args.levels s c.args.given.now c.in_default.ensures.none ∙ c.in_ok-first.ensures.moves (want.sections c.args.levels ∷ (want.symbol symbols.CloseParen ∷ s))) (rw c.in_err-next.ensures at c.more_sections.ensures))

pub returns-in_err-closing : goal.returns-in_err-closing
returns-in_err-closing c =
    let ok_next = rw c.in_ok-next.ensures.0 at c.more_sections.ensures in
    exits _ _ c.from_residual-in_err-closing.result c.in_err-closing.field-0.0 c.from_residual-in_err-closing.ensures.1
    (via (want.symbol symbols.CloseParen ∷ []) ((want.rest_of_formals c.args.levels) ∷ []) _ c.args.given.now _ (λ s. s) (λ s. expand_formals c.args.levels s c.args.given.now c.in_default.ensures.none ∙ c.in_ok-first.ensures.moves (want.sections c.args.levels ∷ (want.symbol symbols.CloseParen ∷ s)) ∙ ok_next.moves (want.symbol symbols.CloseParen ∷ s)) (rw c.in_err-closing.ensures at c.need_symbol.ensures))

pub returns : goal.returns
returns c =
    let ok_next = rw c.in_ok-next.ensures.0 at c.more_sections.ensures in
    let ok_closing = rw c.in_ok-closing.ensures.0 at c.need_symbol.ensures in
    rw (c.in_ok-closing.ensures.1, c.in_ok-next.ensures.1) (record {
      spelled = behind c.in_ok-first.ensures (behind ok_next (onto ok_closing refl));
      moves = λ s. expand_formals c.args.levels s c.args.given.now c.in_default.ensures.none ∙ c.in_ok-first.ensures.moves (want.sections c.args.levels ∷ (want.symbol symbols.CloseParen ∷ s)) ∙ ok_next.moves (want.symbol symbols.CloseParen ∷ s) ∙ after_symbol symbols.CloseParen s ok_closing;
      within = omega (arith, c.in_ok-first.ensures.within, ok_next.within);
      shorter = omega (arith, c.in_ok-first.ensures.shorter, ok_next.shorter, fewer ok_closing);
    })
