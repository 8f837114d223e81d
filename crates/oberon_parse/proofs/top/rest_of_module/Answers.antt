use Rattle.std.proofs.Common.{refl, arith, ◌∷◌, ◌∙◌, []}
use Rattle.oberon_productions.proofs.Descending.{via, after_symbol, after_word, after_ident, fewer, exits, onto, behind}
use Rattle.oberon_productions.specs.Expected as want
use Rattle.oberon_scan.specs.declared.token.Symbol.TheVariants as symbols
use Rattle.oberon_scan.specs.declared.token.Word.TheVariants as words
use Rattle.oberon_parse.proofs.top.rest_of_module.Goals as goal

pub returns-in_err-end : goal.returns-in_err-end
returns-in_err-end c =
    exits _ _ c.from_residual-in_err-end.result c.in_err-end.field-0.0 c.from_residual-in_err-end.ensures.1
    (via (want.word words.End ∷ []) (want.some_body c.args.levels ∷ (want.word words.End ∷ (want.ident ∷ (want.symbol symbols.Period ∷ [])))) _ c.args.given.now _ (λ s. (want.ident ∷ (want.symbol symbols.Period ∷ s))) (λ s. c.in_ok-body.ensures.moves (want.word words.End ∷ (want.ident ∷ (want.symbol symbols.Period ∷ s)))) (rw c.in_err-end.ensures at c.need_word.ensures))

pub returns-in_err-end_name : goal.returns-in_err-end_name
returns-in_err-end_name c =
    let ok_end = rw c.in_ok-end.ensures.0 at c.need_word.ensures in
    exits _ _ c.from_residual-in_err-end_name.result c.in_err-end_name.field-0.0 c.from_residual-in_err-end_name.ensures.1
    (via (want.ident ∷ []) (want.some_body c.args.levels ∷ (want.word words.End ∷ (want.ident ∷ (want.symbol symbols.Period ∷ [])))) _ c.args.given.now _ (λ s. (want.symbol symbols.Period ∷ s)) (λ s. c.in_ok-body.ensures.moves (want.word words.End ∷ (want.ident ∷ (want.symbol symbols.Period ∷ s))) ∙ after_word words.End (want.ident ∷ (want.symbol symbols.Period ∷ s)) ok_end) (rw c.in_err-end_name.ensures at c.need_ident.ensures))

pub returns-in_err-period : goal.returns-in_err-period
returns-in_err-period c =
    let ok_end = rw c.in_ok-end.ensures.0 at c.need_word.ensures in
    let ok_end_name = rw c.in_ok-end_name.ensures.0 at c.need_ident.ensures in
    exits _ _ c.from_residual-in_err-period.result c.in_err-period.field-0.0 c.from_residual-in_err-period.ensures.1
    (via (want.symbol symbols.Period ∷ []) (want.some_body c.args.levels ∷ (want.word words.End ∷ (want.ident ∷ (want.symbol symbols.Period ∷ [])))) _ c.args.given.now _ (λ s. s) (λ s. c.in_ok-body.ensures.moves (want.word words.End ∷ (want.ident ∷ (want.symbol symbols.Period ∷ s))) ∙ after_word words.End (want.ident ∷ (want.symbol symbols.Period ∷ s)) ok_end ∙ after_ident (want.symbol symbols.Period ∷ s) ok_end_name) (rw c.in_err-period.ensures at c.need_symbol.ensures))

pub returns : goal.returns
returns c =
    let ok_end = rw c.in_ok-end.ensures.0 at c.need_word.ensures in
    let ok_end_name = rw c.in_ok-end_name.ensures.0 at c.need_ident.ensures in
    let ok_period = rw c.in_ok-period.ensures.0 at c.need_symbol.ensures in
    rw (c.in_ok-period.ensures.1, c.in_ok-end_name.ensures.1, c.in_ok-end.ensures.1) (record {
      spelled = behind c.in_ok-body.ensures (onto ok_end (onto ok_end_name (onto ok_period refl)));
      moves = λ s. c.in_ok-body.ensures.moves (want.word words.End ∷ (want.ident ∷ (want.symbol symbols.Period ∷ s))) ∙ after_word words.End (want.ident ∷ (want.symbol symbols.Period ∷ s)) ok_end ∙ after_ident (want.symbol symbols.Period ∷ s) ok_end_name ∙ after_symbol symbols.Period s ok_period;
      within = omega (arith, c.in_ok-body.ensures.within);
      shorter = omega (arith, c.in_ok-body.ensures.shorter, fewer ok_end, fewer ok_end_name, fewer ok_period);
    })
