use Rattle.std.proofs.Common.{refl, arith, ◌∷◌, ◌++◌, ◌∙◌, []}
use Rattle.oberon_productions.specs.Machine.{locals_parts}
use Rattle.oberon_productions.proofs.Descending.{via, after_word, after_ident, fewer, exits, onto, behind}
use Rattle.oberon_productions.specs.Expected as want
use Rattle.oberon_scan.specs.declared.token.Word.TheVariants as words
use Rattle.oberon_productions.proofs.procedure.rest_of_procedure.Goals as goal

pub returns-in_err-body : goal.returns-in_err-body
returns-in_err-body c =
    exits _ _ c.from_residual-in_err-body.result c.in_err-body.field-0.0 c.from_residual-in_err-body.ensures.1
    (via (want.some_body c.args.levels ∷ []) (locals_parts c.args.levels ++ want.some_body c.args.levels ∷ want.some_return c.args.levels ∷ want.word words.End ∷ want.ident ∷ []) _ c.args.given.now _ (λ s. (want.some_return c.args.levels ∷ (want.word words.End ∷ (want.ident ∷ s)))) (λ s. c.in_ok-locals.ensures.moves (want.some_body c.args.levels ∷ (want.some_return c.args.levels ∷ (want.word words.End ∷ (want.ident ∷ s))))) (rw c.in_err-body.ensures at c.body.ensures))

pub returns-in_err-returns : goal.returns-in_err-returns
returns-in_err-returns c =
    let ok_body = rw c.in_ok-body.ensures.0 at c.body.ensures in
    exits _ _ c.from_residual-in_err-returns.result c.in_err-returns.field-0.0 c.from_residual-in_err-returns.ensures.1
    (via (want.some_return c.args.levels ∷ []) (locals_parts c.args.levels ++ want.some_body c.args.levels ∷ want.some_return c.args.levels ∷ want.word words.End ∷ want.ident ∷ []) _ c.args.given.now _ (λ s. (want.word words.End ∷ (want.ident ∷ s))) (λ s. c.in_ok-locals.ensures.moves (want.some_body c.args.levels ∷ (want.some_return c.args.levels ∷ (want.word words.End ∷ (want.ident ∷ s)))) ∙ ok_body.moves (want.some_return c.args.levels ∷ (want.word words.End ∷ (want.ident ∷ s)))) (rw c.in_err-returns.ensures at c.returns.ensures))

pub returns-in_err-end : goal.returns-in_err-end
returns-in_err-end c =
    let ok_body = rw c.in_ok-body.ensures.0 at c.body.ensures in
    let ok_returns = rw c.in_ok-returns.ensures.0 at c.returns.ensures in
    exits _ _ c.from_residual-in_err-end.result c.in_err-end.field-0.0 c.from_residual-in_err-end.ensures.1
    (via (want.word words.End ∷ []) (locals_parts c.args.levels ++ want.some_body c.args.levels ∷ want.some_return c.args.levels ∷ want.word words.End ∷ want.ident ∷ []) _ c.args.given.now _ (λ s. (want.ident ∷ s)) (λ s. c.in_ok-locals.ensures.moves (want.some_body c.args.levels ∷ (want.some_return c.args.levels ∷ (want.word words.End ∷ (want.ident ∷ s)))) ∙ ok_body.moves (want.some_return c.args.levels ∷ (want.word words.End ∷ (want.ident ∷ s))) ∙ ok_returns.moves (want.word words.End ∷ (want.ident ∷ s))) (rw c.in_err-end.ensures at c.need_word.ensures))

pub returns-in_err-end_name : goal.returns-in_err-end_name
returns-in_err-end_name c =
    let ok_body = rw c.in_ok-body.ensures.0 at c.body.ensures in
    let ok_returns = rw c.in_ok-returns.ensures.0 at c.returns.ensures in
    let ok_end = rw c.in_ok-end.ensures.0 at c.need_word.ensures in
    exits _ _ c.from_residual-in_err-end_name.result c.in_err-end_name.field-0.0 c.from_residual-in_err-end_name.ensures.1
    (via (want.ident ∷ []) (locals_parts c.args.levels ++ want.some_body c.args.levels ∷ want.some_return c.args.levels ∷ want.word words.End ∷ want.ident ∷ []) _ c.args.given.now _ (λ s. s) (λ s. c.in_ok-locals.ensures.moves (want.some_body c.args.levels ∷ (want.some_return c.args.levels ∷ (want.word words.End ∷ (want.ident ∷ s)))) ∙ ok_body.moves (want.some_return c.args.levels ∷ (want.word words.End ∷ (want.ident ∷ s))) ∙ ok_returns.moves (want.word words.End ∷ (want.ident ∷ s)) ∙ after_word words.End (want.ident ∷ s) ok_end) (rw c.in_err-end_name.ensures at c.need_ident.ensures))

pub returns : goal.returns
returns c =
    let ok_body = rw c.in_ok-body.ensures.0 at c.body.ensures in
    let ok_returns = rw c.in_ok-returns.ensures.0 at c.returns.ensures in
    let ok_end = rw c.in_ok-end.ensures.0 at c.need_word.ensures in
    let ok_end_name = rw c.in_ok-end_name.ensures.0 at c.need_ident.ensures in
    rw (c.in_ok-end_name.ensures.1, c.in_ok-end.ensures.1, c.in_ok-returns.ensures.1, c.in_ok-body.ensures.1) (record {
      spelled = behind c.in_ok-locals.ensures (behind ok_body (behind ok_returns (onto ok_end (onto ok_end_name refl))));
      moves = λ s. c.in_ok-locals.ensures.moves (want.some_body c.args.levels ∷ (want.some_return c.args.levels ∷ (want.word words.End ∷ (want.ident ∷ s)))) ∙ ok_body.moves (want.some_return c.args.levels ∷ (want.word words.End ∷ (want.ident ∷ s))) ∙ ok_returns.moves (want.word words.End ∷ (want.ident ∷ s)) ∙ after_word words.End (want.ident ∷ s) ok_end ∙ after_ident s ok_end_name;
      within = omega (arith, c.in_ok-locals.ensures.within, ok_body.within, ok_returns.within);
      shorter = omega (arith, c.in_ok-locals.ensures.shorter, ok_body.shorter, ok_returns.shorter, fewer ok_end, fewer ok_end_name);
    })
