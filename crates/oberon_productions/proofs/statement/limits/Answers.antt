use Rattle.std.proofs.Common.{refl, arith, ◌∷◌, ◌++◌, ◌∙◌, []}
use Rattle.oberon_productions.specs.Machine.{expr_parts}
use Rattle.oberon_productions.proofs.Descending.{via, after_word, fewer, exits, onto, behind}
use Rattle.oberon_productions.specs.Expected as want
use Rattle.oberon_scan.specs.declared.token.Word.TheVariants as words
use Rattle.oberon_productions.proofs.statement.limits.Goals as goal

pub returns-in_err-to_word : goal.returns-in_err-to_word
returns-in_err-to_word c =
    exits _ _ c.from_residual.result c.in_err-to_word.field-0.0 c.from_residual.ensures.1
    (via (want.word words.To ∷ []) (want.word words.To ∷ expr_parts c.args.levels ++ want.some_step c.args.levels ∷ []) _ (c.args.given.now) _ (λ s. expr_parts c.args.levels ++ want.some_step c.args.levels ∷ s) (λ s. refl) c.in_err-to_word.ensures)

pub returns-in_err-limit : goal.returns-in_err-limit
returns-in_err-limit c =
    exits _ _ c.from_residual-in_err-limit.result c.in_err-limit.field-0.0 c.from_residual-in_err-limit.ensures.1
    (via (expr_parts c.args.levels) (want.word words.To ∷ expr_parts c.args.levels ++ want.some_step c.args.levels ∷ []) _ (c.args.given.now) _ (λ s. want.some_step c.args.levels ∷ s) (λ s. after_word words.To (expr_parts c.args.levels ++ want.some_step c.args.levels ∷ s) c.in_ok-to_word.ensures) c.in_err-limit.ensures)

pub returns-in_err-step : goal.returns-in_err-step
returns-in_err-step c =
    exits _ _ c.from_residual-in_err-step.result c.in_err-step.field-0.0 c.from_residual-in_err-step.ensures.1
    (via (want.some_step c.args.levels ∷ []) (want.word words.To ∷ expr_parts c.args.levels ++ want.some_step c.args.levels ∷ []) _ (c.args.given.now) _ (λ s. s) (λ s. after_word words.To (expr_parts c.args.levels ++ want.some_step c.args.levels ∷ s) c.in_ok-to_word.ensures ∙ c.in_ok-limit.ensures.moves (want.some_step c.args.levels ∷ s)) (rw c.in_err-step.ensures at c.step.ensures))

pub returns : goal.returns
returns c =
    let p = rw c.in_ok-step.ensures.0 at c.step.ensures in
    rw (c.in_ok-step.ensures.1) (record {
      spelled = onto c.in_ok-to_word.ensures (behind c.in_ok-limit.ensures (behind p refl));
      moves = λ s. after_word words.To (expr_parts c.args.levels ++ want.some_step c.args.levels ∷ s) c.in_ok-to_word.ensures ∙ c.in_ok-limit.ensures.moves (want.some_step c.args.levels ∷ s) ∙ p.moves s;
      within = omega (arith, c.in_ok-limit.ensures.within, p.within);
      shorter = omega (arith, fewer c.in_ok-to_word.ensures, c.in_ok-limit.ensures.shorter, p.shorter);
    })
