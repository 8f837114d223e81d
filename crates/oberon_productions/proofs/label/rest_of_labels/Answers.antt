use Rattle.std.proofs.Common.{refl, arith, ◌∷◌, ◌∙◌, []}
use Rattle.oberon_productions.proofs.Descending.{via, after_symbol, fewer, exits, onto, behind}
use Rattle.oberon_productions.specs.Expected as want
use Rattle.oberon_scan.specs.declared.token.Symbol.TheVariants as symbols
use Rattle.oberon_productions.proofs.label.rest_of_labels.Goals as goal

pub returns-in_err-upper : goal.returns-in_err-upper
returns-in_err-upper c =
    exits _ _ c.from_residual.result c.in_err-upper.field-0.0 c.from_residual.ensures.1
    (via (want.some_label_upper ∷ []) (want.some_label_upper ∷ want.labels ∷ want.symbol symbols.Colon ∷ []) _ (c.args.given.now) _ (λ s. want.labels ∷ want.symbol symbols.Colon ∷ s) (λ s. refl) (rw c.in_err-upper.ensures at c.label_upper.ensures))

pub returns-in_err-next : goal.returns-in_err-next
returns-in_err-next c =
    let u = rw c.in_ok-upper.ensures.0 at c.label_upper.ensures in
    exits _ _ c.from_residual-in_err-next.result c.in_err-next.field-0.0 c.from_residual-in_err-next.ensures.1
    (via (want.labels ∷ []) (want.some_label_upper ∷ want.labels ∷ want.symbol symbols.Colon ∷ []) _ (c.args.given.now) _ (λ s. want.symbol symbols.Colon ∷ s) (λ s. u.moves (want.labels ∷ want.symbol symbols.Colon ∷ s)) (rw c.in_err-next.ensures at c.more_labels.ensures))

pub returns-in_err-colon : goal.returns-in_err-colon
returns-in_err-colon c =
    let u = rw c.in_ok-upper.ensures.0 at c.label_upper.ensures in
    let n = rw c.in_ok-next.ensures.0 at c.more_labels.ensures in
    exits _ _ c.from_residual-in_err-colon.result c.in_err-colon.field-0.0 c.from_residual-in_err-colon.ensures.1
    (via (want.symbol symbols.Colon ∷ []) (want.some_label_upper ∷ want.labels ∷ want.symbol symbols.Colon ∷ []) _ (c.args.given.now) _ (λ s. s) (λ s. u.moves (want.labels ∷ want.symbol symbols.Colon ∷ s) ∙ n.moves (want.symbol symbols.Colon ∷ s)) (rw c.in_err-colon.ensures at c.need_symbol.ensures))

pub returns : goal.returns
returns c =
    let u = rw c.in_ok-upper.ensures.0 at c.label_upper.ensures in
    let n = rw c.in_ok-next.ensures.0 at c.more_labels.ensures in
    let y = rw c.in_ok-colon.ensures.0 at c.need_symbol.ensures in
    rw (c.in_ok-colon.ensures.1, c.in_ok-next.ensures.1, c.in_ok-upper.ensures.1) (
      record {
        spelled = behind u (behind n (onto y refl));
        moves = λ s. u.moves (want.labels ∷ want.symbol symbols.Colon ∷ s) ∙ n.moves (want.symbol symbols.Colon ∷ s) ∙ after_symbol symbols.Colon s y;
        within = omega arith;
        shorter = omega (arith, u.shorter, n.shorter, fewer y);
      },
      refl,
    )
