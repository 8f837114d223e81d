use Rattle.std.proofs.Common.{refl, arith, ◌∷◌, ◌∙◌, []}
use Rattle.oberon_productions.specs.Machine.{label_parts}
use Rattle.oberon_productions.proofs.Descending.{via, exits, behind}
use Rattle.oberon_productions.specs.Expected as want
use Rattle.oberon_productions.proofs.label.label.Goals as goal

pub returns-in_err-first : goal.returns-in_err-first
returns-in_err-first c =
    exits _ _ c.from_residual.result c.in_err-first.field-0.0 c.from_residual.ensures.1
    (via (want.value ∷ []) (label_parts) _ (c.args.given.now) _ (λ s. want.some_label_upper ∷ s) (λ s. refl) c.in_err-first.ensures)

pub returns-in_err-upper : goal.returns-in_err-upper
returns-in_err-upper c =
    exits _ _ c.from_residual-in_err-upper.result c.in_err-upper.field-0.0 c.from_residual-in_err-upper.ensures.1
    (via (want.some_label_upper ∷ []) (label_parts) _ (c.args.given.now) _ (λ s. s) (λ s. c.in_ok-first.ensures.moves (want.some_label_upper ∷ s)) (rw c.in_err-upper.ensures at c.label_upper.ensures))

pub returns : goal.returns
returns c =
    let u = rw c.in_ok-upper.ensures.0 at c.label_upper.ensures in
    rw (c.in_ok-upper.ensures.1) (record {
      spelled = behind c.in_ok-first.ensures (behind u refl);
      moves = λ s. c.in_ok-first.ensures.moves (want.some_label_upper ∷ s) ∙ u.moves s;
      within = omega (arith, c.in_ok-first.ensures.within, u.within);
      shorter = omega (arith, c.in_ok-first.ensures.shorter, u.shorter);
    })
