use Rattle.std.proofs.Common.{refl, arith, ◌∷◌, ◌∙◌, []}
use Rattle.oberon_productions.specs.Machine.{locals_parts}
use Rattle.oberon_productions.proofs.Descending.{via, exits, behind}
use Rattle.oberon_productions.specs.Expected as want
use Rattle.oberon_productions.proofs.local.locals.Goals as goal

pub returns-in_err-variables : goal.returns-in_err-variables
returns-in_err-variables c =
    exits _ _ c.from_residual-in_err-variables.result c.in_err-variables.field-0.0 c.from_residual-in_err-variables.ensures.1
    (via (want.some_local_variables c.args.levels ∷ []) (locals_parts c.args.levels) _ c.args.given.now _ (λ s. s) (λ s. c.in_ok-constants.ensures.moves (want.some_local_variables c.args.levels ∷ s)) c.in_err-variables.ensures)

pub returns : goal.returns
returns c =
    record {
      spelled = behind c.in_ok-constants.ensures (behind c.in_ok-variables.ensures refl);
      moves = λ s. c.in_ok-constants.ensures.moves (want.some_local_variables c.args.levels ∷ s) ∙ c.in_ok-variables.ensures.moves s;
      within = omega (arith, c.in_ok-constants.ensures.within, c.in_ok-variables.ensures.within);
      shorter = omega (arith, c.in_ok-constants.ensures.shorter, c.in_ok-variables.ensures.shorter);
    }
