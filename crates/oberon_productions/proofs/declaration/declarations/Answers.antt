use Rattle.std.proofs.Common.{refl, arith, ◌∷◌, ◌∙◌, []}
use Rattle.oberon_productions.specs.Machine.{declarations_parts}
use Rattle.oberon_productions.proofs.Descending.{via, exits, behind}
use Rattle.oberon_productions.specs.Expected as want
use Rattle.oberon_productions.proofs.declaration.declarations.Goals as goal

pub returns-in_err-types : goal.returns-in_err-types
returns-in_err-types c =
    exits _ _ c.from_residual-in_err-types.result c.in_err-types.field-0.0 c.from_residual-in_err-types.ensures.1
    (via (want.some_types c.args.levels ∷ []) (declarations_parts c.args.levels) _ c.args.given.now _ (λ s. (want.some_variables c.args.levels ∷ s)) (λ s. c.in_ok-constants.ensures.moves (want.some_types c.args.levels ∷ (want.some_variables c.args.levels ∷ s))) (rw c.in_err-types.ensures at c.types.ensures))

pub returns-in_err-variables : goal.returns-in_err-variables
returns-in_err-variables c =
    let ok_types = rw c.in_ok-types.ensures.0 at c.types.ensures in
    exits _ _ c.from_residual-in_err-variables.result c.in_err-variables.field-0.0 c.from_residual-in_err-variables.ensures.1
    (via (want.some_variables c.args.levels ∷ []) (declarations_parts c.args.levels) _ c.args.given.now _ (λ s. s) (λ s. c.in_ok-constants.ensures.moves (want.some_types c.args.levels ∷ (want.some_variables c.args.levels ∷ s)) ∙ ok_types.moves (want.some_variables c.args.levels ∷ s)) (rw c.in_err-variables.ensures at c.variables.ensures))

pub returns : goal.returns
returns c =
    let ok_types = rw c.in_ok-types.ensures.0 at c.types.ensures in
    let ok_variables = rw c.in_ok-variables.ensures.0 at c.variables.ensures in
    rw (c.in_ok-variables.ensures.1, c.in_ok-types.ensures.1) (record {
      spelled = behind c.in_ok-constants.ensures (behind ok_types (behind ok_variables refl));
      moves = λ s. c.in_ok-constants.ensures.moves (want.some_types c.args.levels ∷ (want.some_variables c.args.levels ∷ s)) ∙ ok_types.moves (want.some_variables c.args.levels ∷ s) ∙ ok_variables.moves s;
      within = omega (arith, c.in_ok-constants.ensures.within, ok_types.within, ok_variables.within);
      shorter = omega (arith, c.in_ok-constants.ensures.shorter, ok_types.shorter, ok_variables.shorter);
    })
