use Rattle.std.proofs.Common.{refl, arith, ◌∷◌, ◌∙◌, []}
use Rattle.oberon_productions.specs.Machine.{ident_defs_parts}
use Rattle.oberon_productions.proofs.Descending.{via, exits, behind}
use Rattle.oberon_productions.specs.Expected as want
use Rattle.oberon_productions.proofs.name.ident_defs.Goals as goal

pub returns-in_err-rest_names : goal.returns-in_err-rest_names
returns-in_err-rest_names c =
    exits _ _ c.from_residual-in_err-rest_names.result c.in_err-rest_names.field-0.0 c.from_residual-in_err-rest_names.ensures.1
    (via (want.ident_defs ∷ []) ident_defs_parts _ c.args.given.now _ (λ s. s) (λ s. c.in_ok-first.ensures.moves (want.ident_defs ∷ s)) c.in_err-rest_names.ensures)

pub returns : goal.returns
returns c =
    record {
      spelled = behind c.in_ok-first.ensures (behind c.in_ok-rest_names.ensures refl);
      moves = λ s. c.in_ok-first.ensures.moves (want.ident_defs ∷ s) ∙ c.in_ok-rest_names.ensures.moves s;
      within = omega (arith, c.in_ok-first.ensures.within, c.in_ok-rest_names.ensures.within);
      shorter = omega (arith, c.in_ok-first.ensures.shorter, c.in_ok-rest_names.ensures.shorter);
    }
