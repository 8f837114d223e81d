use Rattle.std.proofs.Common.{refl, arith, ◌++◌, ◌∙◌, []}
use Rattle.oberon_productions.specs.Machine.{qualident_parts, formal_type_parts}
use Rattle.oberon_productions.proofs.Descending.{via, exits, behind}
use Rattle.oberon_productions.proofs.formal.formal_type.Goals as goal

pub returns-in_err-name : goal.returns-in_err-name
returns-in_err-name c =
    exits _ _ c.from_residual-in_err-name.result c.in_err-name.field-0.0 c.from_residual-in_err-name.ensures.1
    (via (qualident_parts ++ []) (formal_type_parts c.args.levels) _ c.args.given.now _ (λ s. s) (λ s. c.in_ok-opens.ensures.moves (qualident_parts ++ s)) c.in_err-name.ensures)

pub returns : goal.returns
returns c =
    record {
      spelled = behind c.in_ok-opens.ensures (behind c.in_ok-name.ensures refl);
      moves = λ s. c.in_ok-opens.ensures.moves (qualident_parts ++ s) ∙ c.in_ok-name.ensures.moves s;
      within = omega (arith, c.in_ok-opens.ensures.within, c.in_ok-name.ensures.within);
      shorter = omega (arith, c.in_ok-opens.ensures.shorter, c.in_ok-name.ensures.shorter);
    }
