use Rattle.std.proofs.Common.{refl, arith, ◌∷◌, ◌∙◌, []}
use Rattle.oberon_productions.specs.Machine.{qualident_parts}
use Rattle.oberon_productions.proofs.Descending.{via, after_ident, fewer, exits, onto, behind}
use Rattle.oberon_productions.specs.Expected as want
use Rattle.oberon_productions.proofs.name.qualident.Goals as goal

pub returns-in_err-member : goal.returns-in_err-member
returns-in_err-member c =
    exits _ _ c.from_residual-in_err-member.result c.in_err-member.field-0.0 c.from_residual-in_err-member.ensures.1
    (via (want.some_member ∷ []) qualident_parts _ c.args.given.now _ (λ s. s) (λ s. after_ident (want.some_member ∷ s) c.in_ok-first.ensures) c.in_err-member.ensures)

pub returns : goal.returns
returns c =
    record {
      spelled = onto c.in_ok-first.ensures (behind c.in_ok-member.ensures refl);
      moves = λ s. after_ident (want.some_member ∷ s) c.in_ok-first.ensures ∙ c.in_ok-member.ensures.moves s;
      within = omega (arith, c.in_ok-member.ensures.within);
      shorter = omega (arith, fewer c.in_ok-first.ensures, c.in_ok-member.ensures.shorter);
    }
