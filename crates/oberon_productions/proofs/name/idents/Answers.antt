use Rattle.std.proofs.Common.{refl, arith, ◌∷◌, ◌∙◌, []}
use Rattle.oberon_productions.specs.Machine.{idents_parts}
use Rattle.oberon_productions.proofs.Descending.{via, after_ident, fewer, exits, onto, behind}
use Rattle.oberon_productions.specs.Expected as want
use Rattle.oberon_productions.proofs.name.idents.Goals as goal

pub returns-in_err-rest_names : goal.returns-in_err-rest_names
returns-in_err-rest_names c =
    exits _ _ c.from_residual-in_err-rest_names.result c.in_err-rest_names.field-0.0 c.from_residual-in_err-rest_names.ensures.1
    (via (want.idents ∷ []) idents_parts _ c.args.given.now _ (λ s. s) (λ s. after_ident (want.idents ∷ s) c.in_ok-first.ensures) c.in_err-rest_names.ensures)

pub returns : goal.returns
returns c =
    record {
      spelled = onto c.in_ok-first.ensures (behind c.in_ok-rest_names.ensures refl);
      moves = λ s. after_ident (want.idents ∷ s) c.in_ok-first.ensures ∙ c.in_ok-rest_names.ensures.moves s;
      within = omega (arith, c.in_ok-rest_names.ensures.within);
      shorter = omega (arith, fewer c.in_ok-first.ensures, c.in_ok-rest_names.ensures.shorter);
    }
