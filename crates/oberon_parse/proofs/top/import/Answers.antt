use Rattle.std.proofs.Common.{refl, arith, ◌∷◌, ◌∙◌, []}
use Rattle.oberon_productions.specs.Machine.{import_parts}
use Rattle.oberon_productions.proofs.Descending.{via, after_ident, fewer, exits, onto, behind}
use Rattle.oberon_productions.specs.Expected as want
use Rattle.oberon_parse.proofs.top.import.Goals as goal

pub returns-in_err-alias : goal.returns-in_err-alias
returns-in_err-alias c =
    exits _ _ c.from_residual-in_err-alias.result c.in_err-alias.field-0.0 c.from_residual-in_err-alias.ensures.1
    (via (want.some_alias ∷ []) import_parts _ c.args.given.now _ (λ s. s) (λ s. after_ident (want.some_alias ∷ s) c.in_ok-name.ensures) c.in_err-alias.ensures)

pub returns : goal.returns
returns c =
    record {
      spelled = onto c.in_ok-name.ensures (behind c.in_ok-alias.ensures refl);
      moves = λ s. after_ident (want.some_alias ∷ s) c.in_ok-name.ensures ∙ c.in_ok-alias.ensures.moves s;
      within = omega (arith, c.in_ok-alias.ensures.within);
      shorter = omega (arith, fewer c.in_ok-name.ensures, c.in_ok-alias.ensures.shorter);
    }
