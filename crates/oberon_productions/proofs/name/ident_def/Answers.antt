use Rattle.std.proofs.Common.{refl, arith, ◌∷◌, ◌∙◌}
use Rattle.oberon_productions.proofs.Descending.{after_ident, fewer, onto, behind}
use Rattle.oberon_productions.specs.Expected as want
use Rattle.oberon_productions.proofs.name.ident_def.Goals as goal

pub returns : goal.returns
returns c =
    record {
      spelled = onto c.in_ok-name.ensures (behind c.mark-export.ensures refl);
      moves = λ s. after_ident (want.some_mark ∷ s) c.in_ok-name.ensures ∙ c.mark-export.ensures.moves s;
      within = omega (arith, c.mark-export.ensures.within);
      shorter = omega (arith, fewer c.in_ok-name.ensures, c.mark-export.ensures.shorter);
    }
