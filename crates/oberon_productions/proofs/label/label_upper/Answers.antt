use Rattle.std.proofs.Common.{refl, arith, ◌∷◌, ◌∙◌, []}
use Rattle.oberon_productions.specs.Tests.{is_symbol}
use Rattle.oberon_productions.proofs.Descending.{via, entered, fewer, exits, onto, behind}
use Rattle.oberon_productions.proofs.Steps.{skip}
use Rattle.oberon_productions.specs.Expected as want
use Rattle.oberon_scan.specs.declared.token.Symbol.TheVariants as symbols
use Rattle.oberon_productions.proofs.label.label_upper.Goals as goal

pub returns-in_default : goal.returns-in_default
returns-in_default c =
    record {
      spelled = refl;
      moves = λ s. skip want.some_label_upper (is_symbol symbols.DotDot) (want.value ∷ []) s c.args.given.now refl (λ k. refl) c.in_default.ensures.none;
      within = omega arith;
      shorter = omega arith;
    }

pub returns-in_err-last : goal.returns-in_err-last
returns-in_err-last c =
    exits _ _ c.from_residual.result c.in_err-last.field-0.0 c.from_residual.ensures.1
    (via (want.value ∷ []) (want.some_label_upper ∷ []) _ c.args.given.now _ (λ s. s) (λ s. entered want.some_label_upper (want.value ∷ []) s _ _ _ c.in-Some.ensures.some refl) c.in_err-last.ensures)

pub returns : goal.returns
returns c =
    record {
      spelled = onto c.in-Some.ensures.some (behind c.in_ok-last.ensures refl);
      moves = λ s. entered want.some_label_upper (want.value ∷ []) s _ _ _ c.in-Some.ensures.some refl ∙ c.in_ok-last.ensures.moves s;
      within = omega (arith, c.in_ok-last.ensures.within);
      shorter = omega (arith, fewer c.in-Some.ensures.some, c.in_ok-last.ensures.shorter);
    }
