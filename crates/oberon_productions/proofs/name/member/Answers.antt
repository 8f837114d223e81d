use Rattle.std.proofs.Common.{refl, arith, ◌∷◌, ◌∙◌, []}
use Rattle.oberon_productions.specs.Tests.{is_symbol}
use Rattle.oberon_productions.proofs.Descending.{via, after_ident, entered, fewer, exits, onto}
use Rattle.oberon_productions.proofs.Steps.{skip}
use Rattle.oberon_productions.specs.Expected as want
use Rattle.oberon_scan.specs.declared.token.Symbol.TheVariants as symbols
use Rattle.oberon_productions.proofs.name.member.Goals as goal

pub returns-in_default : goal.returns-in_default
returns-in_default c =
    record {
      spelled = refl;
      moves = λ s. skip want.some_member (is_symbol symbols.Period) (want.ident ∷ []) s c.args.given.now refl (λ k. refl) c.in_default.ensures.none;
      within = omega arith;
      shorter = omega arith;
    }

pub returns-in_err-name : goal.returns-in_err-name
returns-in_err-name c =
    exits _ _ c.from_residual.result c.in_err-name.field-0.0 c.from_residual.ensures.1
    (via (want.ident ∷ []) (want.some_member ∷ []) _ c.args.given.now _ (λ s. s) (λ s. entered want.some_member (want.ident ∷ []) s _ _ _ c.in-Some.ensures.some refl) c.in_err-name.ensures)

pub returns : goal.returns
returns c =
    record {
      spelled = onto c.in-Some.ensures.some (onto c.in_ok-name.ensures refl);
      moves = λ s. entered want.some_member (want.ident ∷ []) s _ _ _ c.in-Some.ensures.some refl ∙ after_ident s c.in_ok-name.ensures;
      within = omega arith;
      shorter = omega (arith, fewer c.in-Some.ensures.some, fewer c.in_ok-name.ensures);
    }
