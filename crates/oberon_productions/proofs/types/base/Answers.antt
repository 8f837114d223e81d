use Rattle.std.proofs.Common.{refl, arith, ◌∷◌, ◌++◌, ◌∙◌, []}
use Rattle.oberon_productions.specs.Machine.{qualident_parts}
use Rattle.oberon_productions.specs.Tests.{is_symbol}
use Rattle.oberon_productions.proofs.Descending.{via, after_symbol, entered, fewer, exits, onto, behind}
use Rattle.oberon_productions.proofs.Steps.{skip}
use Rattle.oberon_productions.specs.Expected as want
use Rattle.oberon_scan.specs.declared.token.Symbol.TheVariants as symbols
use Rattle.oberon_productions.proofs.types.base.Goals as goal

pub returns-in_default : goal.returns-in_default
returns-in_default c =
    record {
      spelled = refl;
      moves = λ s. skip want.some_base (is_symbol symbols.OpenParen) (qualident_parts ++ want.symbol symbols.CloseParen ∷ []) s c.args.given.now refl (λ k. refl) c.in_default.ensures.none;
      within = omega arith;
      shorter = omega arith;
    }

pub returns-in_err-name : goal.returns-in_err-name
returns-in_err-name c =
    exits _ _ c.from_residual.result c.in_err-name.field-0.0 c.from_residual.ensures.1
    (via (qualident_parts ++ []) (want.some_base ∷ []) _ c.args.given.now _ (λ s. (want.symbol symbols.CloseParen ∷ s)) (λ s. entered want.some_base (qualident_parts ++ (want.symbol symbols.CloseParen ∷ [])) s _ _ _ c.in-Some.ensures.some refl) c.in_err-name.ensures)

pub returns-in_err-closing : goal.returns-in_err-closing
returns-in_err-closing c =
    exits _ _ c.from_residual-in_err-closing.result c.in_err-closing.field-0.0 c.from_residual-in_err-closing.ensures.1
    (via (want.symbol symbols.CloseParen ∷ []) (want.some_base ∷ []) _ c.args.given.now _ (λ s. s) (λ s. entered want.some_base (qualident_parts ++ (want.symbol symbols.CloseParen ∷ [])) s _ _ _ c.in-Some.ensures.some refl ∙ c.in_ok-name.ensures.moves (want.symbol symbols.CloseParen ∷ s)) c.in_err-closing.ensures)

pub returns : goal.returns
returns c =
    record {
      spelled = onto c.in-Some.ensures.some (behind c.in_ok-name.ensures (onto c.in_ok-closing.ensures refl));
      moves = λ s. entered want.some_base (qualident_parts ++ (want.symbol symbols.CloseParen ∷ [])) s _ _ _ c.in-Some.ensures.some refl ∙ c.in_ok-name.ensures.moves (want.symbol symbols.CloseParen ∷ s) ∙ after_symbol symbols.CloseParen s c.in_ok-closing.ensures;
      within = omega (arith, c.in_ok-name.ensures.within);
      shorter = omega (arith, fewer c.in-Some.ensures.some, c.in_ok-name.ensures.shorter, fewer c.in_ok-closing.ensures);
    }
