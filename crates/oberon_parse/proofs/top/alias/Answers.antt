use Rattle.std.proofs.Common.{refl, arith, ◌∷◌, ◌∙◌, []}
use Rattle.oberon_productions.specs.Tests.{is_symbol}
use Rattle.oberon_productions.proofs.Descending.{via, after_ident, entered, fewer, exits, onto}
use Rattle.oberon_productions.proofs.Steps.{skip}
use Rattle.oberon_productions.specs.Expected as want
use Rattle.oberon_scan.specs.declared.token.Symbol.TheVariants as symbols
use Rattle.oberon_parse.proofs.top.alias.Goals as goal

pub returns-in_default : goal.returns-in_default
returns-in_default c =
    record {
      spelled = refl;
      moves = λ s. skip want.some_alias (is_symbol symbols.Becomes) (want.ident ∷ []) s c.args.given.now refl (λ k. refl) c.in_default.ensures.none;
      within = omega arith;
      shorter = omega arith;
    }

pub returns-in_err-imported : goal.returns-in_err-imported
returns-in_err-imported c =
    exits _ _ c.from_residual.result c.in_err-imported.field-0.0 c.from_residual.ensures.1
    (via (want.ident ∷ []) (want.some_alias ∷ []) _ c.args.given.now _ (λ s. s) (λ s. entered want.some_alias (want.ident ∷ []) s _ _ _ c.in-Some.ensures.some refl) c.in_err-imported.ensures)

pub returns : goal.returns
returns c =
    record {
      spelled = onto c.in-Some.ensures.some (onto c.in_ok-imported.ensures refl);
      moves = λ s. entered want.some_alias (want.ident ∷ []) s _ _ _ c.in-Some.ensures.some refl ∙ after_ident s c.in_ok-imported.ensures;
      within = omega arith;
      shorter = omega (arith, fewer c.in-Some.ensures.some, fewer c.in_ok-imported.ensures);
    }
