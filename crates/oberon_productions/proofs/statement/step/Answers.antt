use Rattle.std.proofs.Common.{refl, arith, ◌∷◌, ◌++◌, ◌∙◌, []}
use Rattle.oberon_productions.specs.Machine.{expr_parts}
use Rattle.oberon_productions.specs.Tests.{is_word}
use Rattle.oberon_productions.proofs.Descending.{via, entered, fewer, exits, onto, behind}
use Rattle.oberon_productions.proofs.Steps.{skip}
use Rattle.oberon_productions.specs.Expected as want
use Rattle.oberon_scan.specs.declared.token.Word.TheVariants as words
use Rattle.oberon_productions.proofs.statement.step.Goals as goal

pub returns-in_default : goal.returns-in_default
returns-in_default c =
    record {
      spelled = refl;
      moves = λ s. skip (want.some_step c.args.levels) (is_word words.By) (expr_parts c.args.levels) s c.args.given.now refl (λ k. refl) c.in_default.ensures.none;
      within = omega arith;
      shorter = omega arith;
    }

pub returns-in_err-value : goal.returns-in_err-value
returns-in_err-value c =
    exits _ _ c.from_residual.result c.in_err-value.field-0.0 c.from_residual.ensures.1
    (via (expr_parts c.args.levels ++ []) ((want.some_step c.args.levels) ∷ []) _ c.args.given.now _ (λ s. s) (λ s. entered (want.some_step c.args.levels) (expr_parts c.args.levels ++ []) s _ _ _ c.in-Some.ensures.some refl) c.in_err-value.ensures)

pub returns : goal.returns
returns c =
    record {
      spelled = onto c.in-Some.ensures.some (behind c.in_ok-value.ensures refl);
      moves = λ s. entered (want.some_step c.args.levels) (expr_parts c.args.levels ++ []) s _ _ _ c.in-Some.ensures.some refl ∙ c.in_ok-value.ensures.moves s;
      within = omega (arith, c.in_ok-value.ensures.within);
      shorter = omega (arith, fewer c.in-Some.ensures.some, c.in_ok-value.ensures.shorter);
    }
