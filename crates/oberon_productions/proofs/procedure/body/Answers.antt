use Rattle.std.proofs.Common.{refl, arith, ◌∷◌, ◌++◌, ◌∙◌, []}
use Rattle.oberon_productions.specs.Machine.{statements_parts}
use Rattle.oberon_productions.specs.Tests.{is_word}
use Rattle.oberon_productions.proofs.Descending.{via, entered, fewer, exits, onto, behind}
use Rattle.oberon_productions.proofs.Steps.{skip}
use Rattle.oberon_productions.specs.Expected as want
use Rattle.oberon_scan.specs.declared.token.Word.TheVariants as words
use Rattle.oberon_productions.proofs.procedure.body.Goals as goal

pub returns-in_default : goal.returns-in_default
returns-in_default c =
    record {
      spelled = refl;
      moves = λ s. skip (want.some_body c.args.levels) (is_word words.Begin) (statements_parts c.args.levels ++ []) s c.args.given.now refl (λ k. refl) c.in_default.ensures.none;
      within = omega arith;
      shorter = omega arith;
    }

pub returns-in_err-statements : goal.returns-in_err-statements
returns-in_err-statements c =
    exits _ _ c.from_residual.result c.in_err-statements.field-0.0 c.from_residual.ensures.1
    (via (statements_parts c.args.levels ++ []) ((want.some_body c.args.levels) ∷ []) _ c.args.given.now _ (λ s. s) (λ s. entered (want.some_body c.args.levels) (statements_parts c.args.levels ++ []) s _ _ _ c.in-Some.ensures.some refl) c.in_err-statements.ensures)

pub returns : goal.returns
returns c =
    record {
      spelled = onto c.in-Some.ensures.some (behind c.in_ok-statements.ensures refl);
      moves = λ s. entered (want.some_body c.args.levels) (statements_parts c.args.levels ++ []) s _ _ _ c.in-Some.ensures.some refl ∙ c.in_ok-statements.ensures.moves s;
      within = omega (arith, c.in_ok-statements.ensures.within);
      shorter = omega (arith, fewer c.in-Some.ensures.some, c.in_ok-statements.ensures.shorter);
    }
