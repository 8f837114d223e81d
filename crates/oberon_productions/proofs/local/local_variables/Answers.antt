use Rattle.std.proofs.Common.{refl, arith, ◌∷◌, ◌∙◌, []}
use Rattle.oberon_productions.specs.Tests.{is_word}
use Rattle.oberon_productions.proofs.Descending.{via, entered, fewer, exits, onto, behind}
use Rattle.oberon_productions.proofs.Steps.{skip}
use Rattle.oberon_productions.specs.Expected as want
use Rattle.oberon_scan.specs.declared.token.Word.TheVariants as words
use Rattle.oberon_productions.proofs.local.local_variables.Goals as goal

pub returns-in_default : goal.returns-in_default
returns-in_default c =
    record {
      spelled = refl;
      moves = λ s. skip (want.some_local_variables c.args.levels) (is_word words.Var) ((want.local_variables c.args.levels) ∷ []) s c.args.given.now refl (λ k. refl) c.in_default.ensures.none;
      within = omega arith;
      shorter = omega arith;
    }

pub returns-in_err-items : goal.returns-in_err-items
returns-in_err-items c =
    exits _ _ c.from_residual.result c.in_err-items.field-0.0 c.from_residual.ensures.1
    (via (want.local_variables c.args.levels ∷ []) ((want.some_local_variables c.args.levels) ∷ []) _ c.args.given.now _ (λ s. s) (λ s. entered (want.some_local_variables c.args.levels) (want.local_variables c.args.levels ∷ []) s _ _ _ c.in-Some.ensures.some refl) c.in_err-items.ensures)

pub returns : goal.returns
returns c =
    record {
      spelled = onto c.in-Some.ensures.some (behind c.in_ok-items.ensures refl);
      moves = λ s. entered (want.some_local_variables c.args.levels) (want.local_variables c.args.levels ∷ []) s _ _ _ c.in-Some.ensures.some refl ∙ c.in_ok-items.ensures.moves s;
      within = omega (arith, c.in_ok-items.ensures.within);
      shorter = omega (arith, fewer c.in-Some.ensures.some, c.in_ok-items.ensures.shorter);
    }
