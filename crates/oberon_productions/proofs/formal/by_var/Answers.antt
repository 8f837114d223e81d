use Rattle.std.proofs.Common.{refl, arith, []}
use Rattle.oberon_productions.specs.Tests.{is_word}
use Rattle.oberon_productions.proofs.Descending.{entered, fewer, onto}
use Rattle.oberon_productions.proofs.Steps.{skip}
use Rattle.oberon_productions.specs.Expected as want
use Rattle.oberon_scan.specs.declared.token.Word.TheVariants as words
use Rattle.oberon_productions.proofs.formal.by_var.Goals as goal

pub returns-in-Some : goal.returns-in-Some
returns-in-Some c =
    record {
      spelled = onto c.in-Some.ensures.some refl;
      moves = λ s. entered want.some_by_var [] s _ _ _ c.in-Some.ensures.some refl;
      within = omega arith;
      shorter = omega (arith, fewer c.in-Some.ensures.some);
    }

pub returns-in-None : goal.returns-in-None
returns-in-None c =
    record {
      spelled = refl;
      moves = λ s. skip want.some_by_var (is_word words.Var) [] s c.args.given.now refl (λ k. refl) c.in-None.ensures.none;
      within = omega arith;
      shorter = omega arith;
    }
