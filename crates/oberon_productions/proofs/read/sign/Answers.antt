use Rattle.std.proofs.Common.{[], refl, arith}
use Rattle.oberon_productions.specs.Expected as want
use Rattle.oberon_productions.specs.Tests.{is_sign}
use Rattle.oberon_productions.proofs.Descending.{entered, fewer, no_sign}
use Rattle.oberon_productions.proofs.Steps.{skip}
use Rattle.oberon_productions.proofs.read.sign.Goals as goal

pub returns-in-Some : goal.returns-in-Some
returns-in-Some c =
    let h = c.in-Some.ensures.some in
    record {
      spelled = h;
      moves = λ s. entered want.some_sign [] s _ _ _ h refl;
      within = omega arith;
      shorter = omega (arith, fewer h);
    }

pub returns-in-Some-symbol : goal.returns-in-Some-symbol
returns-in-Some-symbol c =
    let h = c.in-Some-symbol.ensures.some in
    record {
      spelled = h;
      moves = λ s. entered want.some_sign [] s _ _ _ h refl;
      within = omega arith;
      shorter = omega (arith, fewer h);
    }

pub returns : goal.returns
returns c =
    let g = c.args.given.now in
    record {
      spelled = refl;
      moves = λ s. skip want.some_sign is_sign [] s g refl (λ k. refl) (no_sign g c.in_default.ensures.none c.in_default-symbol.ensures.none);
      within = omega arith;
      shorter = omega arith;
    }
