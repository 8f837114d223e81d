use Rattle.std.proofs.Common.{length, arith, ◌∷◌, []}
use Rattle.oberon_productions.proofs.Descending.{halts, exits}
use Rattle.oberon_productions.proofs.StatementJoins.{refuse_value}
use Rattle.oberon_productions.specs.Expected as want
use Rattle.oberon_productions.proofs.label.value.Goals as goal

pub returns-in_err-found : goal.returns-in_err-found
returns-in_err-found c = exits _ _ c.from_residual.result c.in_err-found.field-0.0 c.from_residual.ensures.1 c.in_err-found.ensures.value

pub returns-in-Some : goal.returns-in-Some
returns-in-Some c =
    let h = rw c.in-Some.is at c.in_ok-found.ensures in
    record {
      spelled = h.spelled;
      moves = h.moves;
      within = omega arith;
      shorter = omega (arith, h.shorter);
    }

pub returns-in-None : goal.returns-in-None
returns-in-None c =
    let h = rw c.in-None.is at c.in_ok-found.ensures in
    halts (want.value ∷ []) c.args.given.now (length c.args.given.now) (λ s. refuse_value s c.args.given.now h.0 h.1)
