use Rattle.std.proofs.Common.{refl, arith, ◌∷◌, ◌++◌, ◌∙◌, []}
use Rattle.oberon_productions.specs.Machine.{statements_parts}
use Rattle.oberon_productions.proofs.Descending.{via, entered, fewer, exits, onto, behind}
use Rattle.oberon_productions.proofs.StatementJoins.{single_value, single_arm, value_memory}
use Rattle.oberon_productions.specs.Expected as want
use Rattle.oberon_scan.specs.declared.token.Symbol.TheVariants as symbols
use Rattle.oberon_productions.proofs.label.first_value.Goals as goal

pub returns-in-Some : goal.returns-in-Some
returns-in-Some c =
    let h = rw c.in-Some.is at c.in_ok-literal.ensures in
    record {
      spelled = h.spelled;
      moves = λ s. single_value s h;
      enters = λ d s. single_arm d s h;
      shorter = fewer h.whole;
    }

pub returns-in_err-member : goal.returns-in_err-member
returns-in_err-member c =
    let h = rw c.in-Some-2.is at c.in_ok-first.ensures in
    exits _ _ c.from_residual-in_err-member.result c.in_err-member.field-0.0 c.from_residual-in_err-member.ensures.1 (record {
      value = via (want.some_member ∷ []) (want.value ∷ []) _ c.args.given.now _ (λ s. s) (λ s. entered want.value (want.some_member ∷ []) s _ _ _ h refl) c.in_err-member.ensures;
      arm = λ d. via (want.some_member ∷ []) (want.arm d ∷ []) _ c.args.given.now _ (λ s. want.some_label_upper ∷ want.labels ∷ want.symbol symbols.Colon ∷ (statements_parts d ++ s)) (λ s. entered (want.arm d) (want.some_member ∷ want.some_label_upper ∷ want.labels ∷ want.symbol symbols.Colon ∷ statements_parts d) s _ _ _ h refl) c.in_err-member.ensures;
    })

pub returns : goal.returns
returns c =
    let h = rw c.in-Some-2.is at c.in_ok-first.ensures in
    record {
      spelled = onto h (behind c.in_ok-member.ensures refl);
      moves = λ s. entered want.value (want.some_member ∷ []) s _ _ _ h refl ∙ c.in_ok-member.ensures.moves s;
      enters = λ d s. entered (want.arm d) (want.some_member ∷ want.some_label_upper ∷ want.labels ∷ want.symbol symbols.Colon ∷ statements_parts d) s _ _ _ h refl ∙ c.in_ok-member.ensures.moves (want.some_label_upper ∷ want.labels ∷ want.symbol symbols.Colon ∷ (statements_parts d ++ s));
      shorter = omega (arith, fewer h, c.in_ok-member.ensures.shorter);
    }

pub returns-in_err-literal : goal.returns-in_err-literal
returns-in_err-literal c = exits _ _ c.from_residual.result c.in_err-literal.field-0.0 c.from_residual.ensures.1 (value_memory c.args.given.now _ c.in_err-literal.ensures)

pub returns-in_err-first : goal.returns-in_err-first
returns-in_err-first c = exits _ _ c.from_residual-in_err-first.result c.in_err-first.field-0.0 c.from_residual-in_err-first.ensures.1 (value_memory c.args.given.now _ c.in_err-first.ensures)

pub returns-in_default-2 : goal.returns-in_default-2
returns-in_default-2 c = ((rw c.in_default.is at c.in_ok-literal.ensures), (rw c.in_default-2.is at c.in_ok-first.ensures))
