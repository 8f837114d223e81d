use Rattle.std.proofs.Common.{refl, arith, ◌∷◌, ◌∙◌, []}
use Rattle.oberon_productions.specs.Tests.{is_symbol}
use Rattle.oberon_productions.proofs.Descending.{via, entered, fewer, exits, onto, behind}
use Rattle.oberon_productions.proofs.Steps.{skip}
use Rattle.oberon_productions.specs.Expected as want
use Rattle.oberon_scan.specs.declared.token.Symbol.TheVariants as symbols
use Rattle.oberon_productions.proofs.formal.formals.Goals as goal

pub returns-in_default : goal.returns-in_default
returns-in_default c =
    record {
      spelled = refl;
      moves = λ s. skip (want.some_formals c.args.levels) (is_symbol symbols.OpenParen) (want.rest_of_formals c.args.levels ∷ (want.some_result ∷ [])) s c.args.given.now refl (λ k. refl) c.in_default.ensures.none;
      within = omega arith;
      shorter = omega arith;
    }

pub returns-in_err-found : goal.returns-in_err-found
returns-in_err-found c =
    exits _ _ c.from_residual.result c.in_err-found.field-0.0 c.from_residual.ensures.1
    (via (want.rest_of_formals c.args.levels ∷ []) ((want.some_formals c.args.levels) ∷ []) _ c.args.given.now _ (λ s. (want.some_result ∷ s)) (λ s. entered (want.some_formals c.args.levels) (want.rest_of_formals c.args.levels ∷ (want.some_result ∷ [])) s _ _ _ c.in-Some.ensures.some refl) c.in_err-found.ensures)

pub returns-in_err-result_type : goal.returns-in_err-result_type
returns-in_err-result_type c =
    exits _ _ c.from_residual-in_err-result_type.result c.in_err-result_type.field-0.0 c.from_residual-in_err-result_type.ensures.1
    (via (want.some_result ∷ []) ((want.some_formals c.args.levels) ∷ []) _ c.args.given.now _ (λ s. s) (λ s. entered (want.some_formals c.args.levels) (want.rest_of_formals c.args.levels ∷ (want.some_result ∷ [])) s _ _ _ c.in-Some.ensures.some refl ∙ c.in_ok-found.ensures.moves (want.some_result ∷ s)) (rw c.in_err-result_type.ensures at c.result_type.ensures))

pub returns : goal.returns
returns c =
    let ok_result_type = rw c.in_ok-result_type.ensures.0 at c.result_type.ensures in
    rw (c.in_ok-result_type.ensures.1) (record {
      spelled = onto c.in-Some.ensures.some (behind c.in_ok-found.ensures (behind ok_result_type refl));
      moves = λ s. entered (want.some_formals c.args.levels) (want.rest_of_formals c.args.levels ∷ (want.some_result ∷ [])) s _ _ _ c.in-Some.ensures.some refl ∙ c.in_ok-found.ensures.moves (want.some_result ∷ s) ∙ ok_result_type.moves s;
      within = omega (arith, c.in_ok-found.ensures.within, ok_result_type.within);
      shorter = omega (arith, fewer c.in-Some.ensures.some, c.in_ok-found.ensures.shorter, ok_result_type.shorter);
    })
