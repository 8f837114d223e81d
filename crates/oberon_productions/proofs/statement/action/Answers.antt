use Rattle.std.proofs.Common.{refl, arith, ◌∷◌, ◌∙◌, []}
use Rattle.oberon_productions.specs.Machine.{expr_parts}
use Rattle.oberon_productions.specs.Tests.{is_symbol}
use Rattle.oberon_productions.proofs.Descending.{via, entered, fewer, exits, onto, behind}
use Rattle.oberon_productions.proofs.Steps.{skip}
use Rattle.oberon_tree.specs.Tokens.{ident_token}
use Rattle.oberon_productions.specs.Expected as want
use Rattle.oberon_scan.specs.declared.token.Symbol.TheVariants as symbols
use Rattle.oberon_productions.proofs.statement.action.Goals as goal

pub returns-in_err-selectors : goal.returns-in_err-selectors
returns-in_err-selectors c =
    exits _ _ c.from_residual.result c.in_err-selectors.field-0.0 c.from_residual.ensures.1
    (via (want.selectors c.args.levels ∷ []) ((want.statement c.args.levels) ∷ []) _ (ident_token c.args.name ∷ c.args.given.now) _ (λ s. want.some_assigned c.args.levels ∷ s) (λ s. entered (want.statement c.args.levels) (want.selectors c.args.levels ∷ (want.some_assigned c.args.levels ∷ [])) s _ _ _ refl refl) c.in_err-selectors.ensures)

pub returns-in_default : goal.returns-in_default
returns-in_default c =
    record {
      spelled = onto refl (behind c.in_ok-selectors.ensures refl);
      moves = λ s. entered (want.statement c.args.levels) (want.selectors c.args.levels ∷ (want.some_assigned c.args.levels ∷ [])) s _ _ _ refl refl ∙ c.in_ok-selectors.ensures.moves (want.some_assigned c.args.levels ∷ s) ∙ skip (want.some_assigned c.args.levels) (is_symbol symbols.Becomes) (expr_parts c.args.levels) s c.in_ok-selectors.rest.now refl (λ k. refl) c.in_default.ensures.none;
      within = c.in_ok-selectors.ensures.within;
      shorter = omega (arith, c.in_ok-selectors.ensures.shorter);
    }

pub returns-in_err-value : goal.returns-in_err-value
returns-in_err-value c =
    exits _ _ c.from_residual-in_err-value.result c.in_err-value.field-0.0 c.from_residual-in_err-value.ensures.1
    (via (expr_parts c.args.levels) ((want.statement c.args.levels) ∷ []) _ (ident_token c.args.name ∷ c.args.given.now) _ (λ s. s) (λ s. entered (want.statement c.args.levels) (want.selectors c.args.levels ∷ (want.some_assigned c.args.levels ∷ [])) s _ _ _ refl refl ∙ c.in_ok-selectors.ensures.moves (want.some_assigned c.args.levels ∷ s) ∙ entered (want.some_assigned c.args.levels) (expr_parts c.args.levels) s _ _ _ c.in-Some.ensures.some refl) c.in_err-value.ensures)

pub returns : goal.returns
returns c =
    rw c.in_ok-boxed.ensures.ok (record {
      spelled = onto refl (behind c.in_ok-selectors.ensures (onto c.in-Some.ensures.some (behind c.in_ok-value.ensures refl)));
      moves = λ s. entered (want.statement c.args.levels) (want.selectors c.args.levels ∷ (want.some_assigned c.args.levels ∷ [])) s _ _ _ refl refl ∙ c.in_ok-selectors.ensures.moves (want.some_assigned c.args.levels ∷ s) ∙ entered (want.some_assigned c.args.levels) (expr_parts c.args.levels) s _ _ _ c.in-Some.ensures.some refl ∙ c.in_ok-value.ensures.moves s;
      within = omega (arith, c.in_ok-selectors.ensures.within, c.in_ok-value.ensures.within);
      shorter = omega (arith, c.in_ok-selectors.ensures.shorter, fewer c.in-Some.ensures.some, c.in_ok-value.ensures.shorter);
    })
