use Rattle.std.proofs.Common.{refl, sym, arith, ◌∷◌, ◌∙◌, []}
use Rattle.oberon_productions.specs.Tests.{is_symbol}
use Rattle.oberon_productions.proofs.Descending.{via, after_ident, entered, fewer, exits, onto, after_some, each_push}
use Rattle.oberon_productions.proofs.Steps.{skip}
use Rattle.oberon_tree.specs.Print.{print_next_ident}
use Rattle.oberon_productions.specs.Expected as want
use Rattle.oberon_scan.specs.declared.token.Symbol.TheVariants as symbols
use Rattle.oberon_productions.proofs.name.more_idents.Goals as goal

pub returns-in_err-ident : goal.returns-in_err-ident
returns-in_err-ident c =
    exits _ _ c.from_residual.result c.in_err-ident.field-0.0 c.from_residual.ensures.1
    (via (want.ident ∷ []) (want.idents ∷ []) _ c.args.given.now _ (λ s. (want.idents ∷ s)) (λ s. c.loop-comma.invariant.moves s ∙ entered want.idents (want.ident ∷ (want.idents ∷ [])) s _ _ _ c.in-Some.ensures.some refl) c.in_err-ident.ensures)

pub loop-comma-preserved : goal.loop-comma-preserved
loop-comma-preserved c =
    rw c.in_ok-push.ensures.items (record {
      spelled = after_some c.loop-comma.invariant (onto c.in-Some.ensures.some (onto c.in_ok-ident.ensures refl)) ∙ sym (each_push print_next_ident _ _ _);
      moves = λ s. c.loop-comma.invariant.moves s ∙ entered want.idents (want.ident ∷ (want.idents ∷ [])) s _ _ _ c.in-Some.ensures.some refl ∙ after_ident (want.idents ∷ s) c.in_ok-ident.ensures;
      within = omega arith;
      shorter = omega (arith, c.loop-comma.invariant.shorter, fewer c.in-Some.ensures.some, fewer c.in_ok-ident.ensures);
    })

pub returns : goal.returns
returns c =
    record {
      spelled = c.loop-comma.invariant.spelled;
      moves = λ s. c.loop-comma.invariant.moves s ∙ skip want.idents (is_symbol symbols.Comma) (want.ident ∷ (want.idents ∷ [])) s c.loop-comma.rest.now refl (λ k. refl) c.in_default.ensures.none;
      within = c.loop-comma.invariant.within;
      shorter = c.loop-comma.invariant.shorter;
    }
