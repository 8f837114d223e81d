use Rattle.std.proofs.Common.{refl, sym, arith, ◌∷◌, ◌++◌, ◌∙◌, []}
use Rattle.oberon_productions.specs.Machine.{label_parts}
use Rattle.oberon_productions.specs.Tests.{is_symbol}
use Rattle.oberon_productions.proofs.Descending.{via, entered, fewer, exits, onto, behind, after_some, each_push}
use Rattle.oberon_productions.proofs.Steps.{skip}
use Rattle.oberon_tree.specs.Print.{print_next_label}
use Rattle.oberon_productions.specs.Expected as want
use Rattle.oberon_scan.specs.declared.token.Symbol.TheVariants as symbols
use Rattle.oberon_productions.proofs.label.more_labels.Goals as goal

pub returns-in_err-label : goal.returns-in_err-label
returns-in_err-label c =
    exits _ _ c.from_residual.result c.in_err-label.field-0.0 c.from_residual.ensures.1
    (via (label_parts ++ []) (want.labels ∷ []) _ c.args.given.now _ (λ s. (want.labels ∷ s)) (λ s. c.loop-comma.invariant.moves s ∙ entered want.labels (label_parts ++ (want.labels ∷ [])) s _ _ _ c.in-Some.ensures.some refl) c.in_err-label.ensures)

pub loop-comma-preserved : goal.loop-comma-preserved
loop-comma-preserved c =
    rw c.in_ok-push.ensures.items (record {
      spelled = after_some c.loop-comma.invariant (onto c.in-Some.ensures.some (behind c.in_ok-label.ensures refl)) ∙ sym (each_push print_next_label _ _ _);
      moves = λ s. c.loop-comma.invariant.moves s ∙ entered want.labels (label_parts ++ (want.labels ∷ [])) s _ _ _ c.in-Some.ensures.some refl ∙ c.in_ok-label.ensures.moves (want.labels ∷ s);
      within = omega arith;
      shorter = omega (arith, c.loop-comma.invariant.shorter, fewer c.in-Some.ensures.some, c.in_ok-label.ensures.shorter);
    })

pub returns : goal.returns
returns c =
    record {
      spelled = c.loop-comma.invariant.spelled;
      moves = λ s. c.loop-comma.invariant.moves s ∙ skip want.labels (is_symbol symbols.Comma) (label_parts ++ (want.labels ∷ [])) s c.loop-comma.rest.now refl (λ k. refl) c.in_default.ensures.none;
      within = c.loop-comma.invariant.within;
      shorter = c.loop-comma.invariant.shorter;
    }
