use Rattle.std.proofs.Common.{refl, sym, arith, ◌∷◌, ◌++◌, ◌∙◌, []}
use Rattle.oberon_productions.specs.Machine.{import_parts}
use Rattle.oberon_productions.specs.Tests.{is_symbol}
use Rattle.oberon_productions.proofs.Descending.{via, entered, fewer, exits, onto, behind, after_some, each_push}
use Rattle.oberon_productions.proofs.Steps.{skip}
use Rattle.oberon_tree.specs.Print.{print_next_import}
use Rattle.oberon_productions.specs.Expected as want
use Rattle.oberon_scan.specs.declared.token.Symbol.TheVariants as symbols
use Rattle.oberon_parse.proofs.top.more_imports.Goals as goal

pub returns-in_err-import : goal.returns-in_err-import
returns-in_err-import c =
    exits _ _ c.from_residual.result c.in_err-import.field-0.0 c.from_residual.ensures.1
    (via (import_parts ++ []) (want.imports ∷ []) _ c.args.given.now _ (λ s. (want.imports ∷ s)) (λ s. c.loop-comma.invariant.moves s ∙ entered want.imports (import_parts ++ (want.imports ∷ [])) s _ _ _ c.in-Some.ensures.some refl) c.in_err-import.ensures)

pub loop-comma-preserved : goal.loop-comma-preserved
loop-comma-preserved c =
    rw c.in_ok-push.ensures.items (record {
      spelled = after_some c.loop-comma.invariant (onto c.in-Some.ensures.some (behind c.in_ok-import.ensures refl)) ∙ sym (each_push print_next_import _ _ _);
      moves = λ s. c.loop-comma.invariant.moves s ∙ entered want.imports (import_parts ++ (want.imports ∷ [])) s _ _ _ c.in-Some.ensures.some refl ∙ c.in_ok-import.ensures.moves (want.imports ∷ s);
      within = omega arith;
      shorter = omega (arith, c.loop-comma.invariant.shorter, fewer c.in-Some.ensures.some, c.in_ok-import.ensures.shorter);
    })

pub returns : goal.returns
returns c =
    record {
      spelled = c.loop-comma.invariant.spelled;
      moves = λ s. c.loop-comma.invariant.moves s ∙ skip want.imports (is_symbol symbols.Comma) (import_parts ++ (want.imports ∷ [])) s c.loop-comma.rest.now refl (λ k. refl) c.in_default.ensures.none;
      within = c.loop-comma.invariant.within;
      shorter = c.loop-comma.invariant.shorter;
    }
