use Rattle.std.proofs.Common.{refl, sym, ap, arith, ◌∷◌, ◌∙◌, []}
use Rattle.oberon_productions.specs.Machine.{stops}
use Rattle.oberon_productions.specs.Tests.{is_ident}
use Rattle.oberon_productions.proofs.Descending.{via, fewer, exits, after_some}
use Rattle.oberon_productions.proofs.Steps.{skip}
use Rattle.oberon_productions.proofs.DeclarationJoins.{mapped_push, mapped_depth}
use Rattle.oberon_tree.specs.Print.{print_variable}
use Rattle.oberon_tree.specs.Levels.{depth_of_variable}
use Rattle.oberon_tree.specs.Memory.{variable_tree}
use Rattle.oberon_productions.specs.Expected as want
use Rattle.oberon_scan.specs.declared.token.Symbol.TheVariants as symbols
use Rattle.oberon_productions.proofs.declaration.more_variables.Goals as goal

pub returns-in_err-item : goal.returns-in_err-item
returns-in_err-item c =
    let h = rw c.in-Some.is at c.in_ok-name.ensures in
    exits _ _ c.from_residual-in_err-item.result c.in_err-item.field-0.0 c.from_residual-in_err-item.ensures.1
    (via ((want.variables c.args.levels) ∷ []) ((want.variables c.args.levels) ∷ []) _ c.args.given.now _ (λ s. s) (λ s. c.loop-items.invariant.moves s ∙ ap (stops ((want.variables c.args.levels) ∷ s)) h) c.in_err-item.ensures)

pub loop-items-preserved : goal.loop-items-preserved
loop-items-preserved c =
    let h = rw c.in-Some.is at c.in_ok-name.ensures in
    let r = c.in_ok-item.ensures in
    rw c.in_ok-push.ensures.items (record {
      spelled = after_some c.loop-items.invariant (h ∙ r.0.spelled) ∙ sym (mapped_push print_variable variable_tree c.loop-items.items.items c.in_ok-item.item c.in_ok-item.after.now);
      moves = λ s. c.loop-items.invariant.moves s ∙ ap (stops ((want.variables c.args.levels) ∷ s)) h ∙ r.0.moves s;
      within = rw (mapped_depth depth_of_variable variable_tree c.loop-items.items.items c.in_ok-item.item) (omega (arith, c.loop-items.invariant.within, r.0.within));
      shorter = omega (arith, c.loop-items.invariant.shorter, fewer h, r.1);
    })

pub returns : goal.returns
returns c =
    let h = rw c.in_default.is at c.in_ok-name.ensures in
    record {
      spelled = c.loop-items.invariant.spelled;
      moves = λ s. c.loop-items.invariant.moves s ∙ skip (want.variables c.args.levels) is_ident (want.some_mark ∷ (want.ident_defs ∷ (want.symbol symbols.Colon ∷ (want.type_part c.args.levels ∷ (want.symbol symbols.Semicolon ∷ (want.variables c.args.levels ∷ [])))))) s c.loop-items.rest.now refl (λ k. refl) h;
      within = c.loop-items.invariant.within;
      shorter = c.loop-items.invariant.shorter;
    }
