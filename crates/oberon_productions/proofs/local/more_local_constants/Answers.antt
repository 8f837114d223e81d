use Rattle.std.proofs.Common.{refl, sym, ap, arith, ◌∷◌, ◌++◌, ◌∙◌, []}
use Rattle.oberon_productions.specs.Machine.{expr_parts, stops}
use Rattle.oberon_productions.specs.Tests.{is_ident}
use Rattle.oberon_productions.proofs.Descending.{via, fewer, exits, after_some}
use Rattle.oberon_productions.proofs.Steps.{skip}
use Rattle.oberon_productions.proofs.DeclarationJoins.{mapped_push, mapped_depth}
use Rattle.oberon_tree.specs.Print.{print_local_constant}
use Rattle.oberon_tree.specs.Levels.{depth_of_local_constant}
use Rattle.oberon_tree.specs.Memory.{local_constant_tree}
use Rattle.oberon_productions.specs.Expected as want
use Rattle.oberon_scan.specs.declared.token.Symbol.TheVariants as symbols
use Rattle.oberon_productions.proofs.local.more_local_constants.Goals as goal

pub returns-in_err-item : goal.returns-in_err-item
returns-in_err-item c =
    let h = rw c.in-Some.is at c.in_ok-name.ensures in
    exits _ _ c.from_residual-in_err-item.result c.in_err-item.field-0.0 c.from_residual-in_err-item.ensures.1
    (via ((want.local_constants c.args.levels) ∷ []) ((want.local_constants c.args.levels) ∷ []) _ c.args.given.now _ (λ s. s) (λ s. c.loop-items.invariant.moves s ∙ ap (stops ((want.local_constants c.args.levels) ∷ s)) h) c.in_err-item.ensures)

pub loop-items-preserved : goal.loop-items-preserved
loop-items-preserved c =
    let h = rw c.in-Some.is at c.in_ok-name.ensures in
    let r = c.in_ok-item.ensures in
    rw c.in_ok-push.ensures.items (record {
      spelled = after_some c.loop-items.invariant (h ∙ r.0.spelled) ∙ sym (mapped_push print_local_constant local_constant_tree c.loop-items.items.items c.in_ok-item.item c.in_ok-item.after.now);
      moves = λ s. c.loop-items.invariant.moves s ∙ ap (stops ((want.local_constants c.args.levels) ∷ s)) h ∙ r.0.moves s;
      within = rw (mapped_depth depth_of_local_constant local_constant_tree c.loop-items.items.items c.in_ok-item.item) (omega (arith, c.loop-items.invariant.within, r.0.within));
      shorter = omega (arith, c.loop-items.invariant.shorter, fewer h, r.1);
    })

pub returns : goal.returns
returns c =
    let h = rw c.in_default.is at c.in_ok-name.ensures in
    record {
      spelled = c.loop-items.invariant.spelled;
      moves = λ s. c.loop-items.invariant.moves s ∙ skip (want.local_constants c.args.levels) is_ident (want.symbol symbols.Equal ∷ (expr_parts c.args.levels ++ (want.symbol symbols.Semicolon ∷ (want.local_constants c.args.levels ∷ [])))) s c.loop-items.rest.now refl (λ k. refl) h;
      within = c.loop-items.invariant.within;
      shorter = c.loop-items.invariant.shorter;
    }
