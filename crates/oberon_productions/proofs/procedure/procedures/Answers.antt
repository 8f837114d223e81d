use Rattle.std.proofs.Common.{length, refl, sym, ap, arith, subst, ◌∷◌, ◌∙◌, []}
use Rattle.oberon_productions.specs.Machine.{stops}
use Rattle.oberon_productions.specs.Reading.{StopsAt}
use Rattle.oberon_productions.proofs.Descending.{halts, fewer, exits, after_some}
use Rattle.oberon_productions.proofs.Steps.{skip_procedures}
use Rattle.oberon_productions.proofs.Joins.{no_level}
use Rattle.oberon_productions.proofs.DeclarationJoins.{mapped_push, mapped_depth, at_level, via_level}
use Rattle.oberon_tree.specs.Print.{print_procedure_item}
use Rattle.oberon_tree.specs.Levels.{depth_of_procedure_item}
use Rattle.oberon_tree.specs.Memory.{procedure_item_tree}
use Rattle.oberon_tree.specs.Tokens.{word_token}
use Rattle.oberon_productions.specs.Expected as want
use Rattle.oberon_scan.specs.declared.token.Word.TheVariants as words
use Rattle.oberon_productions.proofs.procedure.procedures.Goals as goal

pub returns-in_err-inner : goal.returns-in_err-inner
returns-in_err-inner c =
    let z = c.in_err-inner.ensures in
    exits _ _ c.from_residual.result c.in_err-inner.field-0.0 c.from_residual.ensures.1
    (subst (λ e. StopsAt ((want.procedures c.args.levels) ∷ []) c.args.given.now e) (sym z.1) (halts ((want.procedures c.args.levels) ∷ []) c.args.given.now (length c.loop-span.rest.now) (λ s. c.loop-span.invariant.moves s ∙ no_level (want.procedures c.args.levels) s _ c.loop-span.rest.now _ c.in-Some.ensures.some (rw z.0 refl))))

pub returns-in_err-item : goal.returns-in_err-item
returns-in_err-item c =
    let z = c.in_ok-inner.ensures in
    exits _ _ c.from_residual-in_err-item.result c.in_err-item.field-0.0 c.from_residual-in_err-item.ensures.1
    (via_level want.procedures c.args.levels c.in_ok-inner.inner (word_token words.Procedure c.in-Some.span ∷ c.in-Some.after.now) c.args.given.now _ z (λ s. c.loop-span.invariant.moves s ∙ ap (stops ((want.procedures c.args.levels) ∷ s)) c.in-Some.ensures.some) c.in_err-item.ensures)

pub loop-span-preserved : goal.loop-span-preserved
loop-span-preserved c =
    let r = at_level want.procedures c.args.levels c.in_ok-inner.inner c.in_ok-inner.ensures c.in_ok-item.ensures.0 in
    rw c.in_ok-push.ensures.items (record {
      spelled = after_some c.loop-span.invariant (c.in-Some.ensures.some ∙ r.spelled) ∙ sym (mapped_push print_procedure_item procedure_item_tree c.loop-span.items.items c.in_ok-item.item c.in_ok-item.after.now);
      moves = λ s. c.loop-span.invariant.moves s ∙ ap (stops ((want.procedures c.args.levels) ∷ s)) c.in-Some.ensures.some ∙ r.moves s;
      within = rw (mapped_depth depth_of_procedure_item procedure_item_tree c.loop-span.items.items c.in_ok-item.item) (omega (arith, c.loop-span.invariant.within, r.within));
      shorter = omega (arith, c.loop-span.invariant.shorter, fewer c.in-Some.ensures.some, c.in_ok-item.ensures.1);
    })

pub returns : goal.returns
returns c =
    record {
      spelled = c.loop-span.invariant.spelled;
      moves = λ s. c.loop-span.invariant.moves s ∙ skip_procedures c.args.levels s c.loop-span.rest.now c.in_default.ensures.none;
      within = c.loop-span.invariant.within;
      shorter = c.loop-span.invariant.shorter;
    }
