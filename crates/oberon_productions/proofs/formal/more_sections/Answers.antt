use Rattle.std.proofs.Common.{refl, sym, arith, ◌∷◌, ◌++◌, ◌∙◌, []}
use Rattle.oberon_productions.specs.Machine.{section_parts}
use Rattle.oberon_productions.specs.Tests.{is_symbol}
use Rattle.oberon_productions.proofs.Descending.{via, entered, fewer, exits, onto, behind, after_some}
use Rattle.oberon_productions.proofs.Steps.{skip}
use Rattle.oberon_productions.proofs.DeclarationJoins.{mapped_push, mapped_depth}
use Rattle.oberon_tree.specs.Print.{print_next_section}
use Rattle.oberon_tree.specs.Levels.{depth_of_next_section}
use Rattle.oberon_tree.specs.Memory.{next_section_tree}
use Rattle.oberon_productions.specs.Expected as want
use Rattle.oberon_scan.specs.declared.token.Symbol.TheVariants as symbols
use Rattle.oberon_productions.proofs.formal.more_sections.Goals as goal

pub returns-in_err-section : goal.returns-in_err-section
returns-in_err-section c =
    exits _ _ c.from_residual.result c.in_err-section.field-0.0 c.from_residual.ensures.1
    (via (section_parts c.args.levels ++ []) ((want.sections c.args.levels) ∷ []) _ c.args.given.now _ (λ s. ((want.sections c.args.levels) ∷ s)) (λ s. c.loop-semicolon.invariant.moves s ∙ entered (want.sections c.args.levels) (section_parts c.args.levels ++ (want.sections c.args.levels ∷ [])) s _ _ _ c.in-Some.ensures.some refl) c.in_err-section.ensures)

pub loop-semicolon-preserved : goal.loop-semicolon-preserved
loop-semicolon-preserved c =
    rw c.in_ok-push.ensures.items (record {
      spelled = after_some c.loop-semicolon.invariant (onto c.in-Some.ensures.some (behind c.in_ok-section.ensures refl)) ∙ sym (mapped_push print_next_section next_section_tree c.loop-semicolon.items.items (record { semicolon = c.in-Some.semicolon; section = c.in_ok-section.section }) c.in_ok-section.after.now);
      moves = λ s. c.loop-semicolon.invariant.moves s ∙ entered (want.sections c.args.levels) (section_parts c.args.levels ++ (want.sections c.args.levels ∷ [])) s _ _ _ c.in-Some.ensures.some refl ∙ c.in_ok-section.ensures.moves ((want.sections c.args.levels) ∷ s);
      within = rw (mapped_depth depth_of_next_section next_section_tree c.loop-semicolon.items.items (record { semicolon = c.in-Some.semicolon; section = c.in_ok-section.section })) omega (arith, c.loop-semicolon.invariant.within, c.in_ok-section.ensures.within);
      shorter = omega (arith, c.loop-semicolon.invariant.shorter, fewer c.in-Some.ensures.some, c.in_ok-section.ensures.shorter);
    })

pub returns : goal.returns
returns c =
    record {
      spelled = c.loop-semicolon.invariant.spelled;
      moves = λ s. c.loop-semicolon.invariant.moves s ∙ skip (want.sections c.args.levels) (is_symbol symbols.Semicolon) (section_parts c.args.levels ++ (want.sections c.args.levels ∷ [])) s c.loop-semicolon.rest.now refl (λ k. refl) c.in_default.ensures.none;
      within = c.loop-semicolon.invariant.within;
      shorter = c.loop-semicolon.invariant.shorter;
    }
