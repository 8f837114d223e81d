use Rattle.std.proofs.Common.{◌≡◌, ◌++◌, ◌∷◌, [], sym, subst, arith}
use Rattle.std.specs.List.{All}
use Rattle.std.proofs.lemmas.Grind.{common_steps}
use Rattle.std.proofs.lemmas.List.Elements.{All-push}
use Rattle.bsp_records.specs.Diagnostics.{HasDiagnosticTexts}
use Rattle.bsp_records.specs.Short.{IsShortRecord}
use Rattle.bsp_records.proofs.shown.show_all.Goals as goal

pub returns-clause-texts : goal.returns-clause-texts
returns-clause-texts c = subst (All HasDiagnosticTexts) (sym c.from_vec.ensures) c.loop-diagnostic.invariant.texts

pub returns-clause-short : goal.returns-clause-short
returns-clause-short c = subst (All IsShortRecord) (sym c.from_vec.ensures) c.loop-diagnostic.invariant.short

pub loop-diagnostic-preserved : goal.loop-diagnostic-preserved
loop-diagnostic-preserved c =
    let pushed : c.push.new.self.items ≡ c.loop-diagnostic.records.items ++ c.in_ok-show.field-0 ∷ [] = c.in_ok-push.ensures.items in
    record {
      shown = grind (arith, common_steps);
      texts = subst (All HasDiagnosticTexts) (sym pushed) (All-push HasDiagnosticTexts c.loop-diagnostic.records.items c.in_ok-show.field-0 c.loop-diagnostic.invariant.texts c.in_ok-show.ensures.texts);
      short = subst (All IsShortRecord) (sym pushed) (All-push IsShortRecord c.loop-diagnostic.records.items c.in_ok-show.field-0 c.loop-diagnostic.invariant.short c.in_ok-show.ensures.short);
    }
