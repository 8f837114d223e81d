use Rattle.std.proofs.Common.{refl, sym, subst}
use Rattle.std.specs.declared.alloc.Global.{Global}
use Rattle.std.specs.declared.sync.Arc.{Arc}
use Rattle.ob_text.specs.declared.held.Held.{Held}
use Rattle.oberon_module.specs.Reading.{IsRead}
use Rattle.oberon_module.specs.declared.reading.Reading.{Reading}
use Rattle.build_sources.specs.Documents.{AreImportsOf}
use Rattle.build_sources.proofs.DocumentLaws.{read_imports}
use Rattle.build_sources.proofs.documents.Document.read.Goals as goal

pub returns : goal.returns
returns c =
    let held = c.args.held.value in
    let read : IsRead held c.in_ok-reading.reading = subst (λ (h : Held). IsRead h c.in_ok-reading.reading) c.deref.ensures c.in_ok-reading.ensures in
    record {
      held_is = refl;
      readable = c.requires;
      read = subst (IsRead held) (sym c.in_ok-reading-2.ensures.ok) read;
      imported = subst (AreImportsOf held) (sym c.in_ok-imports.ensures) (read_imports held c.in_ok-reading.reading read);
    }
