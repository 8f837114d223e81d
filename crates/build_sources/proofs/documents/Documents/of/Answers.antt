use Rattle.std.proofs.Common.{sym, subst}
use Rattle.std.specs.Borrow.{Bor}
use Rattle.ob_text.specs.Held.{held_at}
use Rattle.ob_text.specs.declared.held.Held.TheVariants.{Absent}
use Rattle.build_rules.specs.World.{handed_at}
use Rattle.build_sources.specs.Documents.{IsDocument, IsDocumentOf, handed_out}
use Rattle.build_sources.specs.declared.documents.Document.{Document}
use Rattle.build_sources.proofs.ReadLaws.{document_of}
use Rattle.build_sources.proofs.documents.Documents.of.Goals as goal

pub returns : goal.returns
returns c =
    let entries = handed_out c.args.self.now in
    let path = c.args.path.now in
    subst (λ (d : Bor Document). IsDocument (handed_at entries path) d.now) (sym c.unwrap_or.ensures)
    (document_of (held_at entries path) c.get.result _ (subst (IsDocumentOf (held_at entries path)) (sym c.get.ensures.value) (c.requires.known path)) (subst (IsDocument Absent) (sym c.deref.ensures) c.requires.absent))
