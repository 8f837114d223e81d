use Rattle.std.proofs.Common.{ℕ, List, sym, subst}
use Rattle.std.specs.Prelude.{IfSome}
use Rattle.std.proofs.lemmas.Result.{IfOk-weaker}
use Rattle.ob_text.specs.Held.{IsReadable}
use Rattle.ob_text.specs.declared.held.Held.{Held}
use Rattle.oberon_module.specs.Reading.{IsRead}
use Rattle.oberon_module.specs.Views.{plain_views}
use Rattle.oberon_module.specs.declared.check.Checked.{Checked}
use Rattle.oberon_rules.specs.Local.{Local, view_in}
use Rattle.oberon_types.specs.Memory.{plain_view}
use Rattle.build_rules.specs.Views.{IsCheck}
use Rattle.build_rules.specs.World.{held_in}
use Rattle.target_graph.specs.Workspace.{stem_at}
use Rattle.build_sources.specs.Documents.{AreImportsOf}
use Rattle.build_sources.specs.Sources.{world}
use Rattle.build_sources.proofs.DocumentLaws.{checked_imports}
use Rattle.build_sources.proofs.sources.Sources.check_by.Goals as goal

pub check-requires-clause-text : goal.check-requires-clause-text
check-requires-clause-text c = subst IsReadable (sym c.document-document.ensures.held_is) c.document-document.ensures.readable

pub check-requires-clause-read : goal.check-requires-clause-read
check-requires-clause-read c =
    subst (λ (held : Held). IfSome c.document-document.result.now.reading (λ reading. IsRead held reading.value)) (sym c.document-document.ensures.held_is) c.document-document.ensures.read

pub returns-clause-check : goal.returns-clause-check
returns-clause-check c =
    let w = world c.args.self.now in
    let p = c.args.index in
    let views = view_in (plain_views c.args.views.now.entries) in
    IfOk-weaker c.check.result
    (λ (f : Checked). Local c.document-document.result.now.held.value c.in_ok-stem.stem views f.list.items f.imports.items (plain_view f.view))
    (λ (f : Checked). IsCheck w p views f.list.items f.imports.items (plain_view f.view))
    (λ f found.
    subst (λ (held : Held). Local held (stem_at w.targets p) views f.list.items f.imports.items (plain_view f.view)) c.document-document.ensures.held_is
    (subst (λ (me : List ℕ). Local c.document-document.result.now.held.value me views f.list.items f.imports.items (plain_view f.view)) c.in_ok-stem.ensures found))
    c.check.ensures

pub returns-clause-imports : goal.returns-clause-imports
returns-clause-imports c =
    let stem : List ℕ = c.in_ok-stem.stem in
    let views = view_in (plain_views c.args.views.now.entries) in
    IfOk-weaker c.check.result
    (λ (f : Checked). Local c.document-document.result.now.held.value stem views f.list.items f.imports.items (plain_view f.view))
    (λ (f : Checked). AreImportsOf (held_in (world c.args.self.now) c.args.index) f.imports.items)
    (λ f found. subst (λ (held : Held). AreImportsOf held f.imports.items) c.document-document.ensures.held_is
    (checked_imports stem views f.list.items f.imports.items (plain_view f.view) c.document-document.result.now.held.value found))
    c.check.ensures
