use Rattle.std.proofs.Common.{◌≡◌, ℕ, List, sym, ap, subst, ◌∙◌}
use Rattle.std.specs.Prelude.{Contains, IfSome, length}
use Rattle.ob_text.specs.Held.{IsReadable}
use Rattle.ob_text.specs.declared.held.Held.{Held}
use Rattle.oberon_module.specs.Reading.{IsRead}
use Rattle.oberon_types.specs.declared.entity.View.{View}
use Rattle.worker_pool.specs.Jobs.{CheckParts, plain_check}
use Rattle.build_rules.specs.Views.{HasView}
use Rattle.build_rules.specs.World.{Imports, held_in}
use Rattle.build_sources.specs.Known.{view_at}
use Rattle.build_sources.specs.Sources.{world}
use Rattle.build_checks.proofs.StandLaws.{import_among}
use Rattle.build_checks.specs.Work.{IsWorkOf}
use Rattle.build_checks.proofs.checks.Checks.work.Goals as goal

pub views-requires-clause-within : goal.views-requires-clause-within
views-requires-clause-within c = c.requires.checks.so_far.within c.args.index c.requires.among

pub views-requires-clause-all : goal.views-requires-clause-all
views-requires-clause-all c = ap (λ (vs : List View). length vs) c.as_slice.ensures.value ∙ c.requires.checks.so_far.kept_all

pub stem-requires : goal.stem-requires
stem-requires c = c.requires.checks.so_far.within c.args.index c.requires.among

pub document-document-requires-clause-within : goal.document-document-requires-clause-within
document-document-requires-clause-within c = c.requires.checks.so_far.within c.args.index c.requires.among

pub reading_of-requires : goal.reading_of-requires
reading_of-requires c =
    let d = c.document-document.result.now in
    subst (λ (held : Held). IfSome d.reading (λ reading. IsRead held reading.value)) (sym c.document-document.ensures.held_is) c.document-document.ensures.read

pub new-requires-clause-readable : goal.new-requires-clause-readable
new-requires-clause-readable c = subst IsReadable (sym (c.in_ok-held.ensures.cases ∙ c.document-document.ensures.held_is)) c.document-document.ensures.readable

pub new-requires-clause-read : goal.new-requires-clause-read
new-requires-clause-read c = subst (λ (held : Held). IfSome c.in_ok-reading.reading (λ reading. IsRead held reading.value)) (sym c.in_ok-held.ensures.cases) c.in_ok-reading.ensures

held_here : (c : goal.After-new) → c.in_ok-held.held.value ≡ held_in (world c.args.self.now.sources) c.args.index
held_here c = c.in_ok-held.ensures.cases ∙ c.document-document.ensures.held_is

pub returns-clause-held : goal.returns-clause-held
returns-clause-held c = ap (λ (x : CheckParts). x.held) c.new.ensures ∙ held_here c

pub returns-clause-work : goal.returns-clause-work
returns-clause-work c = λ keys known.
    let s = c.args.self.now in
    let w = world s.sources in
    let p = c.args.index in
    let far = c.requires.checks.so_far in
    let seen : (q : ℕ) → Imports w p q → HasView w q (view_at s.views.items q) = λ q i.
    (known.each q (import_among w s.wanted.keys s.plan s.views.items s.numbers.items far p q c.requires.among i) (c.requires.clear q i)).0 in
    let imported = c.document-document.ensures.imported in
    let shown = c.in_ok-views.ensures.shown (subst (λ (vs : List View). (q : ℕ) → Imports w p q → HasView w q (view_at vs q)) (sym c.as_slice.ensures.value) seen) in
    subst (λ (x : CheckParts). IsWorkOf w p (plain_check x)) (sym c.new.ensures)
    (record {
      held_is = held_here c;
      stem_is = c.in_ok-stem.ensures;
      shown = λ names has name listed.
          shown c.document-document.result.now.imports.items imported name (subst (λ (ns : List (List ℕ)). Contains ns name) (imported.whole names has) listed);
    })
