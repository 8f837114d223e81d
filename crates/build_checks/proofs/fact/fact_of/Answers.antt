use Rattle.std.proofs.Common.{◌≡◌, ℕ, List, map, sym, ap, subst, ◌∙◌}
use Rattle.check_cache.specs.Facts.{names_of}
use Rattle.iface_key.specs.Keys.{key_of_view}
use Rattle.oberon_module.specs.Views.{plain_views}
use Rattle.oberon_rules.specs.Local.{Local, view_in}
use Rattle.oberon_types.specs.Entities.{ViewTree}
use Rattle.oberon_types.specs.Memory.{plain_view}
use Rattle.worker_pool.specs.Jobs.{CheckParts, plain_check}
use Rattle.build_sources.specs.Documents.{AreImportsOf}
use Rattle.build_checks.proofs.FactLaws.{is_fact, is_kept}
use Rattle.build_checks.proofs.KeptLaws.{Import}
use Rattle.build_checks.specs.Kept.{IsKept}
use Rattle.build_checks.specs.Work.{IsWorkOf}
use Rattle.build_checks.proofs.fact.fact_of.Goals as goal

pub new-requires : goal.new-requires
new-requires c =
    let parts = c.into_parts-parts.result in
    let f : List ℕ → ViewTree = view_in (plain_views parts.2.entries) in
    let imports : List Import = c.args.imports.items in
    let checked = c.args.checked in
    let is = c.into_parts-parts.ensures.parts in
    is_fact f parts.0.value parts.1 imports c.in_ok-keys.keys.items checked
    (subst (λ (x : CheckParts). AreImportsOf x.held (names_of imports)) is c.requires.named)
    (c.in_ok-keys.ensures ∙ ap (map (λ (i : Import). key_of_view (f i.0))) c.as_slice.ensures.value)
    (subst (λ (x : CheckParts). Local x.held x.stem (view_in (plain_views x.views)) checked.list.items checked.imports.items (plain_view checked.view)) is c.requires.checked.found)

pub returns-clause-kept : goal.returns-clause-kept
returns-clause-kept c = λ numbers w p apart work are.
    let parts = c.into_parts-parts.result in
    let f : List ℕ → ViewTree = view_in (plain_views parts.2.entries) in
    let imports : List Import = c.args.imports.items in
    let is = c.into_parts-parts.ensures.parts in
    let own = subst (λ (x : CheckParts). IsWorkOf w p (plain_check x)) is work in
    subst (IsKept numbers w p) (sym c.new.ensures)
    (is_kept f parts.0.value parts.1 imports c.in_ok-keys.keys.items c.args.checked
    (subst (λ (x : CheckParts). AreImportsOf x.held (names_of imports)) is c.requires.named)
    (c.in_ok-keys.ensures ∙ ap (map (λ (i : Import). key_of_view (f i.0))) c.as_slice.ensures.value)
    w p apart own.held_is own.stem_is numbers own.shown are)
