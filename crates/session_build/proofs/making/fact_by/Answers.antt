use Rattle.std.proofs.Common.{◌≡◌, List, ℕ, sym, subst, ◌∙◌}
use Rattle.check_cache.specs.Facts.{names_of}
use Rattle.ob_text.specs.declared.held.Held.{Held}
use Rattle.oberon_rules.specs.Local.{view_in}
use Rattle.oberon_types.specs.Memory.{plain_view}
use Rattle.worker_pool.specs.Jobs.{CheckTree, plain_check}
use Rattle.build_checks.specs.Kept.{AreNumbered}
use Rattle.build_sources.proofs.DocumentLaws.{checked_imports, same_names}
use Rattle.build_sources.specs.Documents.{AreImportsOf}
use Rattle.session_build.proofs.making.fact_by.Goals as goal

pub fact_of-requires-clause-named : goal.fact_of-requires-clause-named
fact_of-requires-clause-named c =
    let check : CheckTree = plain_check c.args.check in
    let checked = c.args.checked in
    subst (AreImportsOf check.held) (sym (c.in_ok-own.ensures.names ∙ c.as_slice.ensures.value))
    (checked_imports check.stem (view_in check.views) checked.list.items checked.imports.items (plain_view checked.view) check.held c.requires.found)

pub returns-clause-kept : goal.returns-clause-kept
returns-clause-kept c = λ keys w p apart work numbered.
    let check : CheckTree = plain_check c.args.check in
    let checked = c.args.checked in
    let imports : List (List ℕ × ℕ) = c.args.imports.now in
    let found : AreImportsOf check.held checked.imports.items =
    checked_imports check.stem (view_in check.views) checked.list.items checked.imports.items (plain_view checked.view) check.held c.requires.found in
    let named : AreImportsOf check.held (names_of imports) = subst (λ (h : Held). AreImportsOf h (names_of imports)) (sym work.held_is) numbered.named in
    let same : names_of imports ≡ c.as_slice.result.now = same_names check.held (names_of imports) checked.imports.items named found ∙ sym c.as_slice.ensures.value in
    c.in_ok-fact.ensures.kept keys w p apart work (subst (AreNumbered keys w p) (sym (c.in_ok-own.ensures.same same)) numbered)
