use Rattle.std.specs.Prelude.{if◌then◌else◌, List, [], map}
use Rattle.std.proofs.Common.{ap, sym, subst, ◌∙◌}
use Rattle.std.proofs.lemmas.List.{append-nil}
use Rattle.oberon_tree.specs.Memory.{tree_of, module_tree}
use Rattle.oberon_types.specs.Entities.{broken_view, exports_view}
use Rattle.oberon_types.specs.Memory.{plain_view}
use Rattle.oberon_infer.specs.declared.said.Said.{Said as OwnSaid}
use Rattle.oberon_infer.specs.Memory.{plain_said, plain_scope}
use Rattle.oberon_rules.specs.Judged.{found, has_error}
use Rattle.oberon_rules.specs.Local.{view_in}
use Rattle.oberon_rules.specs.Order.{IsListed}
use Rattle.oberon_rules.specs.Scopes.{Scopes}
use Rattle.oberon_rules.specs.Views.{written, map_view, exported_in}
use Rattle.oberon_module.specs.Views.{plain_views}
use Rattle.oberon_module.proofs.CheckLaws.{checked}
use Rattle.oberon_module.proofs.check.check_tree.Goals as goal

pub returns : goal.returns
returns c =
    let said = map plain_said c.add_row.new.said.items in
    checked c.args.text.now c.args.stem.now (view_in (plain_views c.args.views.now.entries)) (tree_of c.args.tree.now) (module_tree c.root-module.result.now) said (map plain_said c.judge.new.said.items) (plain_scope c.in_ok-scopes.scopes.globals) c.is_too_large-large.result
    c.root-module.ensures
    (ap (λ (s : Scopes). s.globals) c.in_ok-scopes.ensures.is)
    c.in_ok-scopes.ensures.says
    c.is_too_large-large.ensures
    (sym (append-nil said) ∙ c.in_ok-add_row.ensures.goes [])
    c.in_ok-listed.field-0.items c.in_ok-imports_of.field-0.items (plain_view c.in_ok-view_of.field-0)
    (subst (λ (xs : List OwnSaid). IsListed (found c.args.text.now (map plain_said xs)) c.in_ok-listed.field-0.items) c.as_slice.ensures.value c.in_ok-listed.ensures)
    c.in_ok-imports_of.ensures
    (c.in_ok-view_of.ensures ∙ ap (λ (xs : List OwnSaid). map_view written (if has_error (map plain_said xs) then broken_view else exports_view (exported_in (plain_scope c.in_ok-scopes.scopes.globals)))) c.as_slice-2.ensures.value)
