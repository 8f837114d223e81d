use Rattle.oberon_module.specs.Views.{plain_views}
use Rattle.oberon_rules.specs.Local.{view_in}
use Rattle.oberon_types.specs.Memory.{plain_view}
use Rattle.build_sources.specs.Sources.{world}
use Rattle.build_sources.proofs.CheckLaws.{checked_list, checked_view, ok_both}
use Rattle.build_sources.proofs.sources.Sources.check.Goals as goal

pub returns-clause-list : goal.returns-clause-list
returns-clause-list c =
    let w = world c.args.self.now in
    let views = view_in (plain_views c.in_ok-views.views.entries) in
    ok_both c.check_by.result c.check_by.ensures.check c.check_by.ensures.imports
    (λ f check are. checked_list w c.args.index views f.list.items f.imports.items (plain_view f.view) check (c.in_ok-views.ensures.shown c.requires.known f.imports.items are) c.are_apart.ensures)

pub returns-clause-view : goal.returns-clause-view
returns-clause-view c =
    let w = world c.args.self.now in
    let views = view_in (plain_views c.in_ok-views.views.entries) in
    ok_both c.check_by.result c.check_by.ensures.check c.check_by.ensures.imports
    (λ f check are. checked_view w c.args.index views f.list.items f.imports.items (plain_view f.view) check (c.in_ok-views.ensures.shown c.requires.known f.imports.items are))
