use Rattle.std.specs.Prelude.{◌≡◌, List, ℕ}
use Rattle.std.proofs.Common.{ap, sym, subst, ◌∙◌}
use Rattle.std.proofs.lemmas.Result.{IfOk-weaker}
use Rattle.oberon_tree.specs.Memory.{tree_of}
use Rattle.oberon_types.specs.Memory.{plain_view}
use Rattle.oberon_rules.specs.Local.{Local, view_in}
use Rattle.oberon_module.specs.declared.check.Checked.{Checked}
use Rattle.oberon_module.specs.Checked.{IsChecked}
use Rattle.oberon_module.specs.Reading.{IsRead, imports_read}
use Rattle.oberon_module.specs.Views.{plain_views}
use Rattle.oberon_module.proofs.ReadingLaws.{tree_checked}
use Rattle.oberon_module.proofs.check.check_read.Goals as goal

pub returns-in-Parsed : goal.returns-in-Parsed
returns-in-Parsed c =
    let held = c.args.held.now in
    let me = c.args.stem.now in
    let views = view_in (plain_views c.args.views.now.entries) in
    let tree = tree_of c.in-Parsed.tree in
    let has = subst (IsRead held) c.in-Parsed.is c.requires in
    record {
      local =
          IfOk-weaker c.check_tree.result (λ (f : Checked). IsChecked c.text_of.result.now me views tree f.list.items f.imports.items (plain_view f.view)) (λ (f : Checked). Local held me views f.list.items f.imports.items (plain_view f.view))
          (λ f found. tree_checked held tree me views f.list.items f.imports.items (plain_view f.view) has (subst (λ (text : List ℕ). IsChecked text me views tree f.list.items f.imports.items (plain_view f.view)) c.text_of.ensures found))
          c.check_tree.ensures;
      imports =
          IfOk-weaker c.check_tree.result (λ (f : Checked). IsChecked c.text_of.result.now me views tree f.list.items f.imports.items (plain_view f.view)) (λ (f : Checked). f.imports.items ≡ imports_read c.args.reading.now)
          (λ f found. found.imported ∙ ap imports_read (sym c.in-Parsed.is))
          c.check_tree.ensures;
    }
