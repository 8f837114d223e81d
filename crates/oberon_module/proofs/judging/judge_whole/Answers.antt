use Rattle.std.specs.Prelude.{◌≡◌, List, None}
use Rattle.std.proofs.Common.{ap, ◌∙◌}
use Rattle.oberon_tree.specs.Memory.{module_tree}
use Rattle.oberon_infer.specs.Memory.{plain_scopes}
use Rattle.oberon_rules.specs.Declarations.{decls_behind}
use Rattle.oberon_rules.specs.Module.{import_list, imports_behind, with_decls}
use Rattle.oberon_rules.specs.Scopes.{Entry, Scopes}
use Rattle.oberon_module.specs.Views.{views_of}
use Rattle.oberon_module.proofs.JudgeLaws.{decls_inside}
use Rattle.oberon_module.proofs.judging.judge_whole.Goals as goal

pub procedures-requires : goal.procedures-requires
procedures-requires c =
    let me = c.args.me.now in
    let views = views_of c.args.views in
    let m = module_tree c.args.root.now in
    let two = plain_scopes c.declarations.new.scopes in
    let behind : two ≡ with_decls me views m =
    c.in_ok-declarations.ensures.behind
    ∙ ap (λ (s : Scopes). decls_behind me s m.declarations)
    (c.in_ok-imports.ensures.behind
    ∙ ap (λ (gs : List Entry). imports_behind views (record { procedure = None; locals = None; globals = gs }) (import_list m.imports)) c.new.ensures) in
    decls_inside me views m two behind
