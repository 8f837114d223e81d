use Rattle.std.proofs.Common.{sym, ap, ◌∙◌}
use Rattle.std.specs.Option.{option_copied}
use Rattle.std.proofs.lemmas.Result.{IfOk-weaker}
use Rattle.iface_key.specs.Keys.{key_of_view}
use Rattle.oberon_module.proofs.ImportLaws.{view_or, found_view}
use Rattle.build_checks.proofs.fact.key_of_import.Goals as goal

pub returns-in-Some : goal.returns-in-Some
returns-in-Some c =
    IfOk-weaker c.key_of.result _ _
    (λ key is. is ∙ ap key_of_view (sym (ap (λ o. view_or (option_copied o)) c.in-Some.is) ∙ ap view_or c.get.ensures.value ∙ found_view c.args.name.now c.args.views.now.entries))
    c.key_of.ensures

pub returns-in-None : goal.returns-in-None
returns-in-None c =
    IfOk-weaker c.key_of-in-None.result _ _
    (λ key is. is ∙ ap key_of_view (sym (ap (λ o. view_or (option_copied o)) c.in-None.is) ∙ ap view_or c.get.ensures.value ∙ found_view c.args.name.now c.args.views.now.entries))
    c.key_of-in-None.ensures
