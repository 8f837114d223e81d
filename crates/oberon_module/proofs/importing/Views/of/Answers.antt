use Rattle.std.specs.Option.{option_copied}
use Rattle.std.proofs.Common.{ap, sym, ◌∙◌}
use Rattle.oberon_module.proofs.ImportLaws.{view_or, found_view}
use Rattle.oberon_module.proofs.importing.Views.of.Goals as goal

pub returns-in-Some : goal.returns-in-Some
returns-in-Some c = sym (ap (λ o. view_or (option_copied o)) c.in-Some.is) ∙ ap view_or c.get.ensures.value ∙ found_view c.args.name.now c.args.self.known.now.entries

pub returns-in-None : goal.returns-in-None
returns-in-None c = c.requires ∙ sym (ap (λ o. view_or (option_copied o)) c.in-None.is) ∙ ap view_or c.get.ensures.value ∙ found_view c.args.name.now c.args.self.known.now.entries
