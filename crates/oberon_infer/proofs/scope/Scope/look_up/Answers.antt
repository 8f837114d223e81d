use Rattle.std.specs.Borrow.{Bor}
use Rattle.std.specs.Option.{option_map, option_copied}
use Rattle.std.proofs.Common.{ap, sym, ◌∙◌, Option}
use Rattle.oberon_infer.specs.declared.scope.Binding.{Binding}
use Rattle.oberon_infer.specs.Memory.{plain_meaning}
use Rattle.oberon_infer.proofs.ScopeMemory.{found_is}
use Rattle.oberon_infer.proofs.scope.Scope.look_up.Goals as goal

pub returns-in-Some : goal.returns-in-Some
returns-in-Some c =
    let meant = λ (o : Option Binding). option_map (λ (b : Binding). plain_meaning b.meaning) o in
    sym (ap (λ (o : Option (Bor Binding)). meant (option_copied o)) c.in-Some.is) ∙ ap meant c.get.ensures.value ∙ found_is c.args.name.now c.args.self.now.bindings.entries

pub returns-in-None : goal.returns-in-None
returns-in-None c =
    let meant = λ (o : Option Binding). option_map (λ (b : Binding). plain_meaning b.meaning) o in
    sym (ap (λ (o : Option (Bor Binding)). meant (option_copied o)) c.in-None.is) ∙ ap meant c.get.ensures.value ∙ found_is c.args.name.now c.args.self.now.bindings.entries
