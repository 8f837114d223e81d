use Rattle.std.proofs.Common.{ap, ◌∙◌, List, ℕ}
use Rattle.indexmap.specs.IndexMap.{insert_entry}
use Rattle.oberon_types.specs.Types.{same_name}
use Rattle.oberon_infer.specs.Memory.{plain_bindings}
use Rattle.oberon_infer.proofs.ScopeMemory.{new_last}
use Rattle.oberon_infer.proofs.scope.Scope.declare.Goals as goal

pub returns : goal.returns
returns c =
    let es = c.args.self.now.bindings.entries in
    ap plain_bindings c.in_ok-old.ensures.entries
    ∙ ap (λ (x : List ℕ). plain_bindings (insert_entry same_name es x c.args.binding)) c.in_ok-name.ensures
    ∙ new_last c.args.name.now c.args.binding es c.requires
