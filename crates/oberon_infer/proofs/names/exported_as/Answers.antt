use Rattle.std.specs.Option.{option_map}
use Rattle.std.proofs.Common.{ap, ◌∙◌, Option}
use Rattle.oberon_types.specs.declared.entity.Entity.{Entity}
use Rattle.oberon_types.specs.Memory.{plain_entity}
use Rattle.oberon_infer.proofs.ScopeMemory.{exported_is, copied_is}
use Rattle.oberon_infer.proofs.names.exported_as.Goals as goal

pub returns : goal.returns
returns c =
    copied_is plain_entity c.get.result ∙ ap (λ (o : Option Entity). option_map plain_entity o) c.get.ensures.value ∙ exported_is c.args.name.now c.args.exports.now.entities.entries
