use Rattle.std.proofs.Common.{ap, ◌∙◌}
use Rattle.oberon_infer.specs.Bare.{ex_meant}
use Rattle.oberon_infer.specs.Memory.{plain_named}
use Rattle.oberon_infer.proofs.PartLaws.{meant_parts}
use Rattle.oberon_infer.proofs.bare.type_meant.Goals as goal

pub returns : goal.returns
returns c = c.ex_meant.ensures ∙ ap ex_meant c.ex_of.ensures ∙ meant_parts (plain_named c.args.named)
