use Rattle.std.proofs.Common.{ap, ◌∙◌}
use Rattle.oberon_rules.specs.Expressions.{ex_of, type_meant}
use Rattle.oberon_infer.specs.Bare.{meant_of_module}
use Rattle.oberon_infer.specs.Memory.{plain_named, plain_type_option}
use Rattle.oberon_infer.proofs.PartLaws.{member_meant_parts}
use Rattle.oberon_infer.proofs.bare.member_meant.Goals as goal

pub returns : goal.returns
returns c =
    c.meant_of_module.ensures
    ∙ ap (λ y. meant_of_module y (plain_type_option c.type_meant.result)) c.ex_of.ensures
    ∙ ap (meant_of_module (ex_of (plain_named c.args.named))) (c.type_meant.ensures ∙ ap type_meant c.member.ensures)
    ∙ member_meant_parts (plain_named c.args.named) c.args.at.now
