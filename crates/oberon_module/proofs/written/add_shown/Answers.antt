use Rattle.std.proofs.Common.{List, Option, ap, sym, ◌∙◌}
use Rattle.oberon_types.specs.declared.ty.Field.{Field}
use Rattle.oberon_types.specs.Memory.{fields_list}
use Rattle.oberon_module.specs.Written.{fields_then, field_then}
use Rattle.oberon_module.proofs.WrittenLaws.{then_last}
use Rattle.oberon_module.proofs.written.add_shown.Goals as goal

pub returns-in_ok-push : goal.returns-in_ok-push
returns-in_ok-push c =
    λ rest. ap (λ (ys : List Field). fields_then (fields_list ys) rest) c.in_ok-push.ensures.items
    ∙ then_last c.args.kept.now.items c.in-Some.field rest
    ∙ ap (λ (s : Option Field). fields_then (fields_list c.args.kept.now.items) (field_then s rest)) (sym c.in-Some.is)
