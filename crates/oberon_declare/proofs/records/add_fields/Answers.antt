use Rattle.std.proofs.Common.{[], refl}
use Rattle.oberon_declare.proofs.records.add_fields.Goals as goal

pub loop-next-init : goal.loop-next-init
loop-next-init c = record { fields = refl; says = record { goes = λ rest. refl }; indexed = (c.in_ok-add_field.ensures []).indexed }
