use Rattle.std.proofs.Common.{ap, ◌∙◌}
use Rattle.oberon_types.specs.Memory.{plain_record, base_option, fields_list}
use Rattle.oberon_module.proofs.WrittenLaws.{remade_is}
use Rattle.oberon_module.proofs.written.remade.Goals as goal

pub returns : goal.returns
returns c = remade_is c.args.given.now _ c.in_ok-origin.origin (base_option c.args.base) (fields_list c.args.fields.items) (ap plain_record c.in_ok-new.ensures.ok ∙ c.in_ok-made.ensures) c.in_ok-origin.ensures
