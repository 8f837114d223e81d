use Rattle.std.specs.Prelude.{◌-◌, ◌^◌, min}
use Rattle.std.proofs.Common.{ap, ◌∙◌}
use Rattle.oberon_types.specs.Memory.{base_option, fields_list}
use Rattle.oberon_types.specs.Sizes.{within, size_of_base, size_of_fields}
use Rattle.oberon_types.proofs.SizeLaws.{within_cut}
use Rattle.oberon_types.proofs.build.record_type.Goals as goal

pub returns : goal.returns
returns c = c.unless_large.ensures ∙ ap (within c.args.me.now) c.in_ok-ty.ensures ∙ within_cut c.args.me.now c.args.origin (base_option c.args.base) (fields_list c.args.fields.items) _ _ (size_of_base (base_option c.args.base)) (size_of_fields (fields_list c.args.fields.items)) _ c.base_size.ensures (c.fields_size.ensures ∙ ap (λ fs. min (size_of_fields (fields_list fs)) (2 ^ 32 - 1)) c.as_slice.ensures.value) c.saturating_add-size.ensures
