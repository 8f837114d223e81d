use Rattle.std.proofs.Common.{ap, sym, ◌∙◌}
use Rattle.oberon_types.specs.Types.{FieldsTree}
use Rattle.oberon_types.specs.Names.{push_field}
use Rattle.oberon_types.specs.Memory.{plain_ty}
use Rattle.oberon_types.proofs.PartLaws.{list_push}
use Rattle.oberon_types.proofs.build.parts_of.Goals as goal

pub fields-preserved : goal.fields-preserved
fields-preserved c =
    let f = c.in-Some.field in (
      c.in_ok-add.ensures.within,
      c.in_ok-add.ensures.adds ∙ ap (λ (fs : FieldsTree). push_field fs f.name f.exported (plain_ty f.ty)) c.fields.invariant.1 ∙ sym (list_push c.fields.yielded f),
    )
