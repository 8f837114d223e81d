use Rattle.std.proofs.Common.{◌≡◌, List, ap, sym, ◌∙◌}
use Rattle.std.proofs.lemmas.Result.{IfOk-weaker}
use Rattle.std.proofs.lemmas.List.{at_drop_all}
use Rattle.oberon_types.specs.declared.names.FieldName.{FieldName}
use Rattle.oberon_types.specs.Memory.{plain_ty, plain_record, base_option, fields_list, types_in, named_fields, type_at}
use Rattle.oberon_types.proofs.TypeMemory.{fields_out}
use Rattle.oberon_types.specs.Sizes.{size_of_record}
use Rattle.oberon_types.specs.Types.{record_of, origin_of}
use Rattle.oberon_rules.specs.Views.{written}
use Rattle.oberon_module.specs.Written.{written_record, written_fields, fields_then}
use Rattle.oberon_module.proofs.WrittenLaws.{then_none, kept_when, written_out}
use Rattle.oberon_module.proofs.written.+written.Goals as goal

pub written_field-returns : goal.written_field-returns
written_field-returns t c =
    let f = c.args.field.now in
    let u = type_at (types_in c.args.given.now) f.ty in
    λ rest. kept_when f.exported c.in_ok-copy.field-0 f.name (plain_ty c.in_ok-ty.ty) (written u) (written_fields rest) c.if-not-field.false c.in_ok-copy.ensures c.in_ok-ty.ensures

pub written_fields-returns : goal.written_fields-returns
written_fields-returns t c =
    let x = c.args.given.now in
    sym (then_none (fields_list c.loop-field.kept.items))
    ∙ sym (at_drop_all (λ (ys : List FieldName). fields_then (fields_list c.loop-field.kept.items) (written_fields (named_fields ys (types_in x)))) c.as_slice-field-items.result.now c.loop-field.field-index c.loop-field-test.false)
    ∙ c.loop-field.invariant
    ∙ ap (λ (ys : List FieldName). written_fields (named_fields ys (types_in x))) (c.as_slice-field-items.ensures ∙ c.deref.ensures)
    ∙ sym (ap written_fields (fields_out x))

pub written_record-returns : goal.written_record-returns
written_record-returns t c =
    let x = c.args.given.now in
    let b = base_option c.in_ok-base.base in
    let fs = fields_list c.in_ok-fields.fields.items in
    IfOk-weaker c.remade.result (λ r. plain_record r.value ≡ record_of (origin_of (plain_record x)) b fs (size_of_record (plain_record x))) (λ r. plain_record r.value ≡ written_record (plain_record x))
    (λ r e. e ∙ written_out x b fs c.in_ok-base.ensures c.in_ok-fields.ensures) c.remade.ensures
