use Rattle.std.specs.Prelude.{List}
use Rattle.std.proofs.Common.{subst, arith, ◌∙◌}
use Rattle.oberon_types.specs.declared.names.FieldName.{FieldName}
use Rattle.oberon_types.specs.Types.{FieldsTree}
use Rattle.oberon_types.specs.Memory.{types_in, named_fields}
use Rattle.iface_key.specs.Keys.{fields_then}
use Rattle.iface_key.specs.Printed.{Prints}
use Rattle.iface_key.proofs.PutLaws.{on_ok, printed_all, printed_record, fields_named}
use Rattle.iface_key.proofs.printing.+put.Goals as goal

pub put_fields-returns : goal.put_fields-returns
put_fields-returns t c = on_ok c.put_byte-2.result (λ ended. subst (λ (fs : FieldsTree). Prints (fields_then fs) c.args.key.now.items c.put_byte-2.new.key.items) (fields_named c.args.given.now _ (c.as_slice-field-items.ensures ∙ c.deref.ensures)) (printed_all (λ (fs : List FieldName). fields_then (named_fields fs (types_in c.args.given.now))) c.as_slice-field-items.result.now c.loop-field.field-index c.args.key.now.items c.loop-field.key.items c.put_byte-2.new.key.items (omega arith) c.loop-field.invariant ended)) c.put_byte-2.ensures

pub put_record-returns : goal.put_record-returns
put_record-returns t c = on_ok c.put_number.result (printed_record c.args.given.now c.args.key.now.items c.put_origin.new.key.items c.put_base.new.key.items c.put_fields.new.key.items c.put_number.new.key.items c.in_ok-put_origin.ensures c.in_ok-put_base.ensures c.in_ok-put_fields.ensures) c.put_number.ensures
