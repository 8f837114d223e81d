use Rattle.std.proofs.Common.{List, map, ap, ◌∙◌}
use Rattle.oberon_types.specs.declared.names.FieldName.{FieldName}
use Rattle.oberon_types.specs.Types.{FieldsTree, record_of}
use Rattle.oberon_types.specs.Memory.{plain_ty, base_option, named_fields}
use Rattle.oberon_types.proofs.TypeMemory.{record_made}
use Rattle.oberon_types.proofs.ty.RecordTy.of.Goals as goal

pub returns : goal.returns
returns c =
    let types = c.in_ok-names.field-0.types in
    record_made c.args.origin c.args.base c.in_ok-new.field-0 types c.args.size
    ∙ ap (λ (fs : FieldsTree). record_of c.args.origin (base_option c.args.base) fs c.args.size)
    (ap (λ (names : List FieldName). named_fields names (map plain_ty types.items)) (c.in_ok-new.ensures.ok ∙ c.in_ok-from_vec.ensures) ∙ c.in_ok-names.ensures)
