-- Types, records and fields as views have them, and what they weigh.
use Rattle.std.specs.Prelude.{ℕ, ◌+◌, if◌then◌else◌, [], Option, Some, None}
use Rattle.oberon_types.specs.declared.ty.Field.{Field}
use Rattle.oberon_types.specs.Memory.{plain_ty}
use Rattle.oberon_types.specs.Types.{RecordTree, BaseTree, FieldsTree, no_fields, more_fields}
use Rattle.oberon_types.specs.Sizes.{weight}
use Rattle.oberon_rules.specs.Views.{written, kept_record, kept_base}

abbrev pub written_record : RecordTree → RecordTree
written_record = kept_record (λ o exported. exported)

abbrev pub written_base : BaseTree → BaseTree
written_base = kept_base (λ o exported. exported)

-- the exported fields, whatever the record
abbrev pub written_fields : FieldsTree → FieldsTree
written_fields no_fields = no_fields
written_fields (more_fields name exported t fs) = if exported then more_fields name exported (written t) (written_fields fs) else written_fields fs

-- some fields, and then others
abbrev pub fields_then : FieldsTree → FieldsTree → FieldsTree
fields_then no_fields gs = gs
fields_then (more_fields name exported t fs) gs = more_fields name exported t (fields_then fs gs)

-- a field, if there is one, and then others
abbrev pub field_then : Option Field → FieldsTree → FieldsTree
field_then None gs = gs
field_then (Some f) gs = more_fields f.name f.exported (plain_ty f.ty) gs

-- what the exported fields weigh
abbrev pub weight_of_written : FieldsTree → ℕ
weight_of_written no_fields = 0
weight_of_written (more_fields name exported t fs) = if exported then weight [] (written t) + weight_of_written fs else weight_of_written fs
