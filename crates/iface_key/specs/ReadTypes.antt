-- What it means to read types, and how deep they may be nested.
use Rattle.std.specs.Prelude.{ℕ, ◌≤◌, List, Option, Some, None, Bool}
use Rattle.std.specs.declared.alloc.Global.{Global}
use Rattle.std.specs.declared.vec.Vec.{Vec}
use Rattle.std.specs.declared.sync.Arc.{Arc}
use Rattle.oberon_types.specs.declared.origin.Step.{Step}
use Rattle.oberon_types.specs.declared.ty.Field.{Field}
use Rattle.oberon_types.specs.declared.ty.RecordTy.{RecordTy}
use Rattle.oberon_types.specs.Types.{TyTree, RecordTree, BaseTree, FieldsTree}
use Rattle.oberon_types.specs.Memory.{plain_ty, plain_record, fields_list}
use Rattle.iface_key.specs.Keys.{text_then, bool_then, type_then}
use Rattle.iface_key.specs.Views.{nesting, nesting_of_record, nesting_of_base, nesting_of_fields}

abbrev pub steps_of : Vec Step Global → List Step
steps_of v = v.items

abbrev pub record_at : Arc RecordTy Global → RecordTree
record_at a = plain_record a.value

abbrev pub fields_of : Vec Field Global → FieldsTree
fields_of v = fields_list v.items

abbrev pub IsNestedIn : ℕ → TyTree → Type 0
IsNestedIn depth t = nesting t ≤ depth

abbrev pub IsRecordIn : ℕ → RecordTree → Type 0
IsRecordIn depth r = nesting_of_record r ≤ depth

abbrev pub IsBaseIn : ℕ → BaseTree → Type 0
IsBaseIn depth b = nesting_of_base b ≤ depth

abbrev pub AreFieldsIn : ℕ → FieldsTree → Type 0
AreFieldsIn depth fs = nesting_of_fields fs ≤ depth

-- ---- one field at a time

pub record FieldTree : Type 0 where
  pub name : List ℕ
  pub exported : Bool
  pub ty : TyTree

abbrev pub plain_field : Field → FieldTree
plain_field f = record { name = f.name; exported = f.exported; ty = plain_ty f.ty }

abbrev pub field_then : FieldTree → List ℕ → List ℕ
field_then f rest = text_then f.name (bool_then f.exported (type_then f.ty rest))

abbrev pub IsFieldIn : ℕ → FieldTree → Type 0
IsFieldIn depth f = nesting f.ty ≤ depth

abbrev pub IsNextIn : ℕ → Option FieldTree → Type 0
IsNextIn depth None = Unit {0}
IsNextIn depth (Some f) = IsFieldIn depth f
