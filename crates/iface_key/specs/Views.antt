-- Which plain views a module can show: each name is exported once, and no type is nested deeper than the language's
-- limit on types allows (Sizes.antt of oberon_types): an array, an open array and a record each weigh one more than
-- what they are nested round, and a type weighs 4,096 at most.
use Rattle.std.specs.Prelude.{ℕ, ◌+◌, ◌≤◌, ◌==◌, max, List, map, Option, Some, None}
use Rattle.std.specs.List.{All, IsDistinct}
use Rattle.std.specs.Cmp.Lexicographic.{pointwise}
use Rattle.oberon_types.specs.Types.{TyTree, array_ty, open_ty, record_ty, RecordTree, record_of, BaseTree, no_base, base_of, FieldsTree, no_fields, more_fields}
use Rattle.oberon_types.specs.Entities.{ParamTree, SignatureTree, EntityTree, constant_entity, type_entity, variable_entity, procedure_entity, Export, ViewTree, exports_view}

abbrev mutual
  pub nesting : TyTree → ℕ
  nesting (array_ty count t) = 1 + nesting t
  nesting (open_ty t) = 1 + nesting t
  nesting (record_ty r) = nesting_of_record r
  nesting _ = 0

  pub nesting_of_record : RecordTree → ℕ
  nesting_of_record (record_of o b fs size) = 1 + max (nesting_of_base b) (nesting_of_fields fs)

  pub nesting_of_base : BaseTree → ℕ
  nesting_of_base no_base = 0
  nesting_of_base (base_of r) = nesting_of_record r

  pub nesting_of_fields : FieldsTree → ℕ
  nesting_of_fields no_fields = 0
  nesting_of_fields (more_fields name exported t fs) = max (nesting t) (nesting_of_fields fs)

-- ---- the limit

abbrev pub IsType : TyTree → Type 0
IsType t = nesting t ≤ 4096

abbrev pub IsParam : ParamTree → Type 0
IsParam p = IsType p.ty

abbrev pub AreParams : List ParamTree → Type 0
AreParams ps = All IsParam ps

abbrev pub IsResult : Option TyTree → Type 0
IsResult None = Unit {0}
IsResult (Some t) = IsType t

abbrev pub IsSignature : SignatureTree → Type 0
IsSignature s = AreParams s.params × IsResult s.result_type

abbrev pub IsEntity : EntityTree → Type 0
IsEntity (constant_entity v) = Unit {0}
IsEntity (type_entity t) = IsType t
IsEntity (variable_entity t) = IsType t
IsEntity (procedure_entity s) = IsSignature s

abbrev pub IsExport : Export → Type 0
IsExport e = IsEntity e.entity

abbrev pub export_names : List Export → List (List ℕ)
export_names es = map (λ e. e.name) es

abbrev pub AreExports : List Export → Type 0
AreExports es = IsDistinct (pointwise ◌==◌) (export_names es) × All IsExport es

abbrev pub IsView : ViewTree → Type 0
IsView (exports_view es) = AreExports es
IsView _ = Unit {0}
