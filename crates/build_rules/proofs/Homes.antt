-- The homes of types: the modules whose records stand in them. A type with homes elsewhere, written out, is what the
-- module sees of it.
use Rattle.std.specs.Prelude.{ℕ, ◌≡◌, false, List, [], ◌∷◌, map, Option, Some, None, refl}
use Rattle.std.specs.Option.{option_map}
use Rattle.std.proofs.Common.{ap, ◌∙◌}
use Rattle.oberon_types.specs.Types.{TyTree, unknown_ty, integer_ty, byte_ty, char_ty, boolean_ty, set_ty, string_ty, array_ty, open_ty, record_ty, RecordTree, record_of, BaseTree, no_base, base_of, FieldsTree, no_fields, more_fields, same_name}
use Rattle.oberon_types.specs.Entities.{ParamTree, SignatureTree, EntityTree, constant_entity, type_entity, variable_entity, procedure_entity, Export, ViewTree, missing_view, broken_view, cyclic_view, exports_view}
use Rattle.oberon_rules.specs.Views.{written, map_param, map_entity, map_export, map_view, out_view}
use Rattle.oberon_rules.proofs.Seen.{seen}
use Rattle.oberon_rules.proofs.Foreign.{IsForeign, IsForeignRecord, IsForeignBase, IsForeignFields, written_foreign}

-- ---- each home is one of these

abbrev mutual
  pub AreHomes : (List ℕ → Type 0) → TyTree → Type 0
  AreHomes P (array_ty n t) = AreHomes P t
  AreHomes P (open_ty t) = AreHomes P t
  AreHomes P (record_ty r) = AreRecordHomes P r
  AreHomes P _ = Unit {0}

  pub AreRecordHomes : (List ℕ → Type 0) → RecordTree → Type 0
  AreRecordHomes P (record_of o b fs n) = P o.«module» × AreBaseHomes P b × AreFieldHomes P fs

  pub AreBaseHomes : (List ℕ → Type 0) → BaseTree → Type 0
  AreBaseHomes P no_base = Unit {0}
  AreBaseHomes P (base_of r) = AreRecordHomes P r

  pub AreFieldHomes : (List ℕ → Type 0) → FieldsTree → Type 0
  AreFieldHomes P no_fields = Unit {0}
  AreFieldHomes P (more_fields name exported t fs) = AreHomes P t × AreFieldHomes P fs

abbrev pub AreParamHomes : (List ℕ → Type 0) → List ParamTree → Type 0
AreParamHomes P [] = Unit {0}
AreParamHomes P (p ∷ ps) = AreHomes P p.ty × AreParamHomes P ps

abbrev pub AreResultHomes : (List ℕ → Type 0) → Option TyTree → Type 0
AreResultHomes P None = Unit {0}
AreResultHomes P (Some t) = AreHomes P t

abbrev pub AreSignatureHomes : (List ℕ → Type 0) → SignatureTree → Type 0
AreSignatureHomes P p = AreParamHomes P p.params × AreResultHomes P p.result_type

abbrev pub AreEntityHomes : (List ℕ → Type 0) → EntityTree → Type 0
AreEntityHomes P (constant_entity v) = Unit {0}
AreEntityHomes P (type_entity t) = AreHomes P t
AreEntityHomes P (variable_entity t) = AreHomes P t
AreEntityHomes P (procedure_entity p) = AreSignatureHomes P p

abbrev pub AreExportHomes : (List ℕ → Type 0) → List Export → Type 0
AreExportHomes P [] = Unit {0}
AreExportHomes P (e ∷ es) = AreEntityHomes P e.entity × AreExportHomes P es

abbrev pub AreViewHomes : (List ℕ → Type 0) → ViewTree → Type 0
AreViewHomes P missing_view = Unit {0}
AreViewHomes P broken_view = Unit {0}
AreViewHomes P cyclic_view = Unit {0}
AreViewHomes P (exports_view es) = AreExportHomes P es

-- ---- they are among more

module _ (P Q : List ℕ → Type 0) (more : (x : List ℕ) → P x → Q x) where
  mutual
    more_homes : (t : TyTree) → AreHomes P t → AreHomes Q t
    more_homes unknown_ty h = tt
    more_homes integer_ty h = tt
    more_homes byte_ty h = tt
    more_homes char_ty h = tt
    more_homes boolean_ty h = tt
    more_homes set_ty h = tt
    more_homes (string_ty n) h = tt
    more_homes (array_ty n t) h = more_homes t h
    more_homes (open_ty t) h = more_homes t h
    more_homes (record_ty r) h = more_record r h

    more_record : (r : RecordTree) → AreRecordHomes P r → AreRecordHomes Q r
    more_record (record_of o b fs n) h = (more o.«module» h.0, more_base b h.1, more_fields_homes fs h.2)

    more_base : (b : BaseTree) → AreBaseHomes P b → AreBaseHomes Q b
    more_base no_base h = tt
    more_base (base_of r) h = more_record r h

    more_fields_homes : (fs : FieldsTree) → AreFieldHomes P fs → AreFieldHomes Q fs
    more_fields_homes no_fields h = tt
    more_fields_homes (more_fields name exported t fs) h = (more_homes t h.0, more_fields_homes fs h.1)

  more_params : (ps : List ParamTree) → AreParamHomes P ps → AreParamHomes Q ps
  more_params [] h = tt
  more_params (p ∷ ps) h = (more_homes p.ty h.0, more_params ps h.1)

  more_result : (r : Option TyTree) → AreResultHomes P r → AreResultHomes Q r
  more_result None h = tt
  more_result (Some t) h = more_homes t h

  more_entity : (e : EntityTree) → AreEntityHomes P e → AreEntityHomes Q e
  more_entity (constant_entity v) h = tt
  more_entity (type_entity t) h = more_homes t h
  more_entity (variable_entity t) h = more_homes t h
  more_entity (procedure_entity p) h = (more_params p.params h.0, more_result p.result_type h.1)

  more_exports : (es : List Export) → AreExportHomes P es → AreExportHomes Q es
  more_exports [] h = tt
  more_exports (e ∷ es) h = (more_entity e.entity h.0, more_exports es h.1)

  pub more_view : (v : ViewTree) → AreViewHomes P v → AreViewHomes Q v
  more_view missing_view h = tt
  more_view broken_view h = tt
  more_view cyclic_view h = tt
  more_view (exports_view es) h = more_exports es h

-- the module Out has no records
pub out_homes : (P : List ℕ → Type 0) → AreViewHomes P out_view
unfolding out_view
out_homes P = (((tt, tt), tt), (((tt, (tt, tt)), tt), ((tt, tt), (((tt, tt), tt), tt))))

pub out_written : map_view written out_view ≡ out_view
unfolding out_view
out_written = refl

-- ---- where no home is the module, what it sees is what is written out

abbrev pub IsElsewhere : List ℕ → List ℕ → Type 0
IsElsewhere me home = same_name home me ≡ false

module _ (me : List ℕ) where
  mutual
    foreign_homes : (t : TyTree) → AreHomes (IsElsewhere me) t → IsForeign me t
    foreign_homes unknown_ty h = tt
    foreign_homes integer_ty h = tt
    foreign_homes byte_ty h = tt
    foreign_homes char_ty h = tt
    foreign_homes boolean_ty h = tt
    foreign_homes set_ty h = tt
    foreign_homes (string_ty n) h = tt
    foreign_homes (array_ty n t) h = foreign_homes t h
    foreign_homes (open_ty t) h = foreign_homes t h
    foreign_homes (record_ty r) h = foreign_record r h

    foreign_record : (r : RecordTree) → AreRecordHomes (IsElsewhere me) r → IsForeignRecord me r
    foreign_record (record_of o b fs n) h = (h.0, foreign_base b h.1, foreign_fields fs h.2)

    foreign_base : (b : BaseTree) → AreBaseHomes (IsElsewhere me) b → IsForeignBase me b
    foreign_base no_base h = tt
    foreign_base (base_of r) h = foreign_record r h

    foreign_fields : (fs : FieldsTree) → AreFieldHomes (IsElsewhere me) fs → IsForeignFields me fs
    foreign_fields no_fields h = tt
    foreign_fields (more_fields name exported t fs) h = (foreign_homes t h.0, foreign_fields fs h.1)

  type_elsewhere : (t : TyTree) → AreHomes (IsElsewhere me) t → written t ≡ seen me t
  type_elsewhere t h = written_foreign me t (foreign_homes t h)

  params_elsewhere : (ps : List ParamTree) → AreParamHomes (IsElsewhere me) ps → map (map_param written) ps ≡ map (map_param (seen me)) ps
  params_elsewhere [] h = refl
  params_elsewhere (p ∷ ps) h =
      ap (λ (t : TyTree). record { by_var = p.by_var; ty = t } ∷ map (map_param written) ps) (type_elsewhere p.ty h.0)
      ∙ ap (λ (qs : List ParamTree). map_param (seen me) p ∷ qs) (params_elsewhere ps h.1)

  result_elsewhere : (r : Option TyTree) → AreResultHomes (IsElsewhere me) r → option_map written r ≡ option_map (seen me) r
  result_elsewhere None h = refl
  result_elsewhere (Some t) h = ap (λ (u : TyTree). Some u) (type_elsewhere t h)

  entity_elsewhere : (e : EntityTree) → AreEntityHomes (IsElsewhere me) e → map_entity written e ≡ map_entity (seen me) e
  entity_elsewhere (constant_entity v) h = refl
  entity_elsewhere (type_entity t) h = ap (λ (u : TyTree). type_entity u) (type_elsewhere t h)
  entity_elsewhere (variable_entity t) h = ap (λ (u : TyTree). variable_entity u) (type_elsewhere t h)
  entity_elsewhere (procedure_entity p) h =
      ap (λ (ps : List ParamTree). procedure_entity (record { params = ps; result_type = option_map written p.result_type })) (params_elsewhere p.params h.0)
      ∙ ap (λ (r : Option TyTree). procedure_entity (record { params = map (map_param (seen me)) p.params; result_type = r })) (result_elsewhere p.result_type h.1)

  exports_elsewhere : (es : List Export) → AreExportHomes (IsElsewhere me) es → map (map_export written) es ≡ map (map_export (seen me)) es
  exports_elsewhere [] h = refl
  exports_elsewhere (e ∷ es) h =
      ap (λ (x : EntityTree). record { name = e.name; entity = x } ∷ map (map_export written) es) (entity_elsewhere e.entity h.0)
      ∙ ap (λ (xs : List Export). map_export (seen me) e ∷ xs) (exports_elsewhere es h.1)

  pub view_elsewhere : (v : ViewTree) → AreViewHomes (IsElsewhere me) v → map_view written v ≡ map_view (seen me) v
  view_elsewhere missing_view h = refl
  view_elsewhere broken_view h = refl
  view_elsewhere cyclic_view h = refl
  view_elsewhere (exports_view es) h = ap (λ (xs : List Export). exports_view xs) (exports_elsewhere es h)
