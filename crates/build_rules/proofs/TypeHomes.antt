-- The homes of what names mean and of types at a place: the module's own, and those of what its names mean.
use Rattle.std.specs.Prelude.{ℕ, Bool, true, false, if◌then◌else◌, List, [], ◌∷◌, is_some, Option, Some, None}
use Rattle.oberon_tree.specs.declared.leaf.Ident.{Ident}
use Rattle.oberon_tree.specs.declared.leaf.IdentDef.{IdentDef}
use Rattle.oberon_tree.specs.declared.leaf.Member.{Member}
use Rattle.oberon_tree.specs.declared.leaf.Qualident.{Qualident}
use Rattle.oberon_tree.specs.declared.types.Base.{Base}
use Rattle.oberon_tree.specs.Trees.{ExprsTree, exprs_of, MoreExprsTree, no_more_exprs, more_exprs, TypeTree, named_type, array_type, record_type, FieldListsTree, no_fields, some_fields, MoreFieldsTree, no_more_fields, more_fields, FieldsTree, fields_of}
use Rattle.oberon_tree.specs.Trees.{record_of as record_text}
use Rattle.oberon_types.specs.declared.origin.Origin.{Origin}
use Rattle.oberon_types.specs.declared.origin.Step.TheVariants as steps
use Rattle.oberon_types.specs.Types.{TyTree, unknown_ty, integer_ty, byte_ty, char_ty, boolean_ty, set_ty, string_ty, array_ty, open_ty, record_ty, BaseTree, no_base, base_of, same_name}
use Rattle.oberon_types.specs.Types.{FieldsTree as Fields, no_fields as no_more, more_fields as field_before}
use Rattle.oberon_types.specs.Entities.{EntityTree, constant_entity, type_entity, variable_entity, procedure_entity, Export, missing_view, broken_view, cyclic_view, exports_view}
use Rattle.oberon_types.specs.Sizes.{too_large, record_from}
use Rattle.oberon_rules.specs.Scopes.{Meaning, unknown_meaning, constant_meaning, type_meaning, variable_meaning, procedure_meaning, word_meaning, import_meaning, Entry, Scopes, look_up, predeclared}
use Rattle.oberon_rules.specs.Names.{nearest, look_up_option, means, known, name_is, exported_as, entity_is, member_is, member_of, named, type_of_meaning, type_named}
use Rattle.oberon_rules.specs.TypeRules.{constant_is, length_meant, limited, array_of, dimensions, array_is, ident_defs, first_new, deeper, element_steps, element_origin, list_origin, add_field, is_taken, add_fields, BaseMeant, without_base, with_base, unclear_base, bad_base, base_meant, base_is, base_tree, record_is, type_is, fields_are, more_fields_are, list_is}
use Rattle.build_rules.proofs.Homes.{AreHomes, AreRecordHomes, AreBaseHomes, AreFieldHomes, AreSignatureHomes, AreEntityHomes, AreExportHomes, AreViewHomes}

-- what holds of both holds of the one that is chosen
pub pick : {A : Type 0} (Q : A → Type 0) (b : Bool) (x y : A) → Q x → Q y → Q (if b then x else y)
pick Q true x y h k = h
pick Q false x y h k = k

-- ---- scopes

abbrev pub AreMeaningHomes : (List ℕ → Type 0) → Meaning → Type 0
AreMeaningHomes P unknown_meaning = Unit {0}
AreMeaningHomes P (constant_meaning v) = Unit {0}
AreMeaningHomes P (type_meaning t) = AreHomes P t
AreMeaningHomes P (variable_meaning t a) = AreHomes P t
AreMeaningHomes P (procedure_meaning p) = AreSignatureHomes P p
AreMeaningHomes P (word_meaning x) = Unit {0}
AreMeaningHomes P (import_meaning v) = AreViewHomes P v

abbrev pub AreMeantHomes : (List ℕ → Type 0) → Option Meaning → Type 0
AreMeantHomes P None = Unit {0}
AreMeantHomes P (Some m) = AreMeaningHomes P m

abbrev pub AreEntriesHomes : (List ℕ → Type 0) → List Entry → Type 0
AreEntriesHomes P [] = Unit {0}
AreEntriesHomes P (e ∷ es) = AreMeaningHomes P e.meaning × AreEntriesHomes P es

abbrev pub AreLocalsHomes : (List ℕ → Type 0) → Option (List Entry) → Type 0
AreLocalsHomes P None = Unit {0}
AreLocalsHomes P (Some es) = AreEntriesHomes P es

pub record AreScopeHomes (P : List ℕ → Type 0) (s : Scopes) : Type 0 where
  pub locals : AreLocalsHomes P s.locals
  pub globals : AreEntriesHomes P s.globals

abbrev pub AreFoundHomes : (List ℕ → Type 0) → Option EntityTree → Type 0
AreFoundHomes P None = Unit {0}
AreFoundHomes P (Some e) = AreEntityHomes P e

predeclared_homes : (P : List ℕ → Type 0) → AreEntriesHomes P predeclared
unfolding predeclared
predeclared_homes P = (tt, (tt, (tt, (tt, (tt, (tt, (tt, (tt, (tt, (tt, (tt, (tt, (tt, (tt, (tt, (tt, (tt, (tt, tt))))))))))))))))))

-- ---- what names mean

module _ (P : List ℕ → Type 0) where
  look_up_homes : (x : List ℕ) (es : List Entry) → AreEntriesHomes P es → AreMeantHomes P (look_up x es)
  look_up_homes x [] h = tt
  look_up_homes x (e ∷ es) h = pick (AreMeantHomes P) (same_name x e.name) (Some e.meaning) (look_up x es) h.0 (look_up_homes x es h.1)

  locals_homes : (x : List ℕ) (es : Option (List Entry)) → AreLocalsHomes P es → AreMeantHomes P (look_up_option x es)
  locals_homes x None h = tt
  locals_homes x (Some es) h = look_up_homes x es h

  nearest_homes : (m n : Option Meaning) → AreMeantHomes P m → AreMeantHomes P n → AreMeantHomes P (nearest m n)
  nearest_homes None n h k = k
  nearest_homes (Some m) n h k = h

  means_homes : (s : Scopes) (x : List ℕ) → AreScopeHomes P s → AreMeantHomes P (means s x)
  means_homes s x h =
      nearest_homes (look_up_option x s.locals) (nearest (look_up x s.globals) (look_up x predeclared)) (locals_homes x s.locals h.locals)
      (nearest_homes (look_up x s.globals) (look_up x predeclared) (look_up_homes x s.globals h.globals) (look_up_homes x predeclared (predeclared_homes P)))

  known_homes : (m : Option Meaning) → AreMeantHomes P m → AreMeaningHomes P (known m)
  known_homes None h = tt
  known_homes (Some m) h = h

  name_homes : (s : Scopes) (x : List ℕ) → AreScopeHomes P s → AreMeaningHomes P (name_is s x)
  name_homes s x h = known_homes (means s x) (means_homes s x h)

  exported_homes : (x : List ℕ) (es : List Export) → AreExportHomes P es → AreFoundHomes P (exported_as x es)
  exported_homes x [] h = tt
  exported_homes x (e ∷ es) h = pick (AreFoundHomes P) (same_name e.name x) (Some e.entity) (exported_as x es) h.0 (exported_homes x es h.1)

  entity_homes : (e : Option EntityTree) → AreFoundHomes P e → AreMeaningHomes P (entity_is e)
  entity_homes None h = tt
  entity_homes (Some (constant_entity v)) h = tt
  entity_homes (Some (type_entity t)) h = h
  entity_homes (Some (variable_entity t)) h = h
  entity_homes (Some (procedure_entity p)) h = h

  member_homes : (m : Meaning) (at : Ident) → AreMeaningHomes P m → AreMeaningHomes P (member_is m at)
  member_homes unknown_meaning at h = tt
  member_homes (constant_meaning v) at h = tt
  member_homes (type_meaning t) at h = tt
  member_homes (variable_meaning t a) at h = tt
  member_homes (procedure_meaning p) at h = tt
  member_homes (word_meaning x) at h = tt
  member_homes (import_meaning missing_view) at h = tt
  member_homes (import_meaning broken_view) at h = tt
  member_homes (import_meaning cyclic_view) at h = tt
  member_homes (import_meaning (exports_view es)) at h = entity_homes (exported_as at.name es) (exported_homes at.name es h)

  member_of_homes : (m : Meaning) (x : Option Member) → AreMeaningHomes P m → AreMeaningHomes P (member_of m x)
  member_of_homes m None h = h
  member_of_homes m (Some x) h = member_homes m x.name h

  type_of_homes : (m : Meaning) → AreMeaningHomes P m → AreHomes P (type_of_meaning m)
  type_of_homes unknown_meaning h = tt
  type_of_homes (constant_meaning v) h = tt
  type_of_homes (type_meaning t) h = h
  type_of_homes (variable_meaning t a) h = tt
  type_of_homes (procedure_meaning p) h = tt
  type_of_homes (word_meaning x) h = tt
  type_of_homes (import_meaning v) h = tt

  pub type_named_homes : (s : Scopes) (q : Qualident) → AreScopeHomes P s → AreHomes P (type_named s q)
  type_named_homes s q h = type_of_homes (named s q) (member_of_homes (name_is s q.first.name) q.member (name_homes s q.first.name h))

  -- ---- types

  pub limited_homes : (me : List ℕ) (t : TyTree) → AreHomes P t → AreHomes P (limited me t)
  limited_homes me t h = pick (AreHomes P) (too_large me t) unknown_ty t tt h

  array_of_homes : (me : List ℕ) (n : Option ℕ) (t : TyTree) → AreHomes P t → AreHomes P (array_of me n t)
  array_of_homes me None t h = tt
  array_of_homes me (Some n) t h = limited_homes me (array_ty n t) h

  dimensions_homes : (me : List ℕ) (s : Scopes) (more : MoreExprsTree) (t : TyTree) → AreHomes P t → AreHomes P (dimensions me s more t)
  dimensions_homes me s no_more_exprs t h = h
  dimensions_homes me s (more_exprs comma e more) t h = array_of_homes me (length_meant (constant_is me s e)) (dimensions me s more t) (dimensions_homes me s more t h)

  array_homes : (me : List ℕ) (s : Scopes) (es : ExprsTree) (t : TyTree) → AreHomes P t → AreHomes P (array_is me s es t)
  array_homes me s (exprs_of e more) t h = array_of_homes me (length_meant (constant_is me s e)) (dimensions me s more t) (dimensions_homes me s more t h)

  add_field_homes : (fs : Fields) (name : List ℕ) (exported : Bool) (t : TyTree) → AreFieldHomes P fs → AreHomes P t → AreFieldHomes P (add_field fs name exported t)
  add_field_homes no_more name exported t h k = (k, tt)
  add_field_homes (field_before a b u fs) name exported t h k = (h.0, add_field_homes fs name exported t h.1 k)

  add_fields_homes : (me : List ℕ) (o : Origin) (b : BaseTree) (fs : Fields) (ds : List IdentDef) (t : TyTree) → AreFieldHomes P fs → AreHomes P t → AreFieldHomes P (add_fields me o b fs ds t)
  add_fields_homes me o b fs [] t h k = h
  add_fields_homes me o b fs (d ∷ ds) t h k =
      pick (AreFieldHomes P) (is_taken me o b fs d.name.name) (add_fields me o b fs ds t) (add_fields me o b (add_field fs d.name.name (is_some d.export) t) ds t)
      (add_fields_homes me o b fs ds t h k)
      (add_fields_homes me o b (add_field fs d.name.name (is_some d.export) t) ds t (add_field_homes fs d.name.name (is_some d.export) t h k) k)

  abbrev AreMeantBaseHomes : BaseMeant → Type 0
  AreMeantBaseHomes without_base = Unit {0}
  AreMeantBaseHomes (with_base r) = AreRecordHomes P r
  AreMeantBaseHomes unclear_base = Unit {0}
  AreMeantBaseHomes bad_base = Unit {0}

  base_meant_homes : (t : TyTree) → AreHomes P t → AreMeantBaseHomes (base_meant t)
  base_meant_homes unknown_ty h = tt
  base_meant_homes integer_ty h = tt
  base_meant_homes byte_ty h = tt
  base_meant_homes char_ty h = tt
  base_meant_homes boolean_ty h = tt
  base_meant_homes set_ty h = tt
  base_meant_homes (string_ty n) h = tt
  base_meant_homes (array_ty n t) h = tt
  base_meant_homes (open_ty t) h = tt
  base_meant_homes (record_ty r) h = h

  base_homes : (s : Scopes) (b : Option Base) → AreScopeHomes P s → AreMeantBaseHomes (base_is s b)
  base_homes s None h = tt
  base_homes s (Some b) h = base_meant_homes (type_named s b.name) (type_named_homes s b.name h)

  base_tree_homes : (b : BaseMeant) → AreMeantBaseHomes b → AreBaseHomes P (base_tree b)
  base_tree_homes without_base h = tt
  base_tree_homes (with_base r) h = h
  base_tree_homes unclear_base h = tt
  base_tree_homes bad_base h = tt

  record_homes : (me : List ℕ) (o : Origin) (b : BaseMeant) (fs : Fields) → P o.«module» → AreMeantBaseHomes b → AreFieldHomes P fs → AreHomes P (record_is me o b fs)
  record_homes me o unclear_base fs own h k = tt
  record_homes me o bad_base fs own h k = tt
  record_homes me o without_base fs own h k = limited_homes me (record_ty (record_from o no_base fs)) (own, tt, k)
  record_homes me o (with_base r) fs own h k = limited_homes me (record_ty (record_from o (base_of r) fs)) (own, h, k)

  steps_home : (o : Origin) (more : MoreExprsTree) → P o.«module» → P (element_steps o more).«module»
  steps_home o no_more_exprs own = own
  steps_home o (more_exprs comma e more) own = steps_home (deeper o steps.Element) more own

  element_home : (o : Origin) (es : ExprsTree) → P o.«module» → P (element_origin o es).«module»
  element_home o (exprs_of e more) own = steps_home (deeper o steps.Element) more own

  list_home : (o : Origin) (d : Option IdentDef) → P o.«module» → P (list_origin o d).«module»
  list_home o None own = own
  list_home o (Some d) own = own

  module _ (me : List ℕ) (s : Scopes) (scope : AreScopeHomes P s) where
    mutual
      pub type_homes : (o : Origin) → P o.«module» → (t : TypeTree) → AreHomes P (type_is me s o t)
      type_homes o own (named_type q) = type_named_homes s q scope
      type_homes o own (array_type word es of_word t) = array_homes me s es (type_is me s (element_origin o es) t) (type_homes (element_origin o es) (element_home o es own) t)
      type_homes o own (record_type (record_text word b lists last)) =
          record_homes me o (base_is s b) (fields_are me s o (base_tree (base_is s b)) lists) own (base_homes s b scope) (fields_homes o own (base_tree (base_is s b)) lists)

      fields_homes : (o : Origin) → P o.«module» → (b : BaseTree) (lists : FieldListsTree) → AreFieldHomes P (fields_are me s o b lists)
      fields_homes o own b no_fields = tt
      fields_homes o own b (some_fields l more) = more_fields_homes o own b (list_is me s o b no_more l) more (list_homes o own b no_more l tt)

      more_fields_homes : (o : Origin) → P o.«module» → (b : BaseTree) (fs : Fields) (more : MoreFieldsTree) → AreFieldHomes P fs → AreFieldHomes P (more_fields_are me s o b fs more)
      more_fields_homes o own b fs no_more_fields h = h
      more_fields_homes o own b fs (more_fields semicolon l more) h = more_fields_homes o own b (list_is me s o b fs l) more (list_homes o own b fs l h)

      list_homes : (o : Origin) → P o.«module» → (b : BaseTree) (fs : Fields) (l : FieldsTree) → AreFieldHomes P fs → AreFieldHomes P (list_is me s o b fs l)
      list_homes o own b fs (fields_of names colon t) h =
          add_fields_homes me o b fs (ident_defs names) (type_is me s (list_origin o (first_new (is_taken me o b fs) (ident_defs names))) t) h
          (type_homes (list_origin o (first_new (is_taken me o b fs) (ident_defs names))) (list_home o (first_new (is_taken me o b fs) (ident_defs names)) own) t)
