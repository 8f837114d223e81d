-- The fields of a record that is made, one after another.
use Rattle.std.proofs.Common.{◌≡◌, ℕ, ◌≤◌, List, [], ◌∷◌, ◌++◌, Option, Some, None, map, length, refl, ap, sym, subst, ◌∙◌, arith, length-append}
use Rattle.std.proofs.lemmas.List.{length-map, map-append, get_or_append_left}
use Rattle.oberon_types.specs.declared.ty.Ty.{Ty}
use Rattle.oberon_types.specs.declared.ty.Field.{Field}
use Rattle.oberon_types.specs.declared.names.FieldName.{FieldName}
use Rattle.oberon_types.specs.Types.{TyTree, unknown_ty, FieldsTree, more_fields}
use Rattle.oberon_types.specs.Names.{IsWithin, AreWithin, push_field}
use Rattle.oberon_types.specs.Memory.{plain_ty, named_fields, type_at, fields_list}

one_within : (n m : ℕ) (at : Option ℕ) → n ≤ m → IsWithin n at → IsWithin m at
one_within n m None l h = h
one_within n m (Some at) l h = omega arith

within_more : (n m : ℕ) (fs : List FieldName) → n ≤ m → AreWithin n fs → AreWithin m fs
within_more n m [] l h = h
within_more n m (f ∷ fs) l h = (one_within n m f.ty l h.0, within_more n m fs l h.1)

within_push : (n : ℕ) (fs : List FieldName) (f : FieldName) → AreWithin n fs → IsWithin n f.ty → AreWithin n (fs ++ f ∷ [])
within_push n [] f h k = (k, h)
within_push n (g ∷ fs) f h k = (h.0, within_push n fs f h.1 k)

type_more : (ts more : List TyTree) (at : Option ℕ) → IsWithin (length ts) at → type_at (ts ++ more) at ≡ type_at ts at
type_more ts more None h = refl
type_more ts more (Some at) h = get_or_append_left ts more unknown_ty at h

named_more : (fs : List FieldName) (ts more : List TyTree) → AreWithin (length ts) fs → named_fields fs (ts ++ more) ≡ named_fields fs ts
named_more [] ts more h = refl
named_more (f ∷ fs) ts more h =
    ap (λ (t : TyTree). more_fields f.name f.exported t (named_fields fs (ts ++ more))) (type_more ts more f.ty h.0)
    ∙ ap (more_fields f.name f.exported (type_at ts f.ty)) (named_more fs ts more h.1)

named_push : (fs : List FieldName) (f : FieldName) (ts : List TyTree) → named_fields (fs ++ f ∷ []) ts ≡ push_field (named_fields fs ts) f.name f.exported (type_at ts f.ty)
named_push [] f ts = refl
named_push (g ∷ fs) f ts = ap (more_fields g.name g.exported (type_at ts g.ty)) (named_push fs f ts)

pub list_push : (fs : List Field) (f : Field) → fields_list (fs ++ f ∷ []) ≡ push_field (fields_list fs) f.name f.exported (plain_ty f.ty)
list_push [] f = refl
list_push (g ∷ fs) f = ap (more_fields g.name g.exported (plain_ty g.ty)) (list_push fs f)

-- the lists before and after
module _ (fs new : List FieldName) (f : FieldName) (ts us more : List Ty) (grows : us ≡ ts ++ more) (pushed : new ≡ fs ++ f ∷ []) where
  pub added_within : AreWithin (length ts) fs → IsWithin (length us) f.ty → AreWithin (length us) new
  added_within h k =
      let l : length ts ≤ length us = omega (arith, ap length grows, length-append ts more) in
      subst (AreWithin (length us)) (sym pushed) (within_push (length us) fs f (within_more (length ts) (length us) fs l h) k)

  pub added : (t : TyTree) → AreWithin (length ts) fs → type_at (map plain_ty us) f.ty ≡ t → named_fields new (map plain_ty us) ≡ push_field (named_fields fs (map plain_ty ts)) f.name f.exported t
  added t h e =
      let plain : map plain_ty us ≡ map plain_ty ts ++ map plain_ty more = ap (map plain_ty) grows ∙ map-append plain_ty ts more in
      let same : named_fields fs (map plain_ty us) ≡ named_fields fs (map plain_ty ts) =
      ap (named_fields fs) plain ∙ named_more fs (map plain_ty ts) (map plain_ty more) (subst (λ n. AreWithin n fs) (sym (length-map ts plain_ty)) h) in
      ap (λ (gs : List FieldName). named_fields gs (map plain_ty us)) pushed ∙ named_push fs f (map plain_ty us)
      ∙ ap (λ (gs : FieldsTree). push_field gs f.name f.exported (type_at (map plain_ty us) f.ty)) same
      ∙ ap (push_field (named_fields fs (map plain_ty ts)) f.name f.exported) e
