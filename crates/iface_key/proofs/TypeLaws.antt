-- Types that are read.
use Rattle.std.specs.Prelude.{ℕ, ◌-◌, ◌<◌, ◌≤◌, ◌≡◌, ◌++◌, Bool, true, false, List, [], ◌∷◌, Option, Some, map, refl}
use Rattle.std.proofs.Common.{ap, sym, ◌∙◌, subst, arith}
use Rattle.std.specs.declared.alloc.Global.{Global}
use Rattle.std.specs.declared.sync.Arc.{Arc}
use Rattle.std.specs.declared.vec.Vec.{Vec}
use Rattle.oberon_types.specs.declared.origin.Origin.{Origin}
use Rattle.oberon_types.specs.declared.ty.Field.{Field}
use Rattle.oberon_types.specs.declared.ty.RecordTy.{RecordTy}
use Rattle.oberon_types.specs.Types.{TyTree, unknown_ty, integer_ty, byte_ty, char_ty, boolean_ty, set_ty, string_ty, array_ty, open_ty, record_ty, record_of, BaseTree, no_base, base_of, FieldsTree, no_fields, more_fields}
use Rattle.oberon_types.specs.Memory.{plain_ty, plain_record, base_option, fields_list}
use Rattle.iface_key.specs.Keys.{number_then, bool_then, text_then, option_then, origin_then, type_then, record_then, base_then, fields_then}
use Rattle.iface_key.specs.Views.{nesting_of_fields}
use Rattle.iface_key.specs.Read.{BeginsWithNone, Any}
use Rattle.iface_key.specs.ReadTypes.{FieldTree, plain_field, field_then, IsNestedIn, IsRecordIn, IsBaseIn, IsFieldIn, IsNextIn, AreFieldsIn}
use Rattle.iface_key.proofs.OneWay.{OneWay, number_one, bool_one, text_one, option_one, origin_one, type_one, base_one, fields_one}
use Rattle.iface_key.proofs.Listed.{Listing}
use Rattle.iface_key.proofs.PartLaws.{no_option_item}

pub no_type_empty : (IsPart : TyTree → Type 0) (text : List ℕ) → text ≡ [] → BeginsWithNone type_then IsPart text
no_type_empty IsPart text empty (string_ty n) rest is e = cc
no_type_empty IsPart text empty _ rest is e = cc

module _ (t : ℕ) (behind : List ℕ) where
  pub no_string : (IsPart : TyTree → Type 0) → t ≡ 6 → BeginsWithNone number_then Any behind → BeginsWithNone type_then IsPart (t ∷ behind)
  no_string IsPart tag none (string_ty n) rest is e = none n rest tt cc
  no_string IsPart tag none _ rest is e = cc

  pub no_array_length : (IsPart : TyTree → Type 0) → t ≡ 7 → BeginsWithNone number_then Any behind → BeginsWithNone type_then IsPart (t ∷ behind)
  no_array_length IsPart tag none (array_ty n s) rest is e = none n (type_then s rest) tt cc
  no_array_length IsPart tag none _ rest is e = cc

  pub no_array_element : (depth n : ℕ) (more : List ℕ) → t ≡ 7 → behind ≡ number_then n more → BeginsWithNone type_then (IsNestedIn (depth - 1)) more → BeginsWithNone type_then (IsNestedIn depth) (t ∷ behind)
  no_array_element depth n more tag read none (array_ty m s) rest is e =
      let h : number_then n more ≡ number_then m (type_then s rest) = cc in
      none s rest (omega arith) ((number_one n m _ _ h).1)
  no_array_element depth n more tag read none _ rest is e = cc

  pub no_open_element : (depth : ℕ) → t ≡ 8 → BeginsWithNone type_then (IsNestedIn (depth - 1)) behind → BeginsWithNone type_then (IsNestedIn depth) (t ∷ behind)
  no_open_element depth tag none (open_ty s) rest is e = none s rest (omega arith) cc
  no_open_element depth tag none _ rest is e = cc

  pub no_record_type : (depth : ℕ) → t ≡ 9 → BeginsWithNone record_then (IsRecordIn depth) behind → BeginsWithNone type_then (IsNestedIn depth) (t ∷ behind)
  no_record_type depth tag none (record_ty r) rest is e = none r rest is cc
  no_record_type depth tag none _ rest is e = cc

  pub no_flat_type : (depth : ℕ) → 6 < t → depth ≡ 0 → BeginsWithNone type_then (IsNestedIn depth) (t ∷ behind)
  no_flat_type depth above flat unknown_ty rest is e = let k : t ≡ 0 = cc in omega arith
  no_flat_type depth above flat integer_ty rest is e = let k : t ≡ 1 = cc in omega arith
  no_flat_type depth above flat byte_ty rest is e = let k : t ≡ 2 = cc in omega arith
  no_flat_type depth above flat char_ty rest is e = let k : t ≡ 3 = cc in omega arith
  no_flat_type depth above flat boolean_ty rest is e = let k : t ≡ 4 = cc in omega arith
  no_flat_type depth above flat set_ty rest is e = let k : t ≡ 5 = cc in omega arith
  no_flat_type depth above flat (string_ty n) rest is e = let k : t ≡ 6 = cc in omega arith
  no_flat_type depth above flat (array_ty n s) rest is e = omega arith
  no_flat_type depth above flat (open_ty s) rest is e = omega arith
  no_flat_type depth above flat (record_ty (record_of o b fs n)) rest is e = omega arith

  pub no_type_tag : (IsPart : TyTree → Type 0) → 9 < t → BeginsWithNone type_then IsPart (t ∷ behind)
  no_type_tag IsPart above unknown_ty rest is e = let k : t ≡ 0 = cc in omega arith
  no_type_tag IsPart above integer_ty rest is e = let k : t ≡ 1 = cc in omega arith
  no_type_tag IsPart above byte_ty rest is e = let k : t ≡ 2 = cc in omega arith
  no_type_tag IsPart above char_ty rest is e = let k : t ≡ 3 = cc in omega arith
  no_type_tag IsPart above boolean_ty rest is e = let k : t ≡ 4 = cc in omega arith
  no_type_tag IsPart above set_ty rest is e = let k : t ≡ 5 = cc in omega arith
  no_type_tag IsPart above (string_ty n) rest is e = let k : t ≡ 6 = cc in omega arith
  no_type_tag IsPart above (array_ty n s) rest is e = let k : t ≡ 7 = cc in omega arith
  no_type_tag IsPart above (open_ty s) rest is e = let k : t ≡ 8 = cc in omega arith
  no_type_tag IsPart above (record_ty r) rest is e = let k : t ≡ 9 = cc in omega arith

-- ---- records

pub no_flat_record : (depth : ℕ) (text : List ℕ) → depth ≡ 0 → BeginsWithNone record_then (IsRecordIn depth) text
no_flat_record depth text flat (record_of o b fs n) rest is e = omega arith

module _ (depth : ℕ) (text : List ℕ) where
  pub no_record_origin : BeginsWithNone origin_then Any text → BeginsWithNone record_then (IsRecordIn depth) text
  no_record_origin none (record_of o b fs n) rest is e = none o _ tt e

  module _ (t1 : List ℕ) (origin : Origin) (read1 : text ≡ origin_then origin t1) where
    pub no_record_base : BeginsWithNone base_then (IsBaseIn (depth - 1)) t1 → BeginsWithNone record_then (IsRecordIn depth) text
    no_record_base none (record_of o b fs n) rest is e =
        let h = origin_one origin o _ _ (sym read1 ∙ e) in
        none b _ (omega arith) h.1

    module _ (t2 : List ℕ) (base : BaseTree) (read2 : t1 ≡ base_then base t2) where
      pub no_record_fields : BeginsWithNone fields_then (AreFieldsIn (depth - 1)) t2 → BeginsWithNone record_then (IsRecordIn depth) text
      no_record_fields none (record_of o b fs n) rest is e =
          let h = origin_one origin o _ _ (sym read1 ∙ e) in
          let k = base_one base b _ _ (sym read2 ∙ h.1) in
          none fs _ (omega arith) k.1

      module _ (t3 : List ℕ) (fields : FieldsTree) (read3 : t2 ≡ fields_then fields t3) where
        pub no_record_size : BeginsWithNone number_then Any t3 → BeginsWithNone record_then (IsRecordIn depth) text
        no_record_size none (record_of o b fs n) rest is e =
            let h = origin_one origin o _ _ (sym read1 ∙ e) in
            let k = base_one base b _ _ (sym read2 ∙ h.1) in
            let l = fields_one fields fs _ _ (sym read3 ∙ k.1) in
            none n _ tt l.1

pub record_read : (text t1 t2 t3 behind : List ℕ) (o : Origin) (b : Option (Arc RecordTy Global)) (fs : Vec Field Global) (n : ℕ) (x : RecordTy) → text ≡ origin_then o t1 → t1 ≡ base_then (base_option b) t2 → t2 ≡ fields_then (fields_list fs.items) t3 → t3 ≡ number_then n behind → plain_record x ≡ record_of o (base_option b) (fields_list fs.items) n → text ≡ record_then (plain_record x) behind
record_read text t1 t2 t3 behind o b fs n x read1 read2 read3 read4 made =
    read1
    ∙ ap (origin_then o) (read2 ∙ ap (base_then (base_option b)) (read3 ∙ ap (fields_then (fields_list fs.items)) read4))
    ∙ ap (λ r. record_then r behind) (sym made)

pub no_base_mark : (depth : ℕ) (text : List ℕ) → BeginsWithNone bool_then Any text → BeginsWithNone base_then (IsBaseIn depth) text
no_base_mark depth text none no_base rest is e = none false rest tt e
no_base_mark depth text none (base_of r) rest is e = none true (record_then r rest) tt e

pub no_base_record : (depth : ℕ) (text behind : List ℕ) (b : Bool) → text ≡ bool_then b behind → b ≡ true → BeginsWithNone record_then (IsRecordIn depth) behind → BeginsWithNone base_then (IsBaseIn depth) text
no_base_record depth text behind b read is_true none no_base rest is e =
    let r : text ≡ 1 ∷ behind = read ∙ ap (λ x. bool_then x behind) is_true in cc
no_base_record depth text behind b read is_true none (base_of x) rest is e =
    let r : text ≡ 1 ∷ behind = read ∙ ap (λ x. bool_then x behind) is_true in none x rest is cc

-- ---- fields

abbrev made_field : List ℕ → Bool → TyTree → FieldTree
made_field name exported t = record { name = name; exported = exported; ty = t }

field_one : OneWay field_then
field_one a b r s e =
    let h = text_one a.name b.name _ _ e in
    let k = bool_one a.exported b.exported _ _ h.1 in
    let l = type_one a.ty b.ty r s k.1 in
    (ap (λ x. made_field x a.exported a.ty) h.0 ∙ ap (λ x. made_field b.name x a.ty) k.0 ∙ ap (made_field b.name b.exported) l.0, l.1)

abbrev pub fields_from : List FieldTree → FieldsTree
fields_from [] = no_fields
fields_from (f ∷ fs) = more_fields f.name f.exported f.ty (fields_from fs)

fields_to : FieldsTree → List FieldTree
fields_to no_fields = []
fields_to (more_fields name exported t fs) = made_field name exported t ∷ fields_to fs

fields_there : (fs : FieldsTree) → fs ≡ fields_from (fields_to fs)
unfolding fields_to
fields_there no_fields = refl
fields_there (more_fields name exported t fs) = ap (more_fields name exported t) (fields_there fs)

abbrev pub listed_then : List FieldTree → List ℕ → List ℕ
listed_then fs rest = fields_then (fields_from fs) rest

pub field_listing : Listing (option_then field_then) listed_then
field_listing = record { ended = λ r. refl; more = λ x xs r. refl; one = option_one field_then field_one }

abbrev pub AreListedIn : ℕ → List FieldTree → Type 0
AreListedIn depth fs = nesting_of_fields (fields_from fs) ≤ depth

pub next_is_in : (depth : ℕ) (xs zs : List FieldTree) (z : FieldTree) → AreListedIn depth (xs ++ z ∷ zs) → IsNextIn depth (Some z)
next_is_in depth [] zs z h = omega (arith, h)
next_is_in depth (x ∷ xs) zs z h = next_is_in depth xs zs z (omega (arith, h))

pub none_listed : (depth : ℕ) (text : List ℕ) → BeginsWithNone listed_then (AreListedIn depth) text → BeginsWithNone fields_then (AreFieldsIn depth) text
none_listed depth text none fs rest is e =
    let P : FieldsTree → Type 0 = λ gs. nesting_of_fields gs ≤ depth in
    none (fields_to fs) rest (subst P (fields_there fs) is) (e ∙ ap (λ gs. fields_then gs rest) (fields_there fs))

pub fields_are : (fs : List Field) → fields_from (map plain_field fs) ≡ fields_list fs
fields_are [] = refl
fields_are (f ∷ fs) = ap (more_fields f.name f.exported (plain_ty f.ty)) (fields_are fs)

module _ (depth : ℕ) (text behind : List ℕ) (b : Bool) (read : text ≡ bool_then b behind) (is_true : b ≡ true) where
  here : BeginsWithNone field_then (IsFieldIn depth) behind → BeginsWithNone (option_then field_then) (IsNextIn depth) text
  here none = no_option_item field_then (IsNextIn depth) (IsFieldIn depth) text behind b (λ x is. is) read is_true none

  pub no_field_name : BeginsWithNone text_then Any behind → BeginsWithNone (option_then field_then) (IsNextIn depth) text
  no_field_name none = here (λ f rest is e. none f.name _ tt e)

  module _ (t1 : List ℕ) (name : List ℕ) (read1 : behind ≡ text_then name t1) where
    pub no_field_mark : BeginsWithNone bool_then Any t1 → BeginsWithNone (option_then field_then) (IsNextIn depth) text
    no_field_mark none = here (λ f rest is e. none f.exported _ tt ((text_one name f.name _ _ (sym read1 ∙ e)).1))

    module _ (t2 : List ℕ) (exported : Bool) (read2 : t1 ≡ bool_then exported t2) where
      pub no_field_type : BeginsWithNone type_then (IsNestedIn depth) t2 → BeginsWithNone (option_then field_then) (IsNextIn depth) text
      no_field_type none = here (λ f rest is e. none f.ty rest is ((bool_one exported f.exported _ _ (sym read2 ∙ (text_one name f.name _ _ (sym read1 ∙ e)).1)).1))

pub field_read : (text behind t1 t2 t3 : List ℕ) (b : Bool) (name : List ℕ) (exported : Bool) (t : TyTree) → text ≡ bool_then b behind → b ≡ true → behind ≡ text_then name t1 → t1 ≡ bool_then exported t2 → t2 ≡ type_then t t3 → text ≡ option_then field_then (Some (made_field name exported t)) t3
field_read text behind t1 t2 t3 b name exported t read is_true read1 read2 read3 =
    read ∙ ap (λ x. bool_then x behind) is_true ∙ ap (λ x. 1 ∷ x) (read1 ∙ ap (text_then name) (read2 ∙ ap (bool_then exported) read3))
