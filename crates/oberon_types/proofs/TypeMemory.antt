-- Types in memory: what the parts of a record are by the struct's fields, where it is made and where it is read.
use Rattle.std.specs.Prelude.{ℕ, List, [], ◌∷◌, map, zero, suc, ◌≡◌, ◌||◌, Bool, true, false, cond, ◌&&◌, Option, Some, None, slice_index_or, refl}
use Rattle.std.specs.Borrow.{Bor}
use Rattle.std.specs.Option.{option_map, unwrap_or}
use Rattle.std.proofs.Common.{ap, sym, ◌∙◌}
use Rattle.std.specs.declared.alloc.Global.{Global}
use Rattle.std.specs.declared.vec.Vec.{Vec}
use Rattle.std.specs.declared.sync.Arc.{Arc}
use Rattle.std.specs.declared.boxed.Box.{Box}
use denote.Hole.Carrier.{roll}
use Rattle.oberon_types.specs.declared.origin.Origin.{Origin}
use Rattle.oberon_types.specs.declared.ty.Ty.{Ty}
use Rattle.oberon_types.specs.declared.ty.Ty.TheVariants as tys
use Rattle.oberon_types.specs.declared.names.FieldName.{FieldName}
use Rattle.oberon_types.specs.declared.names.FieldNames.{FieldNames}
use Rattle.oberon_types.specs.declared.ty.Ty.TheBlock.{back-RecordTy-base, Row_of-Ty, end_of-Ty, more_of-Ty, items-the_row-Ty, hidden-the_row-Ty-0, items_hidden-the_row-Ty-0}
use Rattle.oberon_types.specs.declared.ty.RecordTy.{RecordTy, roll-RecordTy, out-RecordTy, roll-out-RecordTy}
use Rattle.oberon_types.specs.Types.{same_name, TyTree, unknown_ty, RecordTree, FieldsTree, record_of, base_of, extends, base_extends, origin_of, same_origin}
use Rattle.oberon_types.specs.Sizes.{sees, or_else, field_in, field_of, field_of_base}
use Rattle.oberon_types.specs.Names.{seen_in}
use Rattle.oberon_types.specs.Memory.{plain_ty, plain_record, base_held, base_option, types_row, types_in, fields_in, named_fields, type_at, known_or_unknown}

types_items : {m : _} (row : Row_of-Ty m) → types_row row ≡ map plain_ty (items-the_row-Ty _ row)
types_items end_of-Ty = refl
types_items (more_of-Ty t row) = ap (λ (ts : List TyTree). plain_ty t ∷ ts) (types_items row)

pub types_hidden : (v : Vec Ty Global) → types_row (hidden-the_row-Ty-0 v) ≡ map plain_ty v.items
types_hidden v = types_items (hidden-the_row-Ty-0 v) ∙ ap (map plain_ty) (items_hidden-the_row-Ty-0 v)

base_back : (o : Option (Arc RecordTy Global)) → base_held (back-RecordTy-base o) ≡ base_option o
base_back None = refl
base_back (Some b) = refl

pub record_made : (o : Origin) (b : Option (Arc RecordTy Global)) (names : Box FieldNames Global) (ts : Vec Ty Global) (n : ℕ) → plain_record (roll-RecordTy (record { origin = o; base = b; names = names; types = ts; size = n })) ≡ record_of o (base_option b) (named_fields names.value (map plain_ty ts.items)) n
unfolding roll-RecordTy roll
record_made o b names ts n = ap (λ y. record_of o y (named_fields names.value (types_row (hidden-the_row-Ty-0 ts))) n) (base_back b) ∙ ap (λ (us : List TyTree). record_of o (base_option b) (named_fields names.value us) n) (types_hidden ts)

pub record_out : (x : RecordTy) → plain_record x ≡ record_of (out-RecordTy x).origin (base_option (out-RecordTy x).base) (named_fields (out-RecordTy x).names.value (map plain_ty (out-RecordTy x).types.items)) (out-RecordTy x).size
record_out x = ap plain_record (sym (roll-out-RecordTy x)) ∙ record_made _ _ _ _ _

pub extends_out : (x : RecordTy) (o : Origin) → base_extends (base_option (out-RecordTy x).base) o ≡ extends (plain_record x) o
extends_out x o = sym (ap (λ r. extends r o) (record_out x))

pub extends_direct : (x : RecordTy) (b : Arc RecordTy Global) (v : RecordTy) (o : Origin) → (out-RecordTy x).base ≡ Some b → v ≡ b.value → (same_origin (out-RecordTy v).origin o || extends (plain_record v) o) ≡ extends (plain_record x) o
extends_direct x b v o h e = ap (λ a. same_origin a o || extends (plain_record v) o) (sym (ap origin_of (record_out v))) ∙ ap (λ (r : RecordTy). base_extends (base_of (plain_record r)) o) e ∙ ap (λ y. base_extends (base_option y) o) (sym h) ∙ extends_out x o

-- ---- fields

types_made : (o : Origin) (b : Option (Arc RecordTy Global)) (names : Box FieldNames Global) (ts : Vec Ty Global) (n : ℕ) → types_in (roll-RecordTy (record { origin = o; base = b; names = names; types = ts; size = n })) ≡ map plain_ty ts.items
unfolding roll-RecordTy roll
types_made o b names ts n = types_hidden ts

pub types_out : (x : RecordTy) → types_in x ≡ map plain_ty (out-RecordTy x).types.items
types_out x = ap types_in (sym (roll-out-RecordTy x)) ∙ types_made _ _ _ _ _

known_now : (r : Option (Bor Ty)) → known_or_unknown r ≡ plain_ty (unwrap_or (option_map (λ t. t.now) r) tys.Unknown)
known_now None = refl
known_now (Some t) = refl

plain_index : (ts : List Ty) (at : ℕ) → plain_ty (slice_index_or ts at tys.Unknown) ≡ slice_index_or (map plain_ty ts) at unknown_ty
plain_index [] at = refl
plain_index (t ∷ ts) zero = refl
plain_index (t ∷ ts) (suc at) = plain_index ts at

pub known_is : (r : Option (Bor Ty)) (ts : List Ty) (at : ℕ) → unwrap_or (option_map (λ t. t.now) r) tys.Unknown ≡ slice_index_or ts at tys.Unknown → known_or_unknown r ≡ type_at (map plain_ty ts) (Some at)
known_is r ts at e = known_now r ∙ ap plain_ty e ∙ plain_index ts at

pub record_types : (x : RecordTy) → plain_record x ≡ record_of (out-RecordTy x).origin (base_option (out-RecordTy x).base) (named_fields (out-RecordTy x).names.value (types_in x)) (out-RecordTy x).size
record_types x = record_out x ∙ ap (λ (ts : List TyTree). record_of (out-RecordTy x).origin (base_option (out-RecordTy x).base) (named_fields (out-RecordTy x).names.value ts) (out-RecordTy x).size) (sym (types_out x))

abbrev fields_tree : RecordTree → FieldsTree
fields_tree (record_of o b fs n) = fs

pub fields_out : (x : RecordTy) → fields_in x ≡ named_fields (out-RecordTy x).names.value (types_in x)
fields_out x = ap fields_tree (record_types x)

choose : (ts : List TyTree) (f : FieldName) (rest : Option FieldName) (b : Bool) → cond b (Some (type_at ts f.ty)) (option_map (λ g. type_at ts g.ty) rest) ≡ option_map (λ g. type_at ts g.ty) (cond b (Some f) rest)
choose ts f rest true = refl
choose ts f rest false = refl

field_named : (me x : List ℕ) (o : Origin) (fs : List FieldName) (ts : List TyTree) → field_in me o x (named_fields fs ts) ≡ option_map (λ f. type_at ts f.ty) (seen_in me o x fs)
field_named me x o [] ts = refl
field_named me x o (f ∷ fs) ts =
    let sought = same_name f.name x && sees me o f.exported in
    ap (λ (r : Option TyTree). cond sought (Some (type_at ts f.ty)) r) (field_named me x o fs ts) ∙ choose ts f (seen_in me o x fs) sought

pub field_found : (me x : List ℕ) (r : RecordTy) (found : Option FieldName) → found ≡ seen_in me (out-RecordTy r).origin x (out-RecordTy r).names.value → or_else (option_map (λ f. type_at (types_in r) f.ty) found) (field_of_base me x (base_option (out-RecordTy r).base)) ≡ field_of me x (plain_record r)
field_found me x r found e =
    let behind = field_of_base me x (base_option (out-RecordTy r).base) in
    ap (λ (y : Option TyTree). or_else y behind) (ap (option_map (λ f. type_at (types_in r) f.ty)) e ∙ sym (field_named me x (out-RecordTy r).origin (out-RecordTy r).names.value (types_in r)))
    ∙ sym (ap (field_of me x) (record_types r))
