-- A type of other modules, written out, is what the module sees of it.
use Rattle.std.specs.Prelude.{ℕ, ◌≡◌, Bool, true, false, if◌then◌else◌, List, refl}
use Rattle.std.proofs.Common.{ap, sym, ◌∙◌}
use Rattle.oberon_types.specs.declared.origin.Origin.{Origin}
use Rattle.oberon_types.specs.Types.{TyTree, unknown_ty, integer_ty, byte_ty, char_ty, boolean_ty, set_ty, string_ty, array_ty, open_ty, record_ty, RecordTree, record_of, BaseTree, no_base, base_of, FieldsTree, no_fields, more_fields, same_name}
use Rattle.oberon_types.specs.Sizes.{sees}
use Rattle.oberon_rules.specs.Views.{kept_record, kept_base, kept_fields, written}
use Rattle.oberon_rules.proofs.Seen.{seen}

-- no record in it is of the module of this stem
abbrev mutual
  pub IsForeign : List ℕ → TyTree → Type 0
  IsForeign me (array_ty n t) = IsForeign me t
  IsForeign me (open_ty t) = IsForeign me t
  IsForeign me (record_ty r) = IsForeignRecord me r
  IsForeign me _ = Unit {0}

  pub IsForeignRecord : List ℕ → RecordTree → Type 0
  IsForeignRecord me (record_of o b fs n) = (same_name o.«module» me ≡ false) × IsForeignBase me b × IsForeignFields me fs

  pub IsForeignBase : List ℕ → BaseTree → Type 0
  IsForeignBase me no_base = Unit {0}
  IsForeignBase me (base_of r) = IsForeignRecord me r

  pub IsForeignFields : List ℕ → FieldsTree → Type 0
  IsForeignFields me no_fields = Unit {0}
  IsForeignFields me (more_fields name exported t fs) = IsForeign me t × IsForeignFields me fs

unseen : (me : List ℕ) (o : Origin) (exported : Bool) → same_name o.«module» me ≡ false → exported ≡ sees me o exported
unseen me o true e = refl
unseen me o false e = sym e

mutual
  pub written_foreign : (me : List ℕ) (t : TyTree) → IsForeign me t → written t ≡ seen me t
  written_foreign me unknown_ty h = refl
  written_foreign me integer_ty h = refl
  written_foreign me byte_ty h = refl
  written_foreign me char_ty h = refl
  written_foreign me boolean_ty h = refl
  written_foreign me set_ty h = refl
  written_foreign me (string_ty n) h = refl
  written_foreign me (array_ty n t) h = ap (λ y. array_ty n y) (written_foreign me t h)
  written_foreign me (open_ty t) h = ap (λ y. open_ty y) (written_foreign me t h)
  written_foreign me (record_ty r) h = ap (λ y. record_ty y) (record_foreign me r h)

  record_foreign : (me : List ℕ) (r : RecordTree) → IsForeignRecord me r → kept_record (λ o exported. exported) r ≡ kept_record (sees me) r
  record_foreign me (record_of o b fs n) h = ap (λ y. record_of o y (kept_fields (λ o exported. exported) o fs) n) (base_foreign me b h.1) ∙ ap (λ y. record_of o (kept_base (sees me) b) y n) (fields_foreign me o fs h.0 h.2)

  base_foreign : (me : List ℕ) (b : BaseTree) → IsForeignBase me b → kept_base (λ o exported. exported) b ≡ kept_base (sees me) b
  base_foreign me no_base h = refl
  base_foreign me (base_of r) h = ap (λ y. base_of y) (record_foreign me r h)

  fields_foreign : (me : List ℕ) (o : Origin) (fs : FieldsTree) → same_name o.«module» me ≡ false → IsForeignFields me fs → kept_fields (λ o exported. exported) o fs ≡ kept_fields (sees me) o fs
  fields_foreign me o no_fields e h = refl
  fields_foreign me o (more_fields name exported t fs) e h =
      ap (λ y. if exported then more_fields name exported y (kept_fields (λ o exported. exported) o fs) else kept_fields (λ o exported. exported) o fs) (written_foreign me t h.0)
      ∙ ap (λ y. if exported then more_fields name exported (seen me t) y else y) (fields_foreign me o fs e h.1)
      ∙ ap (λ c. if c then more_fields name exported (seen me t) (kept_fields (sees me) o fs) else kept_fields (sees me) o fs) (unseen me o exported e)
