-- One walk over the fields of a base: what is found of the names that are asked for.
use Rattle.std.specs.Prelude.{ℕ, ◌≡◌, Bool, true, false, ◌||◌, List, is_some, Option, Some, None, refl}
use Rattle.std.proofs.Common.{ap, sym, ◌∙◌}
use Rattle.std.specs.List.{list_any}
use Rattle.oberon_types.specs.declared.origin.Origin.{Origin}
use Rattle.std.specs.Option.{option_map}
use Rattle.oberon_types.specs.declared.names.FieldName.{FieldName}
use Rattle.oberon_types.specs.declared.ty.RecordTy.{RecordTy, out-RecordTy}
use Rattle.oberon_types.specs.Types.{TyTree, same_name}
use Rattle.oberon_types.specs.Sizes.{or_else, field_of, field_of_base}
use Rattle.oberon_types.specs.Names.{seen_in}
use Rattle.oberon_types.specs.Memory.{plain_record, base_option, types_in, type_at}
use Rattle.oberon_types.proofs.TypeMemory.{field_found}
use Rattle.oberon_declare.specs.Inherited.{Finds}

or_false : (b : Bool) → (b || false) ≡ b
or_false true = refl
or_false false = refl

or_behind : (a b c : Bool) → (a || b) || c ≡ a || (b || c)
or_behind true b c = refl
or_behind false b c = refl

-- ---- the fields of a record, one after another

-- what is found so far, and what is left
pub record FindsUpTo (asked old now : List (List ℕ)) (all left : List ℕ → Bool) : Type 0 where
  pub finds : (x : List ℕ) → list_any (same_name x) asked ≡ true → (list_any (same_name x) now || left x) ≡ (list_any (same_name x) old || all x)

abbrev pub has_field : List ℕ → Origin → List FieldName → List ℕ → Bool
has_field me o fs x = is_some (seen_in me o x fs)

-- ---- a record and its base

some_or : (o p : Option TyTree) → is_some (or_else o p) ≡ (is_some o || is_some p)
some_or None p = refl
some_or (Some t) p = refl

some_type : (types : List TyTree) (o : Option FieldName) → is_some (option_map (λ f. type_at types f.ty) o) ≡ is_some o
some_type types None = refl
some_type types (Some f) = refl

pub record_finds : (asked old mid new : List (List ℕ)) (me : List ℕ) (r : RecordTy) (fs : List FieldName) → fs ≡ (out-RecordTy r).names.value → Finds asked old mid (has_field me (out-RecordTy r).origin fs) → Finds asked mid new (λ x. is_some (field_of_base me x (base_option (out-RecordTy r).base))) → Finds asked old new (λ x. is_some (field_of me x (plain_record r)))
record_finds asked old mid new me r fs names own behind = record {
  finds = λ x among.
      let seen = seen_in me (out-RecordTy r).origin x fs in
      let here = option_map (λ f. type_at (types_in r) f.ty) seen in
      let below = field_of_base me x (base_option (out-RecordTy r).base) in
      behind.finds x among
      ∙ ap (λ b. b || is_some below) (own.finds x among)
      ∙ or_behind (list_any (same_name x) old) (is_some seen) (is_some below)
      ∙ ap (λ b. list_any (same_name x) old || b)
      (ap (λ b. b || is_some below) (sym (some_type (types_in r) seen)) ∙ sym (some_or here below)
      ∙ ap (λ (t : Option TyTree). is_some t) (field_found me x r seen (ap (seen_in me (out-RecordTy r).origin x) names)));
}
