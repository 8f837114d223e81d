-- Parts that are printed behind one another.
use Rattle.std.specs.Prelude.{ℕ, zero, suc, ◌+◌, ◌<◌, ◌≤◌, ◌≡◌, ◌++◌, List, [], ◌∷◌, Result, Ok, Err, OnOk, map, length, drop, slice_get, refl}
use Rattle.std.proofs.Common.{ap, sym, ◌∙◌, arith, add-one}
use Rattle.std.proofs.lemmas.List.{drop_all}
use Rattle.oberon_types.specs.declared.names.FieldName.{FieldName}
use Rattle.oberon_types.specs.declared.ty.RecordTy.{RecordTy, out-RecordTy}
use Rattle.oberon_types.specs.declared.entity.Entity.{Entity}
use Rattle.oberon_types.specs.Memory.{plain_record, base_option, fields_in, types_in, named_fields, plain_export}
use Rattle.oberon_types.specs.Types.{FieldsTree}
use Rattle.oberon_types.proofs.TypeMemory.{record_types, fields_out}
use Rattle.iface_key.specs.Keys.{number_then, origin_then, base_then, fields_then, record_then, list_then, export_then}
use Rattle.iface_key.specs.Printed.{Prints, found_then}

pub on_ok : {X E P Q : Type 0} (r : Result X E) → (P → Q) → OnOk r P → OnOk r Q
on_ok (Ok x) f p = f p
on_ok (Err e) f p = p

-- behind the last item stands the end
pub printed_all : {X : Type 0} (all_then : List X → List ℕ → List ℕ) (xs : List X) (i : ℕ) (start now after : List ℕ) → length xs ≤ i → ((rest : List ℕ) → now ++ all_then (drop i xs) rest ≡ start ++ all_then xs rest) → Prints (all_then []) now after → Prints (all_then xs) start after
printed_all all_then xs i start now after past printed ended rest =
    ended rest ∙ ap (λ ys. now ++ all_then ys rest) (sym (drop_all i xs past)) ∙ printed rest

-- ---- records

pub fields_named : (x : RecordTy) (fs : List FieldName) → fs ≡ (out-RecordTy x).names.value → named_fields fs (types_in x) ≡ fields_in x
fields_named x fs e = ap (λ (gs : List FieldName). named_fields gs (types_in x)) e ∙ sym (fields_out x)

pub printed_record : (x : RecordTy) (a b c d e : List ℕ) → Prints (origin_then (out-RecordTy x).origin) a b → Prints (base_then (base_option (out-RecordTy x).base)) b c → Prints (fields_then (fields_in x)) c d → Prints (number_then (out-RecordTy x).size) d e → Prints (record_then (plain_record x)) a e
printed_record x a b c d e origin base fields size rest =
    let behind = number_then (out-RecordTy x).size rest in
    size rest
    ∙ fields behind
    ∙ ap (λ (gs : FieldsTree). c ++ fields_then gs behind) (fields_out x)
    ∙ base _
    ∙ origin _
    ∙ ap (λ r. a ++ record_then r rest) (sym (record_types x))

-- ---- exports, by index

abbrev exports_then : List (List ℕ × Entity) → List ℕ → List ℕ
exports_then es rest = list_then export_then (map plain_export es) rest

found_suc : (es : List (List ℕ × Entity)) (i : ℕ) (rest : List ℕ) → i < length es → found_then (slice_get es i) (exports_then (drop (suc i) es) rest) ≡ exports_then (drop i es) rest
found_suc [] i rest h = absurd (omega (arith, h))
found_suc (x ∷ xs) zero rest h = refl
found_suc (x ∷ xs) (suc i) rest h = found_suc xs i rest (omega (arith, h))

pub printed_more : (es : List (List ℕ × Entity)) (i : ℕ) (start now next : List ℕ) → i < length es → Prints (found_then (slice_get es i)) now next → ((rest : List ℕ) → now ++ exports_then (drop i es) rest ≡ start ++ exports_then es rest) → (rest : List ℕ) → next ++ exports_then (drop (i + 1) es) rest ≡ start ++ exports_then es rest
printed_more es i start now next within found before rest =
    found _
    ∙ ap (λ n. now ++ found_then (slice_get es i) (exports_then (drop n es) rest)) (add-one i)
    ∙ ap (λ t. now ++ t) (found_suc es i rest within)
    ∙ before rest
