-- Where a name is looked for among the names of fields.
use Rattle.std.proofs.Common.{◌≡◌, ℕ, ◌+◌, ◌<◌, ◌&&◌, ◌||◌, Bool, true, false, cond, List, [], ◌∷◌, ◌++◌, Option, Some, None, length, take, drop, get_or, refl, ap, sym, ◌∙◌, arith, true≢false}
use Rattle.std.specs.List.{list_any}
use Rattle.std.proofs.lemmas.List.{take-append-drop, take_more}
use Rattle.std.proofs.lemmas.List.Folds.{list_any-append}
use Rattle.oberon_types.specs.declared.origin.Origin.{Origin}
use Rattle.oberon_types.specs.declared.names.FieldName.{FieldName}
use Rattle.oberon_types.specs.Types.{same_name}
use Rattle.oberon_types.specs.Sizes.{sees}
use Rattle.oberon_types.specs.Names.{seen_in, StartsAt, or_end, noted}

-- ---- one more field

noted_none : (x : List ℕ) (fs : List FieldName) (f : FieldName) (at : ℕ) (is : Bool) → same_name f.name x ≡ is → at < length fs → f ≡ get_or fs at f → StartsAt x fs at → StartsAt x fs (or_end (noted None is at) (at + 1))
noted_none x fs f at true e l same h = h
noted_none x fs f at false e l same h =
    let named = λ (g : FieldName). same_name g.name x in
    let more : take (at + 1) fs ≡ take at fs ++ f ∷ [] = take_more fs at f l ∙ ap (λ (g : FieldName). take at fs ++ g ∷ []) (sym same) in
    (omega arith, ap (list_any named) more ∙ list_any-append named (take at fs) (f ∷ []) ∙ ap (λ b. b || (named f || false)) h.1 ∙ ap (λ b. b || false) e)

pub noted_starts : (x : List ℕ) (fs : List FieldName) (f : FieldName) (at i : ℕ) (had : Option ℕ) → at ≡ i → i < length fs → f ≡ get_or fs i f → StartsAt x fs (or_end had at) → StartsAt x fs (or_end (noted had (same_name f.name x) at) (at + 1))
noted_starts x fs f at i (Some earlier) e l same h = h
noted_starts x fs f at i None e l same h = noted_none x fs f at (same_name f.name x) refl (omega arith) (same ∙ ap (λ n. get_or fs n f) (sym e)) h

-- ---- no field that is left out is looked for

seen_one : (me x : List ℕ) (o : Origin) (f : FieldName) (fs : List FieldName) (is rest : Bool) → same_name f.name x ≡ is → (is || rest) ≡ false → (seen_in me o x (f ∷ fs) ≡ seen_in me o x fs) × (rest ≡ false)
seen_one me x o f fs true rest e h = absurd (true≢false h)
seen_one me x o f fs false rest e h = (ap (λ b. cond (b && sees me o f.exported) (Some f) (seen_in me o x fs)) e, h)

seen_behind : (me x : List ℕ) (o : Origin) (xs ys : List FieldName) → list_any (λ f. same_name f.name x) xs ≡ false → seen_in me o x (xs ++ ys) ≡ seen_in me o x ys
seen_behind me x o [] ys h = refl
seen_behind me x o (f ∷ fs) ys h =
    let one = seen_one me x o f (fs ++ ys) (same_name f.name x) (list_any (λ g. same_name g.name x) fs) refl h in
    one.0 ∙ seen_behind me x o fs ys one.1

pub seen_from : (me x : List ℕ) (o : Origin) (fs : List FieldName) (at : ℕ) → StartsAt x fs at → seen_in me o x (drop at fs) ≡ seen_in me o x fs
seen_from me x o fs at h =
    sym (seen_behind me x o (take at fs) (drop at fs) h.1) ∙ ap (seen_in me o x) (take-append-drop at fs)
