-- Names beside numbers, one after the other.
use Rattle.std.proofs.Common.{◌≡◌, ◌++◌, ◌<◌, ◌+◌, ℕ, List, [], ◌∷◌, Some, length, get_or, take, sym, ap, subst, ◌∙◌}
use Rattle.std.specs.List.{slice_get}
use Rattle.std.proofs.lemmas.List.{get_or-map, length-map, map-append, take_more}
use Rattle.std.proofs.lemmas.Option.{slice_get-get_or}
use Rattle.check_cache.specs.Facts.{names_of}

abbrev Import : Type 0
Import = List ℕ × ℕ

pub names_more : (own : List Import) (names : List (List ℕ)) (index : ℕ) (name d : List ℕ) (number : ℕ) → index < length names → name ≡ get_or names index d
    → names_of own ≡ take index names → names_of (own ++ (name, number) ∷ []) ≡ take (index + 1) names
names_more own names index name d number within is so_far =
    map-append (λ (i : Import). i.0) own ((name, number) ∷ [])
    ∙ (ap (λ (ns : List (List ℕ)). ns ++ name ∷ []) so_far
    ∙ (ap (λ (n : List ℕ). take index names ++ n ∷ []) is ∙ sym (take_more names index d within)))

pub all_more : (own imports : List Import) (names : List (List ℕ)) (index : ℕ) (name d : List ℕ) (number : ℕ) → index < length names → name ≡ get_or names index d
    → ((import : Import) → slice_get imports index ≡ Some import → number ≡ import.1) → names_of imports ≡ names → own ≡ take index imports
    → own ++ (name, number) ∷ [] ≡ take (index + 1) imports
all_more own imports names index name d number within is numbered same so_far =
    let inside : index < length imports =
    subst (λ n. index < n) (sym (ap (λ (ns : List (List ℕ)). length ns) same) ∙ length-map imports (λ (i : Import). i.0)) within in
    let here : Import = get_or imports index (d, 0) in
    let named : name ≡ here.0 =
    is ∙ (ap (λ (ns : List (List ℕ)). get_or ns index d) (sym same) ∙ get_or-map (λ (i : Import). i.0) imports index (d, 0) d inside) in
    let counted : number ≡ here.1 = numbered here (slice_get-get_or imports index (d, 0) inside) in
    let one : (name, number) ≡ here = ap (λ (n : List ℕ). (n, number)) named ∙ ap (λ (k : ℕ). (here.0, k)) counted in
    ap (λ (is : List Import). is ++ (name, number) ∷ []) so_far
    ∙ (ap (λ (i : Import). take index imports ++ i ∷ []) one ∙ sym (take_more imports index (d, 0) inside))
