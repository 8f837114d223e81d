-- The words behind a verb: the one word, and names one after another.
use Rattle.std.proofs.Common.{◌≡◌, ◌≢◌, ◌∙◌, ◌++◌, ◌+◌, ◌<◌, ◌≤◌, ℕ, Bool, true, List, [], ◌∷◌, Bor, length, get_or, map, take, refl, ap, sym, subst, arith}
use Rattle.std.specs.Prelude.{◌==◌}
use Rattle.std.specs.Cmp.Lexicographic.{pointwise}
use Rattle.std.specs.List.{All}
use Rattle.std.specs.Str.{IsUtf8}
use Rattle.std.proofs.lemmas.List.{get_or-map, length-map, map-append, take_all, take_more}
use Rattle.std.proofs.lemmas.List.Elements.{All-get_or, All-push, All-same}
use Rattle.std.proofs.lemmas.Slice.Eq.{bytes_eq-Decides}
use Rattle.client_script.specs.Lines.{AreNames, IsWord}
use Rattle.client_script.specs.Pieces.{now_of}

pub one_word : (words : List (Bor (List ℕ))) (d : Bor (List ℕ)) (text : List ℕ) → 1 ≤ length words → length words < 2
    → pointwise ◌==◌ (get_or words 0 d).now text ≡ true → ◌≡◌ {A = List (List ℕ)} (text ∷ []) (map now_of words)
one_word [] d text some most same = absurd (omega arith)
one_word (word ∷ []) d text some most same = ap (λ (w : List ℕ). w ∷ []) (sym ((bytes_eq-Decides word.now text).0 same))
one_word (word ∷ other ∷ words) d text some most same = absurd (omega arith)

-- where a word is empty, the words are no names
pub no_names : (words : List (Bor (List ℕ))) (d : Bor (List ℕ)) (n : ℕ) (is_empty : Bool) → n < length words → is_empty ≡ (length (get_or words n d).now == 0) → is_empty ≡ true
    → (names : List (List ℕ)) → All IsWord names → names ≡ map now_of words → ⊥
no_names words d n is_empty inside by holds names each same =
    let empty : length (get_or words n d).now ≡ 0 = grind arith in
    let all : All IsWord (map now_of words) = All-same IsWord (map now_of words) names (sym same) each in
    let here : IsWord (get_or (map now_of words) n []) = All-get_or IsWord (map now_of words) n [] (let l : length (map now_of words) ≡ length words = length-map words now_of in omega arith) all in
    let there : IsWord (get_or words n d).now = subst IsWord (get_or-map now_of words n d [] inside) here in
    there.some (nothing (get_or words n d).now empty)
  where
    nothing : (text : List ℕ) → length text ≡ 0 → text ≡ []
    nothing [] none = refl
    nothing (byte ∷ text) none = absurd (omega arith)

pub is_word : (text word : List ℕ) → word ≡ text → IsUtf8 text → length text ≢ 0 → IsWord word
is_word text word same utf8 some =
    subst IsWord (sym same) (record { some = λ none. some (ap (λ (t : List ℕ). length t) none); utf8 = utf8 })

pub more_names : (words : List (Bor (List ℕ))) (d : Bor (List ℕ)) (n : ℕ) (old new : List (List ℕ)) (word : List ℕ) → n < length words → word ≡ (get_or words n d).now
    → new ≡ old ++ word ∷ [] → old ≡ map now_of (take n words) → new ≡ map now_of (take (n + 1) words)
more_names words d n old new word inside is pushed so_far =
    pushed
    ∙ (ap (λ (names : List (List ℕ)). names ++ word ∷ []) so_far
    ∙ (ap (λ (w : List ℕ). map now_of (take n words) ++ w ∷ []) is
    ∙ (sym (map-append now_of (take n words) (get_or words n d ∷ [])) ∙ ap (map now_of) (sym (take_more words n d inside)))))

pub each_more : (old new : List (List ℕ)) (word : List ℕ) → new ≡ old ++ word ∷ [] → All IsWord old → IsWord word → All IsWord new
each_more old new word pushed each last = All-same IsWord new (old ++ word ∷ []) pushed (All-push IsWord old word each last)

-- all the names, once the words are all taken
pub all_names : (words : List (Bor (List ℕ))) (n : ℕ) (names : List (List ℕ)) → n ≡ length words → names ≡ map now_of (take n words) → All IsWord names → 0 < length words → length words ≤ 256
    → AreNames names × (names ≡ map now_of words)
all_names words n names at_end so_far each some most =
    let same : names ≡ map now_of words = so_far ∙ ap (map now_of) (take_all n words (omega arith)) in
    let long : length names ≡ length words = ap (λ (xs : List (List ℕ)). length xs) same ∙ length-map words now_of in
    (record { some = omega arith; most = omega arith; each = each }, same)
