-- The names that documents import, where kept checks of their texts tell them.
use Rattle.std.proofs.Common.{◌≡◌, ◌++◌, ◌∷◌, [], ◌<◌, ℕ, zero, suc, List, Option, Some, None, ◌⊎◌, inl, inr, length, get_or, replicate, refl, sym, ap, subst, ◌∙◌, arith}
use Rattle.std.specs.Prelude.{IfSome, slice_get}
use Rattle.std.specs.Borrow.{Bor}
use Rattle.std.specs.List.{slice_set, zip}
use Rattle.std.proofs.lemmas.Bool.{cases_eq}
use Rattle.std.proofs.lemmas.List.{get_or-replicate, get_or-set_other, get_or-set_same, length-replicate, length-set}
use Rattle.std.proofs.lemmas.Option.{get_or_from_slice_get, slice_get-get_or, slice_get_within}
use Rattle.check_cache.specs.Facts.{FactTree, IsFact, names_of}
use Rattle.check_cache.specs.Places.{Chosen}
use Rattle.check_cache.specs.Wanted.{HasText}
use Rattle.ob_text.specs.Held.{Entries}
use Rattle.ob_text.specs.declared.held.Held.{Held}
use Rattle.oberon_rules.specs.Local.{view_in}
use Rattle.oberon_types.specs.Memory.{plain_view}
use Rattle.build_sources.proofs.DocumentLaws.{checked_imports}
use Rattle.build_sources.specs.Documents.{AreImportsOf, AreKnown, IsKnown}

abbrev pub Names : Type 0
Names = Option (Bor (List (List ℕ)))

-- what a kept check of the same text says
pub chosen_names : (held : Held) (first other : Option FactTree) (found : Names)
    → IfSome found (λ names. (fact : FactTree) × Chosen (HasText held) first other fact × IsFact fact × (names.now ≡ fact.checked.imports.items)) → IsKnown held found
chosen_names held first other None told = tt
chosen_names held first other (Some names) (fact, chosen, is, same) =
    subst (AreImportsOf held) (sym same)
    (subst (λ (h : Held). AreImportsOf h fact.checked.imports.items) (text_of chosen)
    (checked_imports fact.stem (view_in (zip (names_of fact.imports) is.views)) fact.checked.list.items fact.checked.imports.items (plain_view fact.checked.view) fact.held is.found))
  where
    text_of : Chosen (HasText held) first other fact → fact.held ≡ held
    text_of (inl one) = one.1.text
    text_of (inr two) = two.2.text

-- at first nothing is known
pub nothing_more : (n : ℕ) → replicate {A = Names} n None ++ None ∷ [] ≡ replicate {A = Names} (suc n) None
nothing_more zero = refl
nothing_more (suc n) = ap (λ (ks : List Names). None ∷ ks) (nothing_more n)

pub none_known : (entries : Entries) (n : ℕ) → AreKnown entries (replicate n None)
none_known entries n i entry names there is = subst (IsKnown entry.1) none tt
  where
    within : i < n
    within = let h = slice_get_within (replicate n None) i names is in let size = length-replicate {A = Names} n None in omega (arith, h, size)

    none : None ≡ names
    none = sym (get_or-replicate n i None None within) ∙ get_or_from_slice_get (replicate n None) i names None is

-- and then more of one document
pub known_more : (entries : Entries) (known : List Names) (i : ℕ) (e : List ℕ × Held) (more : Names) → slice_get entries i ≡ Some e → AreKnown entries known → IsKnown e.1 more
    → AreKnown entries (slice_set known i more)
known_more entries known i e more there are is j entry names at set_is = by (cases_eq j i)
  where
    within : j < length known
    within = let h = slice_get_within (slice_set known i more) j names set_is in let size = length-set known i more in omega (arith, h, size)

    by : (j ≡ i) ⊎ (j ≡ i → ⊥) → IsKnown entry.1 names
    by (inl e_is) =
        let here : get_or (slice_set known i more) i more ≡ more = get_or-set_same known i more more (subst (λ k. k < length known) e_is within) in
        let same : more ≡ names = sym here ∙ ap (λ k. get_or (slice_set known i more) k more) (sym e_is) ∙ get_or_from_slice_get (slice_set known i more) j names more set_is in
        let own : e ≡ entry = let it : Some e ≡ Some entry = sym there ∙ ap (slice_get entries) (sym e_is) ∙ at in cc in
        subst (λ (x : List ℕ × Held). IsKnown x.1 names) own (subst (IsKnown e.1) same is)
    by (inr other) =
        let same : get_or known j names ≡ names = sym (get_or-set_other known i j more names other) ∙ get_or_from_slice_get (slice_set known i more) j names names set_is in
        are j entry names at (slice_get-get_or known j names within ∙ ap (λ (x : Names). Some x) same)
