-- Two lists of the names of two workspaces are one, since both are in order and have the same names.
use Rattle.std.proofs.Common.{◌≡◌, ◌+◌, ℕ, Bool, true, false, List, [], ◌++◌, All, Contains, refl, ap, sym, ◌∙◌, arith}
use Rattle.std.specs.BTreeSet.{BTreeSet}
use Rattle.std.specs.Cmp.Lexicographic.{slice_cmp}
use Rattle.std.specs.List.{list_any, AllPairs}
use Rattle.std.specs.List.Sorted.{IsStrictlySortedBy}
use Rattle.std.specs.Ordering.{eq_by_cmp, is_eq, nat_cmp}
use Rattle.std.specs.declared.cmp.Ordering.{Ordering}
use Rattle.std.specs.declared.cmp.Ordering.TheVariants.{Less, Equal, Greater}
use Rattle.std.proofs.lemmas.Bool.{false≢true}
use Rattle.std.proofs.lemmas.Cmp.{eq_by_cmp_equiv, nat_list_cmp_total}
use Rattle.std.proofs.lemmas.List.Elements.{All-contains}
use Rattle.std.proofs.lemmas.Map.Keys.{sorted_from_all_adjacent}
use Rattle.std.proofs.lemmas.Map.Lookups.{btree_set_from_contains, exact_bytes}
use Rattle.std.proofs.lemmas.Map.Views.{Contains-from_any, list_any-from_Contains}
use Rattle.target_graph.specs.declared.target.Target.{Target}
use Rattle.reload_rules.specs.Changes.{AreChanges, AreNames, IsBefore, changes_in, names_of}
use Rattle.reload_rules.specs.declared.change.ChangedTarget.{ChangedTarget}

abbrev same : List ℕ → List ℕ → Bool
same = eq_by_cmp (slice_cmp nat_cmp)

equal_from : (o : Ordering) → is_eq o ≡ true → o ≡ Equal
equal_from Less e = absurd (false≢true e)
equal_from Equal e = refl
equal_from Greater e = absurd (false≢true e)

same_from : (a b : List ℕ) → same a b ≡ true → a ≡ b
same_from a b e = exact_bytes a b (equal_from (slice_cmp nat_cmp a b) e)

sorted : (names : List (List ℕ)) → AllPairs IsBefore names → IsStrictlySortedBy (slice_cmp nat_cmp) names
sorted names ordered = sorted_from_all_adjacent nat_list_cmp_total names [] (λ k h. ordered k (k + 1) [] (omega arith) h)

both_ways : (a b : Bool) → (a ≡ true → b ≡ true) → (b ≡ true → a ≡ true) → a ≡ b
both_ways true b there back = sym (there refl)
both_ways false true there back = back refl
both_ways false false there back = refl

-- what one has of the names, the other has
there : (all a b : List (List ℕ)) → All (Contains all) a → All (Contains b) all → (name : List ℕ) → list_any (same name) a ≡ true → list_any (same name) b ≡ true
there all a b each whole name e =
    list_any-from_Contains (eq_by_cmp_equiv nat_list_cmp_total) name b
    (All-contains (Contains b) all name whole (All-contains (Contains all) a name each (Contains-from_any same_from name a e)))

names_once : (old new : List Target) (a b : List (List ℕ)) → AreNames old new a → AreNames old new b → a ≡ b
names_once old new a b first second =
    let all = names_of (old ++ new) in
    let s : BTreeSet (List ℕ) = record { keys = a } in
    let t : BTreeSet (List ℕ) = record { keys = b } in
    btree_set_from_contains nat_list_cmp_total s t (sorted a first.ordered) (sorted b second.ordered)
    (λ q. both_ways (list_any (same q) a) (list_any (same q) b) (there all a b first.each second.whole q) (there all b a second.each first.whole q)) exact_bytes

pub changes_once : (old new : List Target) (first second : List ChangedTarget) → AreChanges old new first → AreChanges old new second → first ≡ second
changes_once old new first second a b =
    a.are_changes ∙ (ap (λ names. changes_in old new names) (names_once old new a.names b.names a.are_names b.are_names) ∙ sym b.are_changes)
