-- The modules of the workspace of these tests are ones that a clean build takes.
use Rattle.std.proofs.Common.{◌≡◌, ◌==◌, ◌<◌, ℕ, zero, suc, List, [], ◌∷◌, length, map, Some, ap, sym, subst, ◌∙◌, refl, arith}
use Rattle.std.specs.Prelude.{Contains, option_map, slice_get}
use Rattle.std.specs.List.{All, IsDistinct}
use Rattle.std.proofs.lemmas.List.{length-map}
use Rattle.std.proofs.lemmas.List.Elements.{All-cons, All-nil}
use Rattle.std.proofs.lemmas.Option.{same_Some, slice_get_within, slice_get-map}
use Rattle.build_sources.specs.Modules.{AreModules}
use Rattle.target_graph.specs.Workspace.{pairs_of, IsClosure, IsReached, IsVisible}
use Rattle.target_graph.specs.declared.target.Pair.{Pair}
use Rattle.target_graph.specs.declared.target.Target.{Target}
use Rattle.target_graph.specs.declared.workspace.Workspace.{Workspace}

-- ---- lists of the least numbers

abbrev in_order : List ℕ
in_order = 0 ∷ 1 ∷ 2 ∷ []

abbrev turned : List ℕ
turned = 2 ∷ 0 ∷ 1 ∷ []

abbrev library : List ℕ
library = 1 ∷ 2 ∷ []

distinct_in_order : IsDistinct ◌==◌ in_order
unfolding IsDistinct
distinct_in_order = ((refl, (refl, tt)), ((refl, tt), (tt, tt)))

distinct_turned : IsDistinct ◌==◌ turned
unfolding IsDistinct
distinct_turned = ((refl, (refl, tt)), ((refl, tt), (tt, tt)))

distinct_library : IsDistinct ◌==◌ library
unfolding IsDistinct
distinct_library = ((refl, tt), (tt, tt))

all_in_order : (q : ℕ) → q < 3 → Contains in_order q
all_in_order zero less = (0, omega arith, refl)
all_in_order (suc zero) less = (1, omega arith, refl)
all_in_order (suc (suc zero)) less = (2, omega arith, refl)
all_in_order (suc (suc (suc q))) less = absurd (omega (arith, less))

all_turned : (q : ℕ) → q < 3 → Contains turned q
all_turned zero less = (1, omega arith, refl)
all_turned (suc zero) less = (2, omega arith, refl)
all_turned (suc (suc zero)) less = (0, omega arith, refl)
all_turned (suc (suc (suc q))) less = absurd (omega (arith, less))

within : (n a b c : ℕ) → a < n → b < n → c < n → All (λ p. p < n) (a ∷ b ∷ c ∷ [])
within n a b c la lb lc =
    let P = λ (p : ℕ). p < n in
    All-cons P a (b ∷ c ∷ []) la (All-cons P b (c ∷ []) lb (All-cons P c [] lc (All-nil P)))

-- ---- three pairs, of which the first is of the first target

module _ (targets : List Target) (are : map (λ (pair : Pair). pair.target) (pairs_of targets) ≡ 0 ∷ 1 ∷ 1 ∷ []) where
  abbrev pairs : List Pair
  pairs = pairs_of targets

  count : length pairs ≡ 3
  count = sym (length-map pairs (λ (pair : Pair). pair.target)) ∙ ap (λ (ts : List ℕ). length ts) are

  below : (q : ℕ) (pair : Pair) → slice_get pairs q ≡ Some pair → q < 3
  below q pair there = let inside = slice_get_within pairs q pair there in let three = count in omega (arith, inside, three)

  -- the target of each
  target_at : (q : ℕ) (pair : Pair) → slice_get pairs q ≡ Some pair → slice_get (0 ∷ 1 ∷ 1 ∷ []) q ≡ Some pair.target
  target_at q pair there =
      subst (λ (ts : List ℕ). slice_get ts q ≡ Some pair.target) are
      (slice_get-map (λ (it : Pair). it.target) pairs q ∙ ap (option_map (λ (it : Pair). it.target)) there)

  pub modules_in_order : AreModules targets in_order
  modules_in_order =
      let three = count in
      record {
        within = within (length pairs) 0 1 2 (omega (arith, three)) (omega (arith, three)) (omega (arith, three));
        distinct = distinct_in_order;
        closed = λ p among pair there name q visible. all_in_order q (below q visible.sees.pair visible.sees.there);
      }

  pub modules_turned : AreModules targets turned
  modules_turned =
      let three = count in
      record {
        within = within (length pairs) 2 0 1 (omega (arith, three)) (omega (arith, three)) (omega (arith, three));
        distinct = distinct_turned;
        closed = λ p among pair there name q visible. all_turned q (below q visible.sees.pair visible.sees.there);
      }

  -- ---- the pairs of the second target, which depends on no other

  of_library : (p : ℕ) → Contains library p → (pair : Pair) → slice_get pairs p ≡ Some pair → pair.target ≡ 1
  of_library zero among pair there = absurd (none among)
    where
      none : Contains library 0 → ⊥
      none (zero, less, is) = omega (arith, is)
      none (suc zero, less, is) = omega (arith, is)
      none (suc (suc k), less, is) = omega (arith, less)
  of_library (suc zero) among pair there = sym (same_Some 1 pair.target (target_at 1 pair there))
  of_library (suc (suc zero)) among pair there = sym (same_Some 1 pair.target (target_at 2 pair there))
  of_library (suc (suc (suc p))) among pair there = let small = below (suc (suc (suc p))) pair there in omega (arith, small)

  -- each pair of that target
  in_library : (q : ℕ) (pair : Pair) → slice_get pairs q ≡ Some pair → pair.target ≡ 1 → Contains library q
  in_library zero pair there one = let other = same_Some 0 pair.target (target_at 0 pair there) in absurd (omega (arith, other, one))
  in_library (suc zero) pair there one = (0, omega arith, refl)
  in_library (suc (suc zero)) pair there one = (1, omega arith, refl)
  in_library (suc (suc (suc q))) pair there one = let small = below (suc (suc (suc q))) pair there in absurd (omega (arith, small))

  only_one : (t : ℕ) → Contains (1 ∷ []) t → t ≡ 1
  only_one t (zero, less, is) = sym is
  only_one t (suc k, less, is) = omega (arith, less)

  module _ (alone : IsClosure targets (1 ∷ []) (1 ∷ [])) where
    closed : (p : ℕ) → Contains library p → (pair : Pair) → slice_get pairs p ≡ Some pair
        → (name : List ℕ) (q : ℕ) → IsVisible targets pair.target name q → Contains library q
    closed p among pair there name q visible =
        let sees = visible.sees in
        let reached : IsReached targets (1 ∷ []) sees.pair.target = record {
          from = pair.target;
          asked_for = (0, omega arith, sym (of_library p among pair there));
          leads = sees.leads;
        } in
        in_library q sees.pair sees.there (only_one sees.pair.target (alone.whole sees.pair.target reached))

    pub modules_of_library : AreModules targets library
    modules_of_library =
        let three = count in
        let P = λ (p : ℕ). p < length pairs in
        record {
          within = All-cons P 1 (2 ∷ []) (omega (arith, three)) (All-cons P 2 [] (omega (arith, three)) (All-nil P));
          distinct = distinct_library;
          closed = closed;
        }

-- ---- the same workspace, behind an Arc

pub modules_behind : (own shared : Workspace) (modules : List ℕ) → shared ≡ own → AreModules own.targets modules → AreModules shared.targets modules
modules_behind own shared modules same are = subst (λ (it : Workspace). AreModules it.targets modules) (sym same) are
