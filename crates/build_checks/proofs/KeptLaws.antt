-- What a kept check of a module tells: its list and its view are those of the clean build. When it is one of another
-- module, or of the same in another world; and when another is due.
use Rattle.std.proofs.Common.{◌≡◌, ℕ, zero, suc, List, [], ◌∷◌, Bool, true, false, map, refl, sym, ap, subst, ◌∙◌, arith}
use Rattle.std.specs.Prelude.{All, Contains, Some, if◌then◌else◌, slice_get}
use Rattle.std.specs.List.{zip}
use Rattle.std.proofs.lemmas.Bool.{false≢true}
use Rattle.std.proofs.lemmas.List.Elements.{All-contains, All-head, All-tail}
use Rattle.std.proofs.lemmas.Slice.Eq.{bytes_eq-Decides}
use Rattle.check_cache.specs.Facts.{FactTree, IsFact, names_of}
use Rattle.check_cache.specs.Wanted.{IsOf}
use Rattle.grammar_laws.proofs.OneTree.{one_tree}
use Rattle.iface_key.proofs.OneWay.{view_one}
use Rattle.iface_key.specs.Keys.{key_of_view}
use Rattle.ob_text.specs.declared.held.Held.{Held}
use Rattle.oberon_rules.specs.Local.{Local, view_in}
use Rattle.oberon_types.specs.Entities.{ViewTree}
use Rattle.oberon_types.specs.Memory.{plain_view}
use Rattle.oberon_types.specs.Types.{same_name}
use Rattle.target_graph.specs.Workspace.{stem_at}
use Rattle.build_rules.proofs.OneState.{one_shown}
use Rattle.build_rules.proofs.Suffice.{shown_state}
use Rattle.build_rules.specs.Locality.{IsApart}
use Rattle.build_rules.specs.Views.{as_view, HasList, HasView, IsCheck, IsShown}
use Rattle.build_rules.specs.World.{World, held_in, IsCyclic}
use Rattle.build_sources.proofs.CheckLaws.{checked_list, checked_view}
use Rattle.build_sources.proofs.DocumentLaws.{same_names}
use Rattle.build_sources.specs.Documents.{AreImportsOf}
use Rattle.build_checks.specs.Kept.{AreNumbered, AreShown, Extends, IsKept, IsNumbered}

abbrev pub Import : Type 0
Import = List ℕ × ℕ

abbrev Keys : Type 0
Keys = List (List ℕ)

-- no two numbers stand for one key
abbrev pub AreApart : List (List ℕ) → Type 0
AreApart keys = (m n : ℕ) (k : List ℕ) → slice_get keys m ≡ Some k → slice_get keys n ≡ Some k → m ≡ n

-- what the names that a module imports show is the same to two modules, each in its world
pub record ShowAlike (w0 : World) (p0 : ℕ) (w : World) (p : ℕ) : Type 0 where
  pub shown : List ℕ → ViewTree
  pub first : AreShown w0 p0 shown
  pub other : AreShown w p shown

-- ---- views are ones

same_some : (a b : List ℕ) → Some a ≡ Some b → a ≡ b
same_some a b e = cc

-- one key stands for one view
pub same_view : (a b : ViewTree) → key_of_view a ≡ key_of_view b → a ≡ b
same_view a b e = (view_one a b [] [] e).0

-- what a name shows to a module is one view
pub one_view : (w : World) → IsApart w → (p : ℕ) (name : List ℕ) (a b : ViewTree) → IsShown w as_view p name a → IsShown w as_view p name b → a ≡ b
one_view w apart p name a b shown_a shown_b =
    let x = shown_state w apart p name a shown_a in
    let y = shown_state w apart p name b shown_b in
    x.is ∙ ap as_view (one_shown one_tree w apart p name x.state y.state x.shown y.shown) ∙ sym y.is

-- ---- names

pub listed_name : (xs : List Import) (x : Import) → Contains xs x → Contains (names_of xs) x.0
listed_name [] x c = let h = c.1 in absurd (omega (arith, h))
listed_name (y ∷ ys) x (zero, h, e) = (0, omega arith, ap (λ (i : Import). i.0) e)
listed_name (y ∷ ys) x (suc k, h, e) = let c = listed_name ys x (k, omega (arith, h), e) in (suc c.0, (let l = c.1 in omega (arith, l)), c.2)

-- ---- views beside the names

-- each view is of the import that it stands beside
abbrev pub AreBeside : (List ℕ → ViewTree → Type 0) → List Import → List ViewTree → Type 0
AreBeside P [] [] = Unit {0}
AreBeside P (i ∷ is) (v ∷ vs) = P i.0 v × AreBeside P is vs
AreBeside P [] (v ∷ vs) = ⊥
AreBeside P (i ∷ is) [] = ⊥

pub shown_in : (P : List ℕ → ViewTree → Type 0) (imports : List Import) (views : List ViewTree) → AreBeside P imports views
    → (name : List ℕ) → Contains (names_of imports) name → P name (view_in (zip (names_of imports) views) name)
shown_in P [] [] are name listed = let h = listed.1 in absurd (omega (arith, h))
shown_in P [] (v ∷ vs) are name listed = absurd are
shown_in P (i ∷ is) [] are name listed = absurd are
shown_in P (i ∷ is) (v ∷ vs) are name listed = by (same_name name i.0) refl (shown_in P is vs are.1 name)
  where
    behind : Contains (names_of (i ∷ is)) name → (name ≡ i.0 → ⊥) → Contains (names_of is) name
    behind (zero, h, e) other = absurd (other (sym e))
    behind (suc k, h, e) other = (k, omega (arith, h), e)

    by : (b : Bool) → same_name name i.0 ≡ b → (Contains (names_of is) name → P name (view_in (zip (names_of is) vs) name)) → P name (if b then v else view_in (zip (names_of is) vs) name)
    by true is_it rest = subst (λ (x : List ℕ). P x v) (sym ((bytes_eq-Decides name i.0).0 is_it)) are.0
    by false other rest = rest (behind listed (λ e. false≢true (sym other ∙ (bytes_eq-Decides name i.0).1 e)))

-- the views whose keys these are
beside_keyed : (keys : Keys) (w : World) (p : ℕ) (imports : List Import) (views : List ViewTree) → All (IsNumbered keys w p) imports
    → map (λ (i : Import). slice_get keys i.1) imports ≡ map (λ (k : List ℕ). Some k) (map key_of_view views) → AreBeside (IsShown w as_view p) imports views
beside_keyed keys w p [] [] all keyed = tt
beside_keyed keys w p [] (v ∷ vs) all keyed = absurd cc
beside_keyed keys w p (i ∷ is) [] all keyed = absurd cc
beside_keyed keys w p (i ∷ is) (v ∷ vs) all keyed =
    let one = All-head (IsNumbered keys w p) i is all in
    let head : slice_get keys i.1 ≡ Some (key_of_view v) = cc in
    let rest : map (λ (j : Import). slice_get keys j.1) is ≡ map (λ (k : List ℕ). Some k) (map key_of_view vs) = cc in (
      subst (IsShown w as_view p i.0) (same_view one.view v (same_some (key_of_view one.view) (key_of_view v) (sym one.number ∙ head))) one.shown,
      beside_keyed keys w p is vs (All-tail (IsNumbered keys w p) i is all) rest,
    )

-- ---- a kept check finds what the clean build finds

module _ (keys : Keys) (w : World) (p : ℕ) (fact : FactTree) (kept : IsKept keys w p fact) (is : IsFact fact) where
  views : List ℕ → ViewTree
  views = view_in (zip (names_of fact.imports) is.views)

  kept_check : IsCheck w p views fact.checked.list.items fact.checked.imports.items (plain_view fact.checked.view)
  unfolding views
  kept_check =
      subst (λ (held : Held). Local held (stem_at w.targets p) (view_in (zip (names_of fact.imports) is.views)) fact.checked.list.items fact.checked.imports.items (plain_view fact.checked.view)) kept.held_is
      (subst (λ (me : List ℕ). Local fact.held me (view_in (zip (names_of fact.imports) is.views)) fact.checked.list.items fact.checked.imports.items (plain_view fact.checked.view)) kept.stem_is is.found)

  kept_shown : (name : List ℕ) → Contains fact.checked.imports.items name → IsShown w as_view p name (views name)
  unfolding views
  kept_shown name listed =
      shown_in (IsShown w as_view p) fact.imports is.views
      (beside_keyed keys w p fact.imports is.views kept.imports.each (kept.keyed ∙ ap (λ (ks : List (List ℕ)). map (λ (k : List ℕ). Some k) ks) (sym is.keyed)))
      name (subst (λ (ns : List (List ℕ)). Contains ns name) (sym is.named) listed)

  -- its list is that of the clean build
  pub kept_list : IsApart w → HasList w p fact.checked.list.items
  kept_list apart = checked_list w p views fact.checked.list.items fact.checked.imports.items (plain_view fact.checked.view) kept_check kept_shown apart

  -- and its view is what the module shows
  pub kept_view : ¬ (IsCyclic w p) → HasView w p (plain_view fact.checked.view)
  kept_view acyclic = checked_view w p views fact.checked.list.items fact.checked.imports.items (plain_view fact.checked.view) kept_check kept_shown acyclic

-- ---- as keys get numbers

module _ (old new : Keys) (more : Extends old new) (w : World) (p : ℕ) where
  pub numbered_on : (imports : List Import) → AreNumbered old w p imports → AreNumbered new w p imports
  numbered_on imports are = record {
    named = are.named;
    each = λ k d h. let one = are.each k d h in record { view = one.view; shown = one.shown; number = more _ _ one.number };
  }

  keyed_on : (imports : List Import) (keys : List (List ℕ)) → map (λ (i : Import). slice_get old i.1) imports ≡ map (λ (k : List ℕ). Some k) keys
      → map (λ (i : Import). slice_get new i.1) imports ≡ map (λ (k : List ℕ). Some k) keys
  keyed_on [] [] is = refl
  keyed_on [] (k ∷ ks) is = absurd cc
  keyed_on (i ∷ is) [] is_it = absurd cc
  keyed_on (i ∷ is) (k ∷ ks) is_it =
      let head : slice_get old i.1 ≡ Some k = cc in
      let rest : map (λ (j : Import). slice_get old j.1) is ≡ map (λ (x : List ℕ). Some x) ks = cc in
      rw (more i.1 k head) (ap (λ os. Some k ∷ os) (keyed_on is ks rest))

  -- a kept check stays one
  pub kept_on : (fact : FactTree) → IsKept old w p fact → IsKept new w p fact
  kept_on fact kept = record {
    held_is = kept.held_is;
    stem_is = kept.stem_is;
    imports = numbered_on fact.imports kept.imports;
    keyed = keyed_on fact.imports fact.keys kept.keyed;
  }

-- ---- as a kept check is found for another module, or in another world

module _ (keys : Keys) (w0 : World) (p0 : ℕ) (w : World) (p : ℕ) (fact : FactTree) (kept : IsKept keys w0 p0 fact) where
  pub kept_here : stem_at w0.targets p0 ≡ stem_at w.targets p → fact.held ≡ held_in w p → AreNumbered keys w p fact.imports → IsKept keys w p fact
  kept_here stem held imports = record { held_is = held; stem_is = kept.stem_is ∙ stem; imports = imports; keyed = kept.keyed }

-- ---- views by their numbers

views_from : (keys : Keys) (w : World) (p : ℕ) (imports : List Import) → All (IsNumbered keys w p) imports → List ViewTree
views_from keys w p [] all = []
views_from keys w p (i ∷ is) all = (All-head (IsNumbered keys w p) i is all).view ∷ views_from keys w p is (All-tail (IsNumbered keys w p) i is all)

-- two modules for which the numbers are the same see the same views
beside_own : (keys : Keys) (w : World) (p : ℕ) (imports : List Import) (all : All (IsNumbered keys w p) imports) → AreBeside (IsShown w as_view p) imports (views_from keys w p imports all)
unfolding views_from
beside_own keys w p [] all = tt
beside_own keys w p (i ∷ is) all = ((All-head (IsNumbered keys w p) i is all).shown, beside_own keys w p is (All-tail (IsNumbered keys w p) i is all))

beside_other : (keys : Keys) (w0 : World) (p0 : ℕ) (w : World) (p : ℕ) (imports : List Import) (all : All (IsNumbered keys w0 p0) imports) → All (IsNumbered keys w p) imports
    → AreBeside (IsShown w as_view p) imports (views_from keys w0 p0 imports all)
unfolding views_from
beside_other keys w0 p0 w p [] all others = tt
beside_other keys w0 p0 w p (i ∷ is) all others =
    let one = All-head (IsNumbered keys w0 p0) i is all in
    let other = All-head (IsNumbered keys w p) i is others in (
      subst (IsShown w as_view p i.0) (same_view other.view one.view (same_some (key_of_view other.view) (key_of_view one.view) (sym other.number ∙ one.number))) other.shown,
      beside_other keys w0 p0 w p is (All-tail (IsNumbered keys w0 p0) i is all) (All-tail (IsNumbered keys w p) i is others),
    )

module _ (keys : Keys) (w0 : World) (p0 : ℕ) (w : World) (p : ℕ) (same : held_in w0 p0 ≡ held_in w p) where
  module _ (imports : List Import) (first : AreNumbered keys w0 p0 imports) (other : AreNumbered keys w p imports) where
    here : List ℕ → ViewTree
    here = view_in (zip (names_of imports) (views_from keys w0 p0 imports first.each))

    -- modules with the same numbers see the same views
    pub shown_alike : ShowAlike w0 p0 w p
    unfolding here
    shown_alike = record {
      shown = here;
      first = λ names has name listed. shown_in (IsShown w0 as_view p0) imports (views_from keys w0 p0 imports first.each) (beside_own keys w0 p0 imports first.each) name
          (subst (λ (ns : List (List ℕ)). Contains ns name) (first.named.whole names has) listed);
      other = λ names has name listed. shown_in (IsShown w as_view p) imports (views_from keys w0 p0 imports first.each) (beside_other keys w0 p0 w p imports first.each other.each) name
          (subst (λ (ns : List (List ℕ)). Contains ns name) (other.named.whole names has) listed);
    }

  -- a kept check that is found has the views by which it was made
  pub hit_alike : (fact : FactTree) → IsKept keys w0 p0 fact → AreNumbered keys w p fact.imports → ShowAlike w0 p0 w p
  hit_alike fact kept other = shown_alike fact.imports kept.imports other

  -- ---- modules that see the same views have the same numbers

  module _ (first_apart : IsApart w0) (other_apart : IsApart w) (apart : AreApart keys) (alike : ShowAlike w0 p0 w p) where
    same_number : (i j : Import) → i.0 ≡ j.0 → IsShown w0 as_view p0 i.0 (alike.shown i.0) → IsShown w as_view p j.0 (alike.shown j.0) → IsNumbered keys w0 p0 i → IsNumbered keys w p j → i.1 ≡ j.1
    same_number i j e shown_i shown_j one other =
        let view_i : one.view ≡ alike.shown i.0 = one_view w0 first_apart p0 i.0 one.view (alike.shown i.0) one.shown shown_i in
        let view_j : other.view ≡ alike.shown j.0 = one_view w other_apart p j.0 other.view (alike.shown j.0) other.shown shown_j in
        apart i.1 j.1 (key_of_view one.view) one.number
        (other.number ∙ ap (λ (v : ViewTree). Some (key_of_view v)) (view_j ∙ ap alike.shown (sym e) ∙ sym view_i))

    same_all : (xs ys : List Import) → names_of xs ≡ names_of ys → ((x : Import) → Contains xs x → IsShown w0 as_view p0 x.0 (alike.shown x.0) × IsNumbered keys w0 p0 x)
        → ((y : Import) → Contains ys y → IsShown w as_view p y.0 (alike.shown y.0) × IsNumbered keys w p y) → xs ≡ ys
    same_all [] [] e are others = refl
    same_all [] (y ∷ ys) e are others = absurd cc
    same_all (x ∷ xs) [] e are others = absurd cc
    same_all (x ∷ xs) (y ∷ ys) e are others =
        let name : x.0 ≡ y.0 = cc in
        let rest : names_of xs ≡ names_of ys = cc in
        let at_x = are x (0, omega arith, refl) in
        let at_y = others y (0, omega arith, refl) in
        let number : x.1 ≡ y.1 = same_number x y name at_x.0 at_y.0 at_x.1 at_y.1 in
        let behind : xs ≡ ys = same_all xs ys rest (λ z c. are z (suc c.0, (let h = c.1 in omega (arith, h)), c.2)) (λ z c. others z (suc c.0, (let h = c.1 in omega (arith, h)), c.2)) in
        pair_same x y name number xs ys behind
      where
        pair_same : (x y : Import) → x.0 ≡ y.0 → x.1 ≡ y.1 → (xs ys : List Import) → xs ≡ ys → x ∷ xs ≡ y ∷ ys
        pair_same x y name number xs ys behind = rw (name, number, behind) refl

    -- so a kept check that is of the same text, and whose module saw the same, is found
    pub same_imports : (fact : FactTree) → IsKept keys w0 p0 fact → (imports : List Import) → AreNumbered keys w p imports → IsOf (held_in w p) imports fact
    same_imports fact kept imports are = record {
      text = kept.held_is ∙ same;
      numbers = same_all fact.imports imports names
          (λ x c. let l = listed_name fact.imports x c in
          (alike.first (names_of fact.imports) (kept.imports.named.named x.0 l) x.0 l, All-contains (IsNumbered keys w0 p0) fact.imports x kept.imports.each c))
          (λ y c. let l = listed_name imports y c in
          (alike.other (names_of imports) (are.named.named y.0 l) y.0 l, All-contains (IsNumbered keys w p) imports y are.each c));
    }
      where
        names : names_of fact.imports ≡ names_of imports
        names = same_names (held_in w p) (names_of fact.imports) (names_of imports) (subst (λ (held : Held). AreImportsOf held (names_of fact.imports)) same kept.imports.named) are.named
