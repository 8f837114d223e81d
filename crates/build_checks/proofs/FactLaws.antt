-- A check that was made by the views of a module's imports is one to be kept.
use Rattle.std.proofs.Common.{◌≡◌, ℕ, suc, List, [], ◌∷◌, Bool, true, false, Some, map, refl, sym, ap, subst, ◌∙◌, arith}
use Rattle.std.specs.Prelude.{Contains, if◌then◌else◌, slice_get}
use Rattle.std.specs.List.{list_any, zip}
use Rattle.std.proofs.lemmas.Cmp.{nat_list_eq_equiv}
use Rattle.std.proofs.lemmas.List.{length-map}
use Rattle.std.proofs.lemmas.List.Elements.{All-contains}
use Rattle.std.proofs.lemmas.Map.Views.{list_any-from_Contains}
use Rattle.std.proofs.lemmas.Slice.Eq.{bytes_eq-Decides}
use Rattle.check_cache.specs.Facts.{IsFact, fact_of, names_of}
use Rattle.iface_key.specs.Keys.{key_of_view}
use Rattle.ob_text.specs.declared.held.Held.{Held}
use Rattle.oberon_module.specs.declared.check.Checked.{Checked}
use Rattle.oberon_rules.specs.Local.{Local, view_in}
use Rattle.oberon_types.specs.Entities.{ViewTree, missing_view}
use Rattle.oberon_types.specs.Memory.{plain_view}
use Rattle.oberon_types.specs.Types.{same_name}
use Rattle.target_graph.specs.Workspace.{stem_at}
use Rattle.build_rules.specs.Locality.{IsApart}
use Rattle.build_rules.specs.World.{World, held_in}
use Rattle.build_sources.proofs.AlikeLaws.{found_alike}
use Rattle.build_sources.proofs.DocumentLaws.{checked_imports, same_names}
use Rattle.build_sources.specs.Documents.{AreImportsOf}
use Rattle.build_checks.proofs.KeptLaws.{Import, listed_name, one_view}
use Rattle.build_checks.specs.Kept.{AreNumbered, AreShown, IsKept, IsNumbered}

-- ---- views by names, and views beside the names

module _ (f : List ℕ → ViewTree) where
  abbrev pub views_for : List Import → List ViewTree
  views_for imports = map (λ (i : Import). f i.0) imports

  keys_for : (imports : List Import) → map key_of_view (views_for imports) ≡ map (λ (i : Import). key_of_view (f i.0)) imports
  keys_for [] = refl
  keys_for (i ∷ is) = ap (λ ks. key_of_view (f i.0) ∷ ks) (keys_for is)

  viewed : (imports : List Import) (x : List ℕ) → view_in (zip (names_of imports) (views_for imports)) x ≡ (if list_any (same_name x) (names_of imports) then f x else missing_view)
  viewed [] x = refl
  viewed (i ∷ is) x = by (same_name x i.0) refl (viewed is x)
    where
      by : (b : Bool) → same_name x i.0 ≡ b → view_in (zip (names_of is) (views_for is)) x ≡ (if list_any (same_name x) (names_of is) then f x else missing_view)
          → view_in (zip (names_of (i ∷ is)) (views_for (i ∷ is))) x ≡ (if list_any (same_name x) (names_of (i ∷ is)) then f x else missing_view)
      by true is_it rest = rw is_it (ap f (sym ((bytes_eq-Decides x i.0).0 is_it)))
      by false other rest = rw other rest

  -- at a name that is listed they are the same
  viewed_here : (imports : List Import) (x : List ℕ) → Contains (names_of imports) x → f x ≡ view_in (zip (names_of imports) (views_for imports)) x
  viewed_here imports x listed =
      sym (viewed imports x ∙ ap (λ (b : Bool). if b then f x else missing_view) (list_any-from_Contains nat_list_eq_equiv x (names_of imports) listed))

module _ (f : List ℕ → ViewTree) (held : Held) (stem : List ℕ) (imports : List Import) (keys : List (List ℕ)) (checked : Checked)
    (named : AreImportsOf held (names_of imports)) (keyed : keys ≡ map (λ (i : Import). key_of_view (f i.0)) imports) where
  pub is_fact : Local held stem f checked.list.items checked.imports.items (plain_view checked.view) → IsFact (fact_of held stem imports keys checked)
  is_fact found =
      let same : names_of imports ≡ checked.imports.items =
      same_names held (names_of imports) checked.imports.items named (checked_imports stem f checked.list.items checked.imports.items (plain_view checked.view) held found) in
      record {
        views = views_for f imports;
        named = same;
        each = length-map imports (λ (i : Import). f i.0);
        keyed = keys_for f imports ∙ sym keyed;
        found = found_alike stem f (view_in (zip (names_of imports) (views_for f imports))) checked.list.items checked.imports.items (plain_view checked.view)
            (λ x c. viewed_here f imports x (subst (λ (ns : List (List ℕ)). Contains ns x) (sym same) c)) held found;
      }

  -- ---- its numbers stand for its keys

  module _ (w : World) (p : ℕ) (apart : IsApart w) (held_is : held ≡ held_in w p) (stem_is : stem ≡ stem_at w.targets p) (numbers : List (List ℕ)) where
    keyed_by : (is : List Import) → ((i : Import) → Contains is i → slice_get numbers i.1 ≡ Some (key_of_view (f i.0)))
        → map (λ (i : Import). slice_get numbers i.1) is ≡ map (λ (k : List ℕ). Some k) (map (λ (i : Import). key_of_view (f i.0)) is)
    keyed_by [] each = refl
    keyed_by (i ∷ is) each =
        rw (each i (0, omega arith, refl)) (ap (λ os. Some (key_of_view (f i.0)) ∷ os) (keyed_by is (λ j c. each j (suc c.0, (let h = c.1 in omega (arith, h)), c.2))))

    pub is_kept : AreShown w p f → AreNumbered numbers w p imports → IsKept numbers w p (fact_of held stem imports keys checked)
    is_kept shown are = record {
      held_is = held_is;
      stem_is = stem_is;
      imports = are;
      keyed = keyed_by imports here ∙ ap (λ (ks : List (List ℕ)). map (λ (k : List ℕ). Some k) ks) (sym keyed);
    }
      where
        here : (i : Import) → Contains imports i → slice_get numbers i.1 ≡ Some (key_of_view (f i.0))
        here i c =
            let one = All-contains (IsNumbered numbers w p) imports i are.each c in
            let listed = listed_name imports i c in
            one.number ∙ ap (λ (v : ViewTree). Some (key_of_view v)) (one_view w apart p i.0 one.view (f i.0) one.shown (shown (names_of imports) (are.named.named i.0 listed) i.0 listed))
