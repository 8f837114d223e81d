-- Views by the names of modules, once one more is put among them.
use Rattle.std.proofs.Common.{◌≡◌, ◌++◌, ◌∷◌, [], ◌⊎◌, inl, inr, ℕ, List, Bool, true, false, Some, refl, sym, ap, subst, ◌∙◌}
use Rattle.std.specs.Prelude.{Contains, if◌then◌else◌}
use Rattle.std.specs.Map.{lookup}
use Rattle.std.proofs.lemmas.Bool.{false≢true}
use Rattle.std.proofs.lemmas.List.Elements.{Contains-append_left, Contains-push, Contains-push_cases}
use Rattle.std.proofs.lemmas.Slice.Eq.{bytes_eq-Decides}
use Rattle.oberon_types.specs.declared.entity.View.{View}
use Rattle.oberon_types.specs.Entities.{ViewTree, missing_view}
use Rattle.oberon_types.specs.Memory.{plain_view}
use Rattle.oberon_types.specs.Types.{same_name}
use Rattle.oberon_rules.specs.Local.{view_in}
use Rattle.oberon_module.specs.Views.{plain_views}
use Rattle.oberon_module.proofs.ImportLaws.{view_or, found_view}
use Rattle.target_graph.specs.declared.target.Target.{Target}
use Rattle.build_sources.specs.Known.{AreViewsOf, IsViewOf}

pub view_put : (vs ws : List (List ℕ × View)) (name : List ℕ) (view : View) (x : List ℕ) → lookup (same_name x) ws ≡ (if same_name name x then Some view else lookup (same_name x) vs)
    → view_in (plain_views ws) x ≡ (if same_name name x then plain_view view else view_in (plain_views vs) x)
view_put vs ws name view x is = sym (found_view x ws) ∙ ap view_or is ∙ by_test (same_name name x)
  where
    by_test : (b : Bool) → view_or (if b then Some view else lookup (same_name x) vs) ≡ (if b then plain_view view else view_in (plain_views vs) x)
    by_test true = refl
    by_test false = found_view x vs

module _ (targets : List Target) (target : ℕ) (kept : List View) (done : List (List ℕ)) (name : List ℕ) (old new : List ℕ → ViewTree) (view : ViewTree) where
  -- the views of some names, and of one more
  pub views_put : ((x : List ℕ) → new x ≡ (if same_name name x then view else old x))
      → IsViewOf targets target kept name view → AreViewsOf targets target kept done old → AreViewsOf targets target kept (done ++ name ∷ []) new
  views_put put this others x listed = subst (IsViewOf targets target kept x) (sym (put x)) (by (Contains-push_cases done name x listed))
    where
      by_test : (b : Bool) → same_name name x ≡ b → Contains done x ⊎ (name ≡ x) → IsViewOf targets target kept x (if b then view else old x)
      by_test true is c = subst (λ (y : List ℕ). IsViewOf targets target kept y view) ((bytes_eq-Decides name x).0 is) this
      by_test false is (inl c) = others x c
      by_test false is (inr e) = absurd (false≢true (sym is ∙ (bytes_eq-Decides name x).1 e))

      by : Contains done x ⊎ (name ≡ x) → IsViewOf targets target kept x (if same_name name x then view else old x)
      by c = by_test (same_name name x) refl c

-- a name that isn't among them has none
pub others_put : (done : List (List ℕ)) (name : List ℕ) (old new : List ℕ → ViewTree) (view : ViewTree) → ((x : List ℕ) → new x ≡ (if same_name name x then view else old x))
    → ((x : List ℕ) → ¬ (Contains done x) → old x ≡ missing_view) → (x : List ℕ) → ¬ (Contains (done ++ name ∷ []) x) → new x ≡ missing_view
others_put done name old new view put others x none = put x ∙ by_test (same_name name x) refl
  where
    by_test : (b : Bool) → same_name name x ≡ b → (if b then view else old x) ≡ missing_view
    by_test true is = absurd (none (subst (Contains (done ++ name ∷ [])) ((bytes_eq-Decides name x).0 is) (Contains-push done name)))
    by_test false is = others x (λ c. none (Contains-append_left done (name ∷ []) x c))
