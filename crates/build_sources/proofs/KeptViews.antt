-- The views that are kept of modules: the first ones, and as that of a module is kept.
use Rattle.std.proofs.Common.{◌≡◌, ◌≢◌, ◌<◌, ◌+◌, ◌++◌, ◌∷◌, ◌⊎◌, inl, inr, ℕ, List, [], Bool, true, false, length, get_or, map, refl, sym, ap, subst, ◌∙◌, arith}
use Rattle.std.specs.Prelude.{if◌then◌else◌}
use Rattle.std.specs.List.{slice_set}
use Rattle.std.proofs.lemmas.Bool.{cases_eq}
use Rattle.std.proofs.lemmas.List.{get_or_append_left, get_or-set_other, get_or-set_same, length-map, length-set, map-append, map-set}
use Rattle.std.proofs.Math.Seq.{get_or-append_seam}
use Rattle.build_plan.specs.Rows.{OnCycle}
use Rattle.oberon_types.specs.declared.entity.View.{View}
use Rattle.oberon_types.specs.Entities.{ViewTree, cyclic_view, missing_view}
use Rattle.oberon_types.specs.Memory.{plain_view}
use Rattle.build_sources.specs.Known.{view_at}

-- the views, where that of a module on a cycle stays
abbrev pub later_views : Bool → List View → ℕ → View → List View
later_views cyclic kept m view = if cyclic then kept else slice_set kept m view

pub views_length : (cyclic : Bool) (kept : List View) (m : ℕ) (view : View) → length (later_views cyclic kept m view) ≡ length kept
views_length true kept m view = refl
views_length false kept m view = length-set kept m view

pub views_other : (cyclic : Bool) (kept : List View) (m : ℕ) (view : View) (p : ℕ) → p ≢ m → view_at (later_views cyclic kept m view) p ≡ view_at kept p
views_other true kept m view p other = refl
views_other false kept m view p other = ap (λ (vs : List ViewTree). get_or vs p missing_view) (map-set plain_view kept m view) ∙ get_or-set_other (map plain_view kept) m p (plain_view view) missing_view other

pub views_here : (kept : List View) (m : ℕ) (view : View) → m < length kept → view_at (slice_set kept m view) m ≡ plain_view view
views_here kept m view h =
    let size = length-map kept plain_view in
    ap (λ (vs : List ViewTree). get_or vs m missing_view) (map-set plain_view kept m view) ∙ get_or-set_same (map plain_view kept) m (plain_view view) missing_view (omega (arith, h, size))

-- ---- the first views

module _ (rows : List (List ℕ)) (views : List View) (view : View) (n : ℕ) (size : length views ≡ n) where
  pub views_more : ((p : ℕ) → p < n → OnCycle rows p → view_at views p ≡ cyclic_view) → (OnCycle rows n → plain_view view ≡ cyclic_view)
      → (p : ℕ) → p < n + 1 → OnCycle rows p → view_at (views ++ view ∷ []) p ≡ cyclic_view
  views_more others this p h on = by (cases_eq p n)
    where
      all : List ViewTree
      all = map plain_view views

      sized : length all ≡ length views
      sized = length-map views plain_view

      added : (q : ℕ) → view_at (views ++ view ∷ []) q ≡ get_or (all ++ plain_view view ∷ []) q missing_view
      added q = ap (λ (vs : List ViewTree). get_or vs q missing_view) (map-append plain_view views (view ∷ []))

      by : (p ≡ n) ⊎ (p ≡ n → ⊥) → view_at (views ++ view ∷ []) p ≡ cyclic_view
      by (inl e) =
          added p
          ∙ ap (λ k. get_or (all ++ plain_view view ∷ []) k missing_view) (e ∙ sym size ∙ sym sized)
          ∙ get_or-append_seam all (plain_view view) [] missing_view
          ∙ this (subst (OnCycle rows) e on)
      by (inr other) =
          let below : p < n = omega (arith, h, other) in
          added p ∙ get_or_append_left all (plain_view view ∷ []) missing_view p (omega (arith, below, size, sized)) ∙ others p below on
