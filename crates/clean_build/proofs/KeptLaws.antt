-- A build as it begins, and as the check of a module is kept.
use Rattle.std.proofs.Common.{◌≡◌, ◌≢◌, ◌<◌, ◌+◌, ◌++◌, ◌∷◌, ◌⊎◌, inl, inr, ℕ, List, [], Bool, true, false, length, get_or, map, refl, sym, ap, subst, ◌∙◌, arith}
use Rattle.std.specs.Prelude.{Contains, ◌==◌, Some, None, Vec, IsTrue, ◌↔◌, if◌then◌else◌}
use Rattle.std.specs.List.{IsDistinct, slice_set}
use Rattle.std.specs.declared.alloc.Global.{Global}
use Rattle.std.proofs.lemmas.Bool.{cases_eq, false≢true}
use Rattle.std.proofs.lemmas.List.{get_or_append_left, get_or_default, get_or-set_other, get_or-set_same, length-map, length-set, map-append, map-set}
use Rattle.std.proofs.Math.Seq.{get_or-append_seam}
use Rattle.std.proofs.lemmas.List.Elements.{Contains-get_or}
use Rattle.std.proofs.lemmas.Option.{slice_get_within}
use Rattle.build_plan.specs.Places.{Places, IsReady, fresh, with_finished, with_given}
use Rattle.build_plan.specs.Rows.{AreWithin, OnCycle, row_at}
use Rattle.ob_text.specs.declared.diagnostic.Diagnostic.{Diagnostic}
use Rattle.oberon_types.specs.declared.entity.View.{View}
use Rattle.oberon_types.specs.Entities.{ViewTree, cyclic_view, missing_view}
use Rattle.oberon_types.specs.Memory.{plain_view}
use Rattle.build_rules.specs.Views.{HasList, HasView, Shows}
use Rattle.build_rules.specs.World.{World, IsCyclic}
use Rattle.target_graph.specs.Workspace.{pairs_of}
use Rattle.build_sources.proofs.KeptViews.{later_views, views_here, views_length, views_other}
use Rattle.build_sources.proofs.RowLaws.{rows_within}
use Rattle.clean_build.proofs.BuildLaws.{one_on}
use Rattle.build_sources.proofs.ImportLaws.{cyclic_rows}
use Rattle.clean_build.proofs.SoFar.{IsSoFar}
use Rattle.clean_build.specs.Build.{IsListOf, Slots}
use Rattle.build_sources.specs.Known.{view_at}
use Rattle.build_sources.specs.Rows.{AreRows}

-- ---- as it begins

nothing : {X : Type 0} (x : X) → Contains [] x → ⊥
nothing x c = let h = c.1 in omega (arith, h)

none_twice : IsDistinct ◌==◌ []
unfolding IsDistinct
none_twice = tt

module _ (w : World) (modules : List ℕ) (rows : List (List ℕ)) (are : AreRows w rows) (kept : List View) (slots : Slots) where
  pub begun : length kept ≡ length (pairs_of w.targets) → length slots ≡ length (pairs_of w.targets) → ((p : ℕ) → OnCycle rows p → view_at kept p ≡ cyclic_view) → IsSoFar w modules (fresh rows) kept slots
  begun views_size slots_size cyclic = record {
    rows = are;
    within = rows_within w rows are;
    kept_all = views_size;
    sized = slots_size;
    distinct = none_twice;
    below = λ p c. absurd (nothing p c);
    finished = λ p c. absurd (nothing p c);
    only = λ p c. absurd (nothing p c);
    seen = λ p among settled. seen_at p settled;
    listed = λ p among c. absurd (nothing p c);
  }
    where
      seen_at : (p : ℕ) → Contains [] p ⊎ OnCycle rows p → HasView w p (view_at kept p)
      seen_at p (inl c) = absurd (nothing p c)
      seen_at p (inr on) = subst (HasView w p) (sym (cyclic p on)) (Shows.cyclic ((cyclic_rows w rows are p).0 on))

-- ---- as a check is kept

module _ (w : World) (modules : List ℕ) (pl : Places) (m : ℕ) (kept : List View) (slots : Slots) (far : IsSoFar w modules pl kept slots) (ready : IsReady pl m) where
  -- a module that isn't of the build is passed over
  pub passed_on : ¬ (Contains modules m) → IsSoFar w modules (with_finished (with_given pl m) m) kept slots
  passed_on none = one_on w modules pl m kept kept slots slots far ready refl refl (λ p other. refl) (λ p other. refl) (λ among. absurd (none among))

  module _ (cyclic : Bool) (on : IsTrue cyclic ↔ OnCycle pl.rows m) (view : View) (list : Vec Diagnostic Global) (listed : HasList w m list.items) (shown : ¬ (IsCyclic w m) → HasView w m (plain_view view)) where
    view_here : (b : Bool) → cyclic ≡ b → Contains modules m → HasView w m (view_at (later_views b kept m view) m)
    view_here true is among = far.seen m among (inr (on.0 is))
    view_here false is among =
        let h = ready.within in
        let r = far.rows.size in
        let k = far.kept_all in
        subst (HasView w m) (sym (views_here kept m view (omega (arith, h, r, k)))) (shown (λ cycle. false≢true (sym is ∙ on.1 ((cyclic_rows w pl.rows far.rows m).1 cycle))))

    pub kept_on : IsSoFar w modules (with_finished (with_given pl m) m) (later_views cyclic kept m view) (slice_set slots m (Some list))
    kept_on =
        let h = ready.within in
        let r = far.rows.size in
        let s = far.sized in
        let within : m < length slots = omega (arith, h, r, s) in
        one_on w modules pl m kept (later_views cyclic kept m view) slots (slice_set slots m (Some list)) far ready
        (views_length cyclic kept m view) (length-set slots m (Some list))
        (views_other cyclic kept m view) (λ p other. get_or-set_other slots m p (Some list) None other)
        (λ among. (view_here cyclic refl among, subst (IsListOf w m) (sym (get_or-set_same slots m (Some list) None within)) listed))
