-- The checks of a build as they begin.
use Rattle.std.proofs.Common.{◌≡◌, ◌==◌, ◌<◌, ◌⊎◌, inl, inr, ℕ, List, [], Some, length, replicate, sym, ap, subst, ◌∙◌, arith}
use Rattle.std.specs.Prelude.{Contains, ◌↔◌, slice_get}
use Rattle.std.specs.List.{IsDistinct, list_any}
use Rattle.std.proofs.lemmas.List.{get_or-replicate}
use Rattle.std.proofs.lemmas.List.Elements.{All-contains}
use Rattle.build_plan.specs.Places.{fresh}
use Rattle.build_plan.specs.Rows.{OnCycle}
use Rattle.iface_key.specs.Keys.{key_of_view}
use Rattle.oberon_rules.specs.Views.{out_view}
use Rattle.oberon_types.specs.declared.entity.View.{View}
use Rattle.oberon_types.specs.Entities.{cyclic_view, missing_view}
use Rattle.target_graph.specs.Workspace.{pairs_of}
use Rattle.build_rules.specs.Views.{HasView, Shows}
use Rattle.build_rules.specs.World.{World, IsCyclic}
use Rattle.build_sources.proofs.ImportLaws.{cyclic_rows}
use Rattle.build_sources.proofs.ListLaws.{any_listed, listed_any}
use Rattle.build_sources.specs.Known.{view_at}
use Rattle.build_sources.specs.Modules.{AreModules}
use Rattle.build_sources.specs.Rows.{AreRows}
use Rattle.build_checks.proofs.ListLaws.{among_listed, listed_among}
use Rattle.build_checks.specs.Numbers.{AreNumbers, number_at}
use Rattle.build_checks.specs.Stand.{AreSoFar, is_among}

nothing : {X : Type 0} (x : X) → Contains [] x → ⊥
nothing x c = let h = c.1 in omega (arith, h)

none_twice : IsDistinct ◌==◌ []
unfolding IsDistinct
none_twice = tt

-- the set of the modules has just these
pub wanted_are : (keys modules : List ℕ) → ((n : ℕ) → is_among keys n ≡ list_any (λ number. number == n) modules) → (p : ℕ) → Contains keys p ↔ Contains modules p
wanted_are keys modules is p = (
  (λ c. any_listed p modules (sym (is p) ∙ listed_among keys p c)),
  (λ c. among_listed keys p (is p ∙ listed_any p modules c)),
)

module _ (w : World) (keys modules : List ℕ) (same : (p : ℕ) → Contains keys p ↔ Contains modules p) (are : AreModules w.targets modules) (rows : List (List ℕ)) (imports : AreRows w rows) (kept : List View)
    (cyclic : (p : ℕ) → OnCycle rows p → view_at kept p ≡ cyclic_view) where
  pub begun : (numbers : List ℕ) → length kept ≡ length (pairs_of w.targets) → length numbers ≡ length (pairs_of w.targets) → AreSoFar w keys (fresh rows) kept numbers
  begun numbers views_size numbers_size = record {
    rows = imports;
    within = λ p among. All-contains (λ (q : ℕ). q < length (pairs_of w.targets)) modules p are.within ((same p).0 among);
    closed = λ p among pair there name q visible. (same q).1 (are.closed p ((same p).0 among) pair there name q visible);
    kept_all = views_size;
    numbered_all = numbers_size;
    distinct = none_twice;
    below = λ p c. absurd (nothing p c);
    only = λ p c. absurd (nothing p c);
    passed = λ p c none. absurd (nothing p c);
  }

  pub begun_numbers : (numbered : List (List ℕ)) (out missing circle count : ℕ) → count ≡ length (pairs_of w.targets) → slice_get numbered out ≡ Some (key_of_view out_view) → slice_get numbered missing ≡ Some (key_of_view missing_view)
      → slice_get numbered circle ≡ Some (key_of_view cyclic_view) → AreNumbers numbered w keys [] kept (replicate count circle) out missing
  begun_numbers numbered out missing circle count all at_out at_missing at_circle = record {
    for_out = at_out;
    for_missing = at_missing;
    each = λ p among at. by p among at;
  }
    where
      by : (p : ℕ) → Contains keys p → Contains [] p ⊎ IsCyclic w p
          → HasView w p (view_at kept p) × (slice_get numbered (number_at (replicate count circle) p) ≡ Some (key_of_view (view_at kept p)))
      by p among (inl c) = absurd (nothing p c)
      by p among (inr cycle) =
          let h = All-contains (λ (q : ℕ). q < length (pairs_of w.targets)) modules p are.within ((same p).0 among) in
          let shows_it = cyclic p ((cyclic_rows w rows imports p).1 cycle) in (
            subst (HasView w p) (sym shows_it) (Shows.cyclic cycle),
            ap (slice_get numbered) (get_or-replicate count p circle 0 (omega (arith, h, all))) ∙ at_circle ∙ ap (λ v. Some (key_of_view v)) (sym shows_it),
          )
