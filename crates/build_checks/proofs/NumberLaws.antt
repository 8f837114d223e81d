-- The numbers of what modules show, as a module is settled; and those of what a module's imports show.
use Rattle.std.proofs.Common.{◌≡◌, ◌≢◌, ◌<◌, ◌++◌, ◌∷◌, ◌⊎◌, inl, inr, ℕ, List, [], Bool, true, false, Some, length, refl, sym, ap, subst, ◌∙◌}
use Rattle.std.specs.Prelude.{codes, Contains, if◌then◌else◌, slice_get}
use Rattle.std.specs.List.{slice_set}
use Rattle.std.proofs.lemmas.Bool.{cases_eq}
use Rattle.std.proofs.lemmas.List.{get_or-set_other, get_or-set_same, length-set}
use Rattle.std.proofs.lemmas.List.Elements.{Contains-append_left, Contains-push_cases}
use Rattle.build_plan.specs.Places.{Places, with_finished}
use Rattle.iface_key.specs.Keys.{key_of_view}
use Rattle.oberon_rules.specs.Views.{out_view}
use Rattle.oberon_types.specs.declared.entity.View.{View}
use Rattle.oberon_types.specs.Entities.{missing_view}
use Rattle.oberon_types.specs.Memory.{plain_view}
use Rattle.oberon_types.specs.Types.{same_name}
use Rattle.target_graph.specs.Workspace.{pairs_of}
use Rattle.target_graph.specs.declared.target.Pair.{Pair}
use Rattle.build_rules.specs.Views.{HasView, IsShown, shown_elsewhere}
use Rattle.build_rules.specs.World.{World, held_in, Imports, IsCyclic}
use Rattle.build_sources.proofs.ImportLaws.{named_import, seen_by}
use Rattle.build_sources.proofs.KeptViews.{views_here, views_other}
use Rattle.build_sources.specs.Documents.{AreImportsOf}
use Rattle.build_sources.specs.Known.{view_at}
use Rattle.build_checks.proofs.StandLaws.{finished_on}
use Rattle.build_checks.specs.Kept.{Extends, IsNumbered}
use Rattle.build_checks.specs.Numbers.{AreNumbers, IsNumberOf, of_module, of_none, number_at}
use Rattle.build_checks.specs.Stand.{AreSoFar, IsClear}

module _ (keys : List (List ℕ)) (w : World) (modules settled : List ℕ) (kept : List View) (numbers : List ℕ) (out missing : ℕ) (are : AreNumbers keys w modules settled kept numbers out missing) where
  -- as keys get numbers
  pub numbers_on : (later : List (List ℕ)) → Extends keys later → AreNumbers later w modules settled kept numbers out missing
  numbers_on later more = record {
    for_out = more _ _ are.for_out;
    for_missing = more _ _ are.for_missing;
    each = λ p among at. (let h = are.each p among at in (h.0, more _ _ h.1));
  }

  -- as a module is settled
  numbers_more : (m : ℕ) (later : List View) (others : List ℕ) → ((p : ℕ) → p ≢ m → view_at later p ≡ view_at kept p) → ((p : ℕ) → p ≢ m → number_at others p ≡ number_at numbers p)
      → (Contains modules m → HasView w m (view_at later m) × (slice_get keys (number_at others m) ≡ Some (key_of_view (view_at later m))))
      → AreNumbers keys w modules (settled ++ m ∷ []) later others out missing
  numbers_more m later others views_stay numbers_stay here = record {
    for_out = are.for_out;
    for_missing = are.for_missing;
    each = λ p among at. by p among at (cases_eq p m);
  }
    where
      earlier : (p : ℕ) → p ≢ m → Contains (settled ++ m ∷ []) p ⊎ IsCyclic w p → Contains settled p ⊎ IsCyclic w p
      earlier p other (inr cycle) = inr cycle
      earlier p other (inl c) = by_case (Contains-push_cases settled m p c)
        where
          by_case : Contains settled p ⊎ (m ≡ p) → Contains settled p ⊎ IsCyclic w p
          by_case (inl h) = inl h
          by_case (inr e) = absurd (other (sym e))

      by : (p : ℕ) → Contains modules p → Contains (settled ++ m ∷ []) p ⊎ IsCyclic w p → (p ≡ m) ⊎ (p ≡ m → ⊥)
          → HasView w p (view_at later p) × (slice_get keys (number_at others p) ≡ Some (key_of_view (view_at later p)))
      by p among at (inl e) =
          subst (λ q. HasView w q (view_at later q) × (slice_get keys (number_at others q) ≡ Some (key_of_view (view_at later q)))) (sym e) (here (subst (Contains modules) e among))
      by p among at (inr other) =
          let h = are.each p among (earlier p other at) in
          (subst (HasView w p) (sym (views_stay p other)) h.0, ap (slice_get keys) (numbers_stay p other) ∙ h.1 ∙ ap (λ v. Some (key_of_view v)) (sym (views_stay p other)))

  -- one on a cycle keeps what it has
  pub numbers_cyclic : (m : ℕ) → IsCyclic w m → AreNumbers keys w modules (settled ++ m ∷ []) kept numbers out missing
  numbers_cyclic m cycle = numbers_more m kept numbers (λ p other. refl) (λ p other. refl) (λ among. are.each m among (inr cycle))

  -- another one gets its view and the number of that
  pub numbers_view : (m : ℕ) (own : View) (number : ℕ) → m < length kept → m < length numbers → HasView w m (plain_view own) → slice_get keys number ≡ Some (key_of_view (plain_view own))
      → AreNumbers keys w modules (settled ++ m ∷ []) (slice_set kept m own) (slice_set numbers m number) out missing
  numbers_view m own number within also has at =
      numbers_more m (slice_set kept m own) (slice_set numbers m number)
      (views_other false kept m own)
      (λ p other. get_or-set_other numbers m p number 0 other)
      (λ among. (
        subst (HasView w m) (sym (views_here kept m own within)) has,
        ap (slice_get keys) (get_or-set_same numbers m number 0 also) ∙ at ∙ ap (λ v. Some (key_of_view v)) (sym (views_here kept m own within)),
      ))

-- ---- the numbers before a module was settled

numbers_before : (keys : List (List ℕ)) (w : World) (modules settled : List ℕ) (kept later : List View) (numbers others : List ℕ) (out missing m : ℕ)
    → ((p : ℕ) → Contains settled p ⊎ IsCyclic w p → view_at later p ≡ view_at kept p) → ((p : ℕ) → Contains settled p ⊎ IsCyclic w p → number_at others p ≡ number_at numbers p)
    → AreNumbers keys w modules (settled ++ m ∷ []) later others out missing → AreNumbers keys w modules settled kept numbers out missing
numbers_before keys w modules settled kept later numbers others out missing m views_stay numbers_stay are = record {
  for_out = are.for_out;
  for_missing = are.for_missing;
  each = λ p among at.
      (let h = are.each p among (more p at) in (
        subst (HasView w p) (views_stay p at) h.0,
        ap (slice_get keys) (sym (numbers_stay p at)) ∙ (h.1 ∙ ap (λ v. Some (key_of_view v)) (views_stay p at)),
      ));
}
  where
    more : (p : ℕ) → Contains settled p ⊎ IsCyclic w p → Contains (settled ++ m ∷ []) p ⊎ IsCyclic w p
    more p (inl there) = inl (Contains-append_left settled (m ∷ []) p there)
    more p (inr cycle) = inr cycle

-- one on a cycle kept what it had
pub before_cyclic : (keys : List (List ℕ)) (w : World) (modules settled : List ℕ) (kept : List View) (numbers : List ℕ) (out missing m : ℕ)
    → AreNumbers keys w modules (settled ++ m ∷ []) kept numbers out missing → AreNumbers keys w modules settled kept numbers out missing
before_cyclic keys w modules settled kept numbers out missing m are =
    numbers_before keys w modules settled kept kept numbers numbers out missing m (λ p at. refl) (λ p at. refl) are

-- another one got its view and the number of that
pub before_view : (keys : List (List ℕ)) (w : World) (modules settled : List ℕ) (kept : List View) (numbers : List ℕ) (out missing m : ℕ) (own : View) (number : ℕ)
    → ¬ (Contains settled m) → ¬ (IsCyclic w m) → AreNumbers keys w modules (settled ++ m ∷ []) (slice_set kept m own) (slice_set numbers m number) out missing
    → AreNumbers keys w modules settled kept numbers out missing
before_view keys w modules settled kept numbers out missing m own number unsettled acyclic are =
    numbers_before keys w modules settled kept (slice_set kept m own) numbers (slice_set numbers m number) out missing m
    (λ p at. views_other false kept m own p (other p at)) (λ p at. get_or-set_other numbers m p number 0 (other p at)) are
  where
    other : (p : ℕ) → Contains settled p ⊎ IsCyclic w p → p ≢ m
    other p (inl there) same = unsettled (subst (Contains settled) same there)
    other p (inr cycle) same = acyclic (subst (IsCyclic w) same cycle)

-- ---- the views, as a module is settled

module _ (w : World) (modules : List ℕ) (pl : Places) (kept : List View) (numbers : List ℕ) (far : AreSoFar w modules pl kept numbers) (m : ℕ) (given : Contains pl.given m) where
  pub settled_cyclic : AreSoFar w modules (with_finished pl m) kept numbers
  settled_cyclic = finished_on w modules pl kept numbers far m kept numbers given refl refl

  pub settled_view : (own : View) (number : ℕ) → AreSoFar w modules (with_finished pl m) (slice_set kept m own) (slice_set numbers m number)
  settled_view own number =
      finished_on w modules pl kept numbers far m (slice_set kept m own) (slice_set numbers m number) given (length-set kept m own) (length-set numbers m number)

-- ---- the numbers of a module's imports

module _ (keys : List (List ℕ)) (w : World) (modules settled : List ℕ) (kept : List View) (numbers : List ℕ) (out missing : ℕ) (are : AreNumbers keys w modules settled kept numbers out missing)
    (p : ℕ) (pair : Pair) (there : slice_get (pairs_of w.targets) p ≡ Some pair) (names : List (List ℕ)) (of : AreImportsOf (held_in w p) names)
    (clear : IsClear w settled p) (among : (q : ℕ) → Imports w p q → Contains modules q) where
  -- the views that are kept of what it imports are their own
  pub clear_views : (q : ℕ) → Imports w p q → HasView w q (view_at kept q)
  clear_views q i = (are.each q (among q i) (clear q i)).0

  pub number_shown : (name : List ℕ) → Contains names name → (number : ℕ) → IsNumberOf w.targets pair.target numbers out missing name number → IsNumbered keys w p (name, number)
  number_shown name listed number (of_module q visible is) =
      let i = named_import w p pair there names of name listed q visible in
      record {
        view = view_at kept q;
        shown = IsShown.of_module q (record { pair = pair; there = there; visible = visible }) (clear_views q i);
        number = ap (slice_get keys) is ∙ (are.each q (among q i) (clear q i)).1;
      }
  number_shown name listed number (of_none none is) = record {
    view = shown_elsewhere name;
    shown = IsShown.of_none (λ q means. none q (seen_by w p pair there name q means)) refl;
    number = ap (slice_get keys) is ∙ by (same_name name (codes "Out"));
  }
    where
      by : (b : Bool) → slice_get keys (if b then out else missing) ≡ Some (key_of_view (if b then out_view else missing_view))
      by true = are.for_out
      by false = are.for_missing
