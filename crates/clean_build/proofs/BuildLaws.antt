-- A build goes on by one place: what is known of the others stays, and what the check found of it is added.
use Rattle.std.proofs.Common.{◌≡◌, ◌≢◌, ◌<◌, ◌++◌, ◌⊎◌, inl, inr, ℕ, List, [], ◌∷◌, Bool, true, false, eqb, length, length-append, All, sym, subst, refl, ◌∙◌, arith}
use Rattle.std.specs.Prelude.{Contains, None}
use Rattle.std.specs.List.{slice_index_or, list_any}
use Rattle.std.proofs.lemmas.Bool.{cases_eq, eqb-true}
use Rattle.std.proofs.lemmas.Cmp.{nat_eq_equiv}
use Rattle.std.proofs.lemmas.List.Elements.{Contains-push, Contains-push_cases, Contains-append_left}
use Rattle.std.proofs.lemmas.Map.Keys.{IsDistinct-push}
use Rattle.std.proofs.lemmas.Map.Steps.{length-le_from_distinct_below}
use Rattle.std.proofs.lemmas.Map.Views.{Contains-from_any}
use Rattle.build_plan.proofs.GetsThrough.{gets_through}
use Rattle.build_plan.specs.Places.{Places, IsReady, with_given, with_finished}
use Rattle.build_plan.specs.Rows.{OnCycle}
use Rattle.oberon_types.specs.declared.entity.View.{View}
use Rattle.build_rules.specs.Views.{HasView}
use Rattle.build_rules.specs.World.{World, Imports}
use Rattle.build_sources.specs.Modules.{AreModules}
use Rattle.clean_build.proofs.SoFar.{IsSoFar}
use Rattle.clean_build.specs.Build.{HasListAt, IsListOf, Slots}
use Rattle.build_sources.specs.Known.{view_at}
use Rattle.target_graph.specs.Workspace.{pairs_of}

not_listed : (xs : List ℕ) (x : ℕ) → (Contains xs x → ⊥) → list_any (eqb x) xs ≡ false
not_listed xs x none = by (list_any (eqb x) xs) refl
  where
    by : (b : Bool) → b ≡ list_any (eqb x) xs → list_any (eqb x) xs ≡ false
    by true is = absurd (none (Contains-from_any eqb-true x xs (sym is)))
    by false is = sym is

-- what is known of the places that were pushed
push_cases : (P : ℕ → Type 0) (xs : List ℕ) (m : ℕ) → ((p : ℕ) → Contains xs p → P p) → P m → (p : ℕ) → Contains (xs ++ m ∷ []) p → P p
push_cases P xs m others one p c = by (Contains-push_cases xs m p c)
  where
    by : Contains xs p ⊎ (m ≡ p) → P p
    by (inl h) = others p h
    by (inr e) = subst P e one

module _ (w : World) (modules : List ℕ) (pl : Places) (m : ℕ) (kept later : List View) (slots filled : Slots) (far : IsSoFar w modules pl kept slots) (ready : IsReady pl m) where
  pub one_on : length later ≡ length kept → length filled ≡ length slots
      → ((p : ℕ) → p ≢ m → view_at later p ≡ view_at kept p) → ((p : ℕ) → p ≢ m → slice_index_or filled p None ≡ slice_index_or slots p None)
      → (Contains modules m → HasView w m (view_at later m) × HasListAt w filled m)
      → IsSoFar w modules (with_finished (with_given pl m) m) later filled
  one_on views_size slots_size views_stay slots_stay here = record {
    rows = far.rows;
    within = far.within;
    kept_all = views_size ∙ far.kept_all;
    sized = slots_size ∙ far.sized;
    distinct = IsDistinct-push nat_eq_equiv pl.given m far.distinct (not_listed pl.given m ready.is_new);
    below = push_cases (λ p. p < length pl.rows) pl.given m far.below ready.within;
    finished = push_cases (λ p. Contains (pl.finished ++ m ∷ []) p) pl.given m (λ p c. Contains-append_left pl.finished (m ∷ []) p (far.finished p c)) (Contains-push pl.finished m);
    only = push_cases (λ p. Contains (pl.given ++ m ∷ []) p) pl.finished m (λ p c. Contains-append_left pl.given (m ∷ []) p (far.only p c)) (Contains-push pl.given m);
    seen = λ p among settled. seen_at p among settled (cases_eq p m);
    listed = λ p among finished. listed_at p among finished (cases_eq p m);
  }
    where
      earlier : (p : ℕ) → p ≢ m → Contains (pl.finished ++ m ∷ []) p → Contains pl.finished p
      earlier p other c = by (Contains-push_cases pl.finished m p c)
        where
          by : Contains pl.finished p ⊎ (m ≡ p) → Contains pl.finished p
          by (inl h) = h
          by (inr e) = absurd (other (sym e))

      settled_at : (p : ℕ) → p ≢ m → Contains (pl.finished ++ m ∷ []) p ⊎ OnCycle pl.rows p → Contains pl.finished p ⊎ OnCycle pl.rows p
      settled_at p other (inl c) = inl (earlier p other c)
      settled_at p other (inr c) = inr c

      seen_at : (p : ℕ) → Contains modules p → Contains (pl.finished ++ m ∷ []) p ⊎ OnCycle pl.rows p → (p ≡ m) ⊎ (p ≡ m → ⊥) → HasView w p (view_at later p)
      seen_at p among settled (inl e) = subst (λ q. HasView w q (view_at later q)) (sym e) (here (subst (Contains modules) e among)).0
      seen_at p among settled (inr other) = subst (HasView w p) (sym (views_stay p other)) (far.seen p among (settled_at p other settled))

      listed_at : (p : ℕ) → Contains modules p → Contains (pl.finished ++ m ∷ []) p → (p ≡ m) ⊎ (p ≡ m → ⊥) → HasListAt w filled p
      listed_at p among finished (inl e) = subst (HasListAt w filled) (sym e) (here (subst (Contains modules) e among)).1
      listed_at p among finished (inr other) = subst (IsListOf w p) (sym (slots_stay p other)) (far.listed p among (earlier p other finished))

module _ (w : World) (modules : List ℕ) (pl : Places) (m : ℕ) (kept : List View) (slots : Slots) (far : IsSoFar w modules pl kept slots) (ready : IsReady pl m) where
  -- a place is left, so fewer were given than there are
  pub given_few : length pl.given < length pl.rows
  given_few =
      let given = pl.given ++ m ∷ [] in
      let most = length-le_from_distinct_below given (length pl.rows) (IsDistinct-push nat_eq_equiv pl.given m far.distinct (not_listed pl.given m ready.is_new))
      (λ q is. push_cases (λ p. p < length pl.rows) pl.given m far.below ready.within q (Contains-from_any eqb-true q given is)) in
      let one = length-append pl.given (m ∷ []) in
      omega (arith, most, one)

  -- the view of each module that it imports is known
  pub imports_seen : AreModules w.targets modules → Contains modules m → (q : ℕ) → Imports w m q → HasView w q (view_at kept q)
  imports_seen are among q i = far.seen q
      (are.closed m among i.means.pair i.means.there i.name q i.means.visible)
      (ready.clear q ((far.rows.each m q).1 i))

-- ---- where no place is left

module _ (w : World) (modules : List ℕ) (pl : Places) (kept : List View) (slots : Slots) (far : IsSoFar w modules pl kept slots) (stuck : (p : ℕ) → ¬ (IsReady pl p)) where
  pub all_listed : AreModules w.targets modules → (p : ℕ) → Contains modules p → HasListAt w slots p
  all_listed are p among = far.listed p among (gets_through pl far.within stuck far.finished p (subst (λ n. p < n) (sym far.rows.size) (within modules are.within among)))
    where
      within : (ms : List ℕ) → All (λ (q : ℕ). q < length (pairs_of w.targets)) ms → Contains ms p → p < length (pairs_of w.targets)
      within ms all c = subst (λ q. q < length (pairs_of w.targets)) c.2 (all c.0 p c.1)
