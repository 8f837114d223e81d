-- The checks of a build go on: a module is passed over, is taken, is settled. And they get through.
use Rattle.std.proofs.Common.{◌≡◌, ◌<◌, ◌≤◌, ◌++◌, ◌∷◌, ◌⊎◌, inl, inr, ℕ, List, [], Bool, true, false, length, length-append, refl, sym, ◌∙◌, arith}
use Rattle.std.specs.Prelude.{Contains, ◌==◌}
use Rattle.std.specs.List.{IsDistinct}
use Rattle.std.proofs.lemmas.Bool.{eqb-true}
use Rattle.std.proofs.lemmas.Cmp.{nat_eq_equiv}
use Rattle.std.proofs.lemmas.List.Elements.{Contains-append_left, Contains-push}
use Rattle.std.proofs.lemmas.Map.Keys.{IsDistinct-push}
use Rattle.std.proofs.lemmas.Map.Steps.{length-le_from_distinct_below}
use Rattle.std.proofs.lemmas.Map.Views.{Contains-from_any}
use Rattle.build_plan.proofs.GetsThrough.{gets_through}
use Rattle.build_plan.specs.Places.{Places, IsLeastReady, with_given, with_finished}
use Rattle.build_plan.specs.Places as plan
use Rattle.build_plan.specs.Rows.{OnCycle}
use Rattle.oberon_types.specs.declared.entity.View.{View}
use Rattle.build_rules.specs.World.{World, Imports, IsCyclic}
use Rattle.build_sources.proofs.ImportLaws.{cyclic_rows}
use Rattle.build_sources.proofs.RowLaws.{rows_within}
use Rattle.build_checks.proofs.ListLaws.{among_listed, build_listed, listed_build, not_among, push_cases}
use Rattle.build_checks.specs.Stand.{AreSoFar, IsReady, is_among, of_build}

not_listed : (xs : List ℕ) (x : ℕ) → (Contains xs x → ⊥) → is_among xs x ≡ false
not_listed xs x none = by (is_among xs x) refl
  where
    by : (b : Bool) → b ≡ is_among xs x → is_among xs x ≡ false
    by true is = absurd (none (Contains-from_any eqb-true x xs (sym is)))
    by false is = sym is

module _ (w : World) (modules : List ℕ) (pl : Places) (kept : List View) (numbers : List ℕ) (far : AreSoFar w modules pl kept numbers) where
  -- ---- the next place

  module _ (m : ℕ) (ready : plan.IsReady pl m) where
    distinct_on : IsDistinct ◌==◌ (pl.given ++ m ∷ [])
    distinct_on = IsDistinct-push nat_eq_equiv pl.given m far.distinct (not_listed pl.given m ready.is_new)

    below_on : (p : ℕ) → Contains (pl.given ++ m ∷ []) p → p < length pl.rows
    below_on = push_cases (λ p. p < length pl.rows) pl.given m far.below ready.within

    -- a place is left, so fewer were given than there are
    pub given_few : length pl.given < length pl.rows
    given_few =
        let given = pl.given ++ m ∷ [] in
        let most = length-le_from_distinct_below given (length pl.rows) distinct_on (λ q is. below_on q (Contains-from_any eqb-true q given is)) in
        let one = length-append pl.given (m ∷ []) in
        omega (arith, most, one)

    -- a module of the build is taken
    pub taken_on : Contains modules m → AreSoFar w modules (with_given pl m) kept numbers
    taken_on among = record {
      rows = far.rows;
      within = far.within;
      closed = far.closed;
      kept_all = far.kept_all;
      numbered_all = far.numbered_all;
      distinct = distinct_on;
      below = below_on;
      only = λ p c. Contains-append_left pl.given (m ∷ []) p (far.only p c);
      passed = push_cases (λ p. ¬ (Contains modules p) → Contains pl.finished p) pl.given m far.passed (λ none. absurd (none among));
    }

    -- another one is passed over
    pub passed_on : ¬ (Contains modules m) → AreSoFar w modules (with_finished (with_given pl m) m) kept numbers
    passed_on none = record {
      rows = far.rows;
      within = far.within;
      closed = far.closed;
      kept_all = far.kept_all;
      numbered_all = far.numbered_all;
      distinct = distinct_on;
      below = below_on;
      only = push_cases (λ p. Contains (pl.given ++ m ∷ []) p) pl.finished m (λ p c. Contains-append_left pl.given (m ∷ []) p (far.only p c)) (Contains-push pl.given m);
      passed = push_cases (λ p. ¬ (Contains modules p) → Contains (pl.finished ++ m ∷ []) p) pl.given m
          (λ p c out. Contains-append_left pl.finished (m ∷ []) p (far.passed p c out)) (λ out. Contains-push pl.finished m);
    }

  -- ---- a place is finished

  pub finished_on : (m : ℕ) (later : List View) (others : List ℕ) → Contains pl.given m → length later ≡ length kept → length others ≡ length numbers
      → AreSoFar w modules (with_finished pl m) later others
  finished_on m later others given views_size numbers_size = record {
    rows = far.rows;
    within = far.within;
    closed = far.closed;
    kept_all = views_size ∙ far.kept_all;
    numbered_all = numbers_size ∙ far.numbered_all;
    distinct = far.distinct;
    below = far.below;
    only = push_cases (Contains pl.given) pl.finished m far.only given;
    passed = λ p c out. Contains-append_left pl.finished (m ∷ []) p (far.passed p c out);
  }

  -- ---- which module can be taken

  abbrev Can : ℕ → Type 0
  Can p = IsReady w modules (of_build modules pl.given) (of_build modules pl.finished) p

  -- what the names of a module of the build mean are modules of the build
  pub import_among : (p q : ℕ) → Contains modules p → Imports w p q → Contains modules q
  import_among p q among i = far.closed p among i.means.pair i.means.there i.name q i.means.visible

  can_of : (m : ℕ) → plan.IsReady pl m → Contains modules m → Can m
  can_of m ready among = record {
    among = among;
    is_new = λ c. ready.is_new (build_listed modules pl.given m c).0;
    clear = λ q i. by q (import_among m q among i) (ready.clear q ((far.rows.each m q).1 i));
  }
    where
      by : (q : ℕ) → Contains modules q → Contains pl.finished q ⊎ OnCycle pl.rows q → Contains (of_build modules pl.finished) q ⊎ IsCyclic w q
      by q of (inl c) = inl (listed_build modules pl.finished q c of)
      by q of (inr o) = inr ((cyclic_rows w pl.rows far.rows q).0 o)

  pub of_can : (m : ℕ) → Can m → plan.IsReady pl m
  of_can m can = record {
    within = (let h = far.within m can.among in let size = far.rows.size in omega (arith, h, size));
    is_new = λ c. can.is_new (listed_build modules pl.given m c can.among);
    clear = λ q i. by q (can.clear q ((far.rows.each m q).0 i));
  }
    where
      by : (q : ℕ) → Contains (of_build modules pl.finished) q ⊎ IsCyclic w q → Contains pl.finished q ⊎ OnCycle pl.rows q
      by q (inl c) = inl (build_listed modules pl.finished q c).0
      by q (inr cycle) = inr ((cyclic_rows w pl.rows far.rows q).1 cycle)

  pub least_can : (m : ℕ) → IsLeastReady pl m → Contains modules m → Can m × ((q : ℕ) → Can q → m ≤ q)
  least_can m least among = (can_of m least.ready among, λ q can. least.least q (of_can q can))

  -- ---- the end

  pub all_settled : ((p : ℕ) → ¬ (plan.IsReady pl p)) → ((p : ℕ) → Contains (of_build modules pl.given) p → Contains (of_build modules pl.finished) p)
      → (p : ℕ) → Contains modules p → Contains (of_build modules pl.finished) p
  all_settled stuck settled p among =
      let h = far.within p among in
      let size = far.rows.size in
      listed_build modules pl.finished p (gets_through pl (rows_within w pl.rows far.rows) stuck finished p (omega (arith, h, size))) among
    where
      finished : (q : ℕ) → Contains pl.given q → Contains pl.finished q
      finished q c = by (is_among modules q) refl
        where
          by : (b : Bool) → is_among modules q ≡ b → Contains pl.finished q
          by true is = (build_listed modules pl.finished q (settled q (listed_build modules pl.given q c (among_listed modules q is)))).0
          by false is = far.passed q c (not_among modules q is)
