-- Checks of which the plan alone went on, while the next module is looked for.
use Rattle.std.proofs.Common.{◌≡◌, ◌++◌, ◌∷◌, [], ◌<◌, ◌≤◌, ◌-◌, ℕ, List, length, length-append, refl, sym, ap, subst, ◌∙◌, arith}
use Rattle.std.specs.Prelude.{Contains}
use Rattle.build_plan.specs.Places.{Places, IsLeastReady, with_finished, with_given}
use Rattle.build_plan.specs.Places as plan
use Rattle.build_checks.proofs.ListLaws.{build_push}
use Rattle.build_checks.proofs.StandLaws.{all_settled, given_few, least_can, of_can, taken_on}
use Rattle.build_checks.specs.Numbers.{AreNumbers, AreNumbersOf}
use Rattle.build_checks.specs.Stand.{AreChecks, AreSoFar, CanBeTaken, IsNext, IsReady, left_of, modules_of, of_build, settled_of, taken_of, world_of}
use Rattle.build_checks.specs.declared.checks.Checks.{Checks}

carried : (P : Checks → Type 0) (c d : Checks) (pl : Places) → d ≡ record c { plan = d.plan } → P (record c { plan = pl }) → P (record d { plan = pl })
carried P c d pl same p = subst (λ (x : Checks). P (record x { plan = pl })) (sym same) p

module _ (fn now : Checks) (pl : Places) (same : now ≡ record fn { plan = now.plan }) (sources : AreChecks fn)
    (far : AreSoFar (world_of fn) fn.wanted.keys now.plan fn.views.items fn.numbers.items)
    (given : of_build fn.wanted.keys now.plan.given ≡ taken_of fn) (finished : of_build fn.wanted.keys now.plan.finished ≡ settled_of fn) where
  seen_before : (P : List ℕ → List ℕ → Type 0) → P (of_build fn.wanted.keys now.plan.given) (of_build fn.wanted.keys now.plan.finished) → P (taken_of fn) (settled_of fn)
  seen_before P p = subst (P (taken_of fn)) finished (subst (λ (xs : List ℕ). P xs (of_build fn.wanted.keys now.plan.finished)) given p)

  seen_now : (P : List ℕ → List ℕ → Type 0) → P (taken_of fn) (settled_of fn) → P (of_build fn.wanted.keys now.plan.given) (of_build fn.wanted.keys now.plan.finished)
  seen_now P p = subst (P (of_build fn.wanted.keys now.plan.given)) (sym finished) (subst (λ (xs : List ℕ). P xs (settled_of fn)) (sym given) p)

  pub checks_now : AreSoFar (world_of fn) fn.wanted.keys pl fn.views.items fn.numbers.items → AreChecks (record now { plan = pl })
  checks_now so_far = carried AreChecks fn now pl same (record { sources = sources.sources; so_far = so_far })

  pub settled_now : of_build fn.wanted.keys pl.finished ≡ of_build fn.wanted.keys now.plan.finished → settled_of (record now { plan = pl }) ≡ settled_of fn
  settled_now e = carried (λ x. settled_of x ≡ settled_of fn) fn now pl same (e ∙ finished)

  pub numbers_now : of_build fn.wanted.keys pl.finished ≡ of_build fn.wanted.keys now.plan.finished → (keys : List (List ℕ)) → AreNumbersOf keys fn → AreNumbersOf keys (record now { plan = pl })
  numbers_now e keys are =
      carried (AreNumbersOf keys) fn now pl same
      (subst (λ (settled : List ℕ). AreNumbers keys (world_of fn) fn.wanted.keys settled fn.views.items fn.numbers.items fn.out fn.missing) (sym (e ∙ finished)) are)

  pub numbers_before_now : of_build fn.wanted.keys pl.finished ≡ of_build fn.wanted.keys now.plan.finished → (keys : List (List ℕ)) → AreNumbersOf keys (record now { plan = pl }) → AreNumbersOf keys fn
  numbers_before_now e keys =
      carried (λ x. AreNumbersOf keys x → AreNumbersOf keys fn) fn now pl same
      (λ are. subst (λ (settled : List ℕ). AreNumbers keys (world_of fn) fn.wanted.keys settled fn.views.items fn.numbers.items fn.out fn.missing) (e ∙ finished) are)

  pub world_now : world_of (record now { plan = pl }) ≡ world_of fn
  world_now = carried (λ x. world_of x ≡ world_of fn) fn now pl same refl

  pub modules_now : modules_of (record now { plan = pl }) ≡ modules_of fn
  modules_now = carried (λ x. modules_of x ≡ modules_of fn) fn now pl same refl

  -- ---- a module of the build is taken

  module _ (m : ℕ) (is : pl ≡ with_given now.plan m) (least : IsLeastReady now.plan m) (among : Contains fn.wanted.keys m) (rows : now.plan.rows ≡ fn.plan.rows) (further : length fn.plan.given ≤ length now.plan.given) where
    pub checks_taken : AreChecks (record now { plan = pl })
    checks_taken =
        checks_now (subst (λ (x : Places). AreSoFar (world_of fn) fn.wanted.keys x fn.views.items fn.numbers.items) (sym is)
        (taken_on (world_of fn) fn.wanted.keys now.plan fn.views.items fn.numbers.items far m least.ready among))

    pub finished_taken : of_build fn.wanted.keys pl.finished ≡ of_build fn.wanted.keys now.plan.finished
    finished_taken = ap (λ (x : Places). of_build fn.wanted.keys x.finished) is

    pub next_taken : IsNext fn m
    next_taken =
        let both = seen_before (λ taken settled. IsReady (world_of fn) fn.wanted.keys taken settled m × ((q : ℕ) → IsReady (world_of fn) fn.wanted.keys taken settled q → m ≤ q))
        (least_can (world_of fn) fn.wanted.keys now.plan fn.views.items fn.numbers.items far m least among) in
        record { ready = both.0; least = both.1 }

    pub taken_taken : taken_of (record now { plan = pl }) ≡ taken_of fn ++ m ∷ []
    taken_taken =
        carried (λ x. taken_of x ≡ taken_of fn ++ m ∷ []) fn now pl same
        (ap (λ (x : Places). of_build fn.wanted.keys x.given) is ∙ build_push fn.wanted.keys now.plan.given m among ∙ ap (λ (xs : List ℕ). xs ++ m ∷ []) given)

    pub less_taken : left_of (record now { plan = pl }) < left_of fn
    less_taken =
        let few = given_few (world_of fn) fn.wanted.keys now.plan fn.views.items fn.numbers.items far m least.ready in
        let one = length-append now.plan.given (m ∷ []) in
        let size = ap (λ (xs : List (List ℕ)). length xs) rows in
        carried (λ x. left_of x < left_of fn) fn now pl same
        (subst (λ (x : Places). length x.rows - length x.given < length fn.plan.rows - length fn.plan.given) (sym is) (omega (arith, few, one, size, further)))

  -- ---- none is left

  module _ (is : pl ≡ now.plan) (stuck : (p : ℕ) → ¬ (plan.IsReady now.plan p)) where
    pub checks_none : AreChecks (record now { plan = pl })
    checks_none = checks_now (subst (λ (x : Places). AreSoFar (world_of fn) fn.wanted.keys x fn.views.items fn.numbers.items) (sym is) far)

    pub finished_none : of_build fn.wanted.keys pl.finished ≡ of_build fn.wanted.keys now.plan.finished
    finished_none = ap (λ (x : Places). of_build fn.wanted.keys x.finished) is

    pub left_none : now.plan.rows ≡ fn.plan.rows → length fn.plan.given ≤ length now.plan.given → left_of (record now { plan = pl }) ≤ left_of fn
    left_none rows further =
        let size = ap (λ (xs : List (List ℕ)). length xs) rows in
        carried (λ x. left_of x ≤ left_of fn) fn now pl same
        (subst (λ (x : Places). length x.rows - length x.given ≤ length fn.plan.rows - length fn.plan.given) (sym is) (omega (arith, size, further)))

    pub none_none : (p : ℕ) → ¬ (CanBeTaken fn p)
    none_none p can =
        stuck p (of_can (world_of fn) fn.wanted.keys now.plan fn.views.items fn.numbers.items far p (seen_now (λ taken settled. IsReady (world_of fn) fn.wanted.keys taken settled p) can))

    pub taken_none : taken_of (record now { plan = pl }) ≡ taken_of fn
    taken_none = carried (λ x. taken_of x ≡ taken_of fn) fn now pl same (ap (λ (x : Places). of_build fn.wanted.keys x.given) is ∙ given)

    pub through_none : ((p : ℕ) → Contains (taken_of fn) p → Contains (settled_of fn) p) → (p : ℕ) → Contains (modules_of fn) p → Contains (settled_of fn) p
    through_none settled p among =
        subst (λ (xs : List ℕ). Contains xs p) finished
        (all_settled (world_of fn) fn.wanted.keys now.plan fn.views.items fn.numbers.items far stuck
        (seen_now (λ taken settled. (q : ℕ) → Contains taken q → Contains settled q) settled) p among)
