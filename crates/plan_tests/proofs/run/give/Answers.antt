use Rattle.std.proofs.Common.{◌≡◌, ◌≤◌, ◌∷◌, ◌++◌, [], ℕ, List, length, Contains, ap, sym, subst, ◌∙◌, arith}
use Rattle.std.proofs.lemmas.List.{take-append-le, length_push}
use Rattle.std.proofs.lemmas.List.Elements.{Contains-get_or}
use Rattle.std.proofs.lemmas.List.Quantifiers.{all_pairs_push}
use Rattle.build_plan.specs.Places.{Places, with_given, IsLeastReady}
use Rattle.plan_tests.specs.Run.{IsRun}
use Rattle.plan_tests.proofs.run.give.Goals as goal

-- a place that is given now wasn't given before
run_more : (places : Places) (order : List ℕ) (count p : ℕ) → IsRun places order count → count ≤ length order → IsLeastReady places p
    → IsRun (with_given places p) (order ++ p ∷ []) count
run_more places order count p run h least = record {
  given = ap (λ (xs : List ℕ). xs ++ p ∷ []) run.given;
  finished = run.finished ∙ sym (take-append-le count order (p ∷ []) h);
  distinct = all_pairs_push (λ a b. a ≡ b → ⊥) order p run.distinct
      (λ k d l e. least.ready.is_new (subst (λ (xs : List ℕ). Contains xs p) (sym run.given) (subst (λ x. Contains order x) e (Contains-get_or order k d l))));
}

pub loop-preserved : goal.loop-preserved
loop-preserved c =
    let more = run_more c.loop.plan c.loop.order.items c.args.finished c.in-Some.place c.loop.invariant.run c.loop.invariant.finished c.in-Some.ensures.least in
    let pushed = c.in_ok-push-in-Some.ensures.items in
    record {
      run = subst (λ (s : Places). IsRun s c.push.new.self.items c.args.finished) (sym c.in-Some.ensures.given)
          (subst (λ (xs : List ℕ). IsRun (with_given c.loop.plan c.in-Some.place) xs c.args.finished) (sym pushed) more);
      finished = (let a = ap length pushed in let b = length_push c.loop.order.items c.in-Some.place in let f = c.loop.invariant.finished in omega arith);
    }
