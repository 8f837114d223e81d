use Rattle.std.proofs.Common.{◌≡◌, ◌≢◌, ◌<◌, ℕ, List, length, All, true, ap, sym, subst, ◌∙◌}
use Rattle.std.specs.List.{AllPairs}
use Rattle.target_graph.specs.declared.target.Pair.{Pair}
use Rattle.target_graph.specs.declared.target.Target.{Target}
use Rattle.target_graph.specs.Faults.{IsRepeat}
use Rattle.target_graph.specs.Names.{is_path}
use Rattle.target_graph.specs.Workspace.{Space, pairs_of, AreValid}
use Rattle.target_graph.proofs.PairLaws.{pairs_valid, pairs_within}
use Rattle.target_graph.proofs.Distinct.{AreApart, pairs_apart}
use Rattle.target_graph.proofs.workspace.Workspace.pairs.Goals as goal

pub returns-clause-within : goal.returns-clause-within
returns-clause-within c =
    let targets = c.args.self.now.targets in
    let ts = ap (λ (s : Space). s.targets) c.self.view_is in
    let ps : c.as_slice.result.now ≡ pairs_of targets = c.as_slice.ensures.value ∙ (c.self.invariant.pairs ∙ ap pairs_of ts) in
    subst (λ (xs : List Pair). All (λ pair. pair.target < length targets) xs) (sym ps) (pairs_within targets)

pub returns-clause-valid : goal.returns-clause-valid
returns-clause-valid c =
    let targets = c.args.self.now.targets in
    let ts = ap (λ (s : Space). s.targets) c.self.view_is in
    let ps : c.as_slice.result.now ≡ pairs_of targets = c.as_slice.ensures.value ∙ (c.self.invariant.pairs ∙ ap pairs_of ts) in
    subst (λ (xs : List Pair). All (λ pair. is_path pair.path ≡ true) xs) (sym ps) (pairs_valid targets (subst AreValid ts c.self.invariant.sound.valid))

pub returns-clause-distinct : goal.returns-clause-distinct
returns-clause-distinct c =
    let kept = c.self.invariant in
    let inside = c.self.inside in
    let s : Space = record { root = inside.root; targets = inside.targets.items } in
    let made : AllPairs (AreApart s) (pairs_of s.targets) =
    pairs_apart s (subst (λ (names : List (List ℕ)). AllPairs ◌≢◌ names) kept.sound.names kept.sound.distinct) kept.once in
    subst (λ (w : Space). AllPairs (AreApart w) c.as_slice.result.now) c.self.view_is
    (subst (λ (xs : List Pair). AllPairs (AreApart s) xs) (sym (c.as_slice.ensures.value ∙ kept.pairs)) made)

pub returns-clause-once : goal.returns-clause-once
returns-clause-once c = subst (λ (xs : List Target). (t q : ℕ) → ¬ (IsRepeat xs t q)) (ap (λ (s : Space). s.targets) c.self.view_is) c.self.invariant.once
