use Rattle.std.proofs.Common.{ℕ, List, filter, not, subst}
use Rattle.std.specs.List.{AllPairs}
use Rattle.session_build.specs.Cleaning.{AreOthers, KeepsOnly, is_key_at, is_of}
use Rattle.session_build.proofs.CleaningLaws.{cleaned, keeps_in}
use Rattle.session_build.proofs.kept.Kept.clean.Goals as goal
use Rattle.target_graph.specs.Workspace.{pairs_of}
use Rattle.target_graph.specs.declared.target.Pair.{Pair}
use Rattle.target_graph.proofs.Distinct.{AreApart}

pub returns-clause-cleaned : goal.returns-clause-cleaned
returns-clause-cleaned c =
    let space = c.args.workspace.now in
    let targets : List ℕ = c.args.targets.now in
    let indices : List ℕ = c.in_ok-kept.kept.items in
    cleaned space (subst (λ (ps : List Pair). AllPairs (AreApart space) ps) c.pairs.ensures.pairs c.pairs.ensures.distinct) targets indices
    (subst (λ (ps : List Pair). AreOthers ps targets indices) c.pairs.ensures.pairs c.in_ok-kept.ensures) c.args.self.now c.keep.new.self
    (subst (λ (is : List ℕ). KeepsOnly (is_key_at space.targets is) c.args.self.now c.keep.new.self) c.as_slice.ensures.value c.in_ok-keep.ensures)

pub returns-clause-only : goal.returns-clause-only
returns-clause-only c =
    let space = c.args.workspace.now in
    let targets : List ℕ = c.args.targets.now in
    let indices : List ℕ = c.in_ok-kept.kept.items in
    keeps_in space.targets indices (filter (λ (pair : Pair). not (is_of targets pair)) (pairs_of space.targets))
    (subst (λ (ps : List Pair). AreOthers ps targets indices) c.pairs.ensures.pairs c.in_ok-kept.ensures) c.args.self.now c.keep.new.self
    (subst (λ (is : List ℕ). KeepsOnly (is_key_at space.targets is) c.args.self.now c.keep.new.self) c.as_slice.ensures.value c.in_ok-keep.ensures)
