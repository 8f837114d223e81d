use Rattle.std.proofs.Common.{ℕ, ◌<◌, [], length, arith}
use Rattle.std.proofs.lemmas.List.Elements.{All-nil, All-cons}
use Rattle.workspace_tests.proofs.questions.closes_targets.Goals as goal

pub closure-requires : goal.closure-requires
closure-requires g c =
    let n : ℕ = length c.in_ok-workspace.workspace.targets in
    All-cons (λ (t : ℕ). t < n) 0 [] (omega (arith, c.in_ok-workspace.ensures.targets)) (All-nil (λ (t : ℕ). t < n))
