use Rattle.std.proofs.Common.{ℕ, subst}
use Rattle.target_graph.specs.Faults.{IsRepeat}
use Rattle.target_graph.specs.Workspace.{Space}
use Rattle.build_sources.proofs.sources.Sources.are_apart.Goals as goal

pub returns : goal.returns
returns c = subst (λ (s : Space). (target pair : ℕ) → ¬ (IsRepeat s.targets target pair)) c.deref.ensures c.pairs-pairs.ensures.once
