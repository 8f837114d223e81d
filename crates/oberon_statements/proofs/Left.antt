-- What is left of labels and of arms, behind some of them: it goes on as all did from the start.
use Rattle.std.specs.Prelude.{◌≡◌, ℕ, List, map}
use Rattle.oberon_tree.specs.declared.statement.Label.{Label}
use Rattle.oberon_tree.specs.declared.statement.NextLabel.{NextLabel}
use Rattle.oberon_tree.specs.Trees.{MoreArmsTree}
use Rattle.oberon_rules.specs.Scopes.{Scopes}
use Rattle.oberon_rules.specs.Statements.{CaseKind, Interval, labels_say, labels_behind, arms_say}
use Rattle.oberon_infer.specs.declared.said.Said.{Said as OwnSaid}
use Rattle.oberon_infer.specs.Adds.{Goes}
use Rattle.oberon_statements.specs.declared.judged.CaseLabels.{CaseLabels}
use Rattle.oberon_statements.specs.Labels.{Knows}

abbrev pub next_labels : List NextLabel → List Label
next_labels xs = map (λ (n : NextLabel). n.label) xs

pub record LeftLabels (s : Scopes) (k : CaseKind) (earlier : List Interval) (all rest : List Label) (old new : List OwnSaid) (c : CaseLabels) : Type 0 where
  pub now : List Interval
  pub knows : Knows c k now
  pub behind : labels_behind s k now rest ≡ labels_behind s k earlier all
  pub says : Goes old new (labels_say s k earlier all) (labels_say s k now rest)

pub record LeftArms (me : List ℕ) (s : Scopes) (k : CaseKind) (earlier : List Interval) (all rest : MoreArmsTree) (old new : List OwnSaid) (c : CaseLabels) : Type 0 where
  pub now : List Interval
  pub knows : Knows c k now
  pub says : Goes old new (arms_say me s k earlier all) (arms_say me s k now rest)
