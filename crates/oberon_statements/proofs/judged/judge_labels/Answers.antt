use Rattle.std.specs.Prelude.{◌∷◌, List}
use Rattle.std.proofs.Common.{subst}
use Rattle.oberon_tree.specs.declared.statement.NextLabel.{NextLabel}
use Rattle.oberon_rules.specs.Statements.{label_behind, labels_say, labels_behind}
use Rattle.oberon_infer.specs.Memory.{plain_scopes}
use Rattle.oberon_statements.specs.Labels.{Judges}
use Rattle.oberon_statements.proofs.Left.{next_labels}
use Rattle.oberon_statements.proofs.LabelLaws.{labels_left, labels_turn, labels_end}
use Rattle.oberon_statements.proofs.judged.judge_labels.Goals as goal

pub loop-next-init : goal.loop-next-init
loop-next-init c = λ k earlier known. labels_left _ k earlier _ _ _ known

pub loop-next-preserved : goal.loop-next-preserved
loop-next-preserved c = λ k earlier known.
    let s = plain_scopes c.args.scopes.now in
    let p = c.loop-next.invariant k earlier known in
    labels_turn s k earlier _ _ c.loop-next.next-index c.next-item.result _ _ c.loop-next-test.true c.next-item.is p (c.in_ok-judge_label-2.ensures k p.now p.knows)

pub returns : goal.returns
returns c = λ k earlier known.
    let s = plain_scopes c.args.scopes.now in
    let first = c.args.given.now.first in
    let j = c.in_ok-judge_label.ensures k earlier known in
    subst (λ (xs : List NextLabel). Judges c.args.said.now.items c.loop-next.said.items c.loop-next.labels k (labels_say s k earlier (first ∷ next_labels xs)) (labels_behind s k earlier (first ∷ next_labels xs))) c.deref-next-items.ensures.value
    (labels_end s k earlier first _ c.loop-next.next-index _ _ c.loop-next-test.false j (c.loop-next.invariant k (label_behind s k earlier first) j.knows))
