use Rattle.std.proofs.lemmas.Result.{on_ok_weaker}
use Rattle.oberon_infer.specs.Memory.{plain_scopes}
use Rattle.oberon_statements.specs.Labels.{plain_meant}
use Rattle.oberon_statements.proofs.LabelLaws.{label_judged}
use Rattle.oberon_statements.proofs.judged.judge_label.Goals as goal

pub returns : goal.returns
returns c =
    let s = plain_scopes c.args.scopes.now in
    on_ok_weaker c.judge.result (λ judged k earlier known.
    label_judged _ s k earlier c.args.given.now (plain_meant c.in_ok-low.low) (plain_meant c.in_ok-high.high) c.first_span.result
    c.in_ok-low.ensures.is c.in_ok-high.ensures.is c.first_span.ensures.value c.in_ok-low.ensures.says c.in_ok-high.ensures.says (judged k earlier known)) c.judge.ensures
