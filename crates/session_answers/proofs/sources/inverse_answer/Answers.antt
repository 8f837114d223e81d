use Rattle.std.proofs.Common.{ℕ, List, length, ap, ◌∙◌, arith}
use Rattle.std.proofs.lemmas.List.{length-map}
use Rattle.bsp_records.specs.declared.identifiers.BuildTargetIdentifier.{BuildTargetIdentifier}
use Rattle.session_law.specs.Questions.{identifier_at}
use Rattle.session_answers.proofs.sources.inverse_answer.Goals as goal

pub returns-clause-short : goal.returns-clause-short
returns-clause-short c =
    let size = ap (λ (ids : List BuildTargetIdentifier). length ids) c.in_ok-targets.ensures.are ∙ length-map c.as_slice.result.now (identifier_at c.args.workspace.now) in
    let found = ap (λ (ts : List ℕ). length ts) c.as_slice.ensures.value in
    let few = c.in_ok-found.ensures.few in
    c.write_inverse_sources_result.ensures.short (record { count = omega (arith, size, found, few); targets = c.in_ok-targets.ensures.short })
