use Rattle.std.proofs.Common.{◌∙◌, eqb, rules, sym, tests}
use Rattle.std.proofs.lemmas.Iterator.{YieldsList-from_slice}
use Rattle.std.proofs.lemmas.Iterator.Search.{position_from_yields_List}
use Rattle.session_build.specs.declared.going.Job.{Job}
use Rattle.session_build.proofs.JobLaws.{found_at, number_found}
use Rattle.session_build.proofs.going.job_index.Goals as goal

pub unreachable-requires : goal.unreachable-requires
unreachable-requires c =
    let p = position_from_yields_List (λ (job : Job). eqb job.number c.args.number) _ _ c.position.result c.position.ensures.ran
    (YieldsList-from_slice c.args.jobs.now c.iter.ensures.rest) (λ x b q k. search (rules, tests)) in
    number_found c.args.jobs.now c.args.number c.requires (sym p ∙ c.in-None.is)

pub returns : goal.returns
returns c =
    let p = position_from_yields_List (λ (job : Job). eqb job.number c.args.number) _ _ c.position.result c.position.ensures.ran
    (YieldsList-from_slice c.args.jobs.now c.iter.ensures.rest) (λ x b q k. search (rules, tests)) in
    found_at c.args.jobs.now c.args.number c.in-Some.index c.requires (sym p ∙ c.in-Some.is)
