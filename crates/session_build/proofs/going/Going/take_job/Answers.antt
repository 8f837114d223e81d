use Rattle.std.proofs.Common.{◌<◌, ◌∙◌, List, ap, length, subst, sym, arith}
use Rattle.std.specs.List.{Contains}
use Rattle.std.proofs.lemmas.Option.{get_or_from_slice_get, slice_get_within}
use Rattle.session_build.specs.Going.{IsJobIndex, numbers_of}
use Rattle.session_build.specs.declared.going.Job.{Job}
use Rattle.session_build.proofs.JobLaws.{taken_at}
use Rattle.session_build.proofs.going.Going.take_job.Goals as goal

pub job_index-index-requires : goal.job_index-index-requires
job_index-index-requires c = subst (λ (js : List Job). Contains (numbers_of js) c.args.number) (sym c.as_slice.ensures.value) c.requires

pub remove-requires : goal.remove-requires
remove-requires c =
    let index = c.job_index-index.result in
    let at : IsJobIndex c.args.self.now.jobs.items c.args.number index = subst (λ (js : List Job). IsJobIndex js c.args.number index) c.as_slice.ensures.value c.job_index-index.ensures in
    let within : index < length c.args.self.now.jobs.items = slice_get_within c.args.self.now.jobs.items index at.job at.there in
    omega (arith, within, c.args.self.now.jobs.ok.0)

pub returns-clause-number : goal.returns-clause-number
returns-clause-number c =
    let old : List Job = c.args.self.now.jobs.items in
    let index = c.job_index-index.result in
    let at : IsJobIndex old c.args.number index = subst (λ (js : List Job). IsJobIndex js c.args.number index) c.as_slice.ensures.value c.job_index-index.ensures in
    ap (λ (j : Job). j.number) (c.remove.ensures.value ∙ get_or_from_slice_get old index at.job c.remove.result at.there) ∙ at.number_is

pub returns-clause-jobs : goal.returns-clause-jobs
returns-clause-jobs c =
    let old : List Job = c.args.self.now.jobs.items in
    let index = c.job_index-index.result in
    let at : IsJobIndex old c.args.number index = subst (λ (js : List Job). IsJobIndex js c.args.number index) c.as_slice.ensures.value c.job_index-index.ensures in
    let within : index < length old = slice_get_within old index at.job at.there in
    taken_at old c.remove.new.self.items index c.remove.result within c.remove.ensures.value c.remove.ensures.by_index.2
