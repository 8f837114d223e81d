use Rattle.std.proofs.Common.{List, get_or, subst, sym}
use Rattle.std.specs.List.{Contains}
use Rattle.std.proofs.lemmas.Option.{slice_get_within}
use Rattle.session_build.specs.Going.{IsAmong, numbers_of}
use Rattle.session_build.specs.declared.going.Job.{Job}
use Rattle.session_build.proofs.JobLaws.{index_among}
use Rattle.session_build.proofs.going.Going.pair_of.Goals as goal

pub job_index-index-requires : goal.job_index-index-requires
job_index-index-requires c = subst (λ (js : List Job). Contains (numbers_of js) c.args.number) (sym c.as_slice-jobs.ensures.value) c.requires

pub bounds-jobs-index : goal.bounds-jobs-index
bounds-jobs-index c = slice_get_within c.as_slice-jobs.result.now c.job_index-index.result c.job_index-index.ensures.job c.job_index-index.ensures.there

pub returns : goal.returns
returns c =
    let jobs : List Job = c.as_slice-jobs.result.now in
    let index = c.job_index-index.result in
    subst (λ (js : List Job). IsAmong js c.args.number (get_or jobs index c.index-jobs-index.result).pair) c.as_slice-jobs.ensures.value
    (index_among jobs c.args.number index c.index-jobs-index.result c.job_index-index.ensures)
