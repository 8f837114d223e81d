-- What is seen where a job is taken up, and where those that wait are dropped.
use Rattle.std.proofs.Common.{◌≡◌, ◌∙◌, ◌<◌, ◌++◌, ℕ, List, [], ◌∷◌, Option, None, Some, length, map, refl, sym, ap}
use Rattle.std.specs.Prelude.{IsPermutation, remove, slice_get, OnSome}
use Rattle.std.specs.Option.{option_map}
use Rattle.std.proofs.Math.ListN.{get_or}
use Rattle.std.proofs.lemmas.List.Sorted.{IsPermutation-append_comm, IsPermutation-remove}
use Rattle.std.proofs.lemmas.Option.{get_or_from_slice_get, slice_get-map, slice_get_read, slice_get_within}
use Rattle.indexmap.proofs.SetLemmas.{map-remove}
use Rattle.worker_pool.specs.declared.job.Job.{Job}
use Rattle.worker_pool.specs.Crews.{Sight, TookUp, Waited, jobs_of}
use Rattle.worker_pool.specs.Jobs.{JobTree}
use Rattle.worker_pool.specs.Outcomes.{OutcomeParts}
use Rattle.worker_pool.specs.Plain.{plain_job}

pub on_some : {A P : Type 0} (o : Option A) (x : A) → o ≡ Some x → OnSome o P → P
on_some None x is p = absurd (cc)
on_some (Some y) x is p = p

-- the job at an index of those that wait, where no outcome is at hand
pub taken : (hand : Option OutcomeParts) (waiting : List Job) (index : ℕ) (job : Job) → hand ≡ None → index < length waiting → job ≡ get_or waiting index job
    → slice_get (jobs_of hand ++ map plain_job waiting) index ≡ Some (plain_job job)
taken None waiting index job free within at =
    slice_get-map plain_job waiting index ∙ ap (λ (o : Option Job). option_map plain_job o) (slice_get_read waiting (length waiting) index job refl within at)
taken (Some outcome) waiting index job free within at = absurd (cc)

-- and what is left
pub left : (hand : Option OutcomeParts) (waiting others : List Job) (index : ℕ) (job done : Job) → hand ≡ None → others ≡ remove waiting index → done ≡ job
    → plain_job done ∷ map plain_job others ≡ plain_job job ∷ remove (jobs_of hand ++ map plain_job waiting) index
left None waiting others index job done free is same =
    rw (is, same) (ap (λ (jobs : List JobTree). plain_job job ∷ jobs) (map-remove plain_job waiting index))
left (Some outcome) waiting others index job done free is same = absurd (cc)

-- nothing becomes of the other jobs that are out
pub took_waits : (index : ℕ) (s t : Sight) → TookUp index s t → Waited s t
took_waits index s t took =
    record {
      finished = took.finished;
      next = took.next;
      given = took.given;
      collected = took.collected;
      drained = took.drained;
      out =
          rw took.out (IsPermutation-remove s.out index took.job (slice_get_within s.out index took.job took.there) (sym (get_or_from_slice_get s.out index took.job took.job took.there)));
    }

-- those that wait are dropped, and no other
pub dropped : (hand : Option OutcomeParts) (waiting : List JobTree) (others : List Job) → others ≡ []
    → IsPermutation (jobs_of hand ++ waiting) (waiting ++ (jobs_of hand ++ map plain_job others))
dropped None waiting others is = rw is (IsPermutation-append_comm [] waiting)
dropped (Some outcome) waiting others is = rw is (IsPermutation-append_comm (plain_job outcome.job ∷ []) waiting)
