-- What a build tells as it is cancelled, by the checks that run: those that the law says haven't finished, in their order.
use Rattle.std.proofs.Common.{◌≡◌, ◌≢◌, ◌⊎◌, inl, inr, ◌+◌, ◌<◌, ◌++◌, ℕ, zero, suc, List, [], ◌∷◌, length, get_or, map, take, Some, refl, sym, ap, subst, ◌∙◌, arith}
use Rattle.std.specs.List.{All, AllPairs, Contains, slice_get}
use Rattle.std.proofs.lemmas.List.{map-append, take_more}
use Rattle.std.proofs.lemmas.List.Elements.{All-contains, All-head, All-tail, Contains-get_or}
use Rattle.std.proofs.lemmas.Option.{none-some, same_Some}
use Rattle.bsp_records.specs.declared.results.StatusCode.TheVariants as statuses
use Rattle.rpc_peer.specs.Said.{Said}
use Rattle.session_law.specs.Cancelling.{ChecksCancelled, IsUnfinished, cancelled, finished, none, targets_cancelled}
use Rattle.session_law.specs.Course.{Given, Stage, pairs_in}
use Rattle.session_law.specs.Tasks.{build_finishes, check_finishes, target_cancelled}
use Rattle.session_law.proofs.ListLaws.{contains_at, contains_cases, contains_first, contains_later, contains_map, contains_none}
use Rattle.session_build.specs.Cancels.{cancels_said, checks_said, targets_said}
use Rattle.session_build.specs.Going.{numbers_of}
use Rattle.session_build.specs.Setting.{IsSettingOf}
use Rattle.session_build.specs.declared.going.Job.{Job}
use Rattle.session_build.specs.declared.setting.Setting.{Setting}
use Rattle.session_build.proofs.Members.{distinct_first, distinct_rest}
use Rattle.session_build.proofs.Moved.{pairs_head, pairs_tail}

-- ---- what is told

abbrev check_said : Setting → Job → Said
check_said at job = check_finishes at.number job.number job.target statuses.Cancelled

pub checks_more : (at : Setting) (jobs : List Job) (k : ℕ) (d : Job) → k < length jobs
    → checks_said at (take (k + 1) jobs) ≡ checks_said at (take k jobs) ++ check_finishes at.number (get_or jobs k d).number (get_or jobs k d).target statuses.Cancelled ∷ []
checks_more at jobs k d h = ap (map (check_said at)) (take_more jobs k d h) ∙ map-append (check_said at) (take k jobs) (get_or jobs k d ∷ [])

module _ (at : Setting) (g : Given) (of : IsSettingOf at g) where
  targets_same : (i : ℕ) (targets : List ℕ) → targets_said at i targets ≡ targets_cancelled g i targets
  targets_same i [] = refl
  targets_same i (target ∷ targets) =
      ap (λ (ms : List Said). target_cancelled at.number i ∷ ms) (targets_same (suc i) targets)
      ∙ ap (λ n. target_cancelled n i ∷ targets_cancelled g (suc i) targets) (sym of.number)

  -- the checks that run, as a course has them
  abbrev pub course_checks : List Job → List Said
  course_checks jobs = map (λ (job : Job). check_finishes g.active.number job.number job.target statuses.Cancelled) jobs

  pub cancels_are : (jobs : List Job)
      → cancels_said at jobs ≡ course_checks jobs ++ (targets_cancelled g 1 g.closure ++ build_finishes g.active.number statuses.Cancelled ∷ [])
  cancels_are jobs =
      let last : List Said = targets_said at 1 at.targets.keys ++ build_finishes at.number statuses.Cancelled ∷ [] in
      let targets : targets_said at 1 at.targets.keys ≡ targets_cancelled g 1 g.closure = targets_same 1 at.targets.keys ∙ ap (targets_cancelled g 1) (sym of.closure) in
      ap (λ n. map (λ (job : Job). check_finishes n job.number job.target statuses.Cancelled) jobs ++ last) (sym of.number)
      ∙ (ap (λ (ms : List Said). course_checks jobs ++ (ms ++ build_finishes at.number statuses.Cancelled ∷ [])) targets
      ∙ ap (λ n. course_checks jobs ++ (targets_cancelled g 1 g.closure ++ build_finishes n statuses.Cancelled ∷ [])) (sym of.number))

-- ---- the checks that run, in the order in which they started

-- the job is of a check that started, behind so many others, and hasn't finished
pub record IsLeft (g : Given) (s : Stage) (before : ℕ) (rest : List ℕ) (job : Job) : Type 0 where
  pub index : ℕ
  pub there : slice_get rest index ≡ Some job.pair
  pub number_is : job.number ≡ suc (before + index)
  pub unfinished : IsUnfinished g s job.pair job.target

-- a job of this pair is among them
pub record HasJob (jobs : List Job) (p : ℕ) : Type 0 where
  pub job : Job
  pub there : Contains jobs job
  pub is : job.pair ≡ p

-- these jobs are all of those checks that haven't finished
pub record AreLeft (g : Given) (s : Stage) (before : ℕ) (rest : List ℕ) (jobs : List Job) : Type 0 where
  pub each : All (IsLeft g s before rest) jobs
  pub rising : AllPairs ◌<◌ (numbers_of jobs)
  pub all : (q : ℕ) → Contains rest q → Contains (pairs_in s.settled) q ⊎ HasJob jobs q
  pub distinct : AllPairs ◌≢◌ rest

rising_first : (a : Job) (js : List Job) (b : Job) → AllPairs ◌<◌ (numbers_of (a ∷ js)) → Contains js b → a.number < b.number
rising_first a js b rising there =
    All-contains (λ n. a.number < n) (numbers_of js) b.number (pairs_head ◌<◌ a.number (numbers_of js) rising) (contains_map (λ (j : Job). j.number) js b there)

module _ (g : Given) (s : Stage) where
  -- the first of those checks isn't of this job
  left_later : (before p : ℕ) (rest : List ℕ) (job : Job) → job.pair ≢ p → IsLeft g s before (p ∷ rest) job → IsLeft g s (suc before) rest job
  left_later before p rest job differ left = by left.index left.there left.number_is
    where
      by : (k : ℕ) → slice_get (p ∷ rest) k ≡ Some job.pair → job.number ≡ suc (before + k) → IsLeft g s (suc before) rest job
      by zero at is = absurd (differ (same_Some job.pair p (sym at)))
      by (suc k) at is = record { index = k; there = at; number_is = omega (arith, is); unfinished = left.unfinished }

  first_index : (before p : ℕ) (rest : List ℕ) (job : Job) → AllPairs ◌≢◌ (p ∷ rest) → job.pair ≡ p → IsLeft g s before (p ∷ rest) job → job.number ≡ suc before
  first_index before p rest job distinct same left = by left.index left.there left.number_is
    where
      by : (k : ℕ) → slice_get (p ∷ rest) k ≡ Some job.pair → job.number ≡ suc (before + k) → job.number ≡ suc before
      by zero at is = omega (arith, is)
      by (suc k) at is = absurd (distinct_first p rest distinct (subst (Contains rest) same (contains_at rest k job.pair at)))

  least : (before : ℕ) (rest : List ℕ) (job : Job) → IsLeft g s before rest job → before < job.number
  least before rest job left = (let is = left.number_is in omega (arith, is))

  settled_first : (before p : ℕ) (rest : List ℕ) (jobs : List Job) → Contains (pairs_in s.settled) p → AreLeft g s before (p ∷ rest) jobs → AreLeft g s (suc before) rest jobs
  settled_first before p rest jobs settled left = record {
    each = λ k d h.
        (let job : Job = get_or jobs k d in
        let own = left.each k d h in
        left_later before p rest job (λ same. own.unfinished.unsettled (subst (Contains (pairs_in s.settled)) (sym same) settled)) own);
    rising = left.rising;
    all = λ q there. left.all q (contains_later p rest q there);
    distinct = distinct_rest p rest left.distinct;
  }

  -- the first of those checks is of the first job
  job_is : (before p : ℕ) (rest : List ℕ) (first : Job) (jobs : List Job) → AreLeft g s before (p ∷ rest) (first ∷ jobs) → HasJob (first ∷ jobs) p → first.pair ≡ p
  job_is before p rest first jobs left has = by (contains_cases first jobs has.job has.there)
    where
      by : (first ≡ has.job) ⊎ Contains jobs has.job → first.pair ≡ p
      by (inl same) = ap (λ (j : Job). j.pair) same ∙ has.is
      by (inr later) =
          let number = first_index before p rest has.job left.distinct has.is (All-contains (IsLeft g s before (p ∷ rest)) (first ∷ jobs) has.job left.each has.there) in
          let low = least before (p ∷ rest) first (All-head (IsLeft g s before (p ∷ rest)) first jobs left.each) in
          let above = rising_first first jobs has.job left.rising later in
          absurd (omega (arith, number, low, above))

  others_left : (before p : ℕ) (rest : List ℕ) (first : Job) (jobs : List Job) → first.pair ≡ p → AreLeft g s before (p ∷ rest) (first ∷ jobs) → AreLeft g s (suc before) rest jobs
  others_left before p rest first jobs same left = record {
    each = λ k d h.
        (let job : Job = get_or jobs k d in
        let own = All-tail (IsLeft g s before (p ∷ rest)) first jobs left.each k d h in
        left_later before p rest job
        (λ again.
        (let number = first_index before p rest job left.distinct again own in
        let above = rising_first first jobs job left.rising (Contains-get_or jobs k d h) in
        omega (arith, first_number, number, above)))
        own);
    rising = pairs_tail ◌<◌ first.number (numbers_of jobs) left.rising;
    all = λ q there. by q there (left.all q (contains_later p rest q there));
    distinct = distinct_rest p rest left.distinct;
  }
    where
      first_number : first.number ≡ suc before
      first_number = first_index before p rest first left.distinct same (All-head (IsLeft g s before (p ∷ rest)) first jobs left.each)

      among : (q : ℕ) → Contains rest q → (job : Job) → job.pair ≡ q → (first ≡ job) ⊎ Contains jobs job → HasJob jobs q
      among q there job is (inl it) =
          absurd (distinct_first p rest left.distinct (subst (Contains rest) (sym (sym same ∙ (ap (λ (j : Job). j.pair) it ∙ is))) there))
      among q there job is (inr later) = record { job = job; there = later; is = is }

      by : (q : ℕ) → Contains rest q → Contains (pairs_in s.settled) q ⊎ HasJob (first ∷ jobs) q → Contains (pairs_in s.settled) q ⊎ HasJob jobs q
      by q there (inl settled) = inl settled
      by q there (inr has) = inr (among q there has.job has.is (contains_cases first jobs has.job has.there))

  pub cancels_from : (before : ℕ) (rest : List ℕ) (jobs : List Job) → AreLeft g s before rest jobs → ChecksCancelled g s before rest (map (λ (job : Job). check_finishes g.active.number job.number job.target statuses.Cancelled) jobs)
  cancels_from before [] [] left = none before
  cancels_from before [] (job ∷ jobs) left = absurd (none-some job.pair (All-head (IsLeft g s before []) job jobs left.each).there)
  cancels_from before (p ∷ rest) jobs left = by (λ js others. cancels_from (suc before) rest js others) jobs left (left.all p (contains_first p rest))
    where
      by : ((js : List Job) → AreLeft g s (suc before) rest js
          → ChecksCancelled g s (suc before) rest (map (λ (job : Job). check_finishes g.active.number job.number job.target statuses.Cancelled) js))
          → (jobs : List Job) → AreLeft g s before (p ∷ rest) jobs → Contains (pairs_in s.settled) p ⊎ HasJob jobs p
          → ChecksCancelled g s before (p ∷ rest) (map (λ (job : Job). check_finishes g.active.number job.number job.target statuses.Cancelled) jobs)
      by next jobs left (inl settled) = finished settled (next jobs (settled_first before p rest jobs settled left))
      by next [] left (inr has) = absurd (contains_none has.job has.there)
      by next (first ∷ jobs) left (inr has) =
          let same : first.pair ≡ p = job_is before p rest first jobs left has in
          let own = All-head (IsLeft g s before (p ∷ rest)) first jobs left.each in
          let number : first.number ≡ suc before = first_index before p rest first left.distinct same own in
          subst
          (λ n. ChecksCancelled g s before (p ∷ rest)
          (check_finishes g.active.number n first.target statuses.Cancelled
          ∷ map (λ (job : Job). check_finishes g.active.number job.number job.target statuses.Cancelled) jobs))
          (sym number)
          (cancelled first.target (subst (λ q. IsUnfinished g s q first.target) same own.unfinished) (next jobs (others_left before p rest first jobs same left)))
