-- What holds of a build that goes on, whatever its course.
use Rattle.std.proofs.Common.{◌≡◌, ◌≢◌, ◌⊎◌, inl, inr, ◌++◌, ◌<◌, Bool, true, ℕ, List, [], ◌∷◌, length, get_or, map, sym, ap, subst, ◌∙◌, arith}
use Rattle.std.specs.Prelude.{Vec, slice_set}
use Rattle.std.specs.List.{All, AllPairs, Contains}
use Rattle.std.specs.declared.alloc.Global.{Global}
use Rattle.std.proofs.lemmas.List.{length-append, length-set, map-append}
use Rattle.std.proofs.lemmas.List.Elements.{All-contains, All-head, All-push, All-tail, Contains-append_left, Contains-get_or, Contains-push, Contains-push_cases}
use Rattle.build_sources.specs.Documents.{AreImportsOf}
use Rattle.build_checks.specs.Stand.{AreChecks, IsClear, left_of, modules_of, settled_of, taken_of, world_of}
use Rattle.build_checks.specs.declared.checks.Checks.{Checks}
use Rattle.build_rules.specs.World.{World, IsCyclic, held_in}
use Rattle.check_cache.specs.Facts.{FactTree, names_of}
use Rattle.bsp_records.specs.Table.{Table}
use Rattle.rpc_peer.specs.Said.{Said}
use Rattle.session_law.specs.declared.BuildDocument.{BuildDocument}
use Rattle.session_law.proofs.ListLaws.{contains_map, distinct_push}
use Rattle.session_build.specs.Going.{AreSound, Begins, IsJob, IsSound, SettlesBy, TakesOut, all_left}
use Rattle.session_build.specs.Stages.{SameMembers}
use Rattle.session_build.specs.declared.going.Going.{Going}
use Rattle.session_build.specs.declared.going.Job.{Job}
use Rattle.session_build.specs.declared.setting.Setting.{Setting}
use Rattle.session_build.specs.declared.tally.Tally.{Tally}
use Rattle.session_build.proofs.GoingLaws.{Came}
use Rattle.session_build.proofs.Members.{distinct_first, distinct_rest, image_of}
use Rattle.session_build.proofs.Moved.{all_by, map_moved, moved_back}

-- ---- one module more

more_clear : (w : World) (settled : List ℕ) (more p : ℕ) → IsClear w settled p → IsClear w (settled ++ more ∷ []) p
more_clear w settled more p clear q imports = by (clear q imports)
  where
    by : Contains settled q ⊎ IsCyclic w q → Contains (settled ++ more ∷ []) q ⊎ IsCyclic w q
    by (inl there) = inl (Contains-append_left settled (more ∷ []) q there)
    by (inr cyclic) = inr cyclic

-- a job stays one where the checks say the same of its pair
job_on : (old new : Checks) (job : Job) → world_of new ≡ world_of old → modules_of new ≡ modules_of old → ((p : ℕ) → Contains (taken_of old) p → Contains (taken_of new) p)
    → ¬ (Contains (settled_of new) job.pair) → (IsClear (world_of old) (settled_of old) job.pair → IsClear (world_of old) (settled_of new) job.pair) → IsJob old job → IsJob new job
job_on old new job world modules taken unsettled clear is = record {
  among = subst (λ ms. Contains ms job.pair) (sym modules) is.among;
  taken = taken job.pair is.taken;
  unsettled = unsettled;
  clear = subst (λ w. IsClear w (settled_of new) job.pair) (sym world) (clear is.clear);
  named = subst (λ w. AreImportsOf (held_in w job.pair) (names_of job.imports.items)) (sym world) is.named;
}

set_size : (xs : List Tally) (i : ℕ) (t : Tally) → length (slice_set xs i t) ≡ length xs
set_size xs i t = length-set xs i t

pub listed_first : (xs : List ℕ) (x : ℕ) → Contains (xs ++ x ∷ []) x
listed_first xs x = Contains-push xs x

module _ (at : Setting) (old : Going) (sound : IsSound at old) (c : Checks) (pair : ℕ) (came : Came old.checks c pair) where
  pub among_here : Contains (modules_of c) pair
  among_here = subst (λ ms. Contains ms pair) (sym came.modules_same) came.next.ready.among

  pub among_documents : Contains (map (λ (d : BuildDocument). d.pair) at.documents) pair
  among_documents = (sound.modules pair).1 came.next.ready.among

  pub clear_here : IsClear (world_of c) (settled_of c) pair
  clear_here =
      subst (λ w. IsClear w (settled_of c) pair) (sym came.world_same)
      (subst (λ xs. IsClear (world_of old.checks) xs pair) (sym came.settled_same) came.next.ready.clear)

  pub taken_here : Contains (taken_of c) pair
  taken_here = subst (λ xs. Contains xs pair) (sym came.taken) (Contains-push (taken_of old.checks) pair)

  pub unsettled_here : ¬ (Contains (settled_of c) pair)
  unsettled_here there = came.next.ready.is_new (sound.settled_taken pair (subst (λ xs. Contains xs pair) came.settled_same there))

  taken_more : (p : ℕ) → Contains (taken_of old.checks) p → Contains (taken_of c) p
  taken_more p there = subst (λ xs. Contains xs p) (sym came.taken) (Contains-append_left (taken_of old.checks) (pair ∷ []) p there)

  -- ---- its check is kept

  module _ (new : Going) (begun : Bool) (fact : FactTree) (keys later : List (List ℕ)) (table shown : Table) (before after : List Said)
      (settles : SettlesBy at (record old { checks = c }) new pair begun fact keys later table shown before after) where
    settled_is : settled_of new.checks ≡ settled_of old.checks ++ pair ∷ []
    settled_is = settles.settled ∙ ap (λ xs. xs ++ pair ∷ []) came.settled_same

    settled_cases : (p : ℕ) → Contains (settled_of new.checks) p → Contains (settled_of old.checks) p ⊎ (pair ≡ p)
    settled_cases p there = Contains-push_cases (settled_of old.checks) pair p (subst (λ xs. Contains xs p) settled_is there)

    taken_on : (p : ℕ) → Contains (taken_of old.checks) p → Contains (taken_of new.checks) p
    taken_on p there = subst (λ xs. Contains xs p) (sym settles.taken_same) (taken_more p there)

    still : (job : Job) → IsJob old.checks job → IsJob new.checks job
    still job is =
        job_on old.checks new.checks job (settles.world_same ∙ came.world_same) (settles.modules_same ∙ came.modules_same) taken_on
        (λ there. by (settled_cases job.pair there))
        (λ clear. subst (λ xs. IsClear (world_of old.checks) xs job.pair) (sym settled_is) (more_clear (world_of old.checks) (settled_of old.checks) pair job.pair clear)) is
      where
        by : Contains (settled_of old.checks) job.pair ⊎ (pair ≡ job.pair) → ⊥
        by (inl there) = is.unsettled there
        by (inr same) = came.next.ready.is_new (subst (Contains (taken_of old.checks)) (sym same) is.taken)

    settled_in : (p : ℕ) → Contains (settled_of old.checks) p ⊎ (pair ≡ p) → Contains (taken_of new.checks) p
    settled_in p (inl there) = taken_on p (sound.settled_taken p there)
    settled_in p (inr same) = subst (λ xs. Contains xs p) (sym settles.taken_same) (subst (Contains (taken_of c)) same taken_here)

    pub hit_sound : IsSound at new
    hit_sound =
        let jobs : new.jobs.items ≡ old.jobs.items = ap (λ (v : Vec Job Global). v.items) settles.jobs in
        record {
          checks = settles.checks;
          space = ap (λ (w : World). w.targets) (settles.world_same ∙ came.world_same) ∙ sound.space;
          modules = subst (SameMembers (map (λ (d : BuildDocument). d.pair) at.documents)) (sym (settles.modules_same ∙ came.modules_same)) sound.modules;
          sized = ap (λ (ts : List Tally). length ts) settles.tallies ∙ (set_size old.tallies.items settles.index settles.tally ∙ sound.sized);
          settled_taken = λ p there. settled_in p (settled_cases p there);
          each = subst (All (IsJob new.checks)) (sym jobs) (λ k d h. still (get_or old.jobs.items k d) (sound.each k d h));
          distinct = subst (λ (js : List Job). AllPairs ◌≢◌ (map (λ (job : Job). job.pair) js)) (sym jobs) sound.distinct;
        }

    pub hit_left : left_of c < left_of old.checks → all_left new.checks new.jobs.items < all_left old.checks old.jobs.items
    hit_left less =
        let jobs : length new.jobs.items ≡ length old.jobs.items = ap (λ (v : Vec Job Global). length v.items) settles.jobs in
        let same = settles.left_same in
        omega arith

  -- ---- a check of it starts

  module _ (checks : AreChecks c) (new : Going) (imports : List (List ℕ × ℕ)) (named : AreImportsOf (held_in (world_of c) pair) (names_of imports))
      (before after : List Said) (begins : Begins at (record old { checks = c }) new pair imports before after) where
    pair_same : pair ≡ begins.job.pair
    pair_same = sym begins.pair_is

    waits : (job : Job) → IsJob old.checks job → IsJob c job
    waits job is =
        job_on old.checks c job came.world_same came.modules_same taken_more (λ there. is.unsettled (subst (λ xs. Contains xs job.pair) came.settled_same there))
        (λ clear. subst (λ xs. IsClear (world_of old.checks) xs job.pair) (sym came.settled_same) clear) is

    own : IsJob c begins.job
    own = record {
      among = subst (Contains (modules_of c)) pair_same among_here;
      taken = subst (Contains (taken_of c)) pair_same taken_here;
      unsettled = λ there. unsettled_here (subst (Contains (settled_of c)) begins.pair_is there);
      clear = subst (IsClear (world_of c) (settled_of c)) pair_same clear_here;
      named =
          subst (λ q. AreImportsOf (held_in (world_of c) q) (names_of begins.job.imports.items)) pair_same
          (subst (λ (xs : List (List ℕ × ℕ)). AreImportsOf (held_in (world_of c) pair) (names_of xs)) (sym begins.imports_are) named);
    }

    pub miss_sound : IsSound at new
    miss_sound =
        subst (λ (d : Checks). AreSound at d new.jobs.items new.tallies.items) (sym begins.checks)
        (subst (λ (ts : Vec Tally Global). AreSound at c new.jobs.items ts.items) (sym begins.tallies)
        (subst (λ (js : List Job). AreSound at c js old.tallies.items) (sym begins.jobs)
        (record {
          checks = checks;
          space = ap (λ (w : World). w.targets) came.world_same ∙ sound.space;
          modules = subst (SameMembers (map (λ (d : BuildDocument). d.pair) at.documents)) (sym came.modules_same) sound.modules;
          sized = sound.sized;
          settled_taken = λ p there. taken_more p (sound.settled_taken p (subst (λ xs. Contains xs p) came.settled_same there));
          each = All-push (IsJob c) old.jobs.items begins.job (λ k d h. waits (get_or old.jobs.items k d) (sound.each k d h)) own;
          distinct =
              subst (λ xs. AllPairs ◌≢◌ xs) (sym (map-append (λ (job : Job). job.pair) old.jobs.items (begins.job ∷ [])))
              (distinct_push (map (λ (job : Job). job.pair) old.jobs.items) begins.job.pair sound.distinct
              (λ there. came.next.ready.is_new (subst (Contains (taken_of old.checks)) begins.pair_is (job_taken begins.job.pair there))));
        })))
      where
        job_taken : (p : ℕ) → Contains (map (λ (job : Job). job.pair) old.jobs.items) p → Contains (taken_of old.checks) p
        job_taken p there =
            let image = image_of (λ (job : Job). job.pair) old.jobs.items p there in
            subst (Contains (taken_of old.checks)) image.is (All-contains (IsJob old.checks) old.jobs.items image.it sound.each image.there).taken

    pub miss_left : left_of c < left_of old.checks → all_left new.checks new.jobs.items < all_left old.checks old.jobs.items
    miss_left less =
        let jobs : length new.jobs.items ≡ length (old.jobs.items ++ begins.job ∷ []) = ap (λ (js : List Job). length js) begins.jobs in
        let more = length-append old.jobs.items (begins.job ∷ []) in
        let same : left_of new.checks ≡ left_of c = ap left_of begins.checks in
        omega arith

-- ---- nothing is taken

module _ (at : Setting) (old : Going) (sound : IsSound at old) (c : Checks) (checks : AreChecks c) (world : world_of c ≡ world_of old.checks) (modules : modules_of c ≡ modules_of old.checks)
    (taken : taken_of c ≡ taken_of old.checks) (settled : settled_of c ≡ settled_of old.checks) where
  idle_job : (job : Job) → IsJob old.checks job → IsJob c job
  idle_job job is =
      job_on old.checks c job world modules (λ p there. subst (λ xs. Contains xs p) (sym taken) there) (λ there. is.unsettled (subst (λ xs. Contains xs job.pair) settled there))
      (λ clear. subst (λ xs. IsClear (world_of old.checks) xs job.pair) (sym settled) clear) is

  pub idle_sound : AreSound at c old.jobs.items old.tallies.items
  idle_sound = record {
    checks = checks;
    space = ap (λ (w : World). w.targets) world ∙ sound.space;
    modules = subst (SameMembers (map (λ (d : BuildDocument). d.pair) at.documents)) (sym modules) sound.modules;
    sized = sound.sized;
    settled_taken = λ p there. subst (λ xs. Contains xs p) (sym taken) (sound.settled_taken p (subst (λ xs. Contains xs p) settled there));
    each = λ k d h. idle_job (get_or old.jobs.items k d) (sound.each k d h);
    distinct = sound.distinct;
  }

-- ---- a check is taken out

-- what is left is sound beside it
pub taken_sound : (at : Setting) (c : Checks) (old new : List Job) (job : Job) (tallies : List Tally) → TakesOut old new job → AreSound at c old tallies → AreSound at c (job ∷ new) tallies
taken_sound at c old new job tallies takes sound =
    let front = takes.front in
    let back = takes.back in
    record {
      checks = sound.checks;
      space = sound.space;
      modules = sound.modules;
      sized = sound.sized;
      settled_taken = sound.settled_taken;
      each =
          all_by (IsJob c) old (job ∷ new)
          (λ it there. subst (λ (js : List Job). Contains js it) (sym takes.before) (moved_back front back job it (subst (λ (js : List Job). Contains (job ∷ js) it) takes.after there))) sound.each;
      distinct =
          subst (λ (js : List Job). AllPairs ◌≢◌ (map (λ (j : Job). j.pair) (job ∷ js))) (sym takes.after)
          (map_moved (λ (j : Job). j.pair) front back job (subst (λ (js : List Job). AllPairs ◌≢◌ (map (λ (j : Job). j.pair) js)) takes.before sound.distinct));
    }

-- ---- a check finishes

module _ (at : Setting) (old mid : Going) (job : Job) (fact : FactTree) (keys later : List (List ℕ)) (table shown : Table) (queued after : List Said)
    (sound : AreSound at old.checks (job ∷ old.jobs.items) old.tallies.items)
    (settles : SettlesBy at old mid job.pair true fact keys later table shown queued after) where
  pub job_here : IsJob old.checks job
  job_here = All-head (IsJob old.checks) job old.jobs.items sound.each

  finished_cases : (p : ℕ) → Contains (settled_of mid.checks) p → Contains (settled_of old.checks) p ⊎ (job.pair ≡ p)
  finished_cases p there = Contains-push_cases (settled_of old.checks) job.pair p (subst (λ xs. Contains xs p) settles.settled there)

  finished_in : (p : ℕ) → Contains (settled_of old.checks) p ⊎ (job.pair ≡ p) → Contains (taken_of mid.checks) p
  finished_in p (inl there) = subst (λ xs. Contains xs p) (sym settles.taken_same) (sound.settled_taken p there)
  finished_in p (inr same) = subst (λ xs. Contains xs p) (sym settles.taken_same) (subst (Contains (taken_of old.checks)) same job_here.taken)

  others : (other : Job) → Contains old.jobs.items other → IsJob old.checks other → IsJob mid.checks other
  others other among is =
      job_on old.checks mid.checks other settles.world_same settles.modules_same (λ p there. subst (λ xs. Contains xs p) (sym settles.taken_same) there)
      (λ there. by (finished_cases other.pair there))
      (λ clear. subst (λ xs. IsClear (world_of old.checks) xs other.pair) (sym settles.settled) (more_clear (world_of old.checks) (settled_of old.checks) job.pair other.pair clear)) is
    where
      by : Contains (settled_of old.checks) other.pair ⊎ (job.pair ≡ other.pair) → ⊥
      by (inl there) = is.unsettled there
      by (inr same) =
          distinct_first job.pair (map (λ (j : Job). j.pair) old.jobs.items) sound.distinct
          (subst (Contains (map (λ (j : Job). j.pair) old.jobs.items)) (sym same) (contains_map (λ (j : Job). j.pair) old.jobs.items other among))

  pub finish_sound : AreSound at mid.checks mid.jobs.items mid.tallies.items
  finish_sound =
      let jobs : mid.jobs.items ≡ old.jobs.items = ap (λ (v : Vec Job Global). v.items) settles.jobs in
      record {
        checks = settles.checks;
        space = ap (λ (w : World). w.targets) settles.world_same ∙ sound.space;
        modules = subst (SameMembers (map (λ (d : BuildDocument). d.pair) at.documents)) (sym settles.modules_same) sound.modules;
        sized = ap (λ (ts : List Tally). length ts) settles.tallies ∙ (set_size old.tallies.items settles.index settles.tally ∙ sound.sized);
        settled_taken = λ p there. finished_in p (finished_cases p there);
        each =
            subst (All (IsJob mid.checks)) (sym jobs)
            (λ k d h. others (get_or old.jobs.items k d) (Contains-get_or old.jobs.items k d h) (All-tail (IsJob old.checks) job old.jobs.items sound.each k d h));
        distinct =
            subst (λ (js : List Job). AllPairs ◌≢◌ (map (λ (j : Job). j.pair) js)) (sym jobs)
            (distinct_rest job.pair (map (λ (j : Job). j.pair) old.jobs.items) sound.distinct);
      }
