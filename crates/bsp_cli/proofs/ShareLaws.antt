-- What a session and its crew share, call by call.
use Rattle.std.proofs.Common.{◌≡◌, ◌≢◌, ◌⊎◌, inl, inr, ◌++◌, ◌+◌, ◌-◌, ◌^◌, ◌<◌, ◌≤◌, ◌==◌, ℕ, suc, List, [], ◌∷◌, length, Bool, true, false, All, Contains, Option, Some, None, IfSome, refl, sym, ap, ◌∙◌, subst, arith, length-append}
use Rattle.std.specs.Prelude.{if◌then◌else◌}
use Rattle.std.proofs.lemmas.Bool.{cases_lt}
use Rattle.std.proofs.lemmas.Bool.Decides.{nat_tests}
use Rattle.std.proofs.lemmas.List.Elements.{All-append, All-cons, All-head, All-nil, All-tail, Contains-append_left, Contains-append_right}
use Rattle.std.proofs.lemmas.List.Sorted.{All-permutation, Contains-permutation, length_permutation, sum_by-IsPermutation}
use Rattle.std.proofs.lemmas.List.Sums.{sum_by-append}
use Rattle.std.proofs.lemmas.Map.Made.{Contains-tail}
use Rattle.session_core.proofs.Awaiting.{awaits_some}
use Rattle.session_core.specs.Settled.{Awaits, AwaitsHead, AwaitsPhase, IsBack, IsSettled, NeedsNothing}
use Rattle.session_core.specs.Standing.{IsUpHead}
use Rattle.session_core.specs.State.{Rest}
use Rattle.session_core.specs.declared.head.Head.{Head}
use Rattle.session_core.specs.declared.head.Phase.{Phase}
use Rattle.session_core.specs.declared.head.Phase.TheVariants as phases
use Rattle.worker_pool.specs.Crews.{AddsUp, Collected, Drained, Gave, IsFresh, Sight, Waited, jobs_of}
use Rattle.worker_pool.specs.Jobs.{JobTree}
use Rattle.worker_pool.specs.Outcomes.{OutcomeParts}
use Rattle.worker_pool.specs.Plain.{plain_job}
use Rattle.bsp_cli.specs.Progress.{TookHand, TookMessage, TookOutcome}
use Rattle.bsp_cli.specs.Shares.{CollectsOne, IsOut, KeepsCrew, Shares, counts_as, how_many, left_with}

-- ---- lists of jobs

all_then : {X : Type 0} (P Q : X → Type 0) (xs : List X) → ((x : X) → P x → Q x) → All P xs → All Q xs
all_then P Q [] next all = All-nil Q
all_then P Q (x ∷ xs) next all = All-cons Q x xs (next x (All-head P x xs all)) (all_then P Q xs next (All-tail P x xs all))

all_both : {X : Type 0} (P Q R : X → Type 0) (xs : List X) → ((x : X) → P x → Q x → R x) → All P xs → All Q xs → All R xs
all_both P Q R [] next all others = All-nil R
all_both P Q R (x ∷ xs) next all others =
    All-cons R x xs (next x (All-head P x xs all) (All-head Q x xs others)) (all_both P Q R xs next (All-tail P x xs all) (All-tail Q x xs others))

all_behind : {X : Type 0} (P : X → Type 0) (xs ys : List X) → All P (xs ++ ys) → All P ys
all_behind P [] ys all = all
all_behind P (x ∷ xs) ys all = all_behind P xs ys (All-tail P x (xs ++ ys) all)

counted_by : (b : Bool) (number : ℕ) (job : JobTree) → (job.number == number) ≡ b → job.number ≢ number → counts_as number job ≡ 0
counted_by true number job is other = absurd (other (grind (arith, nat_tests)))
counted_by false number job is other = ap (λ b. if b then 1 else 0) is

counts_other : (number : ℕ) (job : JobTree) → job.number ≢ number → counts_as number job ≡ 0
counts_other number job other = counted_by (job.number == number) number job refl other

same_numbers : (number : ℕ) → (number == number) ≡ true
same_numbers number = grind (arith, nat_tests)

counts_own : (number : ℕ) (job : JobTree) → job.number ≡ number → counts_as number job ≡ 1
counts_own number job same = ap (λ b. if b then 1 else 0) (ap (λ n. n == number) same ∙ same_numbers number)

counts_low : (b : Bool) → (if b then 1 else 0) ≤ 1
counts_low true = omega arith
counts_low false = omega arith

counts_one : (number : ℕ) (job : JobTree) → how_many number (job ∷ []) ≡ counts_as number job
counts_one number job = omega arith

counts_first : (number : ℕ) (job : JobTree) (jobs : List JobTree) → how_many number (job ∷ jobs) ≡ counts_as number job + how_many number jobs
counts_first number job jobs = omega (arith, sum_by-append (counts_as number) (job ∷ []) jobs, counts_one number job)

-- none has a number that is above all of theirs
none_numbered : (number given : ℕ) (jobs : List JobTree) → given ≤ number → All (λ job. job.number < given) jobs → how_many number jobs ≡ 0
none_numbered number given [] above all = refl
none_numbered number given (job ∷ jobs) above all =
    let here = counts_other number job (λ same. omega (arith, same, above, All-head (λ (j : JobTree). j.number < given) job jobs all)) in
    let rest = none_numbered number given jobs above (All-tail (λ (j : JobTree). j.number < given) job jobs all) in
    omega (arith, here, rest, counts_first number job jobs)

-- where none has it, each has another
others_numbered : (number : ℕ) (jobs : List JobTree) → how_many number jobs ≡ 0 → All (λ job. job.number ≢ number) jobs
others_numbered number [] none = All-nil (λ (j : JobTree). j.number ≢ number)
others_numbered number (job ∷ jobs) none =
    All-cons (λ (j : JobTree). j.number ≢ number) job jobs (λ same. absurd (omega (arith, none, counts_own number job same, counts_first number job jobs))) (others_numbered number jobs (omega (arith, none, counts_first number job jobs)))

-- ---- what is awaited

awaits_phase : (phase : Phase) (jobs given number : ℕ) → AwaitsPhase phase jobs (suc given) number → (number ≡ given) ⊎ AwaitsPhase phase jobs given number
awaits_phase (phases.Opening root) jobs given number awaits = absurd awaits
awaits_phase phases.Rereading jobs given number awaits = absurd awaits
awaits_phase (phases.Planned plan) jobs given number awaits = absurd awaits
awaits_phase (phases.Built b origin) jobs given number (k, is, below, pair, runs) = by (cases_lt number given)
  where
    by : (number < given) ⊎ (given ≤ number) → (number ≡ given) ⊎ AwaitsPhase (phases.Built b origin) jobs given number
    by (inl less) = inr (k, is, less, pair, runs)
    by (inr more) = inl (omega (arith, below, more))

awaits_head : (head : Option Head) (jobs given number : ℕ) → AwaitsHead head jobs (suc given) number → (number ≡ given) ⊎ AwaitsHead head jobs given number
awaits_head None jobs given number awaits = absurd awaits
awaits_head (Some head) jobs given number awaits = awaits_phase head.phase jobs given number awaits

-- ---- the core acted

-- what the crew has stays
out_same : (s : Sight) (number : ℕ) → IsOut s number → IsOut s number
out_same s number is = is

pub shares_message : (old new : Rest) (s : Sight) → TookMessage old new → Shares old s → Shares new s
shares_message old new s took so =
    record {
      going = so.going;
      free = so.free;
      next = omega (arith, so.next, took.given);
      back = all_then (IsBack old) (IsBack new) s.out took.back so.back;
      once = so.once;
      awaited = λ number awaits. so.awaited number (took.awaits number awaits);
    }

pub shares_hand : (old new : Rest) (s : Sight) → TookHand old new → Shares old s → Shares new s
shares_hand old new s took so =
    record {
      going = so.going;
      free = so.free;
      next = omega (arith, so.next, took.given);
      back = all_then (IsBack old) (IsBack new) s.out took.back so.back;
      once = so.once;
      awaited = λ number awaits. absurd (took.awaits number awaits);
    }

-- the tree is asked
pub shares_asked : (old new : Rest) (s : Sight) → new ≡ record old { tree = None } → Shares old s → Shares new s
shares_asked old new s is so =
    rw is (record {
      going = so.going;
      free = so.free;
      next = so.next;
      back = all_then (IsBack old) (IsBack (record old { tree = None })) s.out (λ job back. record { given = back.given; right = back.right }) so.back;
      once = so.once;
      awaited = so.awaited;
    })

-- ---- a job is given

given_back : (old : Rest) (job : JobTree) → IsBack old job → IsBack (record old { given = suc old.given }) job
given_back old job back = record { given = omega (arith, back.given); right = back.right }

module _ (old : Rest) (s t : Sight) (job : JobTree) (number : job.number ≡ old.given) (back : IsBack (record old { given = suc old.given }) job) (gave : Gave s t job) (so : Shares old s) where
  abbrev new : Rest
  new = record old { given = suc old.given }

  given_once : (n : ℕ) → how_many n t.out ≤ 1
  given_once n = by (n == job.number) refl
    where
      joined : how_many n t.out ≡ how_many n s.out + counts_as n job
      joined = ap (how_many n) gave.out ∙ (sum_by-append (counts_as n) s.out (job ∷ []) ∙ ap (λ m. how_many n s.out + m) (counts_one n job))

      by : (b : Bool) → (n == job.number) ≡ b → how_many n t.out ≤ 1
      by true is =
          let same : n ≡ job.number = grind (arith, nat_tests) in
          let none = none_numbered n old.given s.out (omega (arith, same, number)) (all_then (IsBack old) (λ (j : JobTree). j.number < old.given) s.out (λ j b. b.given) so.back) in
          omega (arith, joined, none, counts_low (job.number == n))
      by false is =
          let other : job.number ≢ n = λ same. absurd (grind (arith, nat_tests)) in
          omega (arith, joined, counts_other n job other, so.once n)

  given_out : (n : ℕ) → IsOut s n → IsOut t n
  given_out n is = record { job = is.job; there = subst (λ jobs. Contains jobs is.job) (sym gave.out) (Contains-append_left s.out (job ∷ []) is.job is.there); number_is = is.number_is }

  given_awaited : (n : ℕ) → (n ≡ old.given) ⊎ AwaitsHead old.head old.jobs old.given n → IsOut t n
  given_awaited n (inl same) =
      record {
        job = job;
        there = subst (λ jobs. Contains jobs job) (sym gave.out) (Contains-append_right s.out (job ∷ []) job (0, omega arith, refl));
        number_is = number ∙ sym same;
      }
  given_awaited n (inr awaits) = given_out n (so.awaited n awaits)

  shares_gave : Shares new t
  shares_gave =
      record {
        going = gave.finished ∙ so.going;
        free = gave.hand ∙ so.free;
        next = omega (arith, gave.next, number);
        back = subst (All (IsBack new)) (sym gave.out)
            (All-append (IsBack new) s.out (job ∷ []) (all_then (IsBack old) (IsBack new) s.out (given_back old) so.back) (All-cons (IsBack new) job [] back (All-nil (IsBack new))));
        once = given_once;
        awaited = λ n awaits. given_awaited n (awaits_head old.head old.jobs old.given n awaits);
      }

pub shares_given : (old next : Rest) (s t : Sight) (job : JobTree) → job.number ≡ old.given → IsBack next job → next ≡ record old { given = suc old.given } → Gave s t job → Shares old s → Shares next t
shares_given old next s t job number back is gave so =
    let right : IsBack (record old { given = suc old.given }) job = subst (λ rest. IsBack rest job) is back in
    subst (λ rest. Shares rest t) (sym is) (shares_gave old s t job number right gave so)

-- a job that was given leaves no more to do than before
pub given_leaves : (old next : Rest) (s t : Sight) (job : JobTree) → job.number ≡ old.given → job.number < 2 ^ 64 - 1 → next ≡ record old { given = suc old.given } → Gave s t job → left_with next t ≤ left_with old s
given_leaves old next s t job number below gave so =
    let longer : length t.out ≡ length s.out + 1 = ap length so.out ∙ length-append s.out (job ∷ []) in
    subst (λ (rest : Rest). left_with rest t ≤ left_with old s) (sym gave) (omega (arith, number, below, longer))

-- the crew had no room for it
pub may_give : (old : Rest) (s : Sight) (job : JobTree) → job.number ≡ old.given → Shares old s → s.next ≤ job.number
may_give old s job number so = omega (arith, number, so.next)

-- ---- the crew is drained

pub shares_drained : (old new : Rest) (s t : Sight) (count : ℕ) → ((number : ℕ) → Awaits old number → ⊥) → new ≡ record old { drains = false } → Drained s t count → Shares old s → Shares new t
shares_drained old new s t count nothing is gone so =
    let back = all_behind (IsBack old) gone.gone t.out (All-permutation (IsBack old) s.out (gone.gone ++ t.out) gone.out so.back) in
    rw is (record {
      going = gone.finished ∙ so.going;
      free = gone.hand ∙ so.free;
      next = omega (arith, gone.next, so.next);
      back = all_then (IsBack old) (IsBack (record old { drains = false })) t.out (λ job b. record { given = b.given; right = b.right }) back;
      once = λ n.
          let same = sum_by-IsPermutation (counts_as n) s.out (gone.gone ++ t.out) gone.out in
          omega (arith, so.once n, same, sum_by-append (counts_as n) gone.gone t.out);
      awaited = λ n awaits. absurd (nothing n awaits);
    })

no_jobs : (jobs : List JobTree) → length jobs ≡ 0 → jobs ≡ []
no_jobs [] none = refl
no_jobs (job ∷ jobs) none = absurd (omega (arith, none))

-- where the crew tells which jobs weren't begun, none is out any more
pub drained_all : (s t : Sight) (count : ℕ) → AddsUp s → s.hand ≡ None → Drained s t count → IfSome s.untaken (λ jobs. t.out ≡ [])
drained_all s t count adds free gone = by s.untaken adds.untaken gone.all
  where
    by : (untaken : Option (List JobTree)) → IfSome untaken (λ jobs. s.out ≡ jobs_of s.hand ++ jobs) → IfSome untaken (λ jobs. count ≡ length jobs) → IfSome untaken (λ jobs. t.out ≡ [])
    by None whole all = tt
    by (Some jobs) whole all =
        let out : s.out ≡ jobs = whole ∙ ap (λ hand. jobs_of hand ++ jobs) free in
        let same = length_permutation s.out (gone.gone ++ t.out) gone.out in
        no_jobs t.out (omega (arith, ap length out, all, gone.each, same, length-append gone.gone t.out))

pub fewer_drained : (s t : Sight) (count : ℕ) → Drained s t count → length t.out ≤ length s.out
fewer_drained s t count gone =
    let same = length_permutation s.out (gone.gone ++ t.out) gone.out in
    omega (arith, same, length-append gone.gone t.out)

-- ---- an outcome is collected

module _ (old : Rest) (s w t : Sight) (outcome : OutcomeParts) (waited : Waited s w) (gone : Collected w t outcome) (so : Shares old s) where
  abbrev done : JobTree
  done = plain_job outcome.job

  back_all : All (IsBack old) (done ∷ t.out)
  back_all = All-permutation (IsBack old) w.out (done ∷ t.out) gone.out (All-permutation (IsBack old) s.out w.out waited.out so.back)

  -- its job may come back
  pub outcome_back : IsBack old done
  outcome_back = All-head (IsBack old) done t.out back_all

  others_apart : All (λ job. job.number ≢ done.number) t.out
  others_apart =
      let first = sum_by-IsPermutation (counts_as done.number) s.out w.out waited.out in
      let second = sum_by-IsPermutation (counts_as done.number) w.out (done ∷ t.out) gone.out in
      let own = counts_own done.number done refl in
      others_numbered done.number t.out (omega (arith, so.once done.number, first, second, own, counts_first done.number done t.out))

  still_once : (n : ℕ) → how_many n t.out ≤ 1
  still_once n =
      let first = sum_by-IsPermutation (counts_as n) s.out w.out waited.out in
      let second = sum_by-IsPermutation (counts_as n) w.out (done ∷ t.out) gone.out in
      omega (arith, so.once n, first, second, counts_first n done t.out)

  still_out : (n : ℕ) → IsOut s n → n ≢ done.number → IsOut t n
  still_out n is other =
      let there : Contains (done ∷ t.out) is.job = Contains-permutation w.out (done ∷ t.out) is.job gone.out (Contains-permutation s.out w.out is.job waited.out is.there) in
      record { job = is.job; there = Contains-tail done t.out is.job (λ same. other (sym is.number_is ∙ ap (λ (j : JobTree). j.number) (sym same))) there; number_is = is.number_is }

  pub shares_outcome : (new : Rest) → TookOutcome old new outcome.job.number → Shares new t
  shares_outcome new took =
      record {
        going = gone.finished ∙ (waited.finished ∙ so.going);
        free = gone.hand;
        next = omega (arith, gone.next, waited.next, so.next, took.given);
        back = all_both (IsBack old) (λ (j : JobTree). j.number ≢ done.number) (IsBack new) t.out (λ job b other. took.back job b other) (All-tail (IsBack old) done t.out back_all) others_apart;
        once = still_once;
        awaited = λ n awaits. let before = took.awaits n awaits in still_out n (so.awaited n before.0) before.1;
      }

  one_fewer : length s.out ≡ suc (length t.out)
  one_fewer = sym (length_permutation s.out w.out waited.out) ∙ sym (length_permutation w.out (done ∷ t.out) gone.out)

  pub outcome_falls : (new : Rest) → TookOutcome old new outcome.job.number → left_with new t < left_with old s
  outcome_falls new took = omega (arith, one_fewer, took.no_more, took.given)

  pub collects_one : CollectsOne s t
  collects_one = record { finished = gone.finished ∙ waited.finished; collected = omega (arith, gone.collected, waited.collected); hand = gone.hand }

-- a job is out where the head waits for no tree
some_contained : (jobs : List JobTree) (job : JobTree) → Contains jobs job → 0 < length jobs
some_contained jobs job (k, inside, is) = omega (arith, inside)

pub some_out : (rest : Rest) (s : Sight) → IsSettled rest → NeedsNothing rest → IsUpHead rest.head → (rest.head ≡ None → ⊥) → Shares rest s → 0 < length s.out
some_out rest s settled needs up busy so =
    let awaits = awaits_some rest settled needs up busy in
    let is = so.awaited awaits.0 awaits.1 in
    some_contained s.out is.job is.there

-- ---- at the start

pub shares_fresh : (rest : Rest) (s : Sight) → rest.head ≡ None → IsFresh s → Shares rest s
shares_fresh rest s idle new =
    record {
      going = new.finished;
      free = new.hand;
      next = omega (arith, new.next);
      back = subst (All (IsBack rest)) (sym new.out) (All-nil (IsBack rest));
      once = λ n. subst (λ jobs. how_many n jobs ≤ 1) (sym new.out) (omega arith);
      awaited = λ n awaits. absurd (subst (λ head. AwaitsHead head rest.jobs rest.given n) idle awaits);
    }

-- ---- crews

pub keeps_crew : (s : Sight) → KeepsCrew s s
keeps_crew s = record { finished = refl; collected = refl; hand = refl }

pub keeps_both : (s t u : Sight) → KeepsCrew s t → KeepsCrew t u → KeepsCrew s u
keeps_both s t u first second = record { finished = second.finished ∙ first.finished; collected = second.collected ∙ first.collected; hand = second.hand ∙ first.hand }

pub collects_then : (s t u : Sight) → CollectsOne s t → KeepsCrew t u → CollectsOne s u
collects_then s t u first second = record { finished = second.finished ∙ first.finished; collected = second.collected ∙ first.collected; hand = second.hand ∙ first.hand }

pub keeps_gave : (s t : Sight) (job : JobTree) → Gave s t job → KeepsCrew s t
keeps_gave s t job gave = record { finished = gave.finished; collected = gave.collected; hand = gave.hand }

pub keeps_drained : (s t : Sight) (count : ℕ) → Drained s t count → KeepsCrew s t
keeps_drained s t count gone = record { finished = gone.finished; collected = gone.collected; hand = gone.hand }
