-- The checks that run, as some start and one finishes.
use Rattle.std.proofs.Common.{◌≡◌, ◌≢◌, ◌⊎◌, inl, inr, ◌++◌, ◌≤◌, ◌<◌, ◌+◌, ℕ, suc, Bool, true, false, cond, eqb, ltb, Some, None, List, [], ◌∷◌, refl, length, drop, get_or, take, sym, ap, subst, ◌∙◌, arith}
use Rattle.std.specs.List.{AllPairs, Contains, position, position_or_len}
use Rattle.std.proofs.lemmas.Bool.{cases_lt, false≢true}
use Rattle.std.proofs.lemmas.Bool.Decides.{Decides-eqb, Decides-ltb}
use Rattle.std.proofs.lemmas.List.Sums.{fails_before_first}
use Rattle.std.proofs.lemmas.List.{drop_more, length-append, map-append, take-append-drop}
use Rattle.std.proofs.lemmas.List.Elements.{All-map, All-nil, All-push, Contains-append_left, Contains-push, Contains-push_cases}
use Rattle.std.proofs.lemmas.List.Quantifiers.{all_pairs_push, position-Some}
use Rattle.std.proofs.lemmas.Option.{get_or_from_slice_get, slice_get-get_or}
use Rattle.build_checks.specs.Stand.{left_of}
use Rattle.build_checks.specs.declared.checks.Checks.{Checks}
use Rattle.session_law.proofs.ListLaws.{contains_at, contains_cases, contains_map, contains_map_back}
use Rattle.session_build.specs.Going.{AreOrdered, FinishesOne, IsAmong, IsOrdered, IsJobIndex, KeepsViews, StartsMore, TakesOut, all_left, numbers_of}
use Rattle.session_build.specs.declared.going.Going.{Going}
use Rattle.session_build.specs.declared.going.Job.{Job}
use Rattle.session_build.proofs.Members.{one_of_image}
use Rattle.session_build.proofs.Moved.{all_by, map_absent, map_less, moved, others_there}

-- ---- what was settled

pub keeps_same : (old new : Checks) → new ≡ old → KeepsViews old new
keeps_same old new same = subst (λ (c : Checks). KeepsViews old c) (sym same) (record { world = refl; views = λ keys are. are })

pub keeps_on : (a b c : Checks) → KeepsViews a b → KeepsViews b c → KeepsViews a c
keeps_on a b c first second = record { world = second.world ∙ first.world; views = λ keys are. first.views keys (second.views keys are) }

-- ---- some start

pub none_left : (jobs : List Job) → length jobs ≤ 0 → jobs ≡ []
none_left [] less = refl
none_left (job ∷ jobs) less = absurd (omega (arith, less))

pub ordered_none : (begun : ℕ) (jobs : List Job) → jobs ≡ [] → AreOrdered begun jobs
ordered_none begun jobs none =
    subst (λ (js : List Job). AreOrdered begun js) (sym none) (record { rising = λ i j d h k. absurd (omega arith); counted = All-nil (λ (j : Job). 0 < j.number); within = All-nil (λ (j : Job). j.number ≤ begun) })

pub starts_same : (old new : Going) → new.jobs.items ≡ old.jobs.items → new.begun ≡ old.begun → KeepsViews old.checks new.checks → StartsMore old new
starts_same old new jobs begun keeps = record {
  checks = keeps;
  stay = λ job there. subst (λ (js : List Job). Contains js job) (sym jobs) there;
  either = λ job there. inl (subst (λ (js : List Job). Contains js job) jobs there);
  fresh = λ n more less. absurd (omega (arith, more, less, begun));
  more = omega (arith, begun);
  ordered = λ before.
      subst (λ n. AreOrdered n new.jobs.items) (sym begun) (subst (λ (js : List Job). AreOrdered old.begun js) (sym jobs) before);
}

one_more : (begun : ℕ) (jobs : List Job) (job : Job) → AreOrdered begun jobs → job.number ≡ suc begun → AreOrdered (suc begun) (jobs ++ job ∷ [])
one_more begun jobs job before is = record {
  rising =
      subst (λ ns. AllPairs ◌<◌ ns) (sym (map-append (λ (j : Job). j.number) jobs (job ∷ [])))
      (all_pairs_push ◌<◌ (numbers_of jobs) job.number before.rising
      (All-map (λ n. n < job.number) (λ (j : Job). j.number) jobs (λ k d h. (let less = before.within k d h in omega (arith, less, is)))));
  counted = All-push (λ (j : Job). 0 < j.number) jobs job before.counted (omega (arith, is));
  within = All-push (λ (j : Job). j.number ≤ suc begun) jobs job (λ k d h. (let less = before.within k d h in omega (arith, less))) (omega (arith, is));
}

pub starts_one : (old new : Going) (job : Job) → new.jobs.items ≡ old.jobs.items ++ job ∷ [] → job.number ≡ suc old.begun → new.begun ≡ suc old.begun → KeepsViews old.checks new.checks
    → StartsMore old new
starts_one old new job jobs number begun keeps = record {
  checks = keeps;
  stay = λ it there. subst (λ (js : List Job). Contains js it) (sym jobs) (Contains-append_left old.jobs.items (job ∷ []) it there);
  either = λ it there. by it (Contains-push_cases old.jobs.items job it (subst (λ (js : List Job). Contains js it) jobs there));
  fresh = λ n more less.
      (let last : n ≡ job.number = omega (arith, more, less, number, begun) in
      subst (λ (js : List Job). Contains (numbers_of js) n) (sym jobs)
      (subst (Contains (numbers_of (old.jobs.items ++ job ∷ []))) (sym last)
      (contains_map (λ (j : Job). j.number) (old.jobs.items ++ job ∷ []) job (Contains-push old.jobs.items job))));
  more = omega (arith, begun);
  ordered = λ before.
      subst (λ n. AreOrdered n new.jobs.items) (sym begun)
      (subst (λ (js : List Job). AreOrdered (suc old.begun) js) (sym jobs) (one_more old.begun old.jobs.items job before number));
}
  where
    by : (it : Job) → Contains old.jobs.items it ⊎ (job ≡ it) → Contains old.jobs.items it ⊎ (old.begun < it.number)
    by it (inl there) = inl there
    by it (inr same) = inr (subst (λ (j : Job). old.begun < j.number) same (omega (arith, number)))

pub starts_on : (a b c : Going) → StartsMore a b → StartsMore b c → StartsMore a c
starts_on a b c first second = record {
  checks = keeps_on a.checks b.checks c.checks first.checks second.checks;
  stay = λ job there. second.stay job (first.stay job there);
  either = λ job there. by job (second.either job there);
  fresh = λ n more less. start n more less (cases_lt b.begun n);
  more = (let less = first.more in let more = second.more in omega (arith, less, more));
  ordered = λ before. second.ordered (first.ordered before);
}
  where
    by : (job : Job) → Contains b.jobs.items job ⊎ (b.begun < job.number) → Contains a.jobs.items job ⊎ (a.begun < job.number)
    by job (inl there) = first.either job there
    by job (inr less) = inr (let more = first.more in omega (arith, less, more))

    start : (n : ℕ) → a.begun < n → n ≤ c.begun → (b.begun < n) ⊎ (n ≤ b.begun) → Contains (numbers_of c.jobs.items) n
    start n more less (inl late) = second.fresh n late less
    start n more less (inr early) =
        let from = contains_map_back (λ (j : Job). j.number) b.jobs.items n (first.fresh n more early) in
        subst (Contains (numbers_of c.jobs.items)) from.2 (contains_map (λ (j : Job). j.number) c.jobs.items from.0 (second.stay from.0 from.1))

-- ---- one is taken out

-- where a job passes the test, some index is found
found : (test : Job → Bool) (jobs : List Job) (k : ℕ) (d : Job) → k < length jobs → test (get_or jobs k d) ≡ true → ¬ (position test jobs ≡ None)
found test jobs k d within passes is = by (ltb (position_or_len test jobs) (length jobs)) refl is
  where
    index : (position_or_len test jobs < length jobs) → ltb (position_or_len test jobs) (length jobs) ≡ true
    index less = (Decides-ltb (position_or_len test jobs) (length jobs)).1 less

    before : (k < position_or_len test jobs) ⊎ (position_or_len test jobs ≤ k) → ltb (position_or_len test jobs) (length jobs) ≡ false → ⊥
    before (inl less) none = false≢true (sym (fails_before_first test jobs k d less) ∙ passes)
    before (inr more) none = false≢true (sym none ∙ index (omega arith))

    by : (b : Bool) → ltb (position_or_len test jobs) (length jobs) ≡ b → cond b (Some (position_or_len test jobs)) None ≡ None → ⊥
    by true less none = absurd (cc)
    by false less none = before (cases_lt k (position_or_len test jobs)) less

pub number_found : (jobs : List Job) (number : ℕ) → Contains (numbers_of jobs) number → ¬ (position (λ (job : Job). eqb job.number number) jobs ≡ None)
number_found jobs number there =
    let from = contains_map_back (λ (j : Job). j.number) jobs number there in
    let at = from.1 in
    found (λ (job : Job). eqb job.number number) jobs at.0 from.0 at.1 (ap (λ (j : Job). eqb j.number number) at.2 ∙ (Decides-eqb from.0.number number).1 from.2)

pub found_at : (jobs : List Job) (number index : ℕ) → Contains (numbers_of jobs) number → position (λ (job : Job). eqb job.number number) jobs ≡ Some index → IsJobIndex jobs number index
found_at jobs number index there is =
    let some = contains_map_back (λ (j : Job). j.number) jobs number there in
    let at = position-Some (λ (job : Job). eqb job.number number) jobs index some.0 is in
    record {
      job = get_or jobs index some.0;
      there = slice_get-get_or jobs index some.0 at.0;
      number_is = (Decides-eqb (get_or jobs index some.0).number number).0 at.1;
    }

pub index_among : (jobs : List Job) (number index : ℕ) (d : Job) → IsJobIndex jobs number index → IsAmong jobs number (get_or jobs index d).pair
index_among jobs number index d at =
    record {
      job = at.job;
      there = contains_at jobs index at.job at.there;
      number_is = at.number_is;
      pair_is = ap (λ (j : Job). j.pair) (sym (get_or_from_slice_get jobs index at.job d at.there));
    }

pub taken_at : (old new : List Job) (index : ℕ) (job : Job) → index < length old → job ≡ get_or old index job → new ≡ take index old ++ drop (index + 1) old → TakesOut old new job
taken_at old new index job within is left = record {
  front = take index old;
  back = drop (index + 1) old;
  before =
      sym (take-append-drop index old)
      ∙ ap (λ (js : List Job). take index old ++ js) (drop_more old index job within ∙ ap (λ (j : Job). j ∷ drop (index + 1) old) (sym is));
  after = left;
}

module _ (old new : List Job) (job : Job) (takes : TakesOut old new job) where
  pub left_there : (other : Job) → Contains new other → Contains old other
  left_there other there =
      subst (λ (js : List Job). Contains js other) (sym takes.before)
      (others_there takes.front takes.back job other (subst (λ (js : List Job). Contains js other) takes.after there))

  pub still_there : (other : Job) → Contains old other → other.number ≢ job.number → Contains new other
  still_there other there differ = by (contains_cases job (takes.front ++ takes.back) other (moved takes.front takes.back job other (subst (λ (js : List Job). Contains js other) takes.before there)))
    where
      by : (job ≡ other) ⊎ Contains (takes.front ++ takes.back) other → Contains new other
      by (inl same) = absurd (differ (ap (λ (j : Job). j.number) (sym same)))
      by (inr rest) = subst (λ (js : List Job). Contains js other) (sym takes.after) rest

  pub left_ordered : (begun : ℕ) → AreOrdered begun old → AreOrdered begun new
  left_ordered begun before = record {
    rising =
        subst (λ (js : List Job). AllPairs ◌<◌ (numbers_of js)) (sym takes.after)
        (map_less (λ (j : Job). j.number) ◌<◌ takes.front takes.back job (subst (λ (js : List Job). AllPairs ◌<◌ (numbers_of js)) takes.before before.rising));
    counted = all_by (λ (j : Job). 0 < j.number) old new left_there before.counted;
    within = all_by (λ (j : Job). j.number ≤ begun) old new left_there before.within;
  }

  -- no other has its number
  pub left_differ : (begun : ℕ) → AreOrdered begun old → (other : Job) → Contains new other → other.number ≢ job.number
  left_differ begun before other there same =
      map_absent (λ (j : Job). j.number) takes.front takes.back job
      (λ i j d h k is. (let less = subst (λ (js : List Job). AllPairs ◌<◌ (numbers_of js)) takes.before before.rising i j d h k in omega (arith, less, is)))
      (subst (Contains (numbers_of (takes.front ++ takes.back))) same
      (contains_map (λ (j : Job). j.number) (takes.front ++ takes.back) other (subst (λ (js : List Job). Contains js other) takes.after there)))

  pub one_fewer : length old ≡ suc (length new)
  one_fewer =
      let first = ap (λ (js : List Job). length js) takes.before in
      let second = ap (λ (js : List Job). length js) takes.after in
      omega (arith, first, second, length-append takes.front (job ∷ takes.back), length-append takes.front takes.back)

-- no two have one number
pub same_pair : (begun : ℕ) (jobs : List Job) → AreOrdered begun jobs → (number p q : ℕ) → IsAmong jobs number p → IsAmong jobs number q → p ≡ q
same_pair begun jobs ordered number p q one other =
    let distinct : AllPairs ◌≢◌ (numbers_of jobs) = (λ i j d h k is. (let less = ordered.rising i j d h k in omega (arith, less, is))) in
    sym one.pair_is ∙ (ap (λ (j : Job). j.pair) (one_of_image (λ (j : Job). j.number) jobs one.job other.job distinct one.there other.there (one.number_is ∙ sym other.number_is)) ∙ other.pair_is)

-- the check with this number is taken out and settled, and then others start
pub finishes : (old mid new : Going) (job : Job) (number : ℕ) → TakesOut old.jobs.items mid.jobs.items job → job.number ≡ number → mid.begun ≡ old.begun
    → left_of mid.checks ≡ left_of old.checks → KeepsViews old.checks mid.checks → StartsMore mid new → all_left new.checks new.jobs.items ≤ all_left mid.checks mid.jobs.items → FinishesOne old number new
finishes old mid new job number takes is begun left keeps starts fewer = record {
  checks = keeps_on old.checks mid.checks new.checks keeps starts.checks;
  others = λ other there differ. starts.stay other (still_there old.jobs.items mid.jobs.items job takes other there (λ same. differ (same ∙ is)));
  either = λ before other there. by before other (starts.either other there);
  fresh = λ n more less. starts.fresh n (omega (arith, more, begun)) less;
  more = (let more = starts.more in omega (arith, more, begun));
  less = (let one = one_fewer old.jobs.items mid.jobs.items job takes in omega (arith, one, left, fewer));
  ordered = λ before. starts.ordered (subst (λ n. AreOrdered n mid.jobs.items) (sym begun) (left_ordered old.jobs.items mid.jobs.items job takes old.begun before));
}
  where
    by : IsOrdered old → (other : Job) → Contains mid.jobs.items other ⊎ (mid.begun < other.number)
        → (Contains old.jobs.items other × (other.number ≢ number)) ⊎ (old.begun < other.number)
    by before other (inl there) =
        inl (
          left_there old.jobs.items mid.jobs.items job takes other there,
          (λ same. left_differ old.jobs.items mid.jobs.items job takes old.begun before other there (same ∙ sym is)),
        )
    by before other (inr less) = inr (omega (arith, less, begun))
