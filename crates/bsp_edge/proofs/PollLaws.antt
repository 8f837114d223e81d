-- The order in which a source in memory keeps its quiet offsets.
use Rattle.std.proofs.Common.{◌≡◌, ◌≢◌, ℕ, ◌+◌, ◌-◌, ◌*◌, ◌<◌, ◌≤◌, List, length, get_or, set, slice_get, slice_set, Some, false, length-set, arith, refl, inl, inr}
use Rattle.std.specs.List.{All, AllWithin}
use Rattle.std.specs.List.Sorted.{IsNonDecreasingBy, IsSorted}
use Rattle.std.specs.Ordering.{is_lt, nat_cmp, ordering_then}
use Rattle.std.proofs.lemmas.Bool.{cases_lt}
use Rattle.std.proofs.lemmas.Bool.Decides.{nat_tests}
use Rattle.std.proofs.lemmas.List.{get_or-set_other}
use Rattle.std.proofs.lemmas.Grind.{get_or-set_at}
use Rattle.std.proofs.lemmas.List.Sorted.{IsNonDecreasingBy-from_all_adjacent}
use Rattle.bsp_edge.specs.Course.{Course, UsesPoll}
use Rattle.bsp_edge.specs.Orders.{quiet_rank}
use Rattle.bsp_edge.specs.Pieces.{PassesNoQuiet}

-- what is no higher in the order of pairs ranks no higher
quiet_rank_le : (x y : ℕ × ℕ) → is_lt (ordering_then (nat_cmp y.0 x.0) (nat_cmp y.1 x.1)) ≡ false → quiet_rank x ≤ quiet_rank y
quiet_rank_le x y not_below = grind (arith, nat_tests)

-- sorted quiet offsets are in order
pub polls_rise : (polls : List (ℕ × ℕ)) → IsSorted (λ (x y : ℕ × ℕ). ordering_then (nat_cmp x.0 y.0) (nat_cmp x.1 y.1)) polls → IsNonDecreasingBy quiet_rank polls
polls_rise polls sorted = IsNonDecreasingBy-from_all_adjacent quiet_rank polls (λ k d below. quiet_rank_le _ _ (sorted k d (omega arith) below))

-- their offsets rise
pub offsets_rise : (polls : List (ℕ × ℕ)) → IsNonDecreasingBy quiet_rank polls → IsNonDecreasingBy (λ (quiet : ℕ × ℕ). quiet.0) polls
offsets_rise polls rises = λ i j d le below. omega (arith, rises i j d le below)

-- a piece up to the first quiet offset ahead passes none
pub passes_none : (polls : List (ℕ × ℕ)) (offset next count : ℕ) → IsNonDecreasingBy quiet_rank polls → AllWithin (λ (quiet : ℕ × ℕ). quiet.0 ≤ offset) polls 0 next → ((d : ℕ × ℕ) → offset + count ≤ (get_or polls next d).0) → PassesNoQuiet polls offset count
passes_none polls offset next count rises passed upto = λ k d below ahead.
    elim (cases_lt k next) [
      | inl before ↦ absurd (omega (arith, passed k d (omega arith) before))
      | inr behind ↦ omega (arith, upto d, rises next k d behind below)
    ]

-- where the first quiet offset that isn't spent is ahead, no poll is left here
pub none_left : (polls : List (ℕ × ℕ)) (offset first : ℕ) → AllWithin (λ stop. quiet_rank stop < 2 * offset + 1) polls 0 first → AllWithin (λ stop. 2 * offset + 1 ≤ quiet_rank stop) polls first (length polls) → IsNonDecreasingBy quiet_rank polls → ((d : ℕ × ℕ) → (get_or polls first d).0 ≢ offset) → All (λ (quiet : ℕ × ℕ). quiet.0 ≡ offset → quiet.1 ≡ 0) polls
none_left polls offset first spent ahead rises elsewhere = λ k d below here.
    elim (cases_lt k first) [
      | inl before ↦ omega (arith, spent k d (omega arith) before)
      | inr behind ↦ absurd (omega (arith, elsewhere d, ahead first d (omega arith) (omega arith), rises first k d behind below))
    ]

-- where the first quiet offset that isn't spent is here, it has polls left
pub some_left : (polls : List (ℕ × ℕ)) (offset first : ℕ) (stop : ℕ × ℕ) → first < length polls → AllWithin (λ quiet. 2 * offset + 1 ≤ quiet_rank quiet) polls first (length polls) → ((d : ℕ × ℕ) → stop ≡ get_or polls first d) → stop.0 ≡ offset → 0 < stop.1
some_left polls offset first stop inside ahead had here =
    let ranks = rw (← had stop) at (ahead first stop (omega arith) inside) in
    omega (arith, ranks)

-- a poll that is used up leaves them in order
pub polls_stay : (polls : List (ℕ × ℕ)) (offset first : ℕ) (stop : ℕ × ℕ) → first < length polls → AllWithin (λ quiet. quiet_rank quiet < 2 * offset + 1) polls 0 first → IsNonDecreasingBy quiet_rank polls → ((d : ℕ × ℕ) → stop ≡ get_or polls first d) → stop.0 ≡ offset → 0 < stop.1 → IsNonDecreasingBy quiet_rank (set polls first (stop.0, stop.1 - 1))
polls_stay polls offset first stop inside spent rises had here some = λ i j d le below.
    grind (arith, get_or-set_at, get_or-set_other, length-set, rises i j d, rises first j d, rises i first d, spent i d, had d)

-- what using up a poll does to the course
pub uses_poll : (course : Course) (first : ℕ) (stop : ℕ × ℕ) → slice_get course.polls first ≡ Some stop → stop.0 ≡ course.offset → 0 < stop.1 → UsesPoll course (record { offset = course.offset; began = course.began; polls = slice_set course.polls first (stop.0, stop.1 - 1) })
uses_poll course first stop had here some =
    let less : stop.1 - 1 + 1 ≡ stop.1 = omega arith in
    record {
      index = first;
      after = stop.1 - 1;
      had = rw (less, ← here) had;
      has = rw (← here) refl;
    }
