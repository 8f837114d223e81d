use Rattle.std.proofs.Common.{◌<◌, ℕ, ◌∙◌, ap, length, arith, refl}
use Rattle.std.proofs.lemmas.List.{get_or_read}
use Rattle.std.proofs.lemmas.Option.{slice_get_read}
use Rattle.bsp_edge.proofs.PollLaws.{none_left, polls_stay, some_left, uses_poll}
use Rattle.bsp_edge.proofs.mem_source.MemSource.use_poll.Goals as goal

pub polls_passed-first-requires : goal.polls_passed-first-requires
polls_passed-first-requires c = rw c.as_slice.ensures.value c.self.invariant.polls_rise

pub returns-then-stop-offset-clause-none : goal.returns-then-stop-offset-clause-none
returns-then-stop-offset-clause-none c =
    let polls = c.self.inside.quiet.items in
    let spent = rw c.as_slice.ensures.value at c.polls_passed-first.ensures.passed in
    let ahead = rw c.as_slice.ensures.value at c.polls_passed-first.ensures.ahead in
    let inside : c.polls_passed-first.result < length polls = omega (arith, c.self.inside.quiet.ok.0, c.as_slice.ensures.len) in
    rw (← c.self.view_is) (none_left polls c.self.inside.offset c.polls_passed-first.result spent ahead c.self.invariant.polls_rise (λ d here. c.if-stop-offset.true (ap (λ (stop : ℕ × ℕ). stop.0) (get_or_read polls _ _ inside c.index.ensures d) ∙ here)))

pub invariant_of-self : goal.invariant_of-self
invariant_of-self c =
    let polls = c.self.inside.quiet.items in
    let spent = rw c.as_slice.ensures.value at c.polls_passed-first.ensures.passed in
    let ahead = rw c.as_slice.ensures.value at c.polls_passed-first.ensures.ahead in
    let inside : c.polls_passed-first.result < length polls = omega (arith, c.self.inside.quiet.ok.0, c.as_slice.ensures.len) in
    let had = get_or_read polls _ _ inside c.index.ensures in
    record {
      inside = c.self.invariant.inside;
      cuts_rise = c.self.invariant.cuts_rise;
      polls_rise = polls_stay polls c.self.inside.offset c.polls_passed-first.result c.index.result.now inside spent c.self.invariant.polls_rise had c.if-stop-offset.false (some_left polls c.self.inside.offset _ _ inside ahead had c.if-stop-offset.false);
    }

pub returns-clause-used : goal.returns-clause-used
returns-clause-used c =
    let polls = c.self.inside.quiet.items in
    let ahead = rw c.as_slice.ensures.value at c.polls_passed-first.ensures.ahead in
    let inside : c.polls_passed-first.result < length polls = omega (arith, c.self.inside.quiet.ok.0, c.as_slice.ensures.len) in
    let had = get_or_read polls _ _ inside c.index.ensures in
    let found = slice_get_read polls (length polls) _ _ refl inside c.index.ensures in
    rw (← c.self.view_is) (uses_poll _ _ _ found c.if-stop-offset.false (some_left polls c.self.inside.offset _ _ inside ahead had c.if-stop-offset.false))
