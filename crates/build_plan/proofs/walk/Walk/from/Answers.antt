use Rattle.std.proofs.Common.{◌≡◌, ◌<◌, ◌≤◌, ◌+◌, List, ℕ, length, All, ap, sym, subst, ◌∙◌, arith}
use Rattle.std.proofs.lemmas.List.{length-replicate}
use Rattle.build_plan.specs.Rows.{row_at}
use Rattle.build_plan.specs.Lists.{lists_of}
use Rattle.build_plan.specs.Walk.{Met, met, meet_all, allowed_of}
use Rattle.build_plan.proofs.InMemory.{same_length, row_there, inside_row}
use Rattle.build_plan.proofs.WalkLaws.{IsOnWay, first_met, set_off, met_within, go_on, arrive, few_met}
use Rattle.build_plan.proofs.walk.Walk.from.Goals as goal

pub meet_allowed-requires-clause-within : goal.meet_allowed-requires-clause-within
meet_allowed-requires-clause-within c =
    let rows = c.args.rows.now in
    let size : length c.in_ok-walk.walk.marks.items ≡ length rows =
    ap (λ (m : Met). length m.marks) c.in_ok-walk.ensures ∙ length-replicate (length rows) _ in
    subst (λ n. All (λ place. place < n) c.as_slice.result.now) (sym size)
    (subst (λ (xs : List ℕ). All (λ place. place < length rows) xs) (sym c.as_slice.ensures.value)
    (inside_row rows c.args.from c.index-rows-from.result c.requires.from c.index-rows-from.is c.requires.within))

pub walk-init : goal.walk-init
walk-init c =
    let rows = c.args.rows.now in
    let there : c.as_slice.result.now ≡ row_at (lists_of rows) c.args.from =
    c.as_slice.ensures.value ∙ sym (row_there rows c.args.from c.index-rows-from.result c.requires.from c.index-rows-from.is) in
    let begun = set_off (lists_of rows) c.args.allowed.now c.args.from c.requires.within in
    let same : first_met (length (lists_of rows)) ≡ met c.in_ok-walk.walk = ap first_met (same_length rows) ∙ sym c.in_ok-walk.ensures in
    subst (λ (m : Met). IsOnWay (lists_of rows) c.args.allowed.now c.args.from m 0)
    (sym (c.in_ok-meet_allowed.ensures ∙ (ap (λ (m : Met). meet_all m (allowed_of c.args.allowed.now c.as_slice.result.now)) (sym same)
    ∙ ap (λ (xs : List ℕ). meet_all (first_met (length (lists_of rows))) (allowed_of c.args.allowed.now xs)) there)))
    begun

pub bounds-rows-place : goal.bounds-rows-place
bounds-rows-place c =
    let rows = c.args.rows.now in
    let h : c.walk.at < length c.walk.walk.order.items = omega (arith, c.len.ensures, c.walk.walk.order.ok.0) in
    subst (λ n. c.index.result.now < n) (same_length rows)
    (met_within (lists_of rows) c.args.allowed.now c.args.from c.requires.within (met c.walk.walk) c.walk.at c.index.result.now c.walk.invariant h c.index.ensures)

pub meet_allowed-requires-in-walk-clause-within : goal.meet_allowed-requires-in-walk-clause-within
meet_allowed-requires-in-walk-clause-within c =
    let rows = c.args.rows.now in
    let h : c.walk.at < length c.walk.walk.order.items = omega (arith, c.len.ensures, c.walk.walk.order.ok.0) in
    let inside = subst (λ n. c.index.result.now < n) (same_length rows)
    (met_within (lists_of rows) c.args.allowed.now c.args.from c.requires.within (met c.walk.walk) c.walk.at c.index.result.now c.walk.invariant h c.index.ensures) in
    subst (λ n. All (λ place. place < n) c.as_slice-in-walk.result.now) (sym (c.walk.invariant.walk.whole_size ∙ same_length rows))
    (subst (λ (xs : List ℕ). All (λ place. place < length rows) xs) (sym c.as_slice-in-walk.ensures.value)
    (inside_row rows c.index.result.now c.index-rows-place.result inside c.index-rows-place.is c.requires.within))

pub walk-preserved : goal.walk-preserved
walk-preserved c =
    let rows = c.args.rows.now in
    let h : c.walk.at < length c.walk.walk.order.items = omega (arith, c.len.ensures, c.walk.walk.order.ok.0) in
    let inside = subst (λ n. c.index.result.now < n) (same_length rows)
    (met_within (lists_of rows) c.args.allowed.now c.args.from c.requires.within (met c.walk.walk) c.walk.at c.index.result.now c.walk.invariant h c.index.ensures) in
    let there : c.as_slice-in-walk.result.now ≡ row_at (lists_of rows) c.index.result.now =
    c.as_slice-in-walk.ensures.value ∙ sym (row_there rows c.index.result.now c.index-rows-place.result inside c.index-rows-place.is) in
    subst (λ (m : Met). IsOnWay (lists_of rows) c.args.allowed.now c.args.from m (c.walk.at + 1))
    (sym (c.in_ok-meet_allowed-2.ensures ∙ ap (λ (xs : List ℕ). meet_all (met c.walk.walk) (allowed_of c.args.allowed.now xs)) there))
    (go_on (lists_of rows) c.args.allowed.now c.args.from c.requires.within (met c.walk.walk) c.walk.at c.index.result.now c.walk.invariant h c.index.ensures)

pub walk-smaller : goal.walk-smaller
walk-smaller c =
    let rows = c.args.rows.now in
    let h : c.walk.at < length c.walk.walk.order.items = omega (arith, c.len.ensures, c.walk.walk.order.ok.0) in
    let few = few_met (lists_of rows) c.args.allowed.now c.args.from c.requires.within (met c.walk.walk) c.walk.at c.walk.invariant in
    let size = same_length rows in
    omega (arith, h, few, size)

pub returns : goal.returns
returns c =
    let rows = c.args.rows.now in
    let h : length c.walk.walk.order.items ≤ c.walk.at = omega (arith, c.len.ensures, c.walk.walk.order.ok.0) in
    arrive (lists_of rows) c.args.allowed.now c.args.from c.requires.within (met c.walk.walk) c.walk.at c.walk.invariant h
