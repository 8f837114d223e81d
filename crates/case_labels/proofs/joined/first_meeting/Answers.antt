use Rattle.std.proofs.Common.{◌≡◌, ℤ, sym, ◌∙◌, subst, rules, w32, to_z, of_z}
use Rattle.std.specs.BTreeMap.Range.{IsRangeOf, IsEntryInRange, entries_between}
use Rattle.std.specs.Ordering.{int_cmp}
use Rattle.std.specs.declared.ops.Bound.TheVariants.{Included, Unbounded}
use Rattle.std.proofs.lemmas.Int.{to_z-of_z}
use Rattle.case_labels.proofs.RangeLaws.{none_from, looked_at, in_front, from_front}
use Rattle.case_labels.proofs.joined.first_meeting.Goals as goal

pub returns-in-Some : goal.returns-in-Some
returns-in-Some c =
    let m = c.args.firsts.now in
    let low : to_z w32 (of_z w32 c.args.low) ≡ c.args.low = to_z-of_z w32 c.args.low (search rules) in
    let high : to_z w32 (of_z w32 c.args.high) ≡ c.args.high = to_z-of_z w32 c.args.high (search rules) in
    let last : to_z w32 (of_z w32 c.in-Some.last.now) ≡ c.in-Some.last.now = to_z-of_z w32 c.in-Some.last.now (search rules) in
    let first : to_z w32 (of_z w32 c.in-Some.first.now) ≡ c.in-Some.first.now = to_z-of_z w32 c.in-Some.first.now (search rules) in
    let between : c.range.result ≡ entries_between int_cmp (Included c.args.low) Unbounded m.entries = subst (λ (x : ℤ). c.range.result ≡ entries_between int_cmp (Included x) Unbounded m.entries) low (c.range.ensures.between tt) in
    let inside : IsRangeOf int_cmp (Included c.args.low) Unbounded m c.range.result = subst (λ (x : ℤ). IsRangeOf int_cmp (Included x) Unbounded m c.range.result) low (c.range.ensures.in_range tt) in
    let e : IsEntryInRange int_cmp (Included c.args.low) Unbounded m (c.in-Some.last.now, c.in-Some.first.now) = in_front m c.args.low c.range.result _ _ c.in-Some.ensures.steps inside in
    looked_at c.within.result c.args.low c.args.high c.in-Some.last.now c.in-Some.first.now m c.next.new.self c.requires (sym c.in-Some.ensures.steps ∙ between) e.1 (from_front c.args.low _ e.0.0) (simp (high, last, first) at c.within.ensures)

pub returns-in-None : goal.returns-in-None
returns-in-None c =
    let m = c.args.firsts.now in
    let low : to_z w32 (of_z w32 c.args.low) ≡ c.args.low = to_z-of_z w32 c.args.low (search rules) in
    none_from c.args.low c.args.high m.entries (sym c.in-None.ensures.steps.0 ∙ subst (λ (x : ℤ). c.range.result ≡ entries_between int_cmp (Included x) Unbounded m.entries) low (c.range.ensures.between tt))
