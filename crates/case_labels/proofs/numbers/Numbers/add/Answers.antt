use Rattle.std.proofs.Common.{◌≡◌, ℤ, ◌∙◌, ap, List, subst, rules, w32, to_z, of_z}
use Rattle.std.proofs.lemmas.Int.{to_z-of_z}
use Rattle.case_labels.specs.Joins.{Joins}
use Rattle.case_labels.specs.Ranges.{meets_any}
use Rattle.case_labels.proofs.RangeLaws.{found_is, joined_with, apart_more}
use Rattle.case_labels.proofs.numbers.Numbers.add.Goals as goal

pub invariant_of-self-2 : goal.invariant_of-self-2
invariant_of-self-2 c =
    let last : to_z w32 (of_z w32 c.join-joined.result.last) ≡ c.join-joined.result.last = to_z-of_z w32 c.join-joined.result.last (search rules) in
    let first : to_z w32 (of_z w32 c.join-joined.result.first) ≡ c.join-joined.result.first = to_z-of_z w32 c.join-joined.result.first (search rules) in
    apart_more _ _ _ c.join-joined.new.firsts.entries _ c.join-joined.result c.join-joined.ensures.joins c.join-joined.ensures.alone (simp (last, first) at c.in_ok-insert.ensures.entries)

pub returns-clause-found : goal.returns-clause-found
returns-clause-found c =
    let low : to_z w32 (of_z w32 c.args.low) ≡ c.args.low = to_z-of_z w32 c.args.low (search rules) in
    let high : to_z w32 (of_z w32 c.args.high) ≡ c.args.high = to_z-of_z w32 c.args.high (search rules) in
    found_is c.first_meeting.result c.is_some-found.result c.args.low c.args.high c.self.inside.firsts c.is_some-found.ensures (simp (low, high) at c.first_meeting.ensures) ∙ ap (meets_any c.args.low c.args.high) c.self.view_is

pub returns-clause-adds : goal.returns-clause-adds
returns-clause-adds c =
    let low : to_z w32 (of_z w32 c.args.low) ≡ c.args.low = to_z-of_z w32 c.args.low (search rules) in
    let high : to_z w32 (of_z w32 c.args.high) ≡ c.args.high = to_z-of_z w32 c.args.high (search rules) in
    let last : to_z w32 (of_z w32 c.join-joined.result.last) ≡ c.join-joined.result.last = to_z-of_z w32 c.join-joined.result.last (search rules) in
    let first : to_z w32 (of_z w32 c.join-joined.result.first) ≡ c.join-joined.result.first = to_z-of_z w32 c.join-joined.result.first (search rules) in
    joined_with c.args.low c.args.high c.args.self.now c.join-joined.new.firsts.entries _ c.join-joined.result (subst (λ (es : List (ℤ × ℤ)). Joins c.args.low c.args.high es c.join-joined.new.firsts.entries c.join-joined.result) c.self.view_is (simp (low, high) at c.join-joined.ensures.joins)) c.join-joined.ensures.alone (simp (last, first) at c.in_ok-insert.ensures.entries)
