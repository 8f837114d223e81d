use Rattle.std.proofs.Common.{◌≡◌, ◌<◌, ℕ, List, Bool, true, false, All, length, sym, subst, ap, ◌∙◌}
use Rattle.build_plan.specs.Lists.{has_mark, written}
use Rattle.build_plan.specs.Walk.{HasMet, met}
use Rattle.build_plan.specs.Cycles.{IsKnown}
use Rattle.build_plan.proofs.CycleLaws.{mark_there, known_alone, undecided_inside, cyclic_inside, known_circle, circle_decided, circle_others}
use Rattle.build_plan.proofs.cycles.decide.Goals as goal

-- what the first search met, at the rows and the marks of the call
ahead_met : (rows now : List (List ℕ)) (undecided given marks : List Bool) (order : List ℕ) (pivot : ℕ) → now ≡ rows → given ≡ undecided
    → HasMet now given pivot (record { marks = marks; order = order }) → HasMet rows undecided pivot (record { marks = marks; order = order })
ahead_met rows now undecided given marks order pivot e f m =
    subst (λ (xs : List (List ℕ)). HasMet xs undecided pivot (record { marks = marks; order = order })) e
    (subst (λ (bs : List Bool). HasMet now bs pivot (record { marks = marks; order = order })) f m)

pub returns-then-not-index-2-clause-known : goal.returns-then-not-index-2-clause-known
returns-then-not-index-2-clause-known c =
    let undecided = c.args.undecided.now.items in
    let ahead = c.in_ok-ahead.ahead in
    let inside = subst (λ n. c.args.pivot < n) (sym c.requires.known.undecided_size) c.requires.within in
    let m = ahead_met c.args.links.now _ undecided _ ahead.marks.items ahead.order.items c.args.pivot c.imports.ensures.rows c.as_slice.ensures.value c.in_ok-ahead.ensures in
    known_alone c.args.links.now undecided c.args.cyclic.now.items c.args.pivot c.requires.known
    (mark_there undecided c.args.pivot c.index.result.now true inside c.index.ensures c.if-not-index.false) (met ahead) m
    (mark_there ahead.marks.items c.args.pivot c.index-2.result.now false (subst (λ n. c.args.pivot < n) (sym m.size) c.requires.within) c.index-2.ensures c.if-not-index-2.true)

back_met : (importers : List (List ℕ)) (given ahead marks : List Bool) (order : List ℕ) (pivot : ℕ) → given ≡ ahead
    → HasMet importers given pivot (record { marks = marks; order = order }) → HasMet importers ahead pivot (record { marks = marks; order = order })
back_met importers given ahead marks order pivot e m = subst (λ (bs : List Bool). HasMet importers bs pivot (record { marks = marks; order = order })) e m

pub write_marks-requires : goal.write_marks-requires
write_marks-requires c =
    let undecided = c.args.undecided.now.items in
    let ahead = c.in_ok-ahead.ahead in
    let circle = c.in_ok-circle.circle in
    let inside = subst (λ n. c.args.pivot < n) (sym c.requires.known.undecided_size) c.requires.within in
    let m = ahead_met c.args.links.now _ undecided _ ahead.marks.items ahead.order.items c.args.pivot c.imports.ensures.rows c.as_slice.ensures.value c.in_ok-ahead.ensures in
    let back = back_met _ _ ahead.marks.items circle.marks.items circle.order.items c.args.pivot c.as_slice-2.ensures.value c.in_ok-circle.ensures in
    let marked = mark_there undecided c.args.pivot c.index.result.now true inside c.index.ensures c.if-not-index.false in
    let some = mark_there ahead.marks.items c.args.pivot c.index-2.result.now true (subst (λ n. c.args.pivot < n) (sym m.size) c.requires.within) c.index-2.ensures c.if-not-index-2.false in
    let inside = undecided_inside c.args.links.now undecided c.args.cyclic.now.items c.args.pivot c.requires.known marked (met ahead) m _ c.importers.ensures.turned some (met circle) back in
    subst (λ (xs : List ℕ). All (λ x. x < length undecided) xs) (sym c.as_slice-3.ensures.value) inside

pub write_marks-requires-2 : goal.write_marks-requires-2
write_marks-requires-2 c =
    let undecided = c.args.undecided.now.items in
    let ahead = c.in_ok-ahead.ahead in
    let circle = c.in_ok-circle.circle in
    let inside = subst (λ n. c.args.pivot < n) (sym c.requires.known.undecided_size) c.requires.within in
    let m = ahead_met c.args.links.now _ undecided _ ahead.marks.items ahead.order.items c.args.pivot c.imports.ensures.rows c.as_slice.ensures.value c.in_ok-ahead.ensures in
    let back = back_met _ _ ahead.marks.items circle.marks.items circle.order.items c.args.pivot c.as_slice-2.ensures.value c.in_ok-circle.ensures in
    let marked = mark_there undecided c.args.pivot c.index.result.now true inside c.index.ensures c.if-not-index.false in
    let some = mark_there ahead.marks.items c.args.pivot c.index-2.result.now true (subst (λ n. c.args.pivot < n) (sym m.size) c.requires.within) c.index-2.ensures c.if-not-index-2.false in
    let inside = cyclic_inside c.args.links.now undecided c.args.cyclic.now.items c.args.pivot c.requires.known marked (met ahead) m _ c.importers.ensures.turned some (met circle) back in
    subst (λ (xs : List ℕ). All (λ x. x < length c.args.cyclic.now.items) xs) (sym c.as_slice-4.ensures.value) inside

pub returns-clause-known : goal.returns-clause-known
returns-clause-known c =
    let undecided = c.args.undecided.now.items in
    let ahead = c.in_ok-ahead.ahead in
    let circle = c.in_ok-circle.circle in
    let inside = subst (λ n. c.args.pivot < n) (sym c.requires.known.undecided_size) c.requires.within in
    let m = ahead_met c.args.links.now _ undecided _ ahead.marks.items ahead.order.items c.args.pivot c.imports.ensures.rows c.as_slice.ensures.value c.in_ok-ahead.ensures in
    let back = back_met _ _ ahead.marks.items circle.marks.items circle.order.items c.args.pivot c.as_slice-2.ensures.value c.in_ok-circle.ensures in
    let marked = mark_there undecided c.args.pivot c.index.result.now true inside c.index.ensures c.if-not-index.false in
    let some = mark_there ahead.marks.items c.args.pivot c.index-2.result.now true (subst (λ n. c.args.pivot < n) (sym m.size) c.requires.within) c.index-2.ensures c.if-not-index-2.false in
    let known = known_circle c.args.links.now undecided c.args.cyclic.now.items c.args.pivot c.requires.known marked (met ahead) m _ c.importers.ensures.turned some (met circle) back in
    let new : c.write_marks.new.marks.items ≡ written undecided circle.order.items false = c.write_marks.ensures ∙ ap (λ (xs : List ℕ). written undecided xs false) c.as_slice-3.ensures.value in
    let more : c.write_marks-2.new.marks.items ≡ written c.args.cyclic.now.items circle.order.items true = c.write_marks-2.ensures ∙ ap (λ (xs : List ℕ). written c.args.cyclic.now.items xs true) c.as_slice-4.ensures.value in
    subst (λ (bs : List Bool). IsKnown c.args.links.now bs c.write_marks-2.new.marks.items) (sym new)
    (subst (λ (bs : List Bool). IsKnown c.args.links.now (written undecided circle.order.items false) bs) (sym more) known)

pub returns-clause-decided : goal.returns-clause-decided
returns-clause-decided c =
    let undecided = c.args.undecided.now.items in
    let ahead = c.in_ok-ahead.ahead in
    let circle = c.in_ok-circle.circle in
    let inside = subst (λ n. c.args.pivot < n) (sym c.requires.known.undecided_size) c.requires.within in
    let m = ahead_met c.args.links.now _ undecided _ ahead.marks.items ahead.order.items c.args.pivot c.imports.ensures.rows c.as_slice.ensures.value c.in_ok-ahead.ensures in
    let back = back_met _ _ ahead.marks.items circle.marks.items circle.order.items c.args.pivot c.as_slice-2.ensures.value c.in_ok-circle.ensures in
    let marked = mark_there undecided c.args.pivot c.index.result.now true inside c.index.ensures c.if-not-index.false in
    let some = mark_there ahead.marks.items c.args.pivot c.index-2.result.now true (subst (λ n. c.args.pivot < n) (sym m.size) c.requires.within) c.index-2.ensures c.if-not-index-2.false in
    let decided = circle_decided c.args.links.now undecided c.args.cyclic.now.items c.args.pivot c.requires.known marked (met ahead) m _ c.importers.ensures.turned some (met circle) back in
    let new : c.write_marks.new.marks.items ≡ written undecided circle.order.items false = c.write_marks.ensures ∙ ap (λ (xs : List ℕ). written undecided xs false) c.as_slice-3.ensures.value in
    ap (λ (bs : List Bool). has_mark bs c.args.pivot) new ∙ decided

pub returns-clause-others : goal.returns-clause-others
returns-clause-others c =
    let undecided = c.args.undecided.now.items in
    let ahead = c.in_ok-ahead.ahead in
    let circle = c.in_ok-circle.circle in
    let inside = subst (λ n. c.args.pivot < n) (sym c.requires.known.undecided_size) c.requires.within in
    let m = ahead_met c.args.links.now _ undecided _ ahead.marks.items ahead.order.items c.args.pivot c.imports.ensures.rows c.as_slice.ensures.value c.in_ok-ahead.ensures in
    let back = back_met _ _ ahead.marks.items circle.marks.items circle.order.items c.args.pivot c.as_slice-2.ensures.value c.in_ok-circle.ensures in
    let marked = mark_there undecided c.args.pivot c.index.result.now true inside c.index.ensures c.if-not-index.false in
    let some = mark_there ahead.marks.items c.args.pivot c.index-2.result.now true (subst (λ n. c.args.pivot < n) (sym m.size) c.requires.within) c.index-2.ensures c.if-not-index-2.false in
    let others = circle_others c.args.links.now undecided c.args.cyclic.now.items c.args.pivot c.requires.known marked (met ahead) m _ c.importers.ensures.turned some (met circle) back in
    let new : c.write_marks.new.marks.items ≡ written undecided circle.order.items false = c.write_marks.ensures ∙ ap (λ (xs : List ℕ). written undecided xs false) c.as_slice-3.ensures.value in
    λ b f. ap (λ (bs : List Bool). has_mark bs b) new ∙ others b f
