use Rattle.std.proofs.Common.{◌≡◌, ◌<◌, ℕ, List, true, false, length, get_or, ap, sym, subst, ◌∙◌}
use Rattle.std.proofs.lemmas.List.{length-set, get_or_default}
use Rattle.target_graph.specs.declared.fault.FaultKind.TheVariants as kinds
use Rattle.target_graph.specs.declared.target.Pair.{Pair}
use Rattle.target_graph.specs.Names.{stem}
use Rattle.target_graph.specs.Walk.{has_met}
use Rattle.target_graph.specs.Stems.{IsFirstTwice}
use Rattle.target_graph.proofs.Steps.{found}
use Rattle.target_graph.proofs.SeenStems.{seen_more, seen_skip, seen_at, unseen_at, twice_at, once_at, once_more, first_twice, none_twice, none_first}
use Rattle.target_graph.proofs.stems.check_row.Goals as goal
use Rattle.target_graph.proofs.stems.check_row.Goals.{then-marks-pairs+else-index, else-marks-pairs}

pub returns-then-index : goal.returns-then-index
returns-then-index c =
    let marks = c.args.marks.now in let pairs = c.args.pairs.now in let numbers = c.args.numbers.now in
    let q = c.loop-index.index in
    let pair = c.index-pairs-index.result in
    let m : has_met marks pair.target ≡ true = ap (λ (p : Pair). has_met marks p.target) c.index-pairs-index.is ∙ c.if-marks-pairs.true in
    let n = get_or numbers q 0 in
    let wide : n < length c.loop-index.seen.items = subst (λ k. n < k) (sym c.loop-index.invariant.0) (c.requires.width q 0 (subst (λ k. q < k) (sym c.requires.numbers) c.loop-index-test.true)) in
    let there : has_met c.loop-index.seen.items n ≡ true = get_or_default c.loop-index.seen.items n false c.index.result.now wide ∙ (sym c.index.ensures ∙ c.if-index.true) in
    let twice = twice_at marks pairs numbers q c.loop-index.seen.items c.loop-index.invariant.1 (seen_at marks pairs numbers q pair c.loop-index-test.true c.index-pairs-index.is m) there in
    found c.refusal.result kinds.StemTwice (IsFirstTwice marks pairs numbers) _ _
    c.refusal.ensures
    (subst (λ (xs : List ℕ). IsFirstTwice marks pairs numbers xs)
    (sym (c.stem-name.ensures ∙ ap stem (c.as_slice.ensures ∙ ap (λ (p : Pair). p.path)
    (get_or_default pairs q c.index-pairs-index-then-index.result pair c.loop-index-test.true ∙ sym c.index-pairs-index.is))))
    (first_twice marks pairs numbers q pair c.loop-index-test.true c.index-pairs-index.is twice c.loop-index.invariant.2))

pub loop-index-preserved : goal.loop-index-preserved
loop-index-preserved c =
    let marks = c.args.marks.now in let pairs = c.args.pairs.now in let numbers = c.args.numbers.now in
    let q = c.loop-index.index in
    let pair = c.index-pairs-index.result in
    elim c.if-marks-pairs.branch [
      | then-marks-pairs+else-index w ↦ (
          let n = get_or numbers q 0 in
          let wide : n < length c.loop-index.seen.items = subst (λ k. n < k) (sym c.loop-index.invariant.0) (c.requires.width q 0 (subst (λ k. q < k) (sym c.requires.numbers) c.loop-index-test.true)) in
          let m : has_met marks pair.target ≡ true = ap (λ (p : Pair). has_met marks p.target) c.index-pairs-index.is ∙ w.if-marks-pairs.true in
          let seen = seen_at marks pairs numbers q pair c.loop-index-test.true c.index-pairs-index.is m in
          let free : has_met c.loop-index.seen.items n ≡ false = get_or_default c.loop-index.seen.items n false w.index.result.now wide ∙ (sym w.index.ensures ∙ w.if-index.false) in
          rw w.seen-is (
            length-set c.loop-index.seen.items n true ∙ c.loop-index.invariant.0,
            seen_more marks pairs numbers q c.loop-index.seen.items c.loop-index.invariant.1 seen wide,
            once_more marks pairs numbers q c.loop-index.invariant.2 (once_at marks pairs numbers q c.loop-index.seen.items c.loop-index.invariant.1 free),
          ))
      | else-marks-pairs w ↦ (
          let m : has_met marks pair.target ≡ false = ap (λ (p : Pair). has_met marks p.target) c.index-pairs-index.is ∙ w.if-marks-pairs.false in
          let unseen = unseen_at marks pairs numbers q pair c.loop-index-test.true c.index-pairs-index.is m in
          rw w.seen-is (
            c.loop-index.invariant.0,
            seen_skip marks pairs numbers q c.loop-index.seen.items c.loop-index.invariant.1 unseen,
            once_more marks pairs numbers q c.loop-index.invariant.2 (λ t. unseen t.seen),
          ))
    ]

pub returns : goal.returns
returns c =
    let marks = c.args.marks.now in let pairs = c.args.pairs.now in let numbers = c.args.numbers.now in
    let none = none_twice marks pairs numbers c.loop-index.index c.loop-index-test.false c.loop-index.invariant.2 in
    (none, none_first marks pairs numbers none)
