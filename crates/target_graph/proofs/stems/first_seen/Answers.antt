use Rattle.std.proofs.Common.{◌≡◌, ◌<◌, [], ℕ, false, length, get_or, take, All, ap, sym, subst, ◌∙◌}
use Rattle.std.proofs.lemmas.List.{take_all, take_more}
use Rattle.std.proofs.lemmas.List.Elements.{All-push}
use Rattle.target_graph.specs.declared.target.Pair.{Pair}
use Rattle.target_graph.specs.Walk.{has_met}
use Rattle.target_graph.specs.Stems.{IsSeen}
use Rattle.target_graph.proofs.SeenStems.{unseen_at}
use Rattle.target_graph.proofs.stems.first_seen.Goals as goal

pub loop-index-preserved : goal.loop-index-preserved
loop-index-preserved c =
    let marks = c.args.marks.now in let pairs = c.args.pairs.now in let group = c.args.group.now in
    let i = c.loop-index.index-index in
    let IsUnseen = λ (q : ℕ). ¬ (IsSeen marks pairs q) in
    let pair = c.index-pairs-index.result in
    let h : get_or group i 0 < length pairs = c.requires.group i 0 c.loop-index-test.true in
    let m : has_met marks pair.target ≡ false = ap (λ (p : Pair). has_met marks p.target) c.index-pairs-index.is ∙ c.if-marks-pairs.false in
    subst (All IsUnseen) (sym (take_more group i 0 c.loop-index-test.true))
    (All-push IsUnseen (take i group) (get_or group i 0) c.loop-index.invariant (unseen_at marks pairs [] (get_or group i 0) pair h c.index-pairs-index.is m))

pub returns-clause-none : goal.returns-clause-none
returns-clause-none c =
    subst (All (λ q. ¬ (IsSeen c.args.marks.now c.args.pairs.now q))) (take_all c.loop-index.index-index c.args.group.now c.loop-index-test.false) c.loop-index.invariant
