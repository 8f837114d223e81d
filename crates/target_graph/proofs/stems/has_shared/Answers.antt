use Rattle.std.proofs.Common.{◌≤◌, ℕ, Vec, Global, length, get_or, take, All, sym, subst, arith}
use Rattle.std.proofs.lemmas.List.{take_all, take_more}
use Rattle.std.proofs.lemmas.List.Elements.{All-push}
use Rattle.target_graph.proofs.stems.has_shared.Goals as goal

pub loop-group-preserved : goal.loop-group-preserved
loop-group-preserved c =
    let groups = c.args.groups.now in
    let i = c.loop-group.group-index in
    let IsSingle = λ (group : Vec ℕ Global). length group.items ≤ 1 in
    subst (All IsSingle) (sym (take_more groups i c.group-item.result c.loop-group-test.true))
    (All-push IsSingle (take i groups) (get_or groups i c.group-item.result) c.loop-group.invariant
    (subst IsSingle c.group-item.is (omega (arith, c.len.ensures, c.group-item.result.ok.0))))

pub returns : goal.returns
returns c = λ _.
    subst (All (λ (group : Vec ℕ Global). length group.items ≤ 1)) (take_all c.loop-group.group-index c.args.groups.now c.loop-group-test.false) c.loop-group.invariant
