use Rattle.std.proofs.Common.{◌≡◌, ◌<◌, length, get_or, take, All, sym, subst, arith}
use Rattle.std.proofs.lemmas.List.{take_all, take_more}
use Rattle.std.proofs.lemmas.List.Elements.{All-push}
use Rattle.target_graph.specs.Closures.{IsMade, lists_of, row_at}
use Rattle.target_graph.proofs.InMemory.{list_at}
use Rattle.target_graph.proofs.Sweeps.{none_empty}
use Rattle.target_graph.proofs.closures.are_made.Goals as goal

pub loop-index-preserved : goal.loop-index-preserved
loop-index-preserved c =
    let rows = c.args.rows.now in let indices = c.args.indices.now in
    let i = c.loop-index.index-index in
    let n = get_or indices i 0 in
    let row = c.index-rows-index.result in
    let h : n < length rows = c.requires i 0 c.loop-index-test.true in
    let is : row_at (lists_of rows) n ≡ row.items = list_at rows n row h c.index-rows-index.is in
    let made : 0 < length row.items = omega (arith, none_empty row.len (sym c.if-is_empty.ensures), row.ok.0) in
    subst (All (IsMade (lists_of rows))) (sym (take_more indices i 0 c.loop-index-test.true))
    (All-push (IsMade (lists_of rows)) (take i indices) n c.loop-index.invariant (subst (λ xs. 0 < length xs) (sym is) made))

pub returns-clause-made : goal.returns-clause-made
returns-clause-made c = λ _.
    subst (All (IsMade (lists_of c.args.rows.now))) (take_all c.loop-index.index-index c.args.indices.now c.loop-index-test.false) c.loop-index.invariant
