use Rattle.std.proofs.Common.{◌≡◌, ◌<◌, ◌||◌, ℕ, List, length, get_or, take, ap, sym, subst, ◌∙◌}
use Rattle.std.proofs.lemmas.List.{take_more}
use Rattle.target_graph.specs.Closures.{IsJoined, lists_of, row_at}
use Rattle.target_graph.specs.Walk.{has_met}
use Rattle.target_graph.proofs.InMemory.{list_at}
use Rattle.target_graph.proofs.Sweeps.{joined_more}
use Rattle.target_graph.proofs.closures.joined.Goals as goal

pub loop-other-preserved : goal.loop-other-preserved
loop-other-preserved c =
    let rows = c.args.rows.now in let indices = c.args.indices.now in
    let i = c.loop-other.other-index in
    let n = get_or indices i 0 in
    let row = c.index-rows-other.result in
    let h : n < length rows = (c.requires.indices i 0 c.loop-other-test.true).0 in
    let is : row_at (lists_of rows) n ≡ c.as_slice.result.now =
    list_at rows n row h c.index-rows-other.is ∙ sym c.as_slice.ensures.value in
    subst (λ (xs : List ℕ). IsJoined (lists_of rows) c.args.index xs c.add_marks.new.row.items) (sym (take_more indices i 0 c.loop-other-test.true))
    (joined_more (lists_of rows) c.args.index (take i indices) n c.loop-other.row.items c.add_marks.new.row.items c.loop-other.invariant c.add_marks.ensures.size
    (λ b. c.add_marks.ensures.marks b ∙ ap (λ xs. has_met c.loop-other.row.items b || has_met xs b) (sym is)))
