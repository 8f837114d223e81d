use Rattle.std.proofs.Common.{◌≡◌, ◌<◌, ◌≤◌, ℕ, List, [], Vec, Global, All, length, get_or, ap, sym, subst, ◌∙◌}
use Rattle.std.proofs.lemmas.List.{take_all, get_or-map, length-map}
use Rattle.std.proofs.lemmas.List.Elements.{All-more}
use Rattle.build_plan.specs.Lists.{lists_of}
use Rattle.plan_tests.proofs.rows.are_within.Goals as goal

size : (rows : List (Vec ℕ Global)) → length (lists_of rows) ≡ length rows
size rows = length-map rows (λ (row : Vec ℕ Global). row.items)

pub loop-row-preserved : goal.loop-row-preserved
loop-row-preserved c =
    let rows = c.args.rows.now in
    let i = c.loop-row.row-index in
    let row = c.row-item.result in
    let there : get_or (lists_of rows) i [] ≡ row.items =
    get_or-map (λ (row : Vec ℕ Global). row.items) rows i row [] c.loop-row-test.true ∙ ap (λ (row : Vec ℕ Global). row.items) (sym c.row-item.is) in
    All-more (λ row. All (λ place. place < length rows) row) (lists_of rows) i [] (subst (λ n. i < n) (sym (size rows)) c.loop-row-test.true) c.loop-row.invariant
    (subst (λ (xs : List ℕ). All (λ place. place < length rows) xs) (c.as_slice.ensures.value ∙ sym there) c.if-not-is_within.ensures)

pub returns : goal.returns
returns c =
    let rows = c.args.rows.now in
    subst (λ n. All (λ row. All (λ place. place < n) row) (lists_of rows)) (sym (size rows))
    (subst (λ (xs : List (List ℕ)). All (λ row. All (λ place. place < length rows) row) xs)
    (take_all c.loop-row.row-index (lists_of rows) (subst (λ n. n ≤ c.loop-row.row-index) (sym (size rows)) c.loop-row-test.false)) c.loop-row.invariant)
