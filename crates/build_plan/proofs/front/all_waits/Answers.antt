use Rattle.std.proofs.Common.{◌<◌, ℕ, List, length, All, sym, subst}
use Rattle.build_plan.proofs.InMemory.{inside_row}
use Rattle.build_plan.proofs.front.all_waits.Goals as goal

pub count_awaited-requires : goal.count_awaited-requires
count_awaited-requires c =
    let rows = c.args.rows.now in
    subst (λ n. All (λ place. place < n) c.as_slice.result.now) (sym c.requires.size)
    (subst (λ (xs : List ℕ). All (λ place. place < length rows) xs) (sym c.as_slice.ensures.value)
    (inside_row rows c.loop-row.row-index c.row-item.result c.loop-row-test.true c.row-item.is c.requires.within))
