use Rattle.std.proofs.Common.{◌≡◌, ◌<◌, ◌+◌, ℕ, List, Bool, Vec, Global, All, length, ap, sym, subst, ◌∙◌, refl, arith}
use Rattle.std.proofs.lemmas.List.{map-set}
use Rattle.std.proofs.lemmas.List.Elements.{All-contains}
use Rattle.std.proofs.lemmas.Option.{slice_get_read}
use Rattle.target_graph.specs.Closures.{IsMade, IsOneLeft, IsJoined, lists, lists_of, row_at}
use Rattle.target_graph.specs.declared.target.Target.{Target}
use Rattle.target_graph.proofs.InMemory.{lists_size, list_at}
use Rattle.target_graph.proofs.Sweeps.{IsSwept, none_empty, all_empty, swept_none, swept_made, swept_left, swept_more, swept_deep, swept_whole}
use Rattle.target_graph.proofs.closures.sweep.Goals as goal
use Rattle.target_graph.proofs.closures.sweep.Goals.{then-is_empty+then-are_made+in_ok-rows, then-is_empty+else-are_made, else-is_empty}

pub loop-index-init : goal.loop-index-init
loop-index-init c = swept_none c.args.targets.now (lists c.args.rows.now) c.requires.rows

pub loop-index-preserved : goal.loop-index-preserved
loop-index-preserved c =
    let targets = c.args.targets.now in
    let rows = c.loop-index.rows in
    let at = c.loop-index.index in
    let old = lists c.args.rows.now in
    let s = c.loop-index.invariant in
    let h : at < length rows.items = omega (arith, c.loop-index-test.true, s.are_rows.size, lists_size rows.items) in
    let row = c.index.result.now in
    let is : row_at (lists rows) at ≡ row.items = list_at rows.items at row h c.index.ensures in
    elim c.if-is_empty.branch [
      | then-is_empty+then-are_made+in_ok-rows w ↦ (
          let target = w.index-targets-index.result in
          let there = slice_get_read targets (length targets) at target refl c.loop-index-test.true w.index-targets-index.is in
          let unmade : ¬ (IsMade (lists rows) at) = λ m. all_empty row.len (sym w.if-is_empty.ensures) (let k = subst (λ (xs : List Bool). 0 < length xs) is m in omega (arith, k, row.ok.0)) in
          let deps : w.as_slice-dependencies.result.now ≡ target.dependencies = w.as_slice-dependencies.ensures ∙ ap (λ (x : Target). x.dependencies) (sym w.index-targets-index.is) in
          let made : All (IsMade (lists rows)) target.dependencies =
          subst (All (IsMade (lists rows))) deps
          (subst (λ (xs : List (Vec Bool Global)). All (IsMade (lists_of xs)) w.as_slice-dependencies.result.now) w.as_slice.ensures.value (w.if-are_made.ensures.made refl)) in
          let new = w.in_ok-rows.field-0 in
          let j : IsJoined (lists rows) at target.dependencies new.items =
          subst (λ (ds : List ℕ). IsJoined (lists rows) at ds new.items) deps
          (subst (λ (xs : List (Vec Bool Global)). IsJoined (lists_of xs) at w.as_slice-dependencies.result.now new.items) w.as_slice-then-are_made.ensures.value w.in_ok-rows.ensures) in
          rw (w.rows-is, w.whole-is)
          (subst (λ (xs : List (List Bool)). IsSwept targets old xs (at + 1) c.loop-index.whole) (sym (map-set (λ (v : Vec Bool Global). v.items) rows.items at new))
          (swept_more targets old (lists rows) at c.loop-index.whole target new.items s c.loop-index-test.true there made unmade j)))
      | then-is_empty+else-are_made w ↦ (
          let target = w.index-targets-index.result in
          let there = slice_get_read targets (length targets) at target refl c.loop-index-test.true w.index-targets-index.is in
          let unmade : ¬ (IsMade (lists rows) at) = λ m. all_empty row.len (sym w.if-is_empty.ensures) (let k = subst (λ (xs : List Bool). 0 < length xs) is m in omega (arith, k, row.ok.0)) in
          let deps : w.as_slice-dependencies.result.now ≡ target.dependencies = w.as_slice-dependencies.ensures ∙ ap (λ (x : Target). x.dependencies) (sym w.index-targets-index.is) in
          let left = subst (IsOneLeft (lists rows)) deps
          (subst (λ (xs : List (Vec Bool Global)). IsOneLeft (lists_of xs) w.as_slice-dependencies.result.now) w.as_slice.ensures.value (w.if-are_made.ensures.left refl)) in
          let inside = subst (λ (x : Target). All (λ d. d < length targets) x.dependencies) (sym w.index-targets-index.is) (c.requires.closed at target c.loop-index-test.true) in
          rw (w.rows-is, w.whole-is)
          (swept_left targets old (lists rows) at left.from c.loop-index.whole s unmade (record { target = target; there = there; listed = left.listed })
          (All-contains (λ d. d < length targets) target.dependencies left.from inside left.listed) left.unmade))
      | else-is_empty w ↦ (
          let made : 0 < length row.items = omega (arith, none_empty row.len (sym w.if-is_empty.ensures), row.ok.0) in
          rw (w.rows-is, w.whole-is) (swept_made targets old (lists rows) at c.loop-index.whole s (subst (λ (xs : List Bool). 0 < length xs) (sym is) made)))
    ]

pub returns-clause-deep : goal.returns-clause-deep
returns-clause-deep c = swept_deep c.args.targets.now (lists c.args.rows.now) (lists c.loop-index.rows) c.loop-index.index c.loop-index.whole c.loop-index.invariant c.loop-index-test.false

pub returns-clause-whole : goal.returns-clause-whole
returns-clause-whole c =
    swept_whole c.args.targets.now (lists c.args.rows.now) (lists c.loop-index.rows) c.loop-index.index c.loop-index.whole c.loop-index.invariant
    (omega (arith, c.loop-index-test.false, c.loop-index.auto.index-end))
