use Rattle.std.proofs.Common.{◌≡◌, suc, ◌-◌, ◌<◌, length, arith}
use Rattle.oberon_module.specs.Sorted.{sorted_exports}
use Rattle.oberon_module.proofs.SortedLaws.{apart, new_next, put_next}
use Rattle.oberon_module.proofs.exports.sorted_exports.Goals as goal

pub show_at-requires : goal.show_at-requires
show_at-requires c =
    let bs = c.args.bindings.now.entries in
    let next : c.loop-index.index ≡ suc (c.loop-index.index - 1) = omega (arith, c.loop-index-test.true) in
    let within : c.loop-index.index - 1 < length bs = omega (arith, c.loop-index-test.true, c.loop-index.invariant.within) in
    new_next bs c.loop-index.index (c.loop-index.index - 1) (sorted_exports c.loop-index.sorted.entries) next within c.len-index.ensures.unique c.loop-index.invariant.sorted

pub loop-index-preserved : goal.loop-index-preserved
loop-index-preserved c =
    let bs = c.args.bindings.now.entries in
    let next : c.loop-index.index ≡ suc (c.loop-index.index - 1) = omega (arith, c.loop-index-test.true) in
    let within : c.loop-index.index - 1 < length bs = omega (arith, c.loop-index-test.true, c.loop-index.invariant.within) in
    record {
      within = omega (arith, within);
      sorted = put_next bs c.loop-index.index (c.loop-index.index - 1) (sorted_exports c.loop-index.sorted.entries) (sorted_exports c.show_at.new.sorted.entries) next within c.loop-index.invariant.sorted c.in_ok-show_at.ensures;
    }

pub returns-clause-apart : goal.returns-clause-apart
returns-clause-apart c = apart c.args.bindings.now.entries c.len-index.ensures.unique
