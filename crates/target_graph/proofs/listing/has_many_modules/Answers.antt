use Rattle.std.proofs.Common.{◌+◌, length, ap, arith}
use Rattle.std.proofs.lemmas.List.{take_all}
use Rattle.target_graph.specs.Faults.{modules_of}
use Rattle.target_graph.specs.declared.entry.Entry.{Entry}
use Rattle.target_graph.proofs.Counts.{flat_more, flat_part, passes, stays}
use Rattle.target_graph.proofs.listing.has_many_modules.Goals as goal

pub returns-then-more-count : goal.returns-then-more-count
returns-then-more-count c =
    let i = c.loop-entry.entry-index in
    let step = flat_more (λ (entry : Entry). entry.modules) c.args.entries.now i c.entry-item.result c.loop-entry-test.true c.entry-item.is in
    let part = flat_part (λ (entry : Entry). entry.modules) c.args.entries.now (i + 1) in
    let more = ap length c.as_slice-more.ensures in
    passes 1024 _ (omega (arith, c.loop-entry.invariant.0, c.loop-entry.invariant.1))

pub loop-entry-preserved : goal.loop-entry-preserved
loop-entry-preserved c =
    let i = c.loop-entry.entry-index in
    let step = flat_more (λ (entry : Entry). entry.modules) c.args.entries.now i c.entry-item.result c.loop-entry-test.true c.entry-item.is in
    let more = ap length c.as_slice-more.ensures in
    (omega (arith, c.loop-entry.invariant.0), omega (arith, c.loop-entry.invariant.1))

pub returns : goal.returns
returns c =
    let all = ap (λ entries. length (modules_of entries)) (take_all c.loop-entry.entry-index c.args.entries.now c.loop-entry-test.false) in
    stays 1024 _ (omega (arith, c.loop-entry.invariant.0, c.loop-entry.invariant.1))
