use Rattle.std.proofs.Common.{refl, ◌∙◌}
use Rattle.oberon_module.proofs.ShownRows.{row_at, span_of, shown_more}
use Rattle.oberon_module.proofs.listing.shown.Goals as goal

pub loop-row-preserved : goal.loop-row-preserved
loop-row-preserved c =
    let row = row_at c.args.rows.now c.loop-row.row-index in
    record {
      list = shown_more c.args.text.now c.loop-row.sweep.text.now c.args.rows.now c.loop-row.row-index c.loop-row.list.items c.push.new.self.items
          (record { span = span_of row; range = c.range_of.result; code = c.code_of.result; name = c.in_ok-name_of.field-0 })
          c.loop-row-test.true c.in_ok-push.ensures.items refl c.range_of.ensures.range c.loop-row.invariant.text c.code_of.ensures c.in_ok-name_of.ensures c.loop-row.invariant.list;
      sweep = c.range_of.ensures.sweep;
      text = c.range_of.ensures.text ∙ c.loop-row.invariant.text;
    }
