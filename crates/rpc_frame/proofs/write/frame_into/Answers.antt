use Rattle.std.proofs.Common.{◌∙◌, ◌++◌, ap}
use Rattle.rpc_frame.specs.Frames.{field_name, line_ends}
use Rattle.rpc_frame.proofs.WriteLaws.{written_is_frame, written_begins, written_parts}
use Rattle.rpc_frame.proofs.write.frame_into.Goals as goal

pub returns-in_err-reserve-clause-frame : goal.returns-in_err-reserve-clause-frame
returns-in_err-reserve-clause-frame c = written_is_frame c.args.body.now c.requires

pub returns-clause-frame : goal.returns-clause-frame
returns-clause-frame c = written_is_frame c.args.body.now c.requires

pub returns-in_err-reserve-clause-again : goal.returns-in_err-reserve-clause-again
returns-in_err-reserve-clause-again c = λ after. written_begins c.args.body.now after c.requires

pub returns-clause-again : goal.returns-clause-again
returns-clause-again c = λ after. written_begins c.args.body.now after c.requires

pub returns-clause-ok : goal.returns-clause-ok
unfolding field_name line_ends
returns-clause-ok c =
    written_parts c.put.new.out.items c.put-2.new.out.items c.put-3.new.out.items c.put-4.new.out.items c.args.out.now.items c.as_bytes-digits.result.now c.args.body.now
    (c.put.ensures.items ∙ ap (λ t. t ++ field_name) c.reserve.ensures.items) c.put-2.ensures.items c.put-3.ensures.items c.put-4.ensures.items
    (c.as_bytes-digits.ensures.value ∙ c.format.ensures.text)
