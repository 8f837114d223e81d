use Rattle.std.proofs.Common.{◌∙◌}
use Rattle.oberon_infer.proofs.ArgumentMemory.{params_are}
use Rattle.oberon_infer.proofs.argument.expectation.Goals as goal

pub returns-then-count-len : goal.returns-then-count-len
returns-then-count-len c = params_are c.args.x c.in-Procedure.signature c.args.count c.as_slice.result.now c.in-Procedure.is (c.if-count-len.true ∙ c.len.ensures ∙ c.in-Procedure.signature.now.params.ok.0) c.as_slice.ensures.value
