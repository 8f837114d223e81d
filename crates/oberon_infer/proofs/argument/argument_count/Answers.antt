use Rattle.std.proofs.Common.{◌∙◌}
use Rattle.oberon_tree.specs.declared.expression.Exprs.{out-Exprs}
use Rattle.oberon_infer.proofs.ArgumentMemory.{count_is}
use Rattle.oberon_infer.proofs.argument.argument_count.Goals as goal

pub returns-in-Some : goal.returns-in-Some
returns-in-Some c = count_is c.args.arguments.now c.in-Some.exprs c.deref.result.now c.len.result c.in-Some.is c.deref.ensures (c.len.ensures ∙ (out-Exprs c.deref.result.now).rest.ok.0)
