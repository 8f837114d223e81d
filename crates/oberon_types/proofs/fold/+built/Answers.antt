use Rattle.oberon_types.proofs.ConstantMemory.{call_is_built}
use Rattle.oberon_types.proofs.fold.+built.Goals as goal
use Rattle.std.proofs.Common.{sym, ◌∙◌, ap}
use Rattle.std.specs.Option.{is_some}

pub is_built-returns-then-is_some : goal.is_built-returns-then-is_some
is_built-returns-then-is_some t c = call_is_built c.args.e.now c.in-Call.function c.in-Call.parts c.as_slice-then-is_some.result.now c.parts_built.result c.in-Call.is c.as_slice-then-is_some.ensures.value (sym (ap is_some c.folding_function.ensures) ∙ sym c.is_some.ensures ∙ c.if-is_some.true) c.parts_built.ensures
