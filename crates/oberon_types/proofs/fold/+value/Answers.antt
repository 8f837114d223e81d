use Rattle.std.specs.Prelude.{◌≡◌, Option, IfOk}
use Rattle.std.proofs.Common.{subst}
use Rattle.oberon_types.specs.declared.value.Value.{Value}
use Rattle.oberon_types.proofs.ConstantMemory.{call_has_value, call_has_none}
use Rattle.oberon_types.proofs.fold.+value.Goals as goal

pub value_of-returns-in-Call : goal.value_of-returns-in-Call
value_of-returns-in-Call t c =
    let P : Option Value → Type 0 = λ x. IfOk c.call_value.result (λ v. v ≡ x) in
    subst P (call_has_value c.args.e.now c.in-Call.function c.in-Call.parts c.as_slice-in-Call.result.now c.folding_function.result c.in-Call.is c.as_slice-in-Call.ensures.value c.folding_function.ensures) c.call_value.ensures

pub call_value-returns-in-len3-up : goal.call_value-returns-in-len3-up
call_value-returns-in-len3-up t c = call_has_none c.args.function c.args.parts.now c.in-len3-up.len_at_least
