use Rattle.std.proofs.Common.{◌-◌, ◌≤◌, ◌<◌, ℕ, List, length, ap, sym, ◌∙◌, arith}
use Rattle.std.proofs.lemmas.List.{at_drop_all}
use Rattle.oberon_infer.specs.declared.scope.Binding.{Binding}
use Rattle.oberon_infer.specs.Memory.{plain_bindings, plain_scope}
use Rattle.oberon_module.proofs.ExportLaws.{binding_step, too_large, weight_of_bindings}
use Rattle.oberon_module.proofs.exports.is_too_large.Goals as goal

pub loop-index-preserved : goal.loop-index-preserved
loop-index-preserved c =
    let within : c.loop-index.index < length c.bindings-bindings.result.now.entries = omega (arith, c.loop-index-test.true, c.len-index-end.ensures.len) in
    binding_step c.bindings-bindings.result.now.entries c.loop-index.index c.loop-index.left c.left_at-left.result within c.left_at-left.ensures ∙ c.loop-index.invariant

pub returns : goal.returns
returns c =
    let bound = c.bindings-bindings.result.now.entries in
    let past : length bound ≤ c.loop-index.index = omega (arith, c.loop-index-test.false, c.len-index-end.ensures.len) in
    too_large (plain_scope c.args.scope.now) bound c.loop-index.left (ap (λ m. plain_bindings m.entries) c.bindings-bindings.ensures)
    (sym (at_drop_all (λ (ys : List (List ℕ × Binding)). c.loop-index.left - weight_of_bindings (plain_bindings ys)) bound c.loop-index.index past) ∙ c.loop-index.invariant)
