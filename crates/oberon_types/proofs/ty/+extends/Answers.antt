use Rattle.std.specs.Prelude.{◌||◌}
use Rattle.std.proofs.Common.{◌∙◌, ap, sym}
use Rattle.oberon_types.specs.Types.{extends, base_extends}
use Rattle.oberon_types.specs.Memory.{plain_record, base_option}
use Rattle.oberon_types.proofs.TypeMemory.{extends_out, extends_direct}
use Rattle.oberon_types.proofs.ty.+extends.Goals as goal

pub returns-then-same : goal.returns-then-same
returns-then-same t c = c.if-same.true ∙ ap (λ s. s || extends (plain_record c.deref.result.now) c.args.origin.now) (sym (sym c.same.ensures ∙ c.if-same.true)) ∙ extends_direct c.args.given.now c.in-Some.base c.deref.result.now c.args.origin.now c.in-Some.is c.deref.ensures

pub returns-else-same : goal.returns-else-same
returns-else-same t c = c.extends.ensures ∙ ap (λ r. extends (plain_record r) c.args.origin.now) (c.deref-else-same.ensures ∙ sym c.deref.ensures) ∙ ap (λ s. s || extends (plain_record c.deref.result.now) c.args.origin.now) (sym (sym c.same.ensures ∙ c.if-same.false)) ∙ extends_direct c.args.given.now c.in-Some.base c.deref.result.now c.args.origin.now c.in-Some.is c.deref.ensures

pub returns-in-None : goal.returns-in-None
returns-in-None t c = ap (λ b. base_extends (base_option b) c.args.origin.now) (sym c.in-None.is) ∙ extends_out c.args.given.now c.args.origin.now
