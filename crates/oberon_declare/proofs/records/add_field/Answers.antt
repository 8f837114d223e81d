use Rattle.std.proofs.Common.{sym, ◌∙◌}
use Rattle.std.proofs.lemmas.Result.{on_ok_weaker}
use Rattle.oberon_types.specs.Memory.{plain_ty}
use Rattle.oberon_declare.proofs.RecordLaws.{left_false}
use Rattle.oberon_declare.proofs.RecordSteps.{taken_adds, fresh_adds, on_ok_both}
use Rattle.oberon_declare.proofs.records.add_field.Goals as goal

pub push_field-requires-clause-fresh : goal.push_field-requires-clause-fresh
push_field-requires-clause-fresh c = c.requires.found c.args.at.now.name.name ∙ left_false _ _ (sym c.is_taken.ensures ∙ c.if-is_taken.false)

pub returns-then-is_taken : goal.returns-then-is_taken
returns-then-is_taken c =
    on_ok_weaker c.add_named.result (λ a left. taken_adds c.args.owner.now c.args.made.now _ _ c.args.at.now left (plain_ty c.args.ty.now) c.requires (sym c.is_taken.ensures ∙ c.if-is_taken.true) a) c.add_named.ensures

pub returns-else-is_taken : goal.returns-else-is_taken
returns-else-is_taken c =
    on_ok_both c.push_field.result _ _ _ (λ fields indexed left. fresh_adds c.args.owner.now c.args.made.now c.push_field.new.made _ c.args.at.now left (plain_ty c.args.ty.now) (sym c.is_taken.ensures ∙ c.if-is_taken.false) fields indexed) c.push_field.ensures.fields c.push_field.ensures.indexed
