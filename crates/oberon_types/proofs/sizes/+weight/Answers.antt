use Rattle.std.specs.Prelude.{◌≡◌, ◌-◌}
use Rattle.std.proofs.Common.{ap, sym, ◌∙◌, arith}
use Rattle.oberon_types.specs.declared.ty.RecordTy.{out-RecordTy}
use Rattle.oberon_types.specs.Types.{TyTree}
use Rattle.oberon_types.specs.Memory.{base_option, known_or_unknown, types_in}
use Rattle.oberon_types.specs.Sizes.{sees, weight, weight_of_base}
use Rattle.oberon_types.specs.Names.{known_of}
use Rattle.oberon_types.proofs.WeightLaws.{weight_out, fields_weigh, none_left, all_weighed}
use Rattle.oberon_types.proofs.sizes.+weight.Goals as goal

pub record_left-returns : goal.record_left-returns
record_left-returns t c =
    let under = c.base_left-behind.ensures ∙ ap (λ n. n - weight_of_base c.args.me.now (base_option (out-RecordTy c.args.given.now).base)) c.saturating_sub.ensures in
    weight_out c.args.me.now c.args.given.now c.args.left _ _ under c.fields_left.ensures

pub fields_left-returns-then-left-eq0 : goal.fields_left-returns-then-left-eq0
fields_left-returns-then-left-eq0 t c =
    none_left c.args.left c.loop-field.left _ _ c.if-left-eq0.true c.loop-field.invariant
    ∙ ap (λ n. c.args.left - n) (fields_weigh c.args.me.now c.args.given.now _ (c.known-field-items.ensures ∙ ap known_of c.deref.ensures))

pub fields_left-returns : goal.fields_left-returns
fields_left-returns t c =
    let ks = c.known-field-items.result.now in
    all_weighed (weight c.args.me.now) (sees c.args.me.now (out-RecordTy c.args.given.now).origin) (types_in c.args.given.now) ks c.loop-field.field-index c.args.left c.loop-field.left _ c.loop-field-test.false c.loop-field.invariant
    ∙ ap (λ n. c.args.left - n) (fields_weigh c.args.me.now c.args.given.now ks (c.known-field-items.ensures ∙ ap known_of c.deref.ensures))

pub known_left-returns-in-Some : goal.known_left-returns-in-Some
known_left-returns-in-Some t c =
    c.weight_left.ensures ∙ ap (λ (u : TyTree). c.args.left - weight c.args.me.now u) (ap known_or_unknown (sym c.in-Some.is) ∙ c.type_at.ensures.is)

pub known_left-returns-in-None : goal.known_left-returns-in-None
known_left-returns-in-None t c =
    let none : c.args.left ≡ c.args.left - 0 = omega arith in
    none ∙ ap (λ (u : TyTree). c.args.left - weight c.args.me.now u) (ap known_or_unknown (sym c.in-None.is) ∙ c.type_at.ensures.is)
