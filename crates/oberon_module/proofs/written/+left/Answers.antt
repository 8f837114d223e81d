use Rattle.std.proofs.Common.{◌≡◌, ◌-◌, [], ap, sym, ◌∙◌, arith}
use Rattle.oberon_types.specs.Types.{TyTree}
use Rattle.oberon_types.specs.Memory.{base_option, known_or_unknown, types_in}
use Rattle.oberon_types.specs.Names.{known_of}
use Rattle.oberon_types.specs.Sizes.{weight_of_base}
use Rattle.oberon_types.specs.declared.ty.RecordTy.{out-RecordTy}
use Rattle.oberon_types.proofs.WeightLaws.{none_left, all_weighed}
use Rattle.oberon_module.specs.Written.{written_base}
use Rattle.oberon_module.proofs.WrittenLaws.{record_weighs, weight_written, known_weigh}
use Rattle.oberon_module.proofs.written.+left.Goals as goal

pub record_left-returns : goal.record_left-returns
record_left-returns t c =
    record_weighs c.args.given.now c.args.left c.base_left-behind.result c.fields_left.result
    (c.base_left-behind.ensures ∙ ap (λ n. n - weight_of_base [] (written_base (base_option (out-RecordTy c.args.given.now).base))) c.saturating_sub.ensures)
    c.fields_left.ensures

pub fields_left-returns-then-left-eq0 : goal.fields_left-returns-then-left-eq0
fields_left-returns-then-left-eq0 t c =
    none_left c.args.left c.loop-field.left _ _ c.if-left-eq0.true c.loop-field.invariant
    ∙ ap (λ n. c.args.left - n) (known_weigh c.args.given.now _ (c.known-field-items.ensures ∙ ap known_of c.deref.ensures))

pub fields_left-returns : goal.fields_left-returns
fields_left-returns t c =
    let ks = c.known-field-items.result.now in
    all_weighed weight_written (λ exported. exported) (types_in c.args.given.now) ks c.loop-field.field-index c.args.left c.loop-field.left _ c.loop-field-test.false c.loop-field.invariant
    ∙ ap (λ n. c.args.left - n) (known_weigh c.args.given.now ks (c.known-field-items.ensures ∙ ap known_of c.deref.ensures))

pub known_left-returns-in-Some : goal.known_left-returns-in-Some
known_left-returns-in-Some t c =
    c.weight_left.ensures ∙ ap (λ (u : TyTree). c.args.left - weight_written u) (ap known_or_unknown (sym c.in-Some.is) ∙ c.type_at.ensures.is)

pub known_left-returns-in-None : goal.known_left-returns-in-None
known_left-returns-in-None t c =
    let none : c.args.left ≡ c.args.left - 0 = omega arith in
    none ∙ ap (λ (u : TyTree). c.args.left - weight_written u) (ap known_or_unknown (sym c.in-None.is) ∙ c.type_at.ensures.is)
