use Rattle.std.proofs.Common.{Some, None, ap, sym, ◌∙◌}
use Rattle.std.specs.Option.{option_copied}
use Rattle.oberon_types.specs.declared.ty.RecordTy.{out-RecordTy}
use Rattle.oberon_types.specs.Names.{seen_in}
use Rattle.oberon_types.proofs.TypeMemory.{field_found}
use Rattle.oberon_types.proofs.field.+field.Goals as goal

pub field_of-returns-in-Some : goal.field_of-returns-in-Some
field_of-returns-in-Some t c =
    ap Some c.type_of.ensures.is ∙ field_found c.args.me.now c.args.name.now c.args.given.now (Some c.in-Some.field.now) (ap option_copied (sym c.in-Some.is) ∙ c.seen.ensures ∙ ap (seen_in c.args.me.now (out-RecordTy c.args.given.now).origin c.args.name.now) c.deref.ensures)

pub field_of-returns-in-None : goal.field_of-returns-in-None
field_of-returns-in-None t c =
    c.field_of_base.ensures ∙ field_found c.args.me.now c.args.name.now c.args.given.now None (ap option_copied (sym c.in-None.is) ∙ c.seen.ensures ∙ ap (seen_in c.args.me.now (out-RecordTy c.args.given.now).origin c.args.name.now) c.deref.ensures)
