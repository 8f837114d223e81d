use Rattle.std.proofs.Common.{drop, ap, sym, subst, ◌∙◌}
use Rattle.oberon_types.specs.Names.{seen_in, start_in, StartsAt}
use Rattle.oberon_types.proofs.NameLaws.{seen_from}
use Rattle.oberon_types.proofs.names.FieldNames.seen.Goals as goal

pub returns : goal.returns
returns c =
    let name = c.args.name.now in
    let fields = c.self.inside.fields.items in
    let start = c.start_of-start.ensures ∙ ap (start_in c.self.inside.first name) (c.len.ensures ∙ c.self.inside.fields.ok.0) in
    c.seen_among.ensures
    ∙ ap (seen_in c.args.me.now c.args.origin.now name) (c.split_at.ensures.back ∙ ap (drop c.start_of-start.result) c.as_slice.ensures.value)
    ∙ seen_from c.args.me.now name c.args.origin.now fields c.start_of-start.result (subst (StartsAt name fields) (sym start) (c.self.invariant.1 name))
    ∙ ap (seen_in c.args.me.now c.args.origin.now name) c.self.view_is
