use Rattle.std.proofs.Common.{◌+◌, ap, sym}
use Rattle.std.proofs.Common.{subst}
use Rattle.indexmap.specs.IndexMap.{get}
use Rattle.oberon_types.specs.Types.{same_name}
use Rattle.oberon_types.specs.Names.{StartsAt, or_end}
use Rattle.oberon_types.proofs.NameLaws.{noted_starts}
use Rattle.oberon_types.proofs.names.first_fields.Goals as goal

pub loop-field-preserved : goal.loop-field-preserved
loop-field-preserved c =
    let fields = c.args.fields.now in
    let at = c.loop-field.at in (
      ap (λ n. n + 1) c.loop-field.invariant.0,
      λ x. subst (λ n. StartsAt x fields (or_end n (at + 1))) (sym (c.in_ok-note.ensures x)) (noted_starts x fields c.field-item.result at c.loop-field.field-index (get same_name c.loop-field.first x) c.loop-field.invariant.0 c.loop-field-test.true c.field-item.is (c.loop-field.invariant.1 x)),
    )
