use Rattle.std.proofs.Common.{ap, sym, ◌∙◌}
use Rattle.std.specs.Option.{option_map}
use Rattle.oberon_types.specs.Memory.{plain_entity}
use Rattle.oberon_rules.specs.Views.{put_entity}
use Rattle.oberon_module.specs.Sorted.{sorted_exports}
use Rattle.oberon_module.proofs.SortedLaws.{inserted}
use Rattle.oberon_module.proofs.exports.put.Goals as goal

pub returns-in_ok-old : goal.returns-in_ok-old
returns-in_ok-old c =
    let es = c.args.sorted.now.entries in
    ap sorted_exports c.in_ok-old.ensures.entries
    ∙ inserted es c.args.name c.in-Some.entity c.requires
    ∙ sym (ap (λ o. put_entity c.args.name.now (option_map plain_entity o) (sorted_exports es)) c.in-Some.is)
