use Rattle.std.proofs.Common.{sym, subst}
use Rattle.std.proofs.lemmas.List.Elements.{All-get_or}
use Rattle.bsp_records.specs.Params.{IsTarget}
use Rattle.bsp_records.specs.declared.identifiers.BuildTargetIdentifier.{BuildTargetIdentifier}
use Rattle.session_verdicts.proofs.judging.find_targets.Goals as goal

pub target_named-requires : goal.target_named-requires
target_named-requires c =
    subst (λ (i : BuildTargetIdentifier). IsTarget i) (sym c.index-ids-index.is)
    (All-get_or IsTarget c.args.ids.now c.loop-index.index c.index-ids-index.result c.loop-index-test.true c.requires)
