use Rattle.std.proofs.Common.{ap, ◌∙◌}
use Rattle.rpc_peer.specs.OpenIds.{without_id}
use Rattle.rpc_peer.proofs.Closing.{removed_is_closed}
use Rattle.rpc_peer.proofs.open_ids.OpenIds.close.Goals as goal

pub returns-clause-others : goal.returns-clause-others
returns-clause-others c =
    c.shift_remove.ensures.keys ∙ (removed_is_closed c.args.id.now c.self.inside.ids.keys ∙ ap (without_id c.args.id.now) c.self.view_is)
