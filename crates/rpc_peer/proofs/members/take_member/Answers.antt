use Rattle.std.proofs.Common.{ap, ◌∙◌, option_map}
use Rattle.serde_json.specs.Find.{get_member}
use Rattle.serde_json.specs.View.{view, members_view}
use Rattle.serde_json.proofs.Views.{view-lookup}
use Rattle.rpc_peer.proofs.Taken.{others_stay}
use Rattle.rpc_peer.proofs.members.take_member.Goals as goal

pub returns-clause-found : goal.returns-clause-found
returns-clause-found c =
    ap (option_map view) c.remove.ensures.value ∙ view-lookup c.args.name.now c.args.members.now.entries

pub returns-clause-others : goal.returns-clause-others
returns-clause-others c other apart =
    ap (λ es. get_member other (members_view es)) c.remove.ensures.entries ∙ others_stay c.args.name.now other c.args.members.now.entries apart
