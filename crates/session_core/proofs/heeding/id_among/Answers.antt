use Rattle.std.proofs.Common.{ap, sym, ◌∙◌}
use Rattle.std.specs.Prelude.{codes, option_map}
use Rattle.serde_json.proofs.Views.{view-lookup}
use Rattle.serde_json.specs.View.{members_view, view}
use Rattle.session_core.proofs.Notes.{names_id, names_none}
use Rattle.session_core.proofs.heeding.id_among.Goals as goal

pub returns : goal.returns
returns c =
    c.read_id.ensures.id
    ∙ sym (names_id (members_view c.args.members.entries) c.remove.result (ap (option_map view) c.remove.ensures.value ∙ view-lookup (codes "id") c.args.members.entries) c.in-Some.id c.in-Some.is)

pub returns-in_default : goal.returns-in_default
returns-in_default c =
    sym (names_none (members_view c.args.members.entries) c.remove.result (ap (option_map view) c.remove.ensures.value ∙ view-lookup (codes "id") c.args.members.entries) c.in_default.is)
