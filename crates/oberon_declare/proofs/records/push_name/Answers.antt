use Rattle.std.proofs.Common.{sym, ◌∙◌, ap}
use Rattle.std.specs.List.{list_any}
use Rattle.indexmap.specs.IndexSet.{contains, insert_key}
use Rattle.oberon_types.specs.Sizes.{sees}
use Rattle.oberon_types.specs.Types.{same_name}
use Rattle.oberon_declare.proofs.RecordLaws.{inserted_seen, unseen}
use Rattle.oberon_declare.proofs.records.push_name.Goals as goal

pub returns-in_ok-insert : goal.returns-in_ok-insert
returns-in_ok-insert c = λ x.
    let ks = c.args.names.now.keys in
    let name = c.args.name.now in
    ap (list_any (same_name x)) (c.in_ok-insert.ensures.keys ∙ ap (insert_key same_name ks) c.in_ok-copy.ensures)
    ∙ inserted_seen x ks name (sees c.args.owner.now.me.now c.args.owner.now.origin.now c.args.exported) (sym c.sees.ensures ∙ c.if-sees.true) c.requires

pub returns-else-sees : goal.returns-else-sees
returns-else-sees c = λ x. unseen (contains same_name c.args.names.now x) (same_name c.args.name.now x) (sees c.args.owner.now.me.now c.args.owner.now.origin.now c.args.exported) (sym c.sees.ensures ∙ c.if-sees.false)
