use Rattle.std.specs.Prelude.{◌≡◌, drop, map}
use Rattle.oberon_tree.specs.Memory.{procedure_item_tree}
use Rattle.oberon_rules.specs.Procedures.{procedures_behind, procedures_say}
use Rattle.oberon_infer.specs.Adds.{Goes}
use Rattle.oberon_infer.specs.Memory.{plain_scopes}
use Rattle.oberon_procedures.specs.Levels.{IsOutside}
use Rattle.oberon_procedures.proofs.procedure.procedures.Given as goal

abbrev pub invariant-loop-item : goal.invariant-loop-item
invariant-loop-item l = record {
  behind : procedures_behind l.me (plain_scopes l.scopes) (map procedure_item_tree (drop l.item-index l.items)) ≡ procedures_behind l.me (plain_scopes l.initial.scopes) (map procedure_item_tree l.items);
  says : Goes l.initial.said.items l.said.items (procedures_say l.me (plain_scopes l.initial.scopes) (map procedure_item_tree l.items)) (procedures_say l.me (plain_scopes l.scopes) (map procedure_item_tree (drop l.item-index l.items)));
  outside : IsOutside (plain_scopes l.scopes);
}
