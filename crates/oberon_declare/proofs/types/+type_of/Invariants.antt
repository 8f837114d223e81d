use Rattle.std.specs.Prelude.{◌≡◌, drop}
use Rattle.oberon_tree.specs.Memory.{more_fields_list}
use Rattle.oberon_types.specs.Memory.{base_option, fields_list}
use Rattle.oberon_rules.specs.TypeRules.{more_fields_are, more_fields_say}
use Rattle.oberon_infer.specs.Adds.{Goes}
use Rattle.oberon_infer.specs.Memory.{plain_scopes}
use Rattle.oberon_declare.specs.Records.{IsIndexed}
use Rattle.oberon_declare.proofs.types.+type_of.Given as goal

abbrev pub invariant-of_some_lists-loop-next : goal.invariant-of_some_lists-loop-next
invariant-of_some_lists-loop-next l = record {
  fields : more_fields_are l.owner.me.now (plain_scopes l.scopes) l.owner.origin.now (base_option l.owner.base) (fields_list l.made.fields.items) (more_fields_list (drop l.next-index l.next-items)) ≡ more_fields_are l.owner.me.now (plain_scopes l.scopes) l.owner.origin.now (base_option l.owner.base) (fields_list l.initial.made.fields.items) (more_fields_list l.next-items);
  says : Goes l.initial.said.items l.said.items (more_fields_say l.owner.me.now (plain_scopes l.scopes) l.owner.origin.now (base_option l.owner.base) (fields_list l.initial.made.fields.items) (more_fields_list l.next-items)) (more_fields_say l.owner.me.now (plain_scopes l.scopes) l.owner.origin.now (base_option l.owner.base) (fields_list l.made.fields.items) (more_fields_list (drop l.next-index l.next-items)));
  indexed : IsIndexed l.owner l.made;
}
