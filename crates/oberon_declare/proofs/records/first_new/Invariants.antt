use Rattle.std.specs.Prelude.{◌≡◌, drop, map}
use Rattle.oberon_tree.specs.declared.leaf.NextIdentDef.{NextIdentDef}
use Rattle.oberon_tree.specs.Memory.{ident_defs_tree}
use Rattle.oberon_types.specs.Memory.{base_option, fields_list}
use Rattle.oberon_rules.specs.TypeRules.{first_new, is_taken, ident_defs}
use Rattle.oberon_declare.proofs.records.first_new.Given as goal

abbrev pub invariant-loop-next : goal.invariant-loop-next
invariant-loop-next l = first_new (is_taken l.owner.me.now l.owner.origin.now (base_option l.owner.base) (fields_list l.made.fields.items)) (ident_defs (ident_defs_tree l.names)) ≡ first_new (is_taken l.owner.me.now l.owner.origin.now (base_option l.owner.base) (fields_list l.made.fields.items)) (map (λ (n : NextIdentDef). n.ident) (drop l.next-index l.next-items))
