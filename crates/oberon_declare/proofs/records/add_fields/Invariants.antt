use Rattle.std.specs.Prelude.{drop, map}
use Rattle.oberon_tree.specs.declared.leaf.NextIdentDef.{NextIdentDef}
use Rattle.oberon_types.specs.Memory.{plain_ty}
use Rattle.oberon_declare.specs.Records.{AddsFields}
use Rattle.oberon_declare.proofs.records.add_fields.Given as goal

abbrev pub invariant-loop-next : goal.invariant-loop-next
invariant-loop-next l = AddsFields l.owner l.initial.made l.made l.initial.said.items l.said.items (map (λ (n : NextIdentDef). n.ident) l.next-items) (map (λ (n : NextIdentDef). n.ident) (drop l.next-index l.next-items)) (plain_ty l.ty)
