use Rattle.std.specs.Prelude.{◌≡◌, drop, map}
use Rattle.oberon_tree.specs.declared.leaf.NextIdentDef.{NextIdentDef}
use Rattle.oberon_tree.specs.Memory.{ident_defs_tree}
use Rattle.oberon_rules.specs.Scopes.{is_declared}
use Rattle.oberon_rules.specs.TypeRules.{first_new, ident_defs}
use Rattle.oberon_infer.specs.Memory.{plain_scopes}
use Rattle.oberon_declare.specs.Variables.{name_of_first}
use Rattle.oberon_declare.proofs.declaring.first_new.Given as goal

abbrev pub invariant-loop-next : goal.invariant-loop-next
invariant-loop-next l = name_of_first (first_new (is_declared (plain_scopes l.scopes)) (ident_defs (ident_defs_tree l.names))) ≡ name_of_first (first_new (is_declared (plain_scopes l.scopes)) (map (λ (n : NextIdentDef). n.ident) (drop l.next-index l.next-items)))
