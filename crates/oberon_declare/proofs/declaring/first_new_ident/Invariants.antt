use Rattle.std.specs.Prelude.{◌≡◌, drop, map}
use Rattle.oberon_tree.specs.declared.leaf.NextIdent.{NextIdent}
use Rattle.oberon_tree.specs.Memory.{idents_tree}
use Rattle.oberon_rules.specs.Scopes.{is_declared}
use Rattle.oberon_rules.specs.Procedures.{first_new_ident, idents}
use Rattle.oberon_infer.specs.Memory.{plain_scopes}
use Rattle.oberon_declare.proofs.declaring.first_new_ident.Given as goal

abbrev pub invariant-loop-next : goal.invariant-loop-next
invariant-loop-next l = first_new_ident (is_declared (plain_scopes l.scopes)) (idents (idents_tree l.names)) ≡ first_new_ident (is_declared (plain_scopes l.scopes)) (map (λ (n : NextIdent). n.ident) (drop l.next-index l.next-items))
