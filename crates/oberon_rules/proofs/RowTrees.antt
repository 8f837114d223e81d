-- Short words for the trees of the rows.
use Rattle.std.specs.Prelude.{ℕ, ◌+◌, List, length, Some, None, ℤ}
use Rattle.ob_text.specs.declared.span.Span.{Span}
use Rattle.oberon_tree.specs.declared.leaf.Ident.{Ident}
use Rattle.oberon_tree.specs.declared.leaf.IdentDef.{IdentDef}
use Rattle.oberon_tree.specs.declared.leaf.IntegerLiteral.{IntegerLiteral}
use Rattle.oberon_tree.specs.Trees.{ExprTree, expr_of, no_relation, SimpleTree, simple_of, no_addends, TermTree, term_of, no_multipliers, FactorTree}

-- ---- trees

abbrev pub at : ℕ → ℕ → Span
at a b = record { start = a; end = b }

abbrev pub id : ℕ → List ℕ → Ident
id a x = record { span = at a (a + length x); name = x }

abbrev pub own : Ident → IdentDef
own x = record { name = x; export = None }

abbrev pub shown : Ident → Span → IdentDef
shown x mark = record { name = x; export = Some mark }

abbrev pub number : ℕ → ℕ → ℤ → IntegerLiteral
number a b n = record { span = at a b; value = n }

abbrev pub term : FactorTree → TermTree
term f = term_of f no_multipliers

abbrev pub simple : FactorTree → SimpleTree
simple f = simple_of None (term f) no_addends

abbrev pub expr : FactorTree → ExprTree
expr f = expr_of (simple f) no_relation
