-- Parts of trees, with the offsets of their tokens in the text.
use Rattle.std.specs.Prelude.{ℕ, ◌+◌, List, length, Some, None, ℤ}
use Rattle.ob_text.specs.declared.span.Span.{Span}
use Rattle.oberon_tree.specs.declared.leaf.Ident.{Ident}
use Rattle.oberon_tree.specs.declared.leaf.IdentDef.{IdentDef}
use Rattle.oberon_tree.specs.declared.leaf.Qualident.{Qualident}
use Rattle.oberon_tree.specs.Trees.{ExprTree, expr_of, no_relation, SimpleTree, simple_of, no_addends, TermTree, term_of, no_multipliers, FactorTree, integer_factor, string_factor, designator_factor, designator_of, no_selectors}

abbrev pub at : ℕ → ℕ → Span
at a b = record { start = a; end = b }

-- a name that begins at the offset
abbrev pub ident : ℕ → List ℕ → Ident
ident a x = record { span = at a (a + length x); name = x }

abbrev pub own : Ident → IdentDef
own x = record { name = x; export = None }

-- with its export mark
abbrev pub shown : Ident → Span → IdentDef
shown x mark = record { name = x; export = Some mark }

abbrev pub named : Ident → Qualident
named x = record { first = x; member = None }

-- a factor alone, as a term, as a simple expression and as an expression
abbrev pub just : FactorTree → TermTree
just f = term_of f no_multipliers

abbrev pub plain : FactorTree → SimpleTree
plain f = simple_of None (just f) no_addends

abbrev pub alone : FactorTree → ExprTree
alone f = expr_of (plain f) no_relation

abbrev pub number : ℕ → ℕ → ℤ → FactorTree
number a b n = integer_factor (record { span = at a b; value = n })

abbrev pub string : ℕ → ℕ → List ℕ → FactorTree
string a b x = string_factor (record { span = at a b; value = x })

-- a name alone
abbrev pub name : ℕ → List ℕ → FactorTree
name a x = designator_factor (designator_of (ident a x) no_selectors)
