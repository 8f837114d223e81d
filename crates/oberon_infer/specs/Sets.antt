-- Sets: whether all ends of their elements are whole numbers, and what is said of them.
use Rattle.std.specs.Prelude.{ℕ, Bool, ◌&&◌, List}
use Rattle.oberon_tree.specs.Trees.{SetTree, set_of, ElementTree, element_of, no_upper, upper_of}
use Rattle.oberon_rules.specs.Scopes.{Scopes, Said}
use Rattle.oberon_rules.specs.Expressions.{expr_is, elements_are, all_whole, is_whole, ty_of}
use Rattle.oberon_rules.specs.ExpressionRules.{elements_say}

abbrev pub is_whole_set : List ℕ → Scopes → SetTree → Bool
is_whole_set me s (set_of a es b) = all_whole (elements_are me s es)

abbrev pub set_says : List ℕ → Scopes → SetTree → List Said → List Said
set_says me s (set_of a es b) rest = elements_say me s es rest

abbrev pub is_whole_element : List ℕ → Scopes → ElementTree → Bool
is_whole_element me s (element_of e no_upper) = is_whole (ty_of (expr_is me s e))
is_whole_element me s (element_of e (upper_of dots f)) = is_whole (ty_of (expr_is me s e)) && is_whole (ty_of (expr_is me s f))
