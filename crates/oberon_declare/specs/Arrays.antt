-- Arrays of several lengths: first the lengths, in the order of the text, then the types, from the innermost out.
use Rattle.std.specs.Prelude.{ℕ, List, [], ◌∷◌, Option}
use Rattle.ob_text.specs.declared.span.Span.{Span}
use Rattle.oberon_tree.specs.Trees.{ExprsTree, exprs_of, MoreExprsTree, no_more_exprs, more_exprs}
use Rattle.oberon_types.specs.Types.{TyTree}
use Rattle.oberon_rules.specs.Scopes.{Scopes, Said}
use Rattle.oberon_rules.specs.TypeRules.{constant_is, length_meant, length_says, array_of, array_row}

abbrev pub more_lengths : List ℕ → Scopes → MoreExprsTree → List (Option ℕ)
more_lengths me s no_more_exprs = []
more_lengths me s (more_exprs comma e more) = length_meant (constant_is me s e) ∷ more_lengths me s more

abbrev pub lengths_of : List ℕ → Scopes → ExprsTree → List (Option ℕ)
lengths_of me s (exprs_of e more) = length_meant (constant_is me s e) ∷ more_lengths me s more

abbrev pub more_lengths_say : List ℕ → Scopes → MoreExprsTree → List Said → List Said
more_lengths_say me s no_more_exprs rest = rest
more_lengths_say me s (more_exprs comma e more) rest = length_says me s e (more_lengths_say me s more rest)

abbrev pub lengths_say : List ℕ → Scopes → ExprsTree → List Said → List Said
lengths_say me s (exprs_of e more) rest = length_says me s e (more_lengths_say me s more rest)

abbrev pub arrays_is : List ℕ → List (Option ℕ) → TyTree → TyTree
arrays_is me [] t = t
arrays_is me (n ∷ ns) t = array_of me n (arrays_is me ns t)

abbrev pub arrays_row : List ℕ → List (Option ℕ) → TyTree → Span → List Said → List Said
arrays_row me [] t word rest = rest
arrays_row me (n ∷ ns) t word rest = arrays_row me ns t word (array_row me n (arrays_is me ns t) word rest)
