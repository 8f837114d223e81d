-- Lists of variables: the type, by the first name that declares something, and then the names.
use Rattle.std.specs.Prelude.{ℕ, List, Option, Some, None}
use Rattle.oberon_tree.specs.declared.leaf.Ident.{Ident}
use Rattle.oberon_tree.specs.declared.leaf.IdentDef.{IdentDef}
use Rattle.oberon_tree.specs.Trees.{TypeTree}
use Rattle.oberon_types.specs.Types.{TyTree, unknown_ty}
use Rattle.oberon_rules.specs.Declarations.{origin_at}
use Rattle.oberon_rules.specs.Scopes.{Scopes, Said}
use Rattle.oberon_rules.specs.TypeRules.{type_is, type_says}

abbrev pub variables_type : List ℕ → Scopes → Option Ident → TypeTree → TyTree
variables_type me s None t = unknown_ty
variables_type me s (Some d) t = type_is me s (origin_at me s d) t

abbrev pub variables_type_says : List ℕ → Scopes → Option Ident → TypeTree → List Said → List Said
variables_type_says me s None t rest = rest
variables_type_says me s (Some d) t rest = type_says me s (origin_at me s d) t rest

abbrev pub name_of_first : Option IdentDef → Option Ident
name_of_first None = None
name_of_first (Some d) = Some d.name
