-- What a name means at a place, and what is said of it (sections 4 and 11).
use Rattle.std.specs.Prelude.{ℕ, Bool, true, false, if◌then◌else◌, List, [], ◌∷◌, Option, Some, None}
use Rattle.ob_text.specs.declared.code.Code.TheVariants as codes_of
use Rattle.oberon_tree.specs.declared.leaf.Ident.{Ident}
use Rattle.oberon_tree.specs.declared.leaf.Member.{Member}
use Rattle.oberon_tree.specs.declared.leaf.Qualident.{Qualident}
use Rattle.oberon_types.specs.Types.{TyTree, unknown_ty, same_name}
use Rattle.oberon_types.specs.Entities.{EntityTree, constant_entity, type_entity, variable_entity, procedure_entity, Export, missing_view, broken_view, cyclic_view, exports_view}
use Rattle.oberon_rules.specs.Scopes.{Meaning, unknown_meaning, constant_meaning, type_meaning, variable_meaning, procedure_meaning, import_meaning, Entry, Scopes, look_up, predeclared, Said, broken, resolved, named_row}

-- ---- names

-- the nearest declaration: the procedure's, then the module's, then the predeclared
abbrev pub nearest : Option Meaning → Option Meaning → Option Meaning
nearest None y = y
nearest (Some m) y = Some m

abbrev pub look_up_option : List ℕ → Option (List Entry) → Option Meaning
look_up_option x None = None
look_up_option x (Some es) = look_up x es

abbrev pub means : Scopes → List ℕ → Option Meaning
means s x = nearest (look_up_option x s.locals) (nearest (look_up x s.globals) (look_up x predeclared))

abbrev pub known : Option Meaning → Meaning
known None = unknown_meaning
known (Some m) = m

abbrev pub name_is : Scopes → List ℕ → Meaning
name_is s x = known (means s x)

abbrev pub name_says_of : Ident → Option Meaning → List Said → List Said
name_says_of at None rest = broken at.span codes_of.NoName (Some at.name) ∷ rest
name_says_of at (Some (import_meaning v)) rest = resolved at.name ∷ rest
name_says_of at (Some _) rest = rest

abbrev pub name_says : Scopes → Ident → List Said → List Said
name_says s at rest = name_says_of at (means s at.name) rest

-- ---- a member of a module, found in the view of the module and nowhere else

abbrev pub exported_as : List ℕ → List Export → Option EntityTree
exported_as x [] = None
exported_as x (e ∷ es) = if same_name e.name x then Some e.entity else exported_as x es

-- an imported variable is read-only
abbrev pub meaning_of : EntityTree → Meaning
meaning_of (constant_entity v) = constant_meaning v
meaning_of (type_entity t) = type_meaning t
meaning_of (variable_entity t) = variable_meaning t (record { read_only = true; by_var = false })
meaning_of (procedure_entity p) = procedure_meaning p

abbrev pub entity_is : Option EntityTree → Meaning
entity_is None = unknown_meaning
entity_is (Some e) = meaning_of e

abbrev pub entity_says : Ident → Option EntityTree → List Said → List Said
entity_says at None rest = broken at.span codes_of.NoName (Some at.name) ∷ rest
entity_says at (Some e) rest = rest

abbrev pub member_is : Meaning → Ident → Meaning
member_is (import_meaning (exports_view es)) at = entity_is (exported_as at.name es)
member_is _ at = unknown_meaning

-- outside of expressions a member of what is no import is no name
abbrev pub member_says : Meaning → Ident → List Said → List Said
member_says (import_meaning (exports_view es)) at rest = entity_says at (exported_as at.name es) rest
member_says (import_meaning missing_view) at rest = rest
member_says (import_meaning broken_view) at rest = rest
member_says (import_meaning cyclic_view) at rest = rest
member_says unknown_meaning at rest = rest
member_says _ at rest = broken at.span codes_of.NoName (Some at.name) ∷ rest

-- ---- qualidents

abbrev pub member_of : Meaning → Option Member → Meaning
member_of m None = m
member_of m (Some x) = member_is m x.name

abbrev pub member_of_says : Meaning → Option Member → List Said → List Said
member_of_says m None rest = rest
member_of_says m (Some x) rest = member_says m x.name rest

abbrev pub named : Scopes → Qualident → Meaning
named s q = member_of (name_is s q.first.name) q.member

abbrev pub named_says : Scopes → Qualident → List Said → List Said
named_says s q rest = name_says s q.first (member_of_says (name_is s q.first.name) q.member rest)

abbrev last_of : Ident → Option Member → Ident
last_of x None = x
last_of x (Some m) = m.name

abbrev pub last_name : Qualident → Ident
last_name q = last_of q.first q.member

-- ---- a qualident where a type is wanted

abbrev pub type_of_meaning : Meaning → TyTree
type_of_meaning (type_meaning t) = t
type_of_meaning _ = unknown_ty

abbrev pub is_no_type : Meaning → Bool
is_no_type (type_meaning t) = false
is_no_type unknown_meaning = false
is_no_type _ = true

abbrev pub type_named : Scopes → Qualident → TyTree
type_named s q = type_of_meaning (named s q)

abbrev pub type_named_says : Scopes → Qualident → List Said → List Said
type_named_says s q rest = named_says s q (named_row (is_no_type (named s q)) (last_name q) codes_of.NotType rest)
