-- What declarations declare, and what is said of them (sections 4 to 7). Each construct has the scope behind it and what
-- is said of it; a list of declarations is a fold of each. `me` is the stem of the module whose text this is.
use Rattle.std.specs.Prelude.{ℕ, Bool, false, if◌then◌else◌, List, [], ◌∷◌, is_some, Option, Some, None}
use Rattle.ob_text.specs.declared.code.Code.TheVariants as codes_of
use Rattle.oberon_tree.specs.declared.leaf.Ident.{Ident}
use Rattle.oberon_tree.specs.declared.leaf.IdentDef.{IdentDef}
use Rattle.oberon_tree.specs.Trees.{ConstantTree, ConstantsTree, TypeDeclarationTree, TypesTree, VariableTree, VariablesTree, DeclarationsTree}
use Rattle.oberon_types.specs.declared.value.Value.{Value}
use Rattle.oberon_types.specs.declared.origin.Origin.{Origin}
use Rattle.oberon_types.specs.Types.{TyTree}
use Rattle.oberon_rules.specs.Scopes.{Meaning, unknown_meaning, constant_meaning, type_meaning, variable_meaning, Scopes, is_declared, declare, Said, named_row}
use Rattle.oberon_rules.specs.TypeRules.{constant_is, constant_says, ident_defs, first_new, type_is, type_says}

-- ---- names

abbrev pub is_exported : IdentDef → Bool
is_exported d = is_some d.export

-- a name that declares nothing where its scope has it
abbrev pub declare_new : Scopes → Ident → Bool → Meaning → Scopes
declare_new s at exported m = if is_declared s at.name then s else declare s at.name exported m

abbrev pub new_says : Scopes → Ident → List Said → List Said
new_says s at rest = named_row (is_declared s at.name) at codes_of.NameTwice rest

abbrev pub origin_at : List ℕ → Scopes → Ident → Origin
origin_at me s at = record { «module» = me; procedure = s.procedure; name = at.name; path = [] }

-- ---- constants: of one whose name is taken the expression is examined

abbrev pub constant_meant : Option Value → Meaning
constant_meant None = unknown_meaning
constant_meant (Some v) = constant_meaning v

abbrev pub constant_behind : List ℕ → Scopes → ConstantTree → Scopes
constant_behind me s c = declare_new s c.name.name (is_exported c.name) (constant_meant (constant_is me s c.value))

abbrev pub constant_declared : List ℕ → Scopes → ConstantTree → List Said → List Said
constant_declared me s c rest = constant_says me s c.value (new_says s c.name.name rest)

-- ---- types: one whose name is taken isn't examined

abbrev pub type_behind : List ℕ → Scopes → TypeDeclarationTree → Scopes
type_behind me s d = if is_declared s d.name.name.name then s else declare s d.name.name.name (is_exported d.name) (type_meaning (type_is me s (origin_at me s d.name.name) d.of_type))

abbrev pub type_declared : List ℕ → Scopes → TypeDeclarationTree → List Said → List Said
type_declared me s d rest = if is_declared s d.name.name.name then new_says s d.name.name rest else type_says me s (origin_at me s d.name.name) d.of_type rest

-- ---- variables: of a list none of whose names declares anything the type isn't examined

abbrev pub own_variable : TyTree → Meaning
own_variable t = variable_meaning t (record { read_only = false; by_var = false })

abbrev pub names_behind : Scopes → List IdentDef → Meaning → Scopes
names_behind s [] m = s
names_behind s (d ∷ ds) m = names_behind (declare_new s d.name (is_exported d) m) ds m

abbrev pub names_say : Scopes → List IdentDef → Meaning → List Said → List Said
names_say s [] m rest = rest
names_say s (d ∷ ds) m rest = new_says s d.name (names_say (declare_new s d.name (is_exported d) m) ds m rest)

abbrev pub list_behind : List ℕ → Scopes → VariableTree → Option IdentDef → Scopes
list_behind me s v None = s
list_behind me s v (Some d) = names_behind s (ident_defs v.names) (own_variable (type_is me s (origin_at me s d.name) v.of_type))

abbrev pub list_declared : List ℕ → Scopes → VariableTree → Option IdentDef → List Said → List Said
list_declared me s v None rest = names_say s (ident_defs v.names) unknown_meaning rest
list_declared me s v (Some d) rest = type_says me s (origin_at me s d.name) v.of_type (names_say s (ident_defs v.names) (own_variable (type_is me s (origin_at me s d.name) v.of_type)) rest)

abbrev pub variable_behind : List ℕ → Scopes → VariableTree → Scopes
variable_behind me s v = list_behind me s v (first_new (is_declared s) (ident_defs v.names))

abbrev pub variable_declared : List ℕ → Scopes → VariableTree → List Said → List Said
variable_declared me s v rest = list_declared me s v (first_new (is_declared s) (ident_defs v.names)) rest

-- ---- sections

abbrev pub constants_behind : List ℕ → Scopes → List ConstantTree → Scopes
constants_behind me s [] = s
constants_behind me s (c ∷ cs) = constants_behind me (constant_behind me s c) cs

abbrev pub constants_declared : List ℕ → Scopes → List ConstantTree → List Said → List Said
constants_declared me s [] rest = rest
constants_declared me s (c ∷ cs) rest = constant_declared me s c (constants_declared me (constant_behind me s c) cs rest)

abbrev pub types_behind : List ℕ → Scopes → List TypeDeclarationTree → Scopes
types_behind me s [] = s
types_behind me s (d ∷ ds) = types_behind me (type_behind me s d) ds

abbrev pub types_declared : List ℕ → Scopes → List TypeDeclarationTree → List Said → List Said
types_declared me s [] rest = rest
types_declared me s (d ∷ ds) rest = type_declared me s d (types_declared me (type_behind me s d) ds rest)

abbrev pub variables_behind : List ℕ → Scopes → List VariableTree → Scopes
variables_behind me s [] = s
variables_behind me s (v ∷ vs) = variables_behind me (variable_behind me s v) vs

abbrev pub variables_declared : List ℕ → Scopes → List VariableTree → List Said → List Said
variables_declared me s [] rest = rest
variables_declared me s (v ∷ vs) rest = variable_declared me s v (variables_declared me (variable_behind me s v) vs rest)

abbrev pub constant_items : Option ConstantsTree → List ConstantTree
constant_items None = []
constant_items (Some x) = x.items

abbrev pub type_items : Option TypesTree → List TypeDeclarationTree
type_items None = []
type_items (Some x) = x.items

abbrev pub variable_items : Option VariablesTree → List VariableTree
variable_items None = []
variable_items (Some x) = x.items

abbrev pub decls_behind : List ℕ → Scopes → DeclarationsTree → Scopes
decls_behind me s d = variables_behind me (types_behind me (constants_behind me s (constant_items d.constants)) (type_items d.types)) (variable_items d.variables)

abbrev pub decls_say : List ℕ → Scopes → DeclarationsTree → List Said → List Said
decls_say me s d rest =
    constants_declared me s (constant_items d.constants)
    (types_declared me (constants_behind me s (constant_items d.constants)) (type_items d.types)
    (variables_declared me (types_behind me (constants_behind me s (constant_items d.constants)) (type_items d.types)) (variable_items d.variables) rest))
