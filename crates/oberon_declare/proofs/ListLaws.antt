-- Lists of names: a list none of whose names is new declares nothing, whatever it would declare.
use Rattle.std.specs.Prelude.{ℕ, ◌≡◌, Bool, true, false, List, [], ◌∷◌, map, Option, Some, None, if◌then◌else◌, refl}
use Rattle.std.proofs.Common.{ap}
use Rattle.ob_text.specs.declared.code.Code.TheVariants as codes_of
use Rattle.oberon_tree.specs.declared.leaf.Ident.{Ident}
use Rattle.oberon_tree.specs.declared.leaf.IdentDef.{IdentDef}
use Rattle.oberon_tree.specs.declared.leaf.NextIdent.{NextIdent}
use Rattle.oberon_tree.specs.declared.leaf.NextIdentDef.{NextIdentDef}
use Rattle.oberon_tree.specs.Trees.{VariableTree, LocalVariableTree}
use Rattle.oberon_types.specs.Types.{unknown_ty}
use Rattle.oberon_rules.specs.Scopes.{Meaning, unknown_meaning, Scopes, is_declared, declare, Said, broken, named_row}
use Rattle.oberon_rules.specs.TypeRules.{first_new, ident_defs}
use Rattle.oberon_rules.specs.Declarations.{is_exported, declare_new, new_says, own_variable, names_behind, names_say, list_behind, list_declared}
use Rattle.oberon_rules.specs.Procedures.{idents, first_new_ident, idents_behind, idents_say, local_variable}
use Rattle.oberon_declare.specs.Variables.{name_of_first, variables_type, variables_type_says}

abbrev step_behind : Bool → Scopes → IdentDef → Meaning → Scopes
step_behind b s d m = if b then s else declare s d.name.name (is_exported d) m

-- nothing is declared

by_taken : (s : Scopes) (d : IdentDef) (ds : List IdentDef) (m : Meaning) (b : Bool) → (if b then first_new (is_declared s) ds else Some d) ≡ None → (first_new (is_declared s) ds ≡ None → names_behind s ds m ≡ s) → names_behind (step_behind b s d m) ds m ≡ s
by_taken s d ds m true none rest = rest none
by_taken s d ds m false none rest = absurd cc

pub none_behind : (s : Scopes) (ds : List IdentDef) (m : Meaning) → first_new (is_declared s) ds ≡ None → names_behind s ds m ≡ s
none_behind s [] m none = refl
none_behind s (d ∷ ds) m none = by_taken s d ds m (is_declared s d.name.name) none (none_behind s ds m)

said_by : (s : Scopes) (d : IdentDef) (ds : List IdentDef) (m n : Meaning) (said : List Said) (b : Bool) → (if b then first_new (is_declared s) ds else Some d) ≡ None → (first_new (is_declared s) ds ≡ None → names_say s ds m said ≡ names_say s ds n said) → named_row b d.name codes_of.NameTwice (names_say (step_behind b s d m) ds m said) ≡ named_row b d.name codes_of.NameTwice (names_say (step_behind b s d n) ds n said)
said_by s d ds m n said true none rest = ap (λ said. broken d.name.span codes_of.NameTwice (Some d.name.name) ∷ said) (rest none)
said_by s d ds m n said false none rest = absurd cc

pub none_say : (s : Scopes) (ds : List IdentDef) (m n : Meaning) (said : List Said) → first_new (is_declared s) ds ≡ None → names_say s ds m said ≡ names_say s ds n said
none_say s [] m n said none = refl
none_say s (d ∷ ds) m n said none = said_by s d ds m n said (is_declared s d.name.name) none (none_say s ds m n said)

-- ---- a list of variables

pub list_behind_by : (me : List ℕ) (s : Scopes) (v : VariableTree) (o : Option IdentDef) → first_new (is_declared s) (ident_defs v.names) ≡ o → names_behind s (ident_defs v.names) (own_variable (variables_type me s (name_of_first o) v.of_type)) ≡ list_behind me s v o
list_behind_by me s v None first = none_behind s (ident_defs v.names) (own_variable unknown_ty) first
list_behind_by me s v (Some d) first = refl

pub list_says_by : (me : List ℕ) (s : Scopes) (v : VariableTree) (o : Option IdentDef) (said : List Said) → first_new (is_declared s) (ident_defs v.names) ≡ o → variables_type_says me s (name_of_first o) v.of_type (names_say s (ident_defs v.names) (own_variable (variables_type me s (name_of_first o) v.of_type)) said) ≡ list_declared me s v o said
list_says_by me s v None said first = none_say s (ident_defs v.names) (own_variable unknown_ty) unknown_meaning said first
list_says_by me s v (Some d) said first = refl

-- ---- names that can't be exported, as names that aren't

abbrev unexported : Ident → IdentDef
unexported x = record { name = x; export = None }

abbrev next_unexported : NextIdent → NextIdentDef
next_unexported n = record { comma = n.comma; ident = unexported n.ident }

abbrev plain_names : List NextIdent → List Ident
plain_names ns = map (λ (n : NextIdent). n.ident) ns

abbrev local_names : List NextIdent → List IdentDef
local_names ns = map (λ (n : NextIdentDef). n.ident) (map (λ (n : NextIdent). record { comma = n.comma; ident = record { name = n.ident; export = None } }) ns)

locals_behind : (s : Scopes) (ns : List NextIdent) (m : Meaning) → names_behind s (local_names ns) m ≡ idents_behind s (plain_names ns) m
locals_behind s [] m = refl
locals_behind s (n ∷ ns) m = locals_behind (declare_new s n.ident false m) ns m

locals_say : (s : Scopes) (ns : List NextIdent) (m : Meaning) (said : List Said) → names_say s (local_names ns) m said ≡ idents_say s (plain_names ns) m said
locals_say s [] m said = refl
locals_say s (n ∷ ns) m said = ap (new_says s n.ident) (locals_say (declare_new s n.ident false m) ns m said)

first_by : (taken : List ℕ → Bool) (x : Ident) (b : Bool) (f : Option IdentDef) (g : Option Ident) → name_of_first f ≡ g → name_of_first (if b then f else Some (unexported x)) ≡ (if b then g else Some x)
first_by taken x true f g e = e
first_by taken x false f g e = refl

locals_first : (taken : List ℕ → Bool) (ns : List NextIdent) → name_of_first (first_new taken (local_names ns)) ≡ first_new_ident taken (plain_names ns)
locals_first taken [] = refl
locals_first taken (n ∷ ns) = first_by taken n.ident (taken (n.ident).name) (first_new taken (local_names ns)) (first_new_ident taken (plain_names ns)) (locals_first taken ns)

pub local_first : (taken : List ℕ → Bool) (v : LocalVariableTree) → name_of_first (first_new taken (ident_defs (local_variable v).names)) ≡ first_new_ident taken (idents v.names)
local_first taken v = first_by taken v.names.first (taken (v.names.first).name) (first_new taken (local_names v.names.rest)) (first_new_ident taken (plain_names v.names.rest)) (locals_first taken v.names.rest)

pub local_behind : (s : Scopes) (v : LocalVariableTree) (m : Meaning) → names_behind s (ident_defs (local_variable v).names) m ≡ idents_behind s (idents v.names) m
local_behind s v m = locals_behind (declare_new s v.names.first false m) v.names.rest m

pub local_says : (s : Scopes) (v : LocalVariableTree) (m : Meaning) (said : List Said) → names_say s (ident_defs (local_variable v).names) m said ≡ idents_say s (idents v.names) m said
local_says s v m said = ap (new_says s v.names.first) (locals_say (declare_new s v.names.first false m) v.names.rest m said)
