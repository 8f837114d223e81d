-- Procedures (section 10): their headings, what they declare, and what is said of them. `me` is the stem of the module
-- whose text this is.
use Rattle.std.specs.Prelude.{ℕ, Bool, true, false, ◌&&◌, not, if◌then◌else◌, List, [], ◌∷◌, ◌++◌, map, is_some, Option, Some, None}
use Rattle.ob_text.specs.declared.code.Code.TheVariants as codes_of
use Rattle.ob_text.specs.declared.span.Span.{Span}
use Rattle.oberon_tree.specs.declared.leaf.Ident.{Ident}
use Rattle.oberon_tree.specs.declared.leaf.NextIdent.{NextIdent}
use Rattle.oberon_tree.specs.declared.module.OpenArray.{OpenArray}
use Rattle.oberon_tree.specs.declared.module.ResultType.{ResultType}
use Rattle.oberon_tree.specs.Trees.{IdentsTree, ConstantTree, LocalConstantTree, LocalConstantsTree, VariableTree, LocalVariableTree, LocalVariablesTree, FormalTypeTree, SectionTree, NextSectionTree, SectionsTree, FormalsTree, BodyTree, ReturnTree, ProcedureTree, ProcedureItemTree}
use Rattle.oberon_types.specs.Types.{TyTree, unknown_ty, array_ty, open_ty, record_ty, assignable, is_scalar, same_name}
use Rattle.oberon_types.specs.Entities.{ParamTree, SignatureTree}
use Rattle.oberon_types.specs.Sizes.{too_large}
use Rattle.oberon_rules.specs.Scopes.{Meaning, variable_meaning, procedure_meaning, Scopes, is_declared, Said, broken, row}
use Rattle.oberon_rules.specs.Names.{type_named, type_named_says, last_name}
use Rattle.oberon_rules.specs.Expressions.{ty_of, expr_is}
use Rattle.oberon_rules.specs.ExpressionRules.{value_says}
use Rattle.oberon_rules.specs.TypeRules.{limited}
use Rattle.oberon_rules.specs.Declarations.{is_exported, declare_new, new_says, constants_behind, constants_declared, variables_behind, variables_declared}
use Rattle.oberon_rules.specs.Statements.{statements_say}

-- ---- sections of parameters

-- A section in which some name is new gives its type to all its parameters. In one without a new name the type isn't
-- examined, and the parameters are of unknown type. Behind its section a parameter hides other names.

abbrev pub idents : IdentsTree → List Ident
idents l = l.first ∷ map (λ (n : NextIdent). n.ident) l.rest

abbrev pub first_new_ident : (List ℕ → Bool) → List Ident → Option Ident
first_new_ident taken [] = None
first_new_ident taken (x ∷ xs) = if taken x.name then first_new_ident taken xs else Some x

abbrev pub opened : List ℕ → List OpenArray → TyTree → TyTree
opened me [] t = t
opened me (o ∷ os) t = limited me (open_ty (opened me os t))

abbrev pub open_rows : List ℕ → List OpenArray → TyTree → Span → List Said → List Said
open_rows me [] t place rest = rest
open_rows me (o ∷ os) t place rest = open_rows me os t place (row (too_large me (open_ty (opened me os t))) place codes_of.TypeTooLarge rest)

abbrev opens_start : List OpenArray → Span → Span
opens_start [] place = place
opens_start (o ∷ os) place = o.word

abbrev pub formal_start : FormalTypeTree → Span
formal_start f = opens_start f.opens f.name.first.span

abbrev pub formal_is : List ℕ → Scopes → FormalTypeTree → TyTree
formal_is me s f = opened me f.opens (type_named s f.name)

abbrev pub formal_says : List ℕ → Scopes → FormalTypeTree → List Said → List Said
formal_says me s f rest = type_named_says s f.name (open_rows me f.opens (type_named s f.name) (formal_start f) rest)

-- a structured value parameter is read-only
abbrev pub is_structured : TyTree → Bool
is_structured (array_ty n t) = true
is_structured (open_ty t) = true
is_structured (record_ty r) = true
is_structured _ = false

abbrev pub by_var : SectionTree → Bool
by_var x = is_some x.by_var

abbrev pub parameter : Bool → TyTree → Meaning
parameter v t = variable_meaning t (record { read_only = not v && is_structured t; by_var = v })

abbrev pub idents_behind : Scopes → List Ident → Meaning → Scopes
idents_behind s [] m = s
idents_behind s (x ∷ xs) m = idents_behind (declare_new s x false m) xs m

abbrev pub idents_say : Scopes → List Ident → Meaning → List Said → List Said
idents_say s [] m rest = rest
idents_say s (x ∷ xs) m rest = new_says s x (idents_say (declare_new s x false m) xs m rest)

abbrev pub section_type : List ℕ → Scopes → SectionTree → Option Ident → TyTree
section_type me s x None = unknown_ty
section_type me s x (Some d) = formal_is me s x.of_type

abbrev pub section_type_says : List ℕ → Scopes → SectionTree → Option Ident → List Said → List Said
section_type_says me s x None rest = rest
section_type_says me s x (Some d) rest = formal_says me s x.of_type rest

abbrev pub section_is : List ℕ → Scopes → SectionTree → TyTree
section_is me s x = section_type me s x (first_new_ident (is_declared s) (idents x.names))

abbrev pub section_behind : List ℕ → Scopes → SectionTree → Scopes
section_behind me s x = idents_behind s (idents x.names) (parameter (by_var x) (section_is me s x))

abbrev pub section_says : List ℕ → Scopes → SectionTree → List Said → List Said
section_says me s x rest = section_type_says me s x (first_new_ident (is_declared s) (idents x.names)) (idents_say s (idents x.names) (parameter (by_var x) (section_is me s x)) rest)

abbrev pub section_params : List ℕ → Scopes → SectionTree → List ParamTree
section_params me s x = map (λ (n : Ident). record { by_var = by_var x; ty = section_is me s x }) (idents x.names)

abbrev pub sections_of : Option SectionsTree → List SectionTree
sections_of None = []
sections_of (Some x) = x.first ∷ map (λ (n : NextSectionTree). n.section) x.rest

abbrev pub sections_behind : List ℕ → Scopes → List SectionTree → Scopes
sections_behind me s [] = s
sections_behind me s (x ∷ xs) = sections_behind me (section_behind me s x) xs

abbrev pub sections_say : List ℕ → Scopes → List SectionTree → List Said → List Said
sections_say me s [] rest = rest
sections_say me s (x ∷ xs) rest = section_says me s x (sections_say me (section_behind me s x) xs rest)

abbrev pub sections_params : List ℕ → Scopes → List SectionTree → List ParamTree
sections_params me s [] = []
sections_params me s (x ∷ xs) = section_params me s x ++ sections_params me (section_behind me s x) xs

-- ---- headings

-- a result is scalar
abbrev pub is_no_result : TyTree → Bool
is_no_result unknown_ty = false
is_no_result t = not (is_scalar t)

abbrev pub result_is : Scopes → Option ResultType → Option TyTree
result_is s None = None
result_is s (Some r) = Some (if is_no_result (type_named s r.name) then unknown_ty else type_named s r.name)

abbrev pub result_says : Scopes → Option ResultType → List Said → List Said
result_says s None rest = rest
result_says s (Some r) rest = type_named_says s r.name (row (is_no_result (type_named s r.name)) (last_name r.name).span codes_of.BadResult rest)

abbrev pub head_behind : List ℕ → Scopes → Option FormalsTree → Scopes
head_behind me s None = s
head_behind me s (Some f) = sections_behind me s (sections_of f.sections)

abbrev pub signature_is : List ℕ → Scopes → Option FormalsTree → SignatureTree
signature_is me s None = record { params = []; result_type = None }
signature_is me s (Some f) = record { params = sections_params me s (sections_of f.sections); result_type = result_is (sections_behind me s (sections_of f.sections)) f.result_type }

abbrev pub head_says : List ℕ → Scopes → Option FormalsTree → List Said → List Said
head_says me s None rest = rest
head_says me s (Some f) rest = sections_say me s (sections_of f.sections) (result_says (sections_behind me s (sections_of f.sections)) f.result_type rest)

-- ---- locals: the rules of a module's declarations, where nothing is exported

abbrev pub local_constant : LocalConstantTree → ConstantTree
local_constant c = record { name = record { name = c.name; export = None }; equal = c.equal; value = c.value; semicolon = c.semicolon }

abbrev pub local_variable : LocalVariableTree → VariableTree
local_variable v = record { names = record { first = record { name = v.names.first; export = None }; rest = map (λ (n : NextIdent). record { comma = n.comma; ident = record { name = n.ident; export = None } }) v.names.rest }; colon = v.colon; of_type = v.of_type; semicolon = v.semicolon }

abbrev pub local_constants : Option LocalConstantsTree → List ConstantTree
local_constants None = []
local_constants (Some x) = map (λ (c : LocalConstantTree). local_constant c) x.items

abbrev pub local_variables : Option LocalVariablesTree → List VariableTree
local_variables None = []
local_variables (Some x) = map (λ (v : LocalVariableTree). local_variable v) x.items

-- ---- bodies and RETURN

abbrev pub body_says : List ℕ → Scopes → Option BodyTree → List Said → List Said
body_says me s None rest = rest
body_says me s (Some b) rest = statements_say me s b.statements rest

-- a function has a RETURN whose value is assignable to its result, and a proper procedure has none
abbrev pub return_says : List ℕ → Scopes → Option TyTree → Option ReturnTree → Ident → List Said → List Said
return_says me s None None end rest = rest
return_says me s (Some t) None end rest = broken end.span codes_of.BadReturn None ∷ rest
return_says me s None (Some r) end rest = value_says me s r.value (broken r.word codes_of.BadReturn None ∷ rest)
return_says me s (Some t) (Some r) end rest = value_says me s r.value (row (not (assignable (ty_of (expr_is me s r.value)) t)) r.word codes_of.BadReturn rest)

abbrev pub end_row : Ident → Ident → List Said → List Said
end_row name end rest = row (not (same_name name.name end.name)) end.span codes_of.EndName rest

-- ---- procedures

abbrev pub entered : Scopes → List ℕ → Scopes
entered s x = record { procedure = Some x; locals = Some []; globals = s.globals }

abbrev pub with_globals : Scopes → Scopes → Scopes
with_globals s g = record { procedure = s.procedure; locals = s.locals; globals = g.globals }

abbrev pub signature_of : List ℕ → Scopes → ProcedureTree → SignatureTree
signature_of me s p = signature_is me (entered s p.name.name.name) p.formals

-- the module's scope behind the heading, where the procedure is declared
abbrev pub procedure_behind : List ℕ → Scopes → ProcedureTree → Scopes
procedure_behind me s p = declare_new s p.name.name (is_exported p.name) (procedure_meaning (signature_of me s p))

-- inside of it: behind the heading, behind the constants, and behind the variables
abbrev pub inside : List ℕ → Scopes → ProcedureTree → Scopes
inside me s p = with_globals (head_behind me (entered s p.name.name.name) p.formals) (procedure_behind me s p)

abbrev pub inside_constants : List ℕ → Scopes → ProcedureTree → Scopes
inside_constants me s p = constants_behind me (inside me s p) (local_constants p.locals.constants)

abbrev pub inside_body : List ℕ → Scopes → ProcedureTree → Scopes
inside_body me s p = variables_behind me (inside_constants me s p) (local_variables p.locals.variables)

abbrev pub procedure_says : List ℕ → Scopes → ProcedureTree → List Said → List Said
procedure_says me s p rest =
    head_says me (entered s p.name.name.name) p.formals
    (new_says s p.name.name
    (constants_declared me (inside me s p) (local_constants p.locals.constants)
    (variables_declared me (inside_constants me s p) (local_variables p.locals.variables)
    (body_says me (inside_body me s p) p.body
    (return_says me (inside_body me s p) (signature_of me s p).result_type p.returns p.end_name
    (end_row p.name.name p.end_name rest))))))

abbrev pub procedures_behind : List ℕ → Scopes → List ProcedureItemTree → Scopes
procedures_behind me s [] = s
procedures_behind me s (x ∷ xs) = procedures_behind me (procedure_behind me s x.procedure) xs

abbrev pub procedures_say : List ℕ → Scopes → List ProcedureItemTree → List Said → List Said
procedures_say me s [] rest = rest
procedures_say me s (x ∷ xs) rest = procedure_says me s x.procedure (procedures_say me (procedure_behind me s x.procedure) xs rest)
