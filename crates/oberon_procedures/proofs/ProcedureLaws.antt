-- What is declared inside of a procedure leaves the module's names as they are.
use Rattle.std.specs.Prelude.{ℕ, ◌≡◌, Bool, true, false, List, [], ◌∷◌, ◌++◌, Option, Some, None, if◌then◌else◌, refl}
use Rattle.std.proofs.Common.{ap, sym, ◌∙◌}
use Rattle.oberon_tree.specs.declared.leaf.Ident.{Ident}
use Rattle.oberon_tree.specs.declared.leaf.IdentDef.{IdentDef}
use Rattle.oberon_tree.specs.Trees.{ConstantTree, TypeDeclarationTree, DeclarationsTree, VariableTree, SectionTree, FormalsTree, ProcedureTree}
use Rattle.oberon_types.specs.Entities.{SignatureTree}
use Rattle.oberon_types.specs.Types.{TyTree}
use Rattle.oberon_rules.specs.Scopes.{Meaning, Entry, Scopes, Said, is_declared, declare, local_with, type_meaning, procedure_meaning}
use Rattle.oberon_rules.specs.TypeRules.{constant_is, first_new, ident_defs, type_is}
use Rattle.oberon_rules.specs.Declarations.{is_exported, declare_new, new_says, constants_declared, variables_declared, names_behind, own_variable, origin_at, constant_meant, constant_behind, list_behind, variable_behind, type_behind, constants_behind, types_behind, variables_behind, constant_items, type_items, variable_items, decls_behind}
use Rattle.oberon_rules.specs.Procedures.{idents, idents_behind, parameter, by_var, section_is, section_behind, sections_of, sections_behind, head_behind, entered, with_globals, signature_of, procedure_behind, inside, inside_constants, inside_body, local_constants, local_variables, head_says, body_says, return_says, procedure_says, end_row}
use Rattle.oberon_procedures.specs.Levels.{IsOutside, outside}

-- a place inside of a procedure, where the module has these names
pub record IsInside (s : Scopes) (gs : List Entry) : Type 0 where
  pub entries : List Entry
  pub locals : s.locals ≡ Some entries
  pub globals : s.globals ≡ gs

globals_by : (o : Option (List Entry)) (es : List Entry) (s : Scopes) (x : List ℕ) (e : Bool) (m : Meaning) → o ≡ Some es → s.locals ≡ o → (declare s x e m).globals ≡ s.globals
globals_by o es s x e m is at = rw (at, is) refl

declare_stays : (s : Scopes) (gs : List Entry) (x : List ℕ) (e : Bool) (m : Meaning) → IsInside s gs → IsInside (declare s x e m) gs
declare_stays s gs x e m i = record {
  entries = i.entries ++ record { name = x; exported = e; meaning = m } ∷ [];
  locals = ap (λ (o : Option (List Entry)). local_with o (record { name = x; exported = e; meaning = m })) i.locals;
  globals = globals_by s.locals i.entries s x e m i.locals refl ∙ i.globals;
}

stays_by : (b : Bool) (s t : Scopes) (gs : List Entry) → IsInside s gs → IsInside t gs → IsInside (if b then s else t) gs
stays_by true s t gs i j = i
stays_by false s t gs i j = j

new_stays : (s : Scopes) (gs : List Entry) (at : Ident) (e : Bool) (m : Meaning) → IsInside s gs → IsInside (declare_new s at e m) gs
new_stays s gs at e m i = stays_by (is_declared s at.name) s (declare s at.name e m) gs i (declare_stays s gs at.name e m i)

names_stay : (s : Scopes) (gs : List Entry) (ds : List IdentDef) (m : Meaning) → IsInside s gs → IsInside (names_behind s ds m) gs
names_stay s gs [] m i = i
names_stay s gs (d ∷ ds) m i = names_stay (declare_new s d.name (is_exported d) m) gs ds m (new_stays s gs d.name (is_exported d) m i)

idents_stay : (s : Scopes) (gs : List Entry) (xs : List Ident) (m : Meaning) → IsInside s gs → IsInside (idents_behind s xs m) gs
idents_stay s gs [] m i = i
idents_stay s gs (x ∷ xs) m i = idents_stay (declare_new s x false m) gs xs m (new_stays s gs x false m i)

sections_stay : (me : List ℕ) (s : Scopes) (gs : List Entry) (xs : List SectionTree) → IsInside s gs → IsInside (sections_behind me s xs) gs
sections_stay me s gs [] i = i
sections_stay me s gs (x ∷ xs) i = sections_stay me (section_behind me s x) gs xs (idents_stay s gs (idents x.names) (parameter (by_var x) (section_is me s x)) i)

pub head_stays : (me : List ℕ) (s : Scopes) (gs : List Entry) (f : Option FormalsTree) → IsInside s gs → IsInside (head_behind me s f) gs
head_stays me s gs None i = i
head_stays me s gs (Some f) i = sections_stay me s gs (sections_of f.sections) i

constants_stay : (me : List ℕ) (s : Scopes) (gs : List Entry) (cs : List ConstantTree) → IsInside s gs → IsInside (constants_behind me s cs) gs
constants_stay me s gs [] i = i
constants_stay me s gs (c ∷ cs) i = constants_stay me (constant_behind me s c) gs cs (new_stays s gs c.name.name (is_exported c.name) (constant_meant (constant_is me s c.value)) i)

list_stays : (me : List ℕ) (s : Scopes) (gs : List Entry) (v : VariableTree) (o : Option IdentDef) → IsInside s gs → IsInside (list_behind me s v o) gs
list_stays me s gs v None i = i
list_stays me s gs v (Some d) i = names_stay s gs (ident_defs v.names) (own_variable (type_is me s (origin_at me s d.name) v.of_type)) i

variables_stay : (me : List ℕ) (s : Scopes) (gs : List Entry) (vs : List VariableTree) → IsInside s gs → IsInside (variables_behind me s vs) gs
variables_stay me s gs [] i = i
variables_stay me s gs (v ∷ vs) i = variables_stay me (variable_behind me s v) gs vs (list_stays me s gs v (first_new (is_declared s) (ident_defs v.names)) i)

-- ---- outside of all procedures

declare_outside : (s : Scopes) (x : List ℕ) (e : Bool) (m : Meaning) → IsOutside s → IsOutside (declare s x e m)
declare_outside s x e m o = record {
  procedure = o.procedure;
  locals = ap (λ (l : Option (List Entry)). local_with l (record { name = x; exported = e; meaning = m })) o.locals;
}

outside_by : (b : Bool) (s t : Scopes) → IsOutside s → IsOutside t → IsOutside (if b then s else t)
outside_by true s t o p = o
outside_by false s t o p = p

pub new_outside : (s : Scopes) (at : Ident) (e : Bool) (m : Meaning) → IsOutside s → IsOutside (declare_new s at e m)
new_outside s at e m o = outside_by (is_declared s at.name) s (declare s at.name e m) o (declare_outside s at.name e m o)

names_outside : (s : Scopes) (ds : List IdentDef) (m : Meaning) → IsOutside s → IsOutside (names_behind s ds m)
names_outside s [] m o = o
names_outside s (d ∷ ds) m o = names_outside (declare_new s d.name (is_exported d) m) ds m (new_outside s d.name (is_exported d) m o)

constants_outside : (me : List ℕ) (s : Scopes) (cs : List ConstantTree) → IsOutside s → IsOutside (constants_behind me s cs)
constants_outside me s [] o = o
constants_outside me s (c ∷ cs) o = constants_outside me (constant_behind me s c) cs (new_outside s c.name.name (is_exported c.name) (constant_meant (constant_is me s c.value)) o)

type_outside : (me : List ℕ) (s : Scopes) (d : TypeDeclarationTree) → IsOutside s → IsOutside (type_behind me s d)
type_outside me s d o =
    let m = type_meaning (type_is me s (origin_at me s d.name.name) d.of_type) in
    outside_by (is_declared s d.name.name.name) s (declare s d.name.name.name (is_exported d.name) m) o (declare_outside s d.name.name.name (is_exported d.name) m o)

types_outside : (me : List ℕ) (s : Scopes) (ds : List TypeDeclarationTree) → IsOutside s → IsOutside (types_behind me s ds)
types_outside me s [] o = o
types_outside me s (d ∷ ds) o = types_outside me (type_behind me s d) ds (type_outside me s d o)

list_outside : (me : List ℕ) (s : Scopes) (v : VariableTree) (f : Option IdentDef) → IsOutside s → IsOutside (list_behind me s v f)
list_outside me s v None o = o
list_outside me s v (Some d) o = names_outside s (ident_defs v.names) (own_variable (type_is me s (origin_at me s d.name) v.of_type)) o

variables_outside : (me : List ℕ) (s : Scopes) (vs : List VariableTree) → IsOutside s → IsOutside (variables_behind me s vs)
variables_outside me s [] o = o
variables_outside me s (v ∷ vs) o = variables_outside me (variable_behind me s v) vs (list_outside me s v (first_new (is_declared s) (ident_defs v.names)) o)

pub decls_outside : (me : List ℕ) (s : Scopes) (d : DeclarationsTree) → IsOutside s → IsOutside (decls_behind me s d)
decls_outside me s d o =
    variables_outside me (types_behind me (constants_behind me s (constant_items d.constants)) (type_items d.types)) (variable_items d.variables)
    (types_outside me (constants_behind me s (constant_items d.constants)) (type_items d.types)
    (constants_outside me s (constant_items d.constants) o))

-- ---- a procedure in the module's scope

entered_inside : (s : Scopes) (x : List ℕ) → IsInside (entered s x) s.globals
entered_inside s x = record { entries = []; locals = refl; globals = refl }

-- the module's scope is the one that the heading began with
pub outside_again : (me : List ℕ) (s : Scopes) (p : ProcedureTree) → s.procedure ≡ None → s.locals ≡ None → outside (head_behind me (entered s p.name.name.name) p.formals) ≡ s
outside_again me s p procedure locals =
    let i = head_stays me (entered s p.name.name.name) s.globals p.formals (entered_inside s p.name.name.name) in
    ap (λ (gs : List Entry). record { procedure = None; locals = None; globals = gs }) i.globals
    ∙ ap (λ (o : Option (List ℕ)). record { procedure = o; locals = None; globals = s.globals }) (sym procedure)
    ∙ ap (λ (o : Option (List Entry)). record { procedure = s.procedure; locals = o; globals = s.globals }) (sym locals)

inside_stays : (me : List ℕ) (s : Scopes) (p : ProcedureTree) → IsInside (inside me s p) (procedure_behind me s p).globals
inside_stays me s p =
    let i = head_stays me (entered s p.name.name.name) s.globals p.formals (entered_inside s p.name.name.name) in
    record { entries = i.entries; locals = i.locals; globals = refl }

stays_out : (b : Bool) (s : Scopes) (x : List ℕ) (e : Bool) (m : Meaning) → s.procedure ≡ None → s.locals ≡ None → outside (if b then s else declare s x e m) ≡ (if b then s else declare s x e m)
stays_out true s x e m procedure locals = rw (procedure, locals) refl
stays_out false s x e m procedure locals = rw (procedure, locals) refl

-- behind the procedure the module has the names that it had behind the heading
pub left_behind : (me : List ℕ) (s : Scopes) (p : ProcedureTree) → s.procedure ≡ None → s.locals ≡ None → outside (inside_body me s p) ≡ procedure_behind me s p
left_behind me s p procedure locals =
    let gs = (procedure_behind me s p).globals in
    let i = inside_stays me s p in
    let j = constants_stay me (inside me s p) gs (local_constants p.locals.constants) i in
    let k = variables_stay me (inside_constants me s p) gs (local_variables p.locals.variables) j in
    ap (λ (gs : List Entry). record { procedure = None; locals = None; globals = gs }) k.globals
    ∙ stays_out (is_declared s p.name.name.name) s p.name.name.name (is_exported p.name) (procedure_meaning (signature_of me s p)) procedure locals

-- ---- the steps of a procedure

pub inside_is : (me : List ℕ) (s one two : Scopes) (p : ProcedureTree) (sig : SignatureTree) → s.procedure ≡ None → s.locals ≡ None → one ≡ head_behind me (entered s p.name.name.name) p.formals → sig ≡ signature_of me s p → two ≡ with_globals one (declare_new (outside one) p.name.name (is_exported p.name) (procedure_meaning sig)) → two ≡ inside me s p
inside_is me s one two p sig procedure locals head signature declared =
    let h = head_behind me (entered s p.name.name.name) p.formals in
    declared
    ∙ ap (λ (g : SignatureTree). with_globals one (declare_new (outside one) p.name.name (is_exported p.name) (procedure_meaning g))) signature
    ∙ ap (λ (t : Scopes). with_globals t (declare_new (outside t) p.name.name (is_exported p.name) (procedure_meaning (signature_of me s p)))) head
    ∙ ap (λ (t : Scopes). with_globals h (declare_new t p.name.name (is_exported p.name) (procedure_meaning (signature_of me s p)))) (outside_again me s p procedure locals)

-- what is said of it, step by step
pub procedure_speaks : (me : List ℕ) (s one two three four : Scopes) (result : Option TyTree) (p : ProcedureTree) (rest : List Said) → s.procedure ≡ None → s.locals ≡ None → one ≡ head_behind me (entered s p.name.name.name) p.formals → two ≡ inside me s p → three ≡ inside_constants me s p → four ≡ inside_body me s p → result ≡ (signature_of me s p).result_type → head_says me (entered s p.name.name.name) p.formals (new_says (outside one) p.name.name (constants_declared me two (local_constants p.locals.constants) (variables_declared me three (local_variables p.locals.variables) (body_says me four p.body (return_says me four result p.returns p.end_name (end_row p.name.name p.end_name rest)))))) ≡ procedure_says me s p rest
procedure_speaks me s one two three four result p rest procedure locals head e f g h =
    let said = λ (t u v w : Scopes) (r : Option TyTree). head_says me (entered s p.name.name.name) p.formals (new_says t p.name.name (constants_declared me u (local_constants p.locals.constants) (variables_declared me v (local_variables p.locals.variables) (body_says me w p.body (return_says me w r p.returns p.end_name (end_row p.name.name p.end_name rest)))))) in
    ap (λ (t : Scopes). said (outside t) two three four result) head
    ∙ ap (λ (t : Scopes). said t two three four result) (outside_again me s p procedure locals)
    ∙ ap (λ (u : Scopes). said s u three four result) e
    ∙ ap (λ (v : Scopes). said s (inside me s p) v four result) f
    ∙ ap (λ (w : Scopes). said s (inside me s p) (inside_constants me s p) w result) g
    ∙ ap (λ (r : Option TyTree). said s (inside me s p) (inside_constants me s p) (inside_body me s p) r) h
