-- What procedures declare with what is seen, and what is said of them, is what it is with all.
use Rattle.std.specs.Prelude.{ℕ, ◌≡◌, ◌++◌, Bool, true, not, if◌then◌else◌, List, [], ◌∷◌, map, Option, Some, None, refl}
use Rattle.std.proofs.Common.{ap, ◌∙◌}
use Rattle.std.specs.Option.{option_map}
use Rattle.ob_text.specs.declared.code.Code.TheVariants as codes_of
use Rattle.oberon_tree.specs.declared.leaf.Ident.{Ident}
use Rattle.oberon_tree.specs.declared.module.ResultType.{ResultType}
use Rattle.oberon_tree.specs.Trees.{SectionTree, FormalsTree, ProcedureTree, ProcedureItemTree, BodyTree, ReturnTree}
use Rattle.oberon_types.specs.Types.{TyTree, unknown_ty, integer_ty, byte_ty, char_ty, boolean_ty, set_ty, string_ty, array_ty, open_ty, record_ty, same_name, assignable}
use Rattle.oberon_types.specs.Entities.{ParamTree, SignatureTree}
use Rattle.oberon_rules.specs.Scopes.{procedure_meaning, Scopes, Said, broken, row}
use Rattle.oberon_rules.specs.Names.{type_named, type_named_says, last_name}
use Rattle.oberon_rules.specs.Expressions.{ty_of, expr_is}
use Rattle.oberon_rules.specs.ExpressionRules.{value_says}
use Rattle.oberon_rules.specs.Declarations.{is_exported, declare_new, new_says, constants_behind, constants_declared, variables_behind, variables_declared}
use Rattle.oberon_rules.specs.Procedures.{idents, by_var, section_is, section_behind, section_params, sections_of, sections_behind, sections_say, sections_params, is_no_result, result_is, result_says, head_behind, signature_is, head_says, local_constants, local_variables, entered, with_globals, body_says, return_says, end_row, signature_of, procedure_behind, inside, inside_constants, inside_body, procedure_says, procedures_behind, procedures_say}
use Rattle.oberon_rules.specs.Views.{map_param, map_signature}
use Rattle.oberon_rules.proofs.Seen.{seen, assignable_seen}
use Rattle.oberon_rules.proofs.AgreeNames.{choose, map_scopes, seen_scopes}
use Rattle.oberon_rules.proofs.AgreeExpressions.{ty_of_seen, expr_is_seen}
use Rattle.oberon_rules.proofs.AgreeTypes.{type_named_seen}
use Rattle.oberon_rules.proofs.AgreeExpressionRules.{value_says_seen}
use Rattle.oberon_rules.proofs.AgreeStatements.{statements_seen}
use Rattle.oberon_rules.proofs.AgreeDeclarations.{declare_new_seen}
use Rattle.oberon_rules.proofs.AgreeTypeRules.{type_named_says_seen, new_says_seen}
use Rattle.oberon_rules.proofs.AgreeSections.{section_is_seen, section_behind_seen, sections_behind_seen, sections_say_seen, constants_behind_seen, constants_declared_seen, variables_behind_seen, variables_declared_seen}

-- ---- signatures

map_append : {A B : Type 0} (f : A → B) (xs ys : List A) → map f xs ++ map f ys ≡ map f (xs ++ ys)
map_append f [] ys = refl
map_append f (x ∷ xs) ys = ap (λ t. f x ∷ t) (map_append f xs ys)

params_seen : (h : TyTree → TyTree) (v : Bool) (t : TyTree) (xs : List Ident) → map (λ (n : Ident). record { by_var = v; ty = h t }) xs ≡ map (map_param h) (map (λ (n : Ident). record { by_var = v; ty = t }) xs)
params_seen h v t [] = refl
params_seen h v t (x ∷ xs) = ap (λ y. record { by_var = v; ty = h t } ∷ y) (params_seen h v t xs)

section_params_seen : (me : List ℕ) (s : Scopes) (x : SectionTree) → section_params me (seen_scopes me s) x ≡ map (map_param (seen me)) (section_params me s x)
section_params_seen me s x = ap (λ (t : TyTree). map (λ (n : Ident). record { by_var = by_var x; ty = t }) (idents x.names)) (section_is_seen me s x) ∙ params_seen (seen me) (by_var x) (section_is me s x) (idents x.names)

sections_params_seen : (me : List ℕ) (s : Scopes) (xs : List SectionTree) → sections_params me (seen_scopes me s) xs ≡ map (map_param (seen me)) (sections_params me s xs)
sections_params_seen me s [] = refl
sections_params_seen me s (x ∷ xs) =
    ap (λ y. y ++ sections_params me (section_behind me (seen_scopes me s) x) xs) (section_params_seen me s x)
    ∙ ap (λ y. map (map_param (seen me)) (section_params me s x) ++ sections_params me y xs) (section_behind_seen me s x)
    ∙ ap (λ y. map (map_param (seen me)) (section_params me s x) ++ y) (sections_params_seen me (section_behind me s x) xs)
    ∙ map_append (map_param (seen me)) (section_params me s x) (sections_params me (section_behind me s x) xs)

no_result_seen : (me : List ℕ) (t : TyTree) → is_no_result (seen me t) ≡ is_no_result t
no_result_seen me unknown_ty = refl
no_result_seen me integer_ty = refl
no_result_seen me byte_ty = refl
no_result_seen me char_ty = refl
no_result_seen me boolean_ty = refl
no_result_seen me set_ty = refl
no_result_seen me (string_ty n) = refl
no_result_seen me (array_ty n u) = refl
no_result_seen me (open_ty u) = refl
no_result_seen me (record_ty r) = refl

result_seen : (me : List ℕ) (s : Scopes) (r : Option ResultType) → result_is (seen_scopes me s) r ≡ option_map (seen me) (result_is s r)
result_seen me s None = refl
result_seen me s (Some r) =
    ap (λ t. Some (if is_no_result t then unknown_ty else t)) (type_named_seen me s r.name)
    ∙ ap (λ b. Some (if b then unknown_ty else seen me (type_named s r.name))) (no_result_seen me (type_named s r.name))
    ∙ ap (λ t. Some t) (choose (seen me) (is_no_result (type_named s r.name)) unknown_ty (type_named s r.name))

result_says_seen : (me : List ℕ) (s : Scopes) (r : Option ResultType) (rest : List Said) → result_says (seen_scopes me s) r rest ≡ result_says s r rest
result_says_seen me s None rest = refl
result_says_seen me s (Some r) rest =
    ap (λ t. type_named_says (seen_scopes me s) r.name (row (is_no_result t) (last_name r.name).span codes_of.BadResult rest)) (type_named_seen me s r.name)
    ∙ ap (λ b. type_named_says (seen_scopes me s) r.name (row b (last_name r.name).span codes_of.BadResult rest)) (no_result_seen me (type_named s r.name))
    ∙ type_named_says_seen me s r.name (row (is_no_result (type_named s r.name)) (last_name r.name).span codes_of.BadResult rest)

signature_seen : (me : List ℕ) (s : Scopes) (f : Option FormalsTree) → signature_is me (seen_scopes me s) f ≡ map_signature (seen me) (signature_is me s f)
signature_seen me s None = refl
signature_seen me s (Some f) =
    ap (λ (ps : List ParamTree). record { params = ps; result_type = result_is (sections_behind me (seen_scopes me s) (sections_of f.sections)) f.result_type }) (sections_params_seen me s (sections_of f.sections))
    ∙ ap (λ (y : Scopes). record { params = map (map_param (seen me)) (sections_params me s (sections_of f.sections)); result_type = result_is y f.result_type }) (sections_behind_seen me s (sections_of f.sections))
    ∙ ap (λ (r : Option TyTree). record { params = map (map_param (seen me)) (sections_params me s (sections_of f.sections)); result_type = r }) (result_seen me (sections_behind me s (sections_of f.sections)) f.result_type)

head_behind_seen : (me : List ℕ) (s : Scopes) (f : Option FormalsTree) → head_behind me (seen_scopes me s) f ≡ map_scopes (seen me) (head_behind me s f)
head_behind_seen me s None = refl
head_behind_seen me s (Some f) = sections_behind_seen me s (sections_of f.sections)

head_says_seen : (me : List ℕ) (s : Scopes) (f : Option FormalsTree) (rest : List Said) → head_says me (seen_scopes me s) f rest ≡ head_says me s f rest
head_says_seen me s None rest = refl
head_says_seen me s (Some f) rest =
    ap (λ y. sections_say me (seen_scopes me s) (sections_of f.sections) (result_says y f.result_type rest)) (sections_behind_seen me s (sections_of f.sections))
    ∙ ap (λ y. sections_say me (seen_scopes me s) (sections_of f.sections) y) (result_says_seen me (sections_behind me s (sections_of f.sections)) f.result_type rest)
    ∙ sections_say_seen me s (sections_of f.sections) (result_says (sections_behind me s (sections_of f.sections)) f.result_type rest)

-- ---- procedures

signature_of_seen : (me : List ℕ) (s : Scopes) (p : ProcedureTree) → signature_of me (seen_scopes me s) p ≡ map_signature (seen me) (signature_of me s p)
signature_of_seen me s p = signature_seen me (entered s p.name.name.name) p.formals

procedure_behind_seen : (me : List ℕ) (s : Scopes) (p : ProcedureTree) → procedure_behind me (seen_scopes me s) p ≡ map_scopes (seen me) (procedure_behind me s p)
procedure_behind_seen me s p =
    ap (λ g. declare_new (seen_scopes me s) p.name.name (is_exported p.name) (procedure_meaning g)) (signature_of_seen me s p)
    ∙ declare_new_seen (seen me) s p.name.name (is_exported p.name) (procedure_meaning (signature_of me s p))

inside_seen : (me : List ℕ) (s : Scopes) (p : ProcedureTree) → inside me (seen_scopes me s) p ≡ map_scopes (seen me) (inside me s p)
inside_seen me s p =
    ap (λ y. with_globals y (procedure_behind me (seen_scopes me s) p)) (head_behind_seen me (entered s p.name.name.name) p.formals)
    ∙ ap (λ y. with_globals (map_scopes (seen me) (head_behind me (entered s p.name.name.name) p.formals)) y) (procedure_behind_seen me s p)

inside_constants_seen : (me : List ℕ) (s : Scopes) (p : ProcedureTree) → inside_constants me (seen_scopes me s) p ≡ map_scopes (seen me) (inside_constants me s p)
inside_constants_seen me s p = ap (λ y. constants_behind me y (local_constants p.locals.constants)) (inside_seen me s p) ∙ constants_behind_seen me (inside me s p) (local_constants p.locals.constants)

inside_body_seen : (me : List ℕ) (s : Scopes) → same_name me me ≡ true → (p : ProcedureTree) → inside_body me (seen_scopes me s) p ≡ map_scopes (seen me) (inside_body me s p)
inside_body_seen me s own p = ap (λ y. variables_behind me y (local_variables p.locals.variables)) (inside_constants_seen me s p) ∙ variables_behind_seen me (inside_constants me s p) own (local_variables p.locals.variables)

pub body_seen : (me : List ℕ) (s : Scopes) (b : Option BodyTree) (rest : List Said) → body_says me (seen_scopes me s) b rest ≡ body_says me s b rest
body_seen me s None rest = refl
body_seen me s (Some b) rest = statements_seen me s b.statements rest

return_seen : (me : List ℕ) (s : Scopes) (t : Option TyTree) (r : Option ReturnTree) (end : Ident) (rest : List Said) → return_says me (seen_scopes me s) (option_map (seen me) t) r end rest ≡ return_says me s t r end rest
return_seen me s None None end rest = refl
return_seen me s (Some t) None end rest = refl
return_seen me s None (Some r) end rest = value_says_seen me s r.value (broken r.word codes_of.BadReturn None ∷ rest)
return_seen me s (Some t) (Some r) end rest =
    ap (λ x. value_says me (seen_scopes me s) r.value (row (not (assignable (ty_of x) (seen me t))) r.word codes_of.BadReturn rest)) (expr_is_seen me s r.value)
    ∙ ap (λ x. value_says me (seen_scopes me s) r.value (row (not (assignable x (seen me t))) r.word codes_of.BadReturn rest)) (ty_of_seen me (expr_is me s r.value))
    ∙ ap (λ b. value_says me (seen_scopes me s) r.value (row (not b) r.word codes_of.BadReturn rest)) (assignable_seen me (ty_of (expr_is me s r.value)) t)
    ∙ value_says_seen me s r.value (row (not (assignable (ty_of (expr_is me s r.value)) t)) r.word codes_of.BadReturn rest)

behind_body_seen : (me : List ℕ) (s : Scopes) → same_name me me ≡ true → (p : ProcedureTree) (rest : List Said)
    → body_says me (inside_body me (seen_scopes me s) p) p.body (return_says me (inside_body me (seen_scopes me s) p) (signature_of me (seen_scopes me s) p).result_type p.returns p.end_name rest) ≡ body_says me (inside_body me s p) p.body (return_says me (inside_body me s p) (signature_of me s p).result_type p.returns p.end_name rest)
behind_body_seen me s own p rest =
    ap (λ y. body_says me y p.body (return_says me y (signature_of me (seen_scopes me s) p).result_type p.returns p.end_name rest)) (inside_body_seen me s own p)
    ∙ ap (λ (g : SignatureTree). body_says me (map_scopes (seen me) (inside_body me s p)) p.body (return_says me (map_scopes (seen me) (inside_body me s p)) g.result_type p.returns p.end_name rest)) (signature_of_seen me s p)
    ∙ ap (λ y. body_says me (map_scopes (seen me) (inside_body me s p)) p.body y) (return_seen me (inside_body me s p) (signature_of me s p).result_type p.returns p.end_name rest)
    ∙ body_seen me (inside_body me s p) p.body (return_says me (inside_body me s p) (signature_of me s p).result_type p.returns p.end_name rest)

procedure_says_seen : (me : List ℕ) (s : Scopes) → same_name me me ≡ true → (p : ProcedureTree) (rest : List Said) → procedure_says me (seen_scopes me s) p rest ≡ procedure_says me s p rest
procedure_says_seen me s own p rest =
    ap (λ y. head_says me (entered (seen_scopes me s) p.name.name.name) p.formals (new_says (seen_scopes me s) p.name.name (constants_declared me (inside me (seen_scopes me s) p) (local_constants p.locals.constants) (variables_declared me (inside_constants me (seen_scopes me s) p) (local_variables p.locals.variables) y)))) (behind_body_seen me s own p (end_row p.name.name p.end_name rest))
    ∙ ap (λ y. head_says me (entered (seen_scopes me s) p.name.name.name) p.formals (new_says (seen_scopes me s) p.name.name (constants_declared me (inside me (seen_scopes me s) p) (local_constants p.locals.constants) (variables_declared me y (local_variables p.locals.variables) (last me s p rest))))) (inside_constants_seen me s p)
    ∙ ap (λ y. head_says me (entered (seen_scopes me s) p.name.name.name) p.formals (new_says (seen_scopes me s) p.name.name (constants_declared me (inside me (seen_scopes me s) p) (local_constants p.locals.constants) y))) (variables_declared_seen me (inside_constants me s p) own (local_variables p.locals.variables) (last me s p rest))
    ∙ ap (λ y. head_says me (entered (seen_scopes me s) p.name.name.name) p.formals (new_says (seen_scopes me s) p.name.name (constants_declared me y (local_constants p.locals.constants) (variables_declared me (inside_constants me s p) (local_variables p.locals.variables) (last me s p rest))))) (inside_seen me s p)
    ∙ ap (λ y. head_says me (entered (seen_scopes me s) p.name.name.name) p.formals (new_says (seen_scopes me s) p.name.name y)) (constants_declared_seen me (inside me s p) (local_constants p.locals.constants) (variables_declared me (inside_constants me s p) (local_variables p.locals.variables) (last me s p rest)))
    ∙ ap (λ y. head_says me (entered (seen_scopes me s) p.name.name.name) p.formals y) (new_says_seen (seen me) s p.name.name (constants_declared me (inside me s p) (local_constants p.locals.constants) (variables_declared me (inside_constants me s p) (local_variables p.locals.variables) (last me s p rest))))
    ∙ head_says_seen me (entered s p.name.name.name) p.formals (new_says s p.name.name (constants_declared me (inside me s p) (local_constants p.locals.constants) (variables_declared me (inside_constants me s p) (local_variables p.locals.variables) (last me s p rest))))
  where
    last : List ℕ → Scopes → ProcedureTree → List Said → List Said
    last me s p rest = body_says me (inside_body me s p) p.body (return_says me (inside_body me s p) (signature_of me s p).result_type p.returns p.end_name (end_row p.name.name p.end_name rest))

pub procedures_behind_seen : (me : List ℕ) (s : Scopes) (xs : List ProcedureItemTree) → procedures_behind me (seen_scopes me s) xs ≡ map_scopes (seen me) (procedures_behind me s xs)
procedures_behind_seen me s [] = refl
procedures_behind_seen me s (x ∷ xs) = ap (λ y. procedures_behind me y xs) (procedure_behind_seen me s x.procedure) ∙ procedures_behind_seen me (procedure_behind me s x.procedure) xs

pub procedures_say_seen : (me : List ℕ) (s : Scopes) → same_name me me ≡ true → (xs : List ProcedureItemTree) (rest : List Said) → procedures_say me (seen_scopes me s) xs rest ≡ procedures_say me s xs rest
procedures_say_seen me s own [] rest = refl
procedures_say_seen me s own (x ∷ xs) rest =
    procedure_says_seen me s own x.procedure (procedures_say me (procedure_behind me (seen_scopes me s) x.procedure) xs rest)
    ∙ ap (λ y. procedure_says me s x.procedure (procedures_say me y xs rest)) (procedure_behind_seen me s x.procedure)
    ∙ ap (λ y. procedure_says me s x.procedure y) (procedures_say_seen me (procedure_behind me s x.procedure) own xs rest)
