-- What sections of declarations and of parameters declare with what is seen, and what is said of them, is what it is
-- with all.
use Rattle.std.specs.Prelude.{ℕ, ◌≡◌, Bool, true, false, ◌&&◌, not, if◌then◌else◌, List, [], ◌∷◌, Option, Some, None, refl}
use Rattle.std.proofs.Common.{ap, ◌∙◌}
use Rattle.ob_text.specs.declared.code.Code.TheVariants as codes_of
use Rattle.ob_text.specs.declared.span.Span.{Span}
use Rattle.oberon_tree.specs.declared.leaf.Ident.{Ident}
use Rattle.oberon_tree.specs.declared.module.OpenArray.{OpenArray}
use Rattle.oberon_tree.specs.Trees.{ConstantTree, TypeDeclarationTree, VariableTree, DeclarationsTree, FormalTypeTree, SectionTree}
use Rattle.oberon_types.specs.Types.{TyTree, unknown_ty, integer_ty, byte_ty, char_ty, boolean_ty, set_ty, string_ty, array_ty, open_ty, record_ty, same_name}
use Rattle.oberon_types.specs.Sizes.{too_large}
use Rattle.oberon_rules.specs.Scopes.{Meaning, variable_meaning, Scopes, is_declared, Said, row}
use Rattle.oberon_rules.specs.Names.{type_named, type_named_says}
use Rattle.oberon_rules.specs.TypeRules.{limited}
use Rattle.oberon_rules.specs.Declarations.{declare_new, new_says, constant_behind, constant_declared, type_behind, type_declared, variable_behind, variable_declared, constants_behind, constants_declared, types_behind, types_declared, variables_behind, variables_declared, constant_items, type_items, variable_items, decls_behind, decls_say}
use Rattle.oberon_rules.specs.Procedures.{idents, first_new_ident, opened, open_rows, formal_start, formal_is, formal_says, is_structured, by_var, parameter, idents_behind, idents_say, section_type, section_type_says, section_is, section_behind, section_says, sections_behind, sections_say}
use Rattle.oberon_rules.proofs.Seen.{seen, large_seen}
use Rattle.oberon_rules.proofs.AgreeNames.{map_meaning, map_scopes, seen_scopes}
use Rattle.oberon_rules.proofs.AgreeTypes.{limited_seen, type_named_seen}
use Rattle.oberon_rules.proofs.AgreeDeclarations.{is_declared_seen, declare_new_seen, constant_behind_seen, type_behind_seen, variable_behind_seen}
use Rattle.oberon_rules.proofs.AgreeTypeRules.{type_named_says_seen, new_says_seen, constant_declared_seen, type_declared_seen, variable_declared_seen}

-- ---- declarations

pub constants_behind_seen : (me : List ℕ) (s : Scopes) (xs : List ConstantTree) → constants_behind me (seen_scopes me s) xs ≡ map_scopes (seen me) (constants_behind me s xs)
constants_behind_seen me s [] = refl
constants_behind_seen me s (x ∷ xs) = ap (λ y. constants_behind me y xs) (constant_behind_seen me s x) ∙ constants_behind_seen me (constant_behind me s x) xs

pub constants_declared_seen : (me : List ℕ) (s : Scopes) (xs : List ConstantTree) (rest : List Said) → constants_declared me (seen_scopes me s) xs rest ≡ constants_declared me s xs rest
constants_declared_seen me s [] rest = refl
constants_declared_seen me s (x ∷ xs) rest =
    constant_declared_seen me s x (constants_declared me (constant_behind me (seen_scopes me s) x) xs rest)
    ∙ ap (λ y. constant_declared me s x (constants_declared me y xs rest)) (constant_behind_seen me s x)
    ∙ ap (λ y. constant_declared me s x y) (constants_declared_seen me (constant_behind me s x) xs rest)

pub types_behind_seen : (me : List ℕ) (s : Scopes) → same_name me me ≡ true → (xs : List TypeDeclarationTree) → types_behind me (seen_scopes me s) xs ≡ map_scopes (seen me) (types_behind me s xs)
types_behind_seen me s own [] = refl
types_behind_seen me s own (x ∷ xs) = ap (λ y. types_behind me y xs) (type_behind_seen me s own x) ∙ types_behind_seen me (type_behind me s x) own xs

pub types_declared_seen : (me : List ℕ) (s : Scopes) → same_name me me ≡ true → (xs : List TypeDeclarationTree) (rest : List Said) → types_declared me (seen_scopes me s) xs rest ≡ types_declared me s xs rest
types_declared_seen me s own [] rest = refl
types_declared_seen me s own (x ∷ xs) rest =
    type_declared_seen me s own x (types_declared me (type_behind me (seen_scopes me s) x) xs rest)
    ∙ ap (λ y. type_declared me s x (types_declared me y xs rest)) (type_behind_seen me s own x)
    ∙ ap (λ y. type_declared me s x y) (types_declared_seen me (type_behind me s x) own xs rest)

pub variables_behind_seen : (me : List ℕ) (s : Scopes) → same_name me me ≡ true → (xs : List VariableTree) → variables_behind me (seen_scopes me s) xs ≡ map_scopes (seen me) (variables_behind me s xs)
variables_behind_seen me s own [] = refl
variables_behind_seen me s own (x ∷ xs) = ap (λ y. variables_behind me y xs) (variable_behind_seen me s own x) ∙ variables_behind_seen me (variable_behind me s x) own xs

pub variables_declared_seen : (me : List ℕ) (s : Scopes) → same_name me me ≡ true → (xs : List VariableTree) (rest : List Said) → variables_declared me (seen_scopes me s) xs rest ≡ variables_declared me s xs rest
variables_declared_seen me s own [] rest = refl
variables_declared_seen me s own (x ∷ xs) rest =
    variable_declared_seen me s own x (variables_declared me (variable_behind me (seen_scopes me s) x) xs rest)
    ∙ ap (λ y. variable_declared me s x (variables_declared me y xs rest)) (variable_behind_seen me s own x)
    ∙ ap (λ y. variable_declared me s x y) (variables_declared_seen me (variable_behind me s x) own xs rest)

pub decls_behind_seen : (me : List ℕ) (s : Scopes) → same_name me me ≡ true → (d : DeclarationsTree) → decls_behind me (seen_scopes me s) d ≡ map_scopes (seen me) (decls_behind me s d)
decls_behind_seen me s own d =
    ap (λ y. variables_behind me (types_behind me y (type_items d.types)) (variable_items d.variables)) (constants_behind_seen me s (constant_items d.constants))
    ∙ ap (λ y. variables_behind me y (variable_items d.variables)) (types_behind_seen me (constants_behind me s (constant_items d.constants)) own (type_items d.types))
    ∙ variables_behind_seen me (types_behind me (constants_behind me s (constant_items d.constants)) (type_items d.types)) own (variable_items d.variables)

pub decls_say_seen : (me : List ℕ) (s : Scopes) → same_name me me ≡ true → (d : DeclarationsTree) (rest : List Said) → decls_say me (seen_scopes me s) d rest ≡ decls_say me s d rest
decls_say_seen me s own d rest =
    ap (λ y. constants_declared me (seen_scopes me s) (constant_items d.constants) (types_declared me y (type_items d.types) (variables_declared me (types_behind me y (type_items d.types)) (variable_items d.variables) rest))) (constants_behind_seen me s (constant_items d.constants))
    ∙ ap (λ y. constants_declared me (seen_scopes me s) (constant_items d.constants) (types_declared me (map_scopes (seen me) (constants_behind me s (constant_items d.constants))) (type_items d.types) (variables_declared me y (variable_items d.variables) rest))) (types_behind_seen me (constants_behind me s (constant_items d.constants)) own (type_items d.types))
    ∙ ap (λ y. constants_declared me (seen_scopes me s) (constant_items d.constants) (types_declared me (map_scopes (seen me) (constants_behind me s (constant_items d.constants))) (type_items d.types) y)) (variables_declared_seen me (types_behind me (constants_behind me s (constant_items d.constants)) (type_items d.types)) own (variable_items d.variables) rest)
    ∙ ap (λ y. constants_declared me (seen_scopes me s) (constant_items d.constants) y) (types_declared_seen me (constants_behind me s (constant_items d.constants)) own (type_items d.types) (variables_declared me (types_behind me (constants_behind me s (constant_items d.constants)) (type_items d.types)) (variable_items d.variables) rest))
    ∙ constants_declared_seen me s (constant_items d.constants) (types_declared me (constants_behind me s (constant_items d.constants)) (type_items d.types) (variables_declared me (types_behind me (constants_behind me s (constant_items d.constants)) (type_items d.types)) (variable_items d.variables) rest))

-- ---- sections of parameters

opened_seen : (me : List ℕ) (os : List OpenArray) (t : TyTree) → opened me os (seen me t) ≡ seen me (opened me os t)
opened_seen me [] t = refl
opened_seen me (o ∷ os) t = ap (λ y. limited me (open_ty y)) (opened_seen me os t) ∙ limited_seen me (open_ty (opened me os t))

open_rows_seen : (me : List ℕ) (os : List OpenArray) (t : TyTree) (place : Span) (rest : List Said) → open_rows me os (seen me t) place rest ≡ open_rows me os t place rest
open_rows_seen me [] t place rest = refl
open_rows_seen me (o ∷ os) t place rest =
    ap (λ y. open_rows me os (seen me t) place (row (too_large me (open_ty y)) place codes_of.TypeTooLarge rest)) (opened_seen me os t)
    ∙ ap (λ b. open_rows me os (seen me t) place (row b place codes_of.TypeTooLarge rest)) (large_seen me (open_ty (opened me os t)))
    ∙ open_rows_seen me os t place (row (too_large me (open_ty (opened me os t))) place codes_of.TypeTooLarge rest)

formal_is_seen : (me : List ℕ) (s : Scopes) (f : FormalTypeTree) → formal_is me (seen_scopes me s) f ≡ seen me (formal_is me s f)
formal_is_seen me s f = ap (λ y. opened me f.opens y) (type_named_seen me s f.name) ∙ opened_seen me f.opens (type_named s f.name)

formal_says_seen : (me : List ℕ) (s : Scopes) (f : FormalTypeTree) (rest : List Said) → formal_says me (seen_scopes me s) f rest ≡ formal_says me s f rest
formal_says_seen me s f rest =
    ap (λ t. type_named_says (seen_scopes me s) f.name (open_rows me f.opens t (formal_start f) rest)) (type_named_seen me s f.name)
    ∙ ap (λ y. type_named_says (seen_scopes me s) f.name y) (open_rows_seen me f.opens (type_named s f.name) (formal_start f) rest)
    ∙ type_named_says_seen me s f.name (open_rows me f.opens (type_named s f.name) (formal_start f) rest)

structured_seen : (me : List ℕ) (t : TyTree) → is_structured (seen me t) ≡ is_structured t
structured_seen me unknown_ty = refl
structured_seen me integer_ty = refl
structured_seen me byte_ty = refl
structured_seen me char_ty = refl
structured_seen me boolean_ty = refl
structured_seen me set_ty = refl
structured_seen me (string_ty n) = refl
structured_seen me (array_ty n u) = refl
structured_seen me (open_ty u) = refl
structured_seen me (record_ty r) = refl

parameter_seen : (me : List ℕ) (v : Bool) (t : TyTree) → parameter v (seen me t) ≡ map_meaning (seen me) (parameter v t)
parameter_seen me v t = ap (λ b. variable_meaning (seen me t) (record { read_only = not v && b; by_var = v })) (structured_seen me t)

first_ident_seen : (h : TyTree → TyTree) (s : Scopes) (xs : List Ident) → first_new_ident (is_declared (map_scopes h s)) xs ≡ first_new_ident (is_declared s) xs
first_ident_seen h s [] = refl
first_ident_seen h s (x ∷ xs) =
    ap (λ c. if c then first_new_ident (is_declared (map_scopes h s)) xs else Some x) (is_declared_seen h s x.name)
    ∙ ap (λ y. if is_declared s x.name then y else Some x) (first_ident_seen h s xs)

idents_behind_seen : (h : TyTree → TyTree) (s : Scopes) (xs : List Ident) (m : Meaning) → idents_behind (map_scopes h s) xs (map_meaning h m) ≡ map_scopes h (idents_behind s xs m)
idents_behind_seen h s [] m = refl
idents_behind_seen h s (x ∷ xs) m = ap (λ y. idents_behind y xs (map_meaning h m)) (declare_new_seen h s x false m) ∙ idents_behind_seen h (declare_new s x false m) xs m

idents_say_seen : (h : TyTree → TyTree) (s : Scopes) (xs : List Ident) (m : Meaning) (rest : List Said) → idents_say (map_scopes h s) xs (map_meaning h m) rest ≡ idents_say s xs m rest
idents_say_seen h s [] m rest = refl
idents_say_seen h s (x ∷ xs) m rest =
    new_says_seen h s x (idents_say (declare_new (map_scopes h s) x false (map_meaning h m)) xs (map_meaning h m) rest)
    ∙ ap (λ y. new_says s x (idents_say y xs (map_meaning h m) rest)) (declare_new_seen h s x false m)
    ∙ ap (λ y. new_says s x y) (idents_say_seen h (declare_new s x false m) xs m rest)

section_type_seen : (me : List ℕ) (s : Scopes) (x : SectionTree) (d : Option Ident) → section_type me (seen_scopes me s) x d ≡ seen me (section_type me s x d)
section_type_seen me s x None = refl
section_type_seen me s x (Some d) = formal_is_seen me s x.of_type

pub section_is_seen : (me : List ℕ) (s : Scopes) (x : SectionTree) → section_is me (seen_scopes me s) x ≡ seen me (section_is me s x)
section_is_seen me s x = ap (λ d. section_type me (seen_scopes me s) x d) (first_ident_seen (seen me) s (idents x.names)) ∙ section_type_seen me s x (first_new_ident (is_declared s) (idents x.names))

section_type_says_seen : (me : List ℕ) (s : Scopes) (x : SectionTree) (d : Option Ident) (rest : List Said) → section_type_says me (seen_scopes me s) x d rest ≡ section_type_says me s x d rest
section_type_says_seen me s x None rest = refl
section_type_says_seen me s x (Some d) rest = formal_says_seen me s x.of_type rest

pub section_behind_seen : (me : List ℕ) (s : Scopes) (x : SectionTree) → section_behind me (seen_scopes me s) x ≡ map_scopes (seen me) (section_behind me s x)
section_behind_seen me s x =
    ap (λ t. idents_behind (seen_scopes me s) (idents x.names) (parameter (by_var x) t)) (section_is_seen me s x)
    ∙ ap (λ m. idents_behind (seen_scopes me s) (idents x.names) m) (parameter_seen me (by_var x) (section_is me s x))
    ∙ idents_behind_seen (seen me) s (idents x.names) (parameter (by_var x) (section_is me s x))

section_says_seen : (me : List ℕ) (s : Scopes) (x : SectionTree) (rest : List Said) → section_says me (seen_scopes me s) x rest ≡ section_says me s x rest
section_says_seen me s x rest =
    ap (λ d. section_type_says me (seen_scopes me s) x d (idents_say (seen_scopes me s) (idents x.names) (parameter (by_var x) (section_is me (seen_scopes me s) x)) rest)) (first_ident_seen (seen me) s (idents x.names))
    ∙ ap (λ t. section_type_says me (seen_scopes me s) x (first_new_ident (is_declared s) (idents x.names)) (idents_say (seen_scopes me s) (idents x.names) (parameter (by_var x) t) rest)) (section_is_seen me s x)
    ∙ ap (λ m. section_type_says me (seen_scopes me s) x (first_new_ident (is_declared s) (idents x.names)) (idents_say (seen_scopes me s) (idents x.names) m rest)) (parameter_seen me (by_var x) (section_is me s x))
    ∙ ap (λ y. section_type_says me (seen_scopes me s) x (first_new_ident (is_declared s) (idents x.names)) y) (idents_say_seen (seen me) s (idents x.names) (parameter (by_var x) (section_is me s x)) rest)
    ∙ section_type_says_seen me s x (first_new_ident (is_declared s) (idents x.names)) (idents_say s (idents x.names) (parameter (by_var x) (section_is me s x)) rest)

pub sections_behind_seen : (me : List ℕ) (s : Scopes) (xs : List SectionTree) → sections_behind me (seen_scopes me s) xs ≡ map_scopes (seen me) (sections_behind me s xs)
sections_behind_seen me s [] = refl
sections_behind_seen me s (x ∷ xs) = ap (λ y. sections_behind me y xs) (section_behind_seen me s x) ∙ sections_behind_seen me (section_behind me s x) xs

pub sections_say_seen : (me : List ℕ) (s : Scopes) (xs : List SectionTree) (rest : List Said) → sections_say me (seen_scopes me s) xs rest ≡ sections_say me s xs rest
sections_say_seen me s [] rest = refl
sections_say_seen me s (x ∷ xs) rest =
    section_says_seen me s x (sections_say me (section_behind me (seen_scopes me s) x) xs rest)
    ∙ ap (λ y. section_says me s x (sections_say me y xs rest)) (section_behind_seen me s x)
    ∙ ap (λ y. section_says me s x y) (sections_say_seen me (section_behind me s x) xs rest)
