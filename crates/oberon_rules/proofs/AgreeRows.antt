-- What is said of one place of an expression with what is seen, is what is said with all.
use Rattle.std.specs.Prelude.{ℕ, suc, ◌≡◌, ◌==◌, Bool, ◌&&◌, ◌||◌, not, if◌then◌else◌, List, [], ◌∷◌, length, map, Option, Some, None, refl}
use Rattle.std.proofs.Common.{ap, ◌∙◌}
use Rattle.std.specs.Option.{option_map}
use Rattle.ob_text.specs.declared.code.Code.TheVariants as codes_of
use Rattle.ob_text.specs.declared.span.Span.{Span}
use Rattle.oberon_tree.specs.declared.leaf.Ident.{Ident}
use Rattle.oberon_tree.specs.declared.leaf.Member.{Member}
use Rattle.oberon_tree.specs.declared.expression.Signed.{Signed}
use Rattle.oberon_tree.specs.Trees.{RelationTree, no_relation, relation_of, ArgumentsTree}
use Rattle.oberon_types.specs.Types.{TyTree, unknown_ty, integer_ty, byte_ty, char_ty, boolean_ty, set_ty, string_ty, array_ty, open_ty, record_ty, same_type, assignable}
use Rattle.oberon_types.specs.Sizes.{field_of}
use Rattle.oberon_types.specs.Entities.{ParamTree, EntityTree, ViewTree, missing_view, broken_view, cyclic_view, exports_view}
use Rattle.oberon_rules.specs.Scopes.{Predeclared, abs_word, odd_word, len_word, lsl_word, asr_word, ror_word, ord_word, chr_word, inc_word, dec_word, incl_word, excl_word, assert_word, import_meaning, Scopes, Said, row}
use Rattle.oberon_rules.specs.Names.{exported_as, entity_says, member_says}
use Rattle.oberon_rules.specs.Operators.{sign_fits, is_bad}
use Rattle.oberon_rules.specs.Expressions.{Ex, nothing, a_value, a_variable, a_type, a_module, a_procedure, a_word, a_call, ty_of, argument_type, is_unknown, is_ordinal, or_unknown}
use Rattle.oberon_rules.specs.ExpressionRules.{value_row, whole_row, left_row, unless_type, is_known, is_bad_test, sign_row, Wanted, a_param, an_ordinal, a_whole_variable, a_set_variable, an_array, by_value, two_wanted, word_wants, argument_count, wants, or_none, first_wanted, later_wanted, elements_same, var_fits, is_char, value_fits, changed_rows, is_array, array_rows, wanted_rows, argument_rows, field_row, member_rows, indexed, index_rows, is_guarded, is_bad_guard, takes_arguments, call_rows}
use Rattle.oberon_rules.specs.Views.{map_param, map_entity, map_view}
use Rattle.oberon_rules.proofs.Seen.{seen, unknown_seen, ordinal_seen, same_seen, assignable_seen, extension_seen, or_extends_seen, field_seen}
use Rattle.oberon_rules.proofs.AgreeNames.{choose, seen_scopes, exported_seen}
use Rattle.oberon_rules.proofs.AgreeExpressions.{map_ex, ty_of_seen, class_of_seen, is_tested_seen, argument_type_seen, or_unknown_seen}

-- ---- rows

pub value_row_seen : (me : List ℕ) (x : Ex) (place : Span) (rest : List Said) → value_row (map_ex (seen me) x) place rest ≡ value_row x place rest
value_row_seen me nothing place rest = refl
value_row_seen me (a_value t) place rest = refl
value_row_seen me (a_variable t a) place rest = refl
value_row_seen me (a_type t) place rest = refl
value_row_seen me (a_module v) place rest = refl
value_row_seen me (a_procedure p) place rest = refl
value_row_seen me (a_word w) place rest = refl
value_row_seen me a_call place rest = refl

pub left_row_seen : (me : List ℕ) (r : RelationTree) (x : Ex) (place : Span) (rest : List Said) → left_row r (map_ex (seen me) x) place rest ≡ left_row r x place rest
left_row_seen me no_relation x place rest = refl
left_row_seen me (relation_of o at b) x place rest = value_row_seen me x place rest

pub whole_row_seen : (me : List ℕ) (x : Ex) (place : Span) (rest : List Said) → whole_row (map_ex (seen me) x) place rest ≡ whole_row x place rest
whole_row_seen me x place rest = ap (λ t. row (not (assignable t integer_ty)) place codes_of.NotInteger rest) (ty_of_seen me x) ∙ ap (λ b. row (not b) place codes_of.NotInteger rest) (assignable_seen me (ty_of x) integer_ty)

pub unless_type_seen : (me : List ℕ) (t : Option TyTree) (x : Ex) (place : Span) (rest : List Said) → unless_type (option_map (seen me) t) (map_ex (seen me) x) place rest ≡ unless_type t x place rest
unless_type_seen me None x place rest = value_row_seen me x place rest
unless_type_seen me (Some t) x place rest = refl

ty_unknown_seen : (me : List ℕ) (x : Ex) → is_unknown (ty_of (map_ex (seen me) x)) ≡ is_unknown (ty_of x)
ty_unknown_seen me x = ap (λ t. is_unknown t) (ty_of_seen me x) ∙ unknown_seen me (ty_of x)

is_known_seen : (me : List ℕ) (x : Ex) → is_known (map_ex (seen me) x) ≡ is_known x
is_known_seen me x = ap (λ b. not b) (ty_unknown_seen me x)

pub bad_test_seen : (me : List ℕ) (x : Ex) (t : Option TyTree) (y : Ex) → is_bad_test (map_ex (seen me) x) (option_map (seen me) t) (map_ex (seen me) y) ≡ is_bad_test x t y
bad_test_seen me x None y = ap (λ b. b && is_known (map_ex (seen me) y)) (is_known_seen me x) ∙ ap (λ b. is_known x && b) (is_known_seen me y)
bad_test_seen me x (Some t) y = ap (λ b. is_bad b) (is_tested_seen me x (Some t))

pub sign_row_seen : (me : List ℕ) (g : Option Signed) (x : Ex) (rest : List Said) → sign_row g (map_ex (seen me) x) rest ≡ sign_row g x rest
sign_row_seen me None x rest = refl
sign_row_seen me (Some g) x rest = ap (λ c. row (is_bad (sign_fits g.sign c)) g.span codes_of.BadOperand rest) (class_of_seen me x)

-- ---- arguments

abbrev pub map_wanted : (TyTree → TyTree) → Wanted → Wanted
map_wanted h (a_param p) = a_param (map_param h p)
map_wanted h an_ordinal = an_ordinal
map_wanted h a_whole_variable = a_whole_variable
map_wanted h a_set_variable = a_set_variable
map_wanted h an_array = an_array

word_wants_seen : (me : List ℕ) (w : Predeclared) (n : ℕ) → word_wants w n ≡ option_map (map (map_wanted (seen me))) (word_wants w n)
word_wants_seen me abs_word n = choose (option_map (map (map_wanted (seen me)))) (n == 1) (Some (by_value integer_ty ∷ [])) None
word_wants_seen me odd_word n = choose (option_map (map (map_wanted (seen me)))) (n == 1) (Some (by_value integer_ty ∷ [])) None
word_wants_seen me chr_word n = choose (option_map (map (map_wanted (seen me)))) (n == 1) (Some (by_value integer_ty ∷ [])) None
word_wants_seen me ord_word n = choose (option_map (map (map_wanted (seen me)))) (n == 1) (Some (an_ordinal ∷ [])) None
word_wants_seen me len_word n = choose (option_map (map (map_wanted (seen me)))) (n == 1) (Some (an_array ∷ [])) None
word_wants_seen me assert_word n = choose (option_map (map (map_wanted (seen me)))) (n == 1) (Some (by_value boolean_ty ∷ [])) None
word_wants_seen me lsl_word n = choose (option_map (map (map_wanted (seen me)))) (n == 2) (Some (by_value integer_ty ∷ by_value integer_ty ∷ [])) None
word_wants_seen me asr_word n = choose (option_map (map (map_wanted (seen me)))) (n == 2) (Some (by_value integer_ty ∷ by_value integer_ty ∷ [])) None
word_wants_seen me ror_word n = choose (option_map (map (map_wanted (seen me)))) (n == 2) (Some (by_value integer_ty ∷ by_value integer_ty ∷ [])) None
word_wants_seen me incl_word n = choose (option_map (map (map_wanted (seen me)))) (n == 2) (Some (a_set_variable ∷ by_value integer_ty ∷ [])) None
word_wants_seen me excl_word n = choose (option_map (map (map_wanted (seen me)))) (n == 2) (Some (a_set_variable ∷ by_value integer_ty ∷ [])) None
word_wants_seen me inc_word n = ap (λ y. if n == 1 then Some (a_whole_variable ∷ []) else y) (choose (option_map (map (map_wanted (seen me)))) (n == 2) (Some (a_whole_variable ∷ by_value integer_ty ∷ [])) None) ∙ choose (option_map (map (map_wanted (seen me)))) (n == 1) (Some (a_whole_variable ∷ [])) (two_wanted n a_whole_variable (by_value integer_ty))
word_wants_seen me dec_word n = ap (λ y. if n == 1 then Some (a_whole_variable ∷ []) else y) (choose (option_map (map (map_wanted (seen me)))) (n == 2) (Some (a_whole_variable ∷ by_value integer_ty ∷ [])) None) ∙ choose (option_map (map (map_wanted (seen me)))) (n == 1) (Some (a_whole_variable ∷ [])) (two_wanted n a_whole_variable (by_value integer_ty))

pub length_map : {A B : Type 0} (f : A → B) (xs : List A) → length (map f xs) ≡ length xs
length_map f [] = refl
length_map f (x ∷ xs) = ap (λ n. suc n) (length_map f xs)

params_seen : (me : List ℕ) (ps : List ParamTree) → map (λ (q : ParamTree). a_param q) (map (map_param (seen me)) ps) ≡ map (map_wanted (seen me)) (map (λ (q : ParamTree). a_param q) ps)
params_seen me [] = refl
params_seen me (p ∷ ps) = ap (λ y. a_param (map_param (seen me) p) ∷ y) (params_seen me ps)

pub wants_seen : (me : List ℕ) (x : Ex) (args : ArgumentsTree) → wants (map_ex (seen me) x) args ≡ option_map (map (map_wanted (seen me))) (wants x args)
wants_seen me nothing args = refl
wants_seen me (a_value t) args = refl
wants_seen me (a_variable t a) args = refl
wants_seen me (a_type t) args = refl
wants_seen me (a_module v) args = refl
wants_seen me a_call args = refl
wants_seen me (a_word w) args = word_wants_seen me w (argument_count args)
wants_seen me (a_procedure p) args =
    ap (λ n. if argument_count args == n then Some (map (λ (q : ParamTree). a_param q) (map (map_param (seen me)) p.params)) else None) (length_map (map_param (seen me)) p.params)
    ∙ ap (λ y. if argument_count args == length p.params then Some y else None) (params_seen me p.params)
    ∙ choose (option_map (map (map_wanted (seen me)))) (argument_count args == length p.params) (Some (map (λ (q : ParamTree). a_param q) p.params)) None

pub or_none_seen : (me : List ℕ) (ws : Option (List Wanted)) → or_none (option_map (map (map_wanted (seen me))) ws) ≡ map (map_wanted (seen me)) (or_none ws)
or_none_seen me None = refl
or_none_seen me (Some ws) = refl

pub first_wanted_seen : (me : List ℕ) (ws : List Wanted) → first_wanted (map (map_wanted (seen me)) ws) ≡ option_map (map_wanted (seen me)) (first_wanted ws)
first_wanted_seen me [] = refl
first_wanted_seen me (w ∷ ws) = refl

pub later_wanted_seen : (me : List ℕ) (ws : List Wanted) → later_wanted (map (map_wanted (seen me)) ws) ≡ map (map_wanted (seen me)) (later_wanted ws)
later_wanted_seen me [] = refl
later_wanted_seen me (w ∷ ws) = refl

elements_same_seen : (me : List ℕ) (t g : TyTree) → elements_same (seen me t) (seen me g) ≡ elements_same t g
elements_same_seen me unknown_ty g = refl
elements_same_seen me integer_ty g = refl
elements_same_seen me byte_ty g = refl
elements_same_seen me char_ty g = refl
elements_same_seen me boolean_ty g = refl
elements_same_seen me set_ty g = refl
elements_same_seen me (string_ty n) g = refl
elements_same_seen me (array_ty n u) g = same_seen me u g
elements_same_seen me (open_ty u) g = same_seen me u g
elements_same_seen me (record_ty r) g = refl

is_char_seen : (me : List ℕ) (t : TyTree) → is_char (seen me t) ≡ is_char t
is_char_seen me unknown_ty = refl
is_char_seen me integer_ty = refl
is_char_seen me byte_ty = refl
is_char_seen me char_ty = refl
is_char_seen me boolean_ty = refl
is_char_seen me set_ty = refl
is_char_seen me (string_ty n) = refl
is_char_seen me (array_ty n u) = refl
is_char_seen me (open_ty u) = refl
is_char_seen me (record_ty r) = refl

var_fits_seen : (me : List ℕ) (t g : TyTree) → var_fits (seen me t) (seen me g) ≡ var_fits t g
var_fits_seen me unknown_ty unknown_ty = refl
var_fits_seen me unknown_ty integer_ty = refl
var_fits_seen me unknown_ty byte_ty = refl
var_fits_seen me unknown_ty char_ty = refl
var_fits_seen me unknown_ty boolean_ty = refl
var_fits_seen me unknown_ty set_ty = refl
var_fits_seen me unknown_ty (string_ty m) = refl
var_fits_seen me unknown_ty (array_ty m g) = refl
var_fits_seen me unknown_ty (open_ty g) = refl
var_fits_seen me unknown_ty (record_ty q) = refl
var_fits_seen me integer_ty unknown_ty = refl
var_fits_seen me integer_ty integer_ty = same_seen me integer_ty integer_ty
var_fits_seen me integer_ty byte_ty = same_seen me integer_ty byte_ty
var_fits_seen me integer_ty char_ty = same_seen me integer_ty char_ty
var_fits_seen me integer_ty boolean_ty = same_seen me integer_ty boolean_ty
var_fits_seen me integer_ty set_ty = same_seen me integer_ty set_ty
var_fits_seen me integer_ty (string_ty m) = same_seen me integer_ty (string_ty m)
var_fits_seen me integer_ty (array_ty m g) = same_seen me integer_ty (array_ty m g)
var_fits_seen me integer_ty (open_ty g) = elements_same_seen me integer_ty g
var_fits_seen me integer_ty (record_ty q) = same_seen me integer_ty (record_ty q)
var_fits_seen me byte_ty unknown_ty = refl
var_fits_seen me byte_ty integer_ty = same_seen me byte_ty integer_ty
var_fits_seen me byte_ty byte_ty = same_seen me byte_ty byte_ty
var_fits_seen me byte_ty char_ty = same_seen me byte_ty char_ty
var_fits_seen me byte_ty boolean_ty = same_seen me byte_ty boolean_ty
var_fits_seen me byte_ty set_ty = same_seen me byte_ty set_ty
var_fits_seen me byte_ty (string_ty m) = same_seen me byte_ty (string_ty m)
var_fits_seen me byte_ty (array_ty m g) = same_seen me byte_ty (array_ty m g)
var_fits_seen me byte_ty (open_ty g) = elements_same_seen me byte_ty g
var_fits_seen me byte_ty (record_ty q) = same_seen me byte_ty (record_ty q)
var_fits_seen me char_ty unknown_ty = refl
var_fits_seen me char_ty integer_ty = same_seen me char_ty integer_ty
var_fits_seen me char_ty byte_ty = same_seen me char_ty byte_ty
var_fits_seen me char_ty char_ty = same_seen me char_ty char_ty
var_fits_seen me char_ty boolean_ty = same_seen me char_ty boolean_ty
var_fits_seen me char_ty set_ty = same_seen me char_ty set_ty
var_fits_seen me char_ty (string_ty m) = same_seen me char_ty (string_ty m)
var_fits_seen me char_ty (array_ty m g) = same_seen me char_ty (array_ty m g)
var_fits_seen me char_ty (open_ty g) = elements_same_seen me char_ty g
var_fits_seen me char_ty (record_ty q) = same_seen me char_ty (record_ty q)
var_fits_seen me boolean_ty unknown_ty = refl
var_fits_seen me boolean_ty integer_ty = same_seen me boolean_ty integer_ty
var_fits_seen me boolean_ty byte_ty = same_seen me boolean_ty byte_ty
var_fits_seen me boolean_ty char_ty = same_seen me boolean_ty char_ty
var_fits_seen me boolean_ty boolean_ty = same_seen me boolean_ty boolean_ty
var_fits_seen me boolean_ty set_ty = same_seen me boolean_ty set_ty
var_fits_seen me boolean_ty (string_ty m) = same_seen me boolean_ty (string_ty m)
var_fits_seen me boolean_ty (array_ty m g) = same_seen me boolean_ty (array_ty m g)
var_fits_seen me boolean_ty (open_ty g) = elements_same_seen me boolean_ty g
var_fits_seen me boolean_ty (record_ty q) = same_seen me boolean_ty (record_ty q)
var_fits_seen me set_ty unknown_ty = refl
var_fits_seen me set_ty integer_ty = same_seen me set_ty integer_ty
var_fits_seen me set_ty byte_ty = same_seen me set_ty byte_ty
var_fits_seen me set_ty char_ty = same_seen me set_ty char_ty
var_fits_seen me set_ty boolean_ty = same_seen me set_ty boolean_ty
var_fits_seen me set_ty set_ty = same_seen me set_ty set_ty
var_fits_seen me set_ty (string_ty m) = same_seen me set_ty (string_ty m)
var_fits_seen me set_ty (array_ty m g) = same_seen me set_ty (array_ty m g)
var_fits_seen me set_ty (open_ty g) = elements_same_seen me set_ty g
var_fits_seen me set_ty (record_ty q) = same_seen me set_ty (record_ty q)
var_fits_seen me (string_ty n) unknown_ty = refl
var_fits_seen me (string_ty n) integer_ty = same_seen me (string_ty n) integer_ty
var_fits_seen me (string_ty n) byte_ty = same_seen me (string_ty n) byte_ty
var_fits_seen me (string_ty n) char_ty = same_seen me (string_ty n) char_ty
var_fits_seen me (string_ty n) boolean_ty = same_seen me (string_ty n) boolean_ty
var_fits_seen me (string_ty n) set_ty = same_seen me (string_ty n) set_ty
var_fits_seen me (string_ty n) (string_ty m) = same_seen me (string_ty n) (string_ty m)
var_fits_seen me (string_ty n) (array_ty m g) = same_seen me (string_ty n) (array_ty m g)
var_fits_seen me (string_ty n) (open_ty g) = elements_same_seen me (string_ty n) g
var_fits_seen me (string_ty n) (record_ty q) = same_seen me (string_ty n) (record_ty q)
var_fits_seen me (array_ty n u) unknown_ty = refl
var_fits_seen me (array_ty n u) integer_ty = same_seen me (array_ty n u) integer_ty
var_fits_seen me (array_ty n u) byte_ty = same_seen me (array_ty n u) byte_ty
var_fits_seen me (array_ty n u) char_ty = same_seen me (array_ty n u) char_ty
var_fits_seen me (array_ty n u) boolean_ty = same_seen me (array_ty n u) boolean_ty
var_fits_seen me (array_ty n u) set_ty = same_seen me (array_ty n u) set_ty
var_fits_seen me (array_ty n u) (string_ty m) = same_seen me (array_ty n u) (string_ty m)
var_fits_seen me (array_ty n u) (array_ty m g) = same_seen me (array_ty n u) (array_ty m g)
var_fits_seen me (array_ty n u) (open_ty g) = elements_same_seen me (array_ty n u) g
var_fits_seen me (array_ty n u) (record_ty q) = same_seen me (array_ty n u) (record_ty q)
var_fits_seen me (open_ty u) unknown_ty = refl
var_fits_seen me (open_ty u) integer_ty = same_seen me (open_ty u) integer_ty
var_fits_seen me (open_ty u) byte_ty = same_seen me (open_ty u) byte_ty
var_fits_seen me (open_ty u) char_ty = same_seen me (open_ty u) char_ty
var_fits_seen me (open_ty u) boolean_ty = same_seen me (open_ty u) boolean_ty
var_fits_seen me (open_ty u) set_ty = same_seen me (open_ty u) set_ty
var_fits_seen me (open_ty u) (string_ty m) = same_seen me (open_ty u) (string_ty m)
var_fits_seen me (open_ty u) (array_ty m g) = same_seen me (open_ty u) (array_ty m g)
var_fits_seen me (open_ty u) (open_ty g) = elements_same_seen me (open_ty u) g
var_fits_seen me (open_ty u) (record_ty q) = same_seen me (open_ty u) (record_ty q)
var_fits_seen me (record_ty r) unknown_ty = refl
var_fits_seen me (record_ty r) integer_ty = or_extends_seen me (record_ty r) integer_ty
var_fits_seen me (record_ty r) byte_ty = or_extends_seen me (record_ty r) byte_ty
var_fits_seen me (record_ty r) char_ty = or_extends_seen me (record_ty r) char_ty
var_fits_seen me (record_ty r) boolean_ty = or_extends_seen me (record_ty r) boolean_ty
var_fits_seen me (record_ty r) set_ty = or_extends_seen me (record_ty r) set_ty
var_fits_seen me (record_ty r) (string_ty m) = or_extends_seen me (record_ty r) (string_ty m)
var_fits_seen me (record_ty r) (array_ty m g) = or_extends_seen me (record_ty r) (array_ty m g)
var_fits_seen me (record_ty r) (open_ty g) = elements_same_seen me (record_ty r) g
var_fits_seen me (record_ty r) (record_ty q) = or_extends_seen me (record_ty r) (record_ty q)

value_fits_seen : (me : List ℕ) (t g : TyTree) → value_fits (seen me t) (seen me g) ≡ value_fits t g
value_fits_seen me unknown_ty unknown_ty = assignable_seen me unknown_ty unknown_ty
value_fits_seen me unknown_ty integer_ty = assignable_seen me unknown_ty integer_ty
value_fits_seen me unknown_ty byte_ty = assignable_seen me unknown_ty byte_ty
value_fits_seen me unknown_ty char_ty = assignable_seen me unknown_ty char_ty
value_fits_seen me unknown_ty boolean_ty = assignable_seen me unknown_ty boolean_ty
value_fits_seen me unknown_ty set_ty = assignable_seen me unknown_ty set_ty
value_fits_seen me unknown_ty (string_ty m) = assignable_seen me unknown_ty (string_ty m)
value_fits_seen me unknown_ty (array_ty m g) = assignable_seen me unknown_ty (array_ty m g)
value_fits_seen me unknown_ty (open_ty g) = elements_same_seen me unknown_ty g
value_fits_seen me unknown_ty (record_ty q) = assignable_seen me unknown_ty (record_ty q)
value_fits_seen me integer_ty unknown_ty = assignable_seen me integer_ty unknown_ty
value_fits_seen me integer_ty integer_ty = assignable_seen me integer_ty integer_ty
value_fits_seen me integer_ty byte_ty = assignable_seen me integer_ty byte_ty
value_fits_seen me integer_ty char_ty = assignable_seen me integer_ty char_ty
value_fits_seen me integer_ty boolean_ty = assignable_seen me integer_ty boolean_ty
value_fits_seen me integer_ty set_ty = assignable_seen me integer_ty set_ty
value_fits_seen me integer_ty (string_ty m) = assignable_seen me integer_ty (string_ty m)
value_fits_seen me integer_ty (array_ty m g) = assignable_seen me integer_ty (array_ty m g)
value_fits_seen me integer_ty (open_ty g) = elements_same_seen me integer_ty g
value_fits_seen me integer_ty (record_ty q) = assignable_seen me integer_ty (record_ty q)
value_fits_seen me byte_ty unknown_ty = assignable_seen me byte_ty unknown_ty
value_fits_seen me byte_ty integer_ty = assignable_seen me byte_ty integer_ty
value_fits_seen me byte_ty byte_ty = assignable_seen me byte_ty byte_ty
value_fits_seen me byte_ty char_ty = assignable_seen me byte_ty char_ty
value_fits_seen me byte_ty boolean_ty = assignable_seen me byte_ty boolean_ty
value_fits_seen me byte_ty set_ty = assignable_seen me byte_ty set_ty
value_fits_seen me byte_ty (string_ty m) = assignable_seen me byte_ty (string_ty m)
value_fits_seen me byte_ty (array_ty m g) = assignable_seen me byte_ty (array_ty m g)
value_fits_seen me byte_ty (open_ty g) = elements_same_seen me byte_ty g
value_fits_seen me byte_ty (record_ty q) = assignable_seen me byte_ty (record_ty q)
value_fits_seen me char_ty unknown_ty = assignable_seen me char_ty unknown_ty
value_fits_seen me char_ty integer_ty = assignable_seen me char_ty integer_ty
value_fits_seen me char_ty byte_ty = assignable_seen me char_ty byte_ty
value_fits_seen me char_ty char_ty = assignable_seen me char_ty char_ty
value_fits_seen me char_ty boolean_ty = assignable_seen me char_ty boolean_ty
value_fits_seen me char_ty set_ty = assignable_seen me char_ty set_ty
value_fits_seen me char_ty (string_ty m) = assignable_seen me char_ty (string_ty m)
value_fits_seen me char_ty (array_ty m g) = assignable_seen me char_ty (array_ty m g)
value_fits_seen me char_ty (open_ty g) = elements_same_seen me char_ty g
value_fits_seen me char_ty (record_ty q) = assignable_seen me char_ty (record_ty q)
value_fits_seen me boolean_ty unknown_ty = assignable_seen me boolean_ty unknown_ty
value_fits_seen me boolean_ty integer_ty = assignable_seen me boolean_ty integer_ty
value_fits_seen me boolean_ty byte_ty = assignable_seen me boolean_ty byte_ty
value_fits_seen me boolean_ty char_ty = assignable_seen me boolean_ty char_ty
value_fits_seen me boolean_ty boolean_ty = assignable_seen me boolean_ty boolean_ty
value_fits_seen me boolean_ty set_ty = assignable_seen me boolean_ty set_ty
value_fits_seen me boolean_ty (string_ty m) = assignable_seen me boolean_ty (string_ty m)
value_fits_seen me boolean_ty (array_ty m g) = assignable_seen me boolean_ty (array_ty m g)
value_fits_seen me boolean_ty (open_ty g) = elements_same_seen me boolean_ty g
value_fits_seen me boolean_ty (record_ty q) = assignable_seen me boolean_ty (record_ty q)
value_fits_seen me set_ty unknown_ty = assignable_seen me set_ty unknown_ty
value_fits_seen me set_ty integer_ty = assignable_seen me set_ty integer_ty
value_fits_seen me set_ty byte_ty = assignable_seen me set_ty byte_ty
value_fits_seen me set_ty char_ty = assignable_seen me set_ty char_ty
value_fits_seen me set_ty boolean_ty = assignable_seen me set_ty boolean_ty
value_fits_seen me set_ty set_ty = assignable_seen me set_ty set_ty
value_fits_seen me set_ty (string_ty m) = assignable_seen me set_ty (string_ty m)
value_fits_seen me set_ty (array_ty m g) = assignable_seen me set_ty (array_ty m g)
value_fits_seen me set_ty (open_ty g) = elements_same_seen me set_ty g
value_fits_seen me set_ty (record_ty q) = assignable_seen me set_ty (record_ty q)
value_fits_seen me (string_ty n) unknown_ty = assignable_seen me (string_ty n) unknown_ty
value_fits_seen me (string_ty n) integer_ty = assignable_seen me (string_ty n) integer_ty
value_fits_seen me (string_ty n) byte_ty = assignable_seen me (string_ty n) byte_ty
value_fits_seen me (string_ty n) char_ty = assignable_seen me (string_ty n) char_ty
value_fits_seen me (string_ty n) boolean_ty = assignable_seen me (string_ty n) boolean_ty
value_fits_seen me (string_ty n) set_ty = assignable_seen me (string_ty n) set_ty
value_fits_seen me (string_ty n) (string_ty m) = assignable_seen me (string_ty n) (string_ty m)
value_fits_seen me (string_ty n) (array_ty m g) = assignable_seen me (string_ty n) (array_ty m g)
value_fits_seen me (string_ty n) (open_ty g) = is_char_seen me g
value_fits_seen me (string_ty n) (record_ty q) = assignable_seen me (string_ty n) (record_ty q)
value_fits_seen me (array_ty n u) unknown_ty = assignable_seen me (array_ty n u) unknown_ty
value_fits_seen me (array_ty n u) integer_ty = assignable_seen me (array_ty n u) integer_ty
value_fits_seen me (array_ty n u) byte_ty = assignable_seen me (array_ty n u) byte_ty
value_fits_seen me (array_ty n u) char_ty = assignable_seen me (array_ty n u) char_ty
value_fits_seen me (array_ty n u) boolean_ty = assignable_seen me (array_ty n u) boolean_ty
value_fits_seen me (array_ty n u) set_ty = assignable_seen me (array_ty n u) set_ty
value_fits_seen me (array_ty n u) (string_ty m) = assignable_seen me (array_ty n u) (string_ty m)
value_fits_seen me (array_ty n u) (array_ty m g) = assignable_seen me (array_ty n u) (array_ty m g)
value_fits_seen me (array_ty n u) (open_ty g) = elements_same_seen me (array_ty n u) g
value_fits_seen me (array_ty n u) (record_ty q) = assignable_seen me (array_ty n u) (record_ty q)
value_fits_seen me (open_ty u) unknown_ty = assignable_seen me (open_ty u) unknown_ty
value_fits_seen me (open_ty u) integer_ty = assignable_seen me (open_ty u) integer_ty
value_fits_seen me (open_ty u) byte_ty = assignable_seen me (open_ty u) byte_ty
value_fits_seen me (open_ty u) char_ty = assignable_seen me (open_ty u) char_ty
value_fits_seen me (open_ty u) boolean_ty = assignable_seen me (open_ty u) boolean_ty
value_fits_seen me (open_ty u) set_ty = assignable_seen me (open_ty u) set_ty
value_fits_seen me (open_ty u) (string_ty m) = assignable_seen me (open_ty u) (string_ty m)
value_fits_seen me (open_ty u) (array_ty m g) = assignable_seen me (open_ty u) (array_ty m g)
value_fits_seen me (open_ty u) (open_ty g) = elements_same_seen me (open_ty u) g
value_fits_seen me (open_ty u) (record_ty q) = assignable_seen me (open_ty u) (record_ty q)
value_fits_seen me (record_ty r) unknown_ty = assignable_seen me (record_ty r) unknown_ty
value_fits_seen me (record_ty r) integer_ty = assignable_seen me (record_ty r) integer_ty
value_fits_seen me (record_ty r) byte_ty = assignable_seen me (record_ty r) byte_ty
value_fits_seen me (record_ty r) char_ty = assignable_seen me (record_ty r) char_ty
value_fits_seen me (record_ty r) boolean_ty = assignable_seen me (record_ty r) boolean_ty
value_fits_seen me (record_ty r) set_ty = assignable_seen me (record_ty r) set_ty
value_fits_seen me (record_ty r) (string_ty m) = assignable_seen me (record_ty r) (string_ty m)
value_fits_seen me (record_ty r) (array_ty m g) = assignable_seen me (record_ty r) (array_ty m g)
value_fits_seen me (record_ty r) (open_ty g) = elements_same_seen me (record_ty r) g
value_fits_seen me (record_ty r) (record_ty q) = assignable_seen me (record_ty r) (record_ty q)

changed_seen : (me : List ℕ) (x : Ex) (fits : Bool) (place : Span) (rest : List Said) → changed_rows (map_ex (seen me) x) fits place rest ≡ changed_rows x fits place rest
changed_seen me nothing fits place rest = refl
changed_seen me (a_value t) fits place rest = refl
changed_seen me (a_variable t a) fits place rest = refl
changed_seen me (a_type t) fits place rest = refl
changed_seen me (a_module v) fits place rest = refl
changed_seen me (a_procedure p) fits place rest = refl
changed_seen me (a_word w) fits place rest = refl
changed_seen me a_call fits place rest = refl

is_array_seen : (me : List ℕ) (t : TyTree) → is_array (seen me t) ≡ is_array t
is_array_seen me unknown_ty = refl
is_array_seen me integer_ty = refl
is_array_seen me byte_ty = refl
is_array_seen me char_ty = refl
is_array_seen me boolean_ty = refl
is_array_seen me set_ty = refl
is_array_seen me (string_ty n) = refl
is_array_seen me (array_ty n u) = refl
is_array_seen me (open_ty u) = refl
is_array_seen me (record_ty r) = refl

array_rows_seen : (me : List ℕ) (x : Ex) (place : Span) (rest : List Said) → array_rows (map_ex (seen me) x) place rest ≡ array_rows x place rest
array_rows_seen me nothing place rest = refl
array_rows_seen me (a_value t) place rest = refl
array_rows_seen me (a_variable t a) place rest = ap (λ b. row (not b) place codes_of.BadArgument rest) (is_array_seen me t)
array_rows_seen me (a_type t) place rest = refl
array_rows_seen me (a_module v) place rest = refl
array_rows_seen me (a_procedure p) place rest = refl
array_rows_seen me (a_word w) place rest = refl
array_rows_seen me a_call place rest = refl

wanted_seen : (me : List ℕ) (w : Wanted) (x : Ex) (place : Span) (rest : List Said) → wanted_rows (map_wanted (seen me) w) (map_ex (seen me) x) place rest ≡ wanted_rows w x place rest
wanted_seen me (a_param p) x place rest =
    ap (λ t. if p.by_var then changed_rows (map_ex (seen me) x) (var_fits t (seen me p.ty)) place rest else row (not (value_fits t (seen me p.ty))) place codes_of.BadArgument rest) (ty_of_seen me x)
    ∙ ap (λ b. if p.by_var then changed_rows (map_ex (seen me) x) b place rest else row (not (value_fits (seen me (ty_of x)) (seen me p.ty))) place codes_of.BadArgument rest) (var_fits_seen me (ty_of x) p.ty)
    ∙ ap (λ y. if p.by_var then y else row (not (value_fits (seen me (ty_of x)) (seen me p.ty))) place codes_of.BadArgument rest) (changed_seen me x (var_fits (ty_of x) p.ty) place rest)
    ∙ ap (λ b. if p.by_var then changed_rows x (var_fits (ty_of x) p.ty) place rest else row (not b) place codes_of.BadArgument rest) (value_fits_seen me (ty_of x) p.ty)
wanted_seen me an_ordinal x place rest =
    ap (λ t. row (not (is_unknown t || is_ordinal t)) place codes_of.BadArgument rest) (ty_of_seen me x)
    ∙ ap (λ b. row (not (b || is_ordinal (seen me (ty_of x)))) place codes_of.BadArgument rest) (unknown_seen me (ty_of x))
    ∙ ap (λ b. row (not (is_unknown (ty_of x) || b)) place codes_of.BadArgument rest) (ordinal_seen me (ty_of x))
wanted_seen me a_whole_variable x place rest =
    ap (λ t. changed_rows (map_ex (seen me) x) (assignable t integer_ty) place rest) (ty_of_seen me x)
    ∙ ap (λ b. changed_rows (map_ex (seen me) x) b place rest) (assignable_seen me (ty_of x) integer_ty)
    ∙ changed_seen me x (assignable (ty_of x) integer_ty) place rest
wanted_seen me a_set_variable x place rest =
    ap (λ t. changed_rows (map_ex (seen me) x) (same_type t set_ty) place rest) (ty_of_seen me x)
    ∙ ap (λ b. changed_rows (map_ex (seen me) x) b place rest) (same_seen me (ty_of x) set_ty)
    ∙ changed_seen me x (same_type (ty_of x) set_ty) place rest
wanted_seen me an_array x place rest = array_rows_seen me x place rest

pub argument_seen : (me : List ℕ) (w : Option Wanted) (x : Ex) (place : Span) (rest : List Said) → argument_rows (option_map (map_wanted (seen me)) w) (map_ex (seen me) x) place rest ≡ argument_rows w x place rest
argument_seen me None x place rest = refl
argument_seen me (Some w) x place rest = value_row_seen me x place (wanted_rows (map_wanted (seen me) w) (map_ex (seen me) x) place rest) ∙ ap (λ y. value_row x place y) (wanted_seen me w x place rest)

-- ---- selectors

field_row_seen : (me : List ℕ) (t : Option TyTree) (at : Ident) (rest : List Said) → field_row (option_map (seen me) t) at rest ≡ field_row t at rest
field_row_seen me None at rest = refl
field_row_seen me (Some t) at rest = refl

entity_says_seen : (h : TyTree → TyTree) (e : Option EntityTree) (at : Ident) (rest : List Said) → entity_says at (option_map (map_entity h) e) rest ≡ entity_says at e rest
entity_says_seen h None at rest = refl
entity_says_seen h (Some e) at rest = refl

pub view_says_seen : (h : TyTree → TyTree) (v : ViewTree) (at : Ident) (rest : List Said) → member_says (import_meaning (map_view h v)) at rest ≡ member_says (import_meaning v) at rest
view_says_seen h missing_view at rest = refl
view_says_seen h broken_view at rest = refl
view_says_seen h cyclic_view at rest = refl
view_says_seen h (exports_view es) at rest = ap (λ e. entity_says at e rest) (exported_seen h at.name es) ∙ entity_says_seen h (exported_as at.name es) at rest

pub member_rows_seen : (me : List ℕ) (x : Ex) (m : Member) (rest : List Said) → member_rows me (map_ex (seen me) x) m rest ≡ member_rows me x m rest
member_rows_seen me nothing m rest = refl
member_rows_seen me (a_value t) m rest = refl
member_rows_seen me (a_variable unknown_ty a) m rest = refl
member_rows_seen me (a_variable integer_ty a) m rest = refl
member_rows_seen me (a_variable byte_ty a) m rest = refl
member_rows_seen me (a_variable char_ty a) m rest = refl
member_rows_seen me (a_variable boolean_ty a) m rest = refl
member_rows_seen me (a_variable set_ty a) m rest = refl
member_rows_seen me (a_variable (string_ty n) a) m rest = refl
member_rows_seen me (a_variable (array_ty n u) a) m rest = refl
member_rows_seen me (a_variable (open_ty u) a) m rest = refl
member_rows_seen me (a_variable (record_ty r) a) m rest = ap (λ y. field_row y m.name rest) (field_seen me m.name.name r) ∙ field_row_seen me (field_of me m.name.name r) m.name rest
member_rows_seen me (a_type t) m rest = refl
member_rows_seen me (a_module v) m rest = view_says_seen (seen me) v m.name rest
member_rows_seen me (a_procedure p) m rest = refl
member_rows_seen me (a_word w) m rest = refl
member_rows_seen me a_call m rest = refl

pub indexed_ex_seen : (me : List ℕ) (x : Ex) → indexed (map_ex (seen me) x) ≡ option_map (seen me) (indexed x)
indexed_ex_seen me nothing = refl
indexed_ex_seen me (a_value t) = refl
indexed_ex_seen me (a_variable t a) = refl
indexed_ex_seen me (a_type t) = refl
indexed_ex_seen me (a_module v) = refl
indexed_ex_seen me (a_procedure p) = refl
indexed_ex_seen me (a_word w) = refl
indexed_ex_seen me a_call = refl

pub bad_seen : (me : List ℕ) (t : Option TyTree) → is_bad (option_map (seen me) t) ≡ is_bad t
bad_seen me None = refl
bad_seen me (Some t) = refl

pub index_start_seen : (me : List ℕ) (x : Ex) → or_unknown (indexed (map_ex (seen me) x)) ≡ seen me (or_unknown (indexed x))
index_start_seen me x = ap (λ y. or_unknown y) (indexed_ex_seen me x) ∙ or_unknown_seen me (indexed x)

pub index_rows_seen : (me : List ℕ) (e : Option TyTree) (t : TyTree) (x : Ex) (place bracket : Span) (rest : List Said) → index_rows (option_map (seen me) e) (seen me t) (map_ex (seen me) x) place bracket rest ≡ index_rows e t x place bracket rest
index_rows_seen me None t x place bracket rest = ap (λ b. row (not b) bracket codes_of.BadSelector rest) (unknown_seen me t)
index_rows_seen me (Some u) t x place bracket rest = value_row_seen me x place (whole_row (map_ex (seen me) x) place rest) ∙ ap (λ y. value_row x place y) (whole_row_seen me x place rest)

is_guarded_seen : (me : List ℕ) (x : Ex) (g : Option TyTree) → is_guarded (map_ex (seen me) x) (option_map (seen me) g) ≡ is_guarded x g
is_guarded_seen me nothing g = refl
is_guarded_seen me (a_value t) g = refl
is_guarded_seen me (a_variable unknown_ty a) g = refl
is_guarded_seen me (a_variable integer_ty a) g = refl
is_guarded_seen me (a_variable byte_ty a) g = refl
is_guarded_seen me (a_variable char_ty a) g = refl
is_guarded_seen me (a_variable boolean_ty a) g = refl
is_guarded_seen me (a_variable set_ty a) g = refl
is_guarded_seen me (a_variable (string_ty n) a) g = refl
is_guarded_seen me (a_variable (array_ty n u) a) g = refl
is_guarded_seen me (a_variable (open_ty u) a) g = refl
is_guarded_seen me (a_variable (record_ty r) a) None = refl
is_guarded_seen me (a_variable (record_ty r) a) (Some g) = refl
is_guarded_seen me (a_type t) g = refl
is_guarded_seen me (a_module v) g = refl
is_guarded_seen me (a_procedure p) g = refl
is_guarded_seen me (a_word w) g = refl
is_guarded_seen me a_call g = refl

bad_guard_seen : (me : List ℕ) (t : TyTree) (g : Option TyTree) → is_bad_guard (seen me t) (option_map (seen me) g) ≡ is_bad_guard t g
bad_guard_seen me t None = refl
bad_guard_seen me t (Some unknown_ty) = refl
bad_guard_seen me t (Some integer_ty) = ap (λ b. not b) (extension_seen me integer_ty t)
bad_guard_seen me t (Some byte_ty) = ap (λ b. not b) (extension_seen me byte_ty t)
bad_guard_seen me t (Some char_ty) = ap (λ b. not b) (extension_seen me char_ty t)
bad_guard_seen me t (Some boolean_ty) = ap (λ b. not b) (extension_seen me boolean_ty t)
bad_guard_seen me t (Some set_ty) = ap (λ b. not b) (extension_seen me set_ty t)
bad_guard_seen me t (Some (string_ty m)) = ap (λ b. not b) (extension_seen me (string_ty m) t)
bad_guard_seen me t (Some (array_ty m g)) = ap (λ b. not b) (extension_seen me (array_ty m g) t)
bad_guard_seen me t (Some (open_ty g)) = ap (λ b. not b) (extension_seen me (open_ty g) t)
bad_guard_seen me t (Some (record_ty q)) = ap (λ b. not b) (extension_seen me (record_ty q) t)

takes_seen : (me : List ℕ) (x : Ex) → takes_arguments (map_ex (seen me) x) ≡ takes_arguments x
takes_seen me nothing = refl
takes_seen me (a_value t) = refl
takes_seen me (a_variable unknown_ty a) = refl
takes_seen me (a_variable integer_ty a) = refl
takes_seen me (a_variable byte_ty a) = refl
takes_seen me (a_variable char_ty a) = refl
takes_seen me (a_variable boolean_ty a) = refl
takes_seen me (a_variable set_ty a) = refl
takes_seen me (a_variable (string_ty n) a) = refl
takes_seen me (a_variable (array_ty n u) a) = refl
takes_seen me (a_variable (open_ty u) a) = refl
takes_seen me (a_variable (record_ty r) a) = refl
takes_seen me (a_type t) = refl
takes_seen me (a_module v) = refl
takes_seen me (a_procedure p) = refl
takes_seen me (a_word w) = refl
takes_seen me a_call = refl

none_seen : (me : List ℕ) (ws : Option (List Wanted)) → is_bad (option_map (map (map_wanted (seen me))) ws) ≡ is_bad ws
none_seen me None = refl
none_seen me (Some ws) = refl

pub call_rows_seen : (me : List ℕ) (s : Scopes) (at : Span) (x : Ex) (bracket : Span) (args : ArgumentsTree) (rest : List Said) → call_rows (seen_scopes me s) at (map_ex (seen me) x) bracket args rest ≡ call_rows s at x bracket args rest
call_rows_seen me s at x bracket args rest =
    ap (λ g. if is_guarded (map_ex (seen me) x) g then row (is_bad_guard (ty_of (map_ex (seen me) x)) g) bracket codes_of.BadSelector rest else row (not (takes_arguments (map_ex (seen me) x))) bracket codes_of.BadSelector (row (is_bad (wants (map_ex (seen me) x) args)) at codes_of.ArgumentCount rest)) (argument_type_seen me s args)
    ∙ ap (λ b. if b then row (is_bad_guard (ty_of (map_ex (seen me) x)) (option_map (seen me) (argument_type s args))) bracket codes_of.BadSelector rest else row (not (takes_arguments (map_ex (seen me) x))) bracket codes_of.BadSelector (row (is_bad (wants (map_ex (seen me) x) args)) at codes_of.ArgumentCount rest)) (is_guarded_seen me x (argument_type s args))
    ∙ ap (λ b. if is_guarded x (argument_type s args) then row b bracket codes_of.BadSelector rest else row (not (takes_arguments (map_ex (seen me) x))) bracket codes_of.BadSelector (row (is_bad (wants (map_ex (seen me) x) args)) at codes_of.ArgumentCount rest)) (ap (λ t. is_bad_guard t (option_map (seen me) (argument_type s args))) (ty_of_seen me x) ∙ bad_guard_seen me (ty_of x) (argument_type s args))
    ∙ ap (λ b. if is_guarded x (argument_type s args) then row (is_bad_guard (ty_of x) (argument_type s args)) bracket codes_of.BadSelector rest else row (not b) bracket codes_of.BadSelector (row (is_bad (wants (map_ex (seen me) x) args)) at codes_of.ArgumentCount rest)) (takes_seen me x)
    ∙ ap (λ b. if is_guarded x (argument_type s args) then row (is_bad_guard (ty_of x) (argument_type s args)) bracket codes_of.BadSelector rest else row (not (takes_arguments x)) bracket codes_of.BadSelector (row b at codes_of.ArgumentCount rest)) (ap (λ y. is_bad y) (wants_seen me x args) ∙ none_seen me (wants x args))
