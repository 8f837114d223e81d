-- What an expression is with what is seen, is what it is with all, seen.
use Rattle.std.specs.Prelude.{ℕ, ◌≡◌, false, ◌&&◌, ◌||◌, if◌then◌else◌, List, [], ◌∷◌, map, is_some, Option, Some, None, refl}
use Rattle.std.proofs.Common.{ap, ◌∙◌}
use Rattle.std.specs.Option.{option_map}
use Rattle.oberon_tree.specs.declared.leaf.Ident.{Ident}
use Rattle.oberon_tree.specs.declared.leaf.Member.{Member}
use Rattle.oberon_tree.specs.declared.leaf.Qualident.{Qualident}
use Rattle.oberon_tree.specs.declared.expression.Relator.{Relator}
use Rattle.oberon_tree.specs.declared.expression.Relator.TheVariants as relators
use Rattle.oberon_tree.specs.declared.expression.Signed.{Signed}
use Rattle.oberon_tree.specs.Trees.{ExprTree, expr_of, RelationTree, no_relation, relation_of, SimpleTree, simple_of, AddendsTree, no_addends, more_addends, TermTree, term_of, MultipliersTree, no_multipliers, more_multipliers, FactorTree, integer_factor, string_factor, true_factor, false_factor, set_factor, designator_factor, group_factor, negation_factor, set_of, ElementsTree, no_elements, some_elements, MoreElementsTree, no_more_elements, more_elements, ElementTree, element_of, no_upper, upper_of, DesignatorTree, designator_of, SelectorsTree, no_selectors, more_selectors, SelectorTree, field_selector, index_selector, call_selector, ArgumentsTree, no_arguments, some_arguments, ExprsTree, exprs_of, MoreExprsTree, no_more_exprs, more_exprs}
use Rattle.oberon_types.specs.Types.{TyTree, unknown_ty, integer_ty, byte_ty, char_ty, boolean_ty, set_ty, string_ty, array_ty, open_ty, record_ty}
use Rattle.oberon_types.specs.Sizes.{field_of}
use Rattle.oberon_types.specs.declared.value.Value.TheVariants as values
use Rattle.oberon_rules.specs.Scopes.{Access, Predeclared, abs_word, odd_word, len_word, lsl_word, asr_word, ror_word, ord_word, chr_word, inc_word, dec_word, incl_word, excl_word, assert_word, Meaning, unknown_meaning, constant_meaning, type_meaning, variable_meaning, procedure_meaning, word_meaning, import_meaning, Scopes}
use Rattle.oberon_rules.specs.Names.{name_is, member_is}
use Rattle.oberon_rules.specs.Operators.{operand_class, Outcome, no_outcome, whole_outcome, boolean_outcome, set_outcome, add_fits, mul_fits, sign_fits, not_fits, relation_fits}
use Rattle.oberon_rules.specs.Expressions.{Ex, nothing, a_value, a_variable, a_type, a_module, a_procedure, a_word, a_call, ex_of, ty_of, class_of, bare_simple, bare_expr, bare_type, qualident_meant, type_meant, member_meant, argument_type, part_of, is_extension, is_or_extends, is_var_parameter, test_of, is_unknown, is_whole, guarded, called_as, all_whole, is_ordinal, value_if, length_of, element_type, elements_type, indexed_type, or_unknown, outcome_is, signed_is, is_tested, expr_is, relation_is, simple_is, addends_are, term_is, multipliers_are, factor_is, elements_are, more_elements_are, element_is, designator_is, selectors_are, selected, word_called, arguments_are, exprs_are, more_exprs_are}
use Rattle.oberon_rules.specs.Views.{map_signature, map_view}
use Rattle.oberon_rules.proofs.Seen.{seen, unknown_seen, whole_seen, ordinal_seen, class_seen, element_seen, extension_seen, or_extends_seen, field_seen}
use Rattle.oberon_rules.proofs.AgreeNames.{choose, map_meaning, seen_scopes, name_is_seen, member_seen}

abbrev pub map_ex : (TyTree → TyTree) → Ex → Ex
map_ex h nothing = nothing
map_ex h (a_value t) = a_value (h t)
map_ex h (a_variable t a) = a_variable (h t) a
map_ex h (a_type t) = a_type (h t)
map_ex h (a_module v) = a_module (map_view h v)
map_ex h (a_procedure p) = a_procedure (map_signature h p)
map_ex h (a_word w) = a_word w
map_ex h a_call = a_call

pub ex_of_seen : (me : List ℕ) (m : Meaning) → ex_of (map_meaning (seen me) m) ≡ map_ex (seen me) (ex_of m)
ex_of_seen me unknown_meaning = refl
ex_of_seen me (constant_meaning (values.Integer n)) = refl
ex_of_seen me (constant_meaning (values.Char c)) = refl
ex_of_seen me (constant_meaning (values.Boolean b)) = refl
ex_of_seen me (constant_meaning (values.Set m)) = refl
ex_of_seen me (constant_meaning (values.Str x)) = refl
ex_of_seen me (type_meaning t) = refl
ex_of_seen me (variable_meaning t a) = refl
ex_of_seen me (procedure_meaning p) = refl
ex_of_seen me (word_meaning w) = refl
ex_of_seen me (import_meaning v) = refl

pub ty_of_seen : (me : List ℕ) (x : Ex) → ty_of (map_ex (seen me) x) ≡ seen me (ty_of x)
ty_of_seen me nothing = refl
ty_of_seen me (a_value t) = refl
ty_of_seen me (a_variable t a) = refl
ty_of_seen me (a_type t) = refl
ty_of_seen me (a_module v) = refl
ty_of_seen me (a_procedure p) = refl
ty_of_seen me (a_word w) = refl
ty_of_seen me a_call = refl

pub class_of_seen : (me : List ℕ) (x : Ex) → class_of (map_ex (seen me) x) ≡ class_of x
class_of_seen me x = ap (λ t. operand_class t) (ty_of_seen me x) ∙ class_seen me (ty_of x)

pub outcome_seen : (me : List ℕ) (o : Option Outcome) → outcome_is o ≡ map_ex (seen me) (outcome_is o)
outcome_seen me None = refl
outcome_seen me (Some no_outcome) = refl
outcome_seen me (Some whole_outcome) = refl
outcome_seen me (Some boolean_outcome) = refl
outcome_seen me (Some set_outcome) = refl

-- what two ways of looking give alike
outcomes : (me : List ℕ) (o p : Option Outcome) → o ≡ p → outcome_is o ≡ map_ex (seen me) (outcome_is p)
outcomes me o p e = ap (λ y. outcome_is y) e ∙ outcome_seen me p

type_meant_seen : (me : List ℕ) (m : Meaning) → type_meant (map_meaning (seen me) m) ≡ option_map (seen me) (type_meant m)
type_meant_seen me unknown_meaning = refl
type_meant_seen me (constant_meaning v) = refl
type_meant_seen me (type_meaning t) = refl
type_meant_seen me (variable_meaning t a) = refl
type_meant_seen me (procedure_meaning p) = refl
type_meant_seen me (word_meaning w) = refl
type_meant_seen me (import_meaning v) = refl

member_meant_seen : (me : List ℕ) (m : Meaning) (at : Ident) → member_meant (map_meaning (seen me) m) at ≡ option_map (seen me) (member_meant m at)
member_meant_seen me unknown_meaning at = refl
member_meant_seen me (constant_meaning v) at = refl
member_meant_seen me (type_meaning t) at = refl
member_meant_seen me (variable_meaning t a) at = refl
member_meant_seen me (procedure_meaning p) at = refl
member_meant_seen me (word_meaning w) at = refl
member_meant_seen me (import_meaning v) at = ap (λ m. type_meant m) (member_seen (seen me) (import_meaning v) at) ∙ type_meant_seen me (member_is (import_meaning v) at)

qualident_meant_seen : (me : List ℕ) (m : Meaning) (x : Option Member) → qualident_meant (map_meaning (seen me) m) x ≡ option_map (seen me) (qualident_meant m x)
qualident_meant_seen me m None = type_meant_seen me m
qualident_meant_seen me m (Some x) = member_meant_seen me m x.name

pub bare_type_seen : (me : List ℕ) (s : Scopes) (q : Option Qualident) → bare_type (seen_scopes me s) q ≡ option_map (seen me) (bare_type s q)
bare_type_seen me s None = refl
bare_type_seen me s (Some q) = ap (λ m. qualident_meant m q.member) (name_is_seen me s q.first.name) ∙ qualident_meant_seen me (name_is s q.first.name) q.member

pub argument_type_seen : (me : List ℕ) (s : Scopes) (a : ArgumentsTree) → argument_type (seen_scopes me s) a ≡ option_map (seen me) (argument_type s a)
argument_type_seen me s no_arguments = refl
argument_type_seen me s (some_arguments (exprs_of e no_more_exprs)) = bare_type_seen me s (bare_expr e)
argument_type_seen me s (some_arguments (exprs_of e (more_exprs comma f more))) = refl

pub var_parameter_seen : (me : List ℕ) (x : Ex) → is_var_parameter (map_ex (seen me) x) ≡ is_var_parameter x
var_parameter_seen me nothing = refl
var_parameter_seen me (a_value t) = refl
var_parameter_seen me (a_variable t a) = refl
var_parameter_seen me (a_type t) = refl
var_parameter_seen me (a_module v) = refl
var_parameter_seen me (a_procedure p) = refl
var_parameter_seen me (a_word w) = refl
var_parameter_seen me a_call = refl

pub is_tested_seen : (me : List ℕ) (x : Ex) (t : Option TyTree) → is_tested (map_ex (seen me) x) (option_map (seen me) t) ≡ is_tested x t
is_tested_seen me x None = refl
is_tested_seen me x (Some t) =
    ap (λ y. test_of (is_unknown (seen me t) || is_unknown y) (is_var_parameter (map_ex (seen me) x) && is_or_extends (seen me t) y)) (ty_of_seen me x)
    ∙ ap (λ y. test_of (y || is_unknown (seen me (ty_of x))) (is_var_parameter (map_ex (seen me) x) && is_or_extends (seen me t) (seen me (ty_of x)))) (unknown_seen me t)
    ∙ ap (λ y. test_of (is_unknown t || y) (is_var_parameter (map_ex (seen me) x) && is_or_extends (seen me t) (seen me (ty_of x)))) (unknown_seen me (ty_of x))
    ∙ ap (λ y. test_of (is_unknown t || is_unknown (ty_of x)) (y && is_or_extends (seen me t) (seen me (ty_of x)))) (var_parameter_seen me x)
    ∙ ap (λ y. test_of (is_unknown t || is_unknown (ty_of x)) (is_var_parameter x && y)) (or_extends_seen me t (ty_of x))

part_seen : (me : List ℕ) (a : Access) (t : Option TyTree) → part_of a (option_map (seen me) t) ≡ map_ex (seen me) (part_of a t)
part_seen me a None = refl
part_seen me a (Some t) = refl

pub or_unknown_seen : (me : List ℕ) (t : Option TyTree) → or_unknown (option_map (seen me) t) ≡ seen me (or_unknown t)
or_unknown_seen me None = refl
or_unknown_seen me (Some t) = refl

elements_seen : (me : List ℕ) (t : TyTree) (more : MoreExprsTree) → elements_type (seen me t) more ≡ option_map (seen me) (elements_type t more)
elements_seen me t no_more_exprs = element_seen me t
elements_seen me t (more_exprs comma e more) = ap (λ y. elements_type (or_unknown y) more) (element_seen me t) ∙ ap (λ y. elements_type y more) (or_unknown_seen me (element_type t)) ∙ elements_seen me (or_unknown (element_type t)) more

indexed_seen : (me : List ℕ) (t : TyTree) (es : ExprsTree) → indexed_type (seen me t) es ≡ option_map (seen me) (indexed_type t es)
indexed_seen me t (exprs_of e more) = elements_seen me t more

pub signed_seen : (me : List ℕ) (g : Option Signed) (x : Ex) → signed_is g (map_ex (seen me) x) ≡ map_ex (seen me) (signed_is g x)
signed_seen me None x = refl
signed_seen me (Some g) x = outcomes me _ _ (ap (λ c. sign_fits g.sign c) (class_of_seen me x))

whole_ex_seen : (me : List ℕ) (x : Ex) → is_whole (ty_of (map_ex (seen me) x)) ≡ is_whole (ty_of x)
whole_ex_seen me x = ap (λ t. is_whole t) (ty_of_seen me x) ∙ whole_seen me (ty_of x)

all_whole_seen : (me : List ℕ) (xs : List Ex) → all_whole (map (map_ex (seen me)) xs) ≡ all_whole xs
all_whole_seen me [] = refl
all_whole_seen me (x ∷ xs) = ap (λ y. y && all_whole (map (map_ex (seen me)) xs)) (whole_ex_seen me x) ∙ ap (λ y. is_whole (ty_of x) && y) (all_whole_seen me xs)

both_whole_seen : (me : List ℕ) (x y : Ex) → (is_whole (ty_of (map_ex (seen me) x)) && is_whole (ty_of (map_ex (seen me) y))) ≡ (is_whole (ty_of x) && is_whole (ty_of y))
both_whole_seen me x y = ap (λ b. b && is_whole (ty_of (map_ex (seen me) y))) (whole_ex_seen me x) ∙ ap (λ b. is_whole (ty_of x) && b) (whole_ex_seen me y)

ordinal_ex_seen : (me : List ℕ) (x : Ex) → is_ordinal (ty_of (map_ex (seen me) x)) ≡ is_ordinal (ty_of x)
ordinal_ex_seen me x = ap (λ t. is_ordinal t) (ty_of_seen me x) ∙ ordinal_seen me (ty_of x)

called_seen : (me : List ℕ) (t : Option TyTree) → called_as (option_map (seen me) t) ≡ map_ex (seen me) (called_as t)
called_seen me None = refl
called_seen me (Some t) = refl

typed : (me : List ℕ) (x y : Ex) → x ≡ map_ex (seen me) y → ty_of x ≡ seen me (ty_of y)
typed me x y e = ap (λ z. ty_of z) e ∙ ty_of_seen me y

compared : (o : Relator) (me : List ℕ) (s : Scopes) (x : Ex) (b : SimpleTree) → simple_is me (seen_scopes me s) b ≡ map_ex (seen me) (simple_is me s b)
    → outcome_is (relation_fits o (class_of (map_ex (seen me) x)) (class_of (simple_is me (seen_scopes me s) b))) ≡ map_ex (seen me) (outcome_is (relation_fits o (class_of x) (class_of (simple_is me s b))))
compared o me s x b e = outcomes me _ _ (ap (λ y. relation_fits o y (class_of (simple_is me (seen_scopes me s) b))) (class_of_seen me x) ∙ ap (λ y. relation_fits o (class_of x) (class_of y)) e ∙ ap (λ y. relation_fits o (class_of x) y) (class_of_seen me (simple_is me s b)))

pub some_seen : (me : List ℕ) (t : Option TyTree) → is_some (option_map (seen me) t) ≡ is_some t
some_seen me None = refl
some_seen me (Some t) = refl

length_seen : (me : List ℕ) (x : Ex) → length_of (map_ex (seen me) x) ≡ map_ex (seen me) (length_of x)
length_seen me nothing = refl
length_seen me (a_value t) = refl
length_seen me (a_variable t a) = ap (λ y. value_if (is_some y || is_unknown (seen me t)) integer_ty) (element_seen me t) ∙ ap (λ y. value_if (y || is_unknown (seen me t)) integer_ty) (some_seen me (element_type t)) ∙ ap (λ y. value_if (is_some (element_type t) || y) integer_ty) (unknown_seen me t) ∙ choose (map_ex (seen me)) (is_some (element_type t) || is_unknown t) (a_value integer_ty) nothing
length_seen me (a_type t) = refl
length_seen me (a_module v) = refl
length_seen me (a_procedure p) = refl
length_seen me (a_word w) = refl
length_seen me a_call = refl

word_seen : (me : List ℕ) (w : Predeclared) (xs : List Ex) → word_called w (map (map_ex (seen me)) xs) ≡ map_ex (seen me) (word_called w xs)
word_seen me abs_word [] = refl
word_seen me abs_word (x ∷ []) = ap (λ b. value_if b integer_ty) (whole_ex_seen me x) ∙ choose (map_ex (seen me)) (is_whole (ty_of x)) (a_value integer_ty) nothing
word_seen me abs_word (x ∷ y ∷ ys) = refl
word_seen me odd_word [] = refl
word_seen me odd_word (x ∷ []) = ap (λ b. value_if b boolean_ty) (whole_ex_seen me x) ∙ choose (map_ex (seen me)) (is_whole (ty_of x)) (a_value boolean_ty) nothing
word_seen me odd_word (x ∷ y ∷ ys) = refl
word_seen me chr_word [] = refl
word_seen me chr_word (x ∷ []) = ap (λ b. value_if b char_ty) (whole_ex_seen me x) ∙ choose (map_ex (seen me)) (is_whole (ty_of x)) (a_value char_ty) nothing
word_seen me chr_word (x ∷ y ∷ ys) = refl
word_seen me ord_word [] = refl
word_seen me ord_word (x ∷ []) = ap (λ b. value_if b integer_ty) (ordinal_ex_seen me x) ∙ choose (map_ex (seen me)) (is_ordinal (ty_of x)) (a_value integer_ty) nothing
word_seen me ord_word (x ∷ y ∷ ys) = refl
word_seen me len_word [] = refl
word_seen me len_word (x ∷ []) = length_seen me x
word_seen me len_word (x ∷ y ∷ ys) = refl
word_seen me lsl_word [] = refl
word_seen me lsl_word (x ∷ []) = refl
word_seen me lsl_word (x ∷ y ∷ []) = ap (λ b. value_if b integer_ty) (both_whole_seen me x y) ∙ choose (map_ex (seen me)) (is_whole (ty_of x) && is_whole (ty_of y)) (a_value integer_ty) nothing
word_seen me lsl_word (x ∷ y ∷ z ∷ zs) = refl
word_seen me asr_word [] = refl
word_seen me asr_word (x ∷ []) = refl
word_seen me asr_word (x ∷ y ∷ []) = ap (λ b. value_if b integer_ty) (both_whole_seen me x y) ∙ choose (map_ex (seen me)) (is_whole (ty_of x) && is_whole (ty_of y)) (a_value integer_ty) nothing
word_seen me asr_word (x ∷ y ∷ z ∷ zs) = refl
word_seen me ror_word [] = refl
word_seen me ror_word (x ∷ []) = refl
word_seen me ror_word (x ∷ y ∷ []) = ap (λ b. value_if b integer_ty) (both_whole_seen me x y) ∙ choose (map_ex (seen me)) (is_whole (ty_of x) && is_whole (ty_of y)) (a_value integer_ty) nothing
word_seen me ror_word (x ∷ y ∷ z ∷ zs) = refl
word_seen me inc_word xs = refl
word_seen me dec_word xs = refl
word_seen me incl_word xs = refl
word_seen me excl_word xs = refl
word_seen me assert_word xs = refl

guarded_seen : (me : List ℕ) (g : Option TyTree) (t : TyTree) → guarded (option_map (seen me) g) (seen me t) ≡ map_ex (seen me) (guarded g t)
guarded_seen me None t = refl
guarded_seen me (Some g) t = ap (λ y. if y then a_variable (seen me g) (record { read_only = false; by_var = false }) else nothing) (extension_seen me g t) ∙ choose (map_ex (seen me)) (is_extension g t) (a_variable g (record { read_only = false; by_var = false })) nothing

mutual
  pub expr_is_seen : (me : List ℕ) (s : Scopes) (e : ExprTree) → expr_is me (seen_scopes me s) e ≡ map_ex (seen me) (expr_is me s e)
  expr_is_seen me s (expr_of a r) = ap (λ x. relation_is me (seen_scopes me s) x r) (simple_is_seen me s a) ∙ relation_is_seen me s (simple_is me s a) r

  relation_is_seen : (me : List ℕ) (s : Scopes) (x : Ex) (r : RelationTree) → relation_is me (seen_scopes me s) (map_ex (seen me) x) r ≡ map_ex (seen me) (relation_is me s x r)
  relation_is_seen me s x no_relation = refl
  relation_is_seen me s x (relation_of relators.Is place b) = outcomes me _ _ (ap (λ y. is_tested (map_ex (seen me) x) y) (bare_type_seen me s (bare_simple b)) ∙ is_tested_seen me x (bare_type s (bare_simple b)))
  relation_is_seen me s x (relation_of relators.Equal place b) = compared relators.Equal me s x b (simple_is_seen me s b)
  relation_is_seen me s x (relation_of relators.Unequal place b) = compared relators.Unequal me s x b (simple_is_seen me s b)
  relation_is_seen me s x (relation_of relators.Less place b) = compared relators.Less me s x b (simple_is_seen me s b)
  relation_is_seen me s x (relation_of relators.LessEqual place b) = compared relators.LessEqual me s x b (simple_is_seen me s b)
  relation_is_seen me s x (relation_of relators.Greater place b) = compared relators.Greater me s x b (simple_is_seen me s b)
  relation_is_seen me s x (relation_of relators.GreaterEqual place b) = compared relators.GreaterEqual me s x b (simple_is_seen me s b)
  relation_is_seen me s x (relation_of relators.In place b) = compared relators.In me s x b (simple_is_seen me s b)

  pub simple_is_seen : (me : List ℕ) (s : Scopes) (a : SimpleTree) → simple_is me (seen_scopes me s) a ≡ map_ex (seen me) (simple_is me s a)
  simple_is_seen me s (simple_of sign first more) =
      ap (λ y. addends_are me (seen_scopes me s) (signed_is sign y) more) (term_is_seen me s first)
      ∙ ap (λ y. addends_are me (seen_scopes me s) y more) (signed_seen me sign (term_is me s first))
      ∙ addends_are_seen me s (signed_is sign (term_is me s first)) more

  addends_are_seen : (me : List ℕ) (s : Scopes) (x : Ex) (more : AddendsTree) → addends_are me (seen_scopes me s) (map_ex (seen me) x) more ≡ map_ex (seen me) (addends_are me s x more)
  addends_are_seen me s x no_addends = refl
  addends_are_seen me s x (more_addends o place b more) =
      ap (λ y. addends_are me (seen_scopes me s) (outcome_is (add_fits o y (class_of (term_is me (seen_scopes me s) b)))) more) (class_of_seen me x)
      ∙ ap (λ y. addends_are me (seen_scopes me s) (outcome_is (add_fits o (class_of x) (class_of y))) more) (term_is_seen me s b)
      ∙ ap (λ y. addends_are me (seen_scopes me s) (outcome_is (add_fits o (class_of x) y)) more) (class_of_seen me (term_is me s b))
      ∙ ap (λ y. addends_are me (seen_scopes me s) y more) (outcome_seen me (add_fits o (class_of x) (class_of (term_is me s b))))
      ∙ addends_are_seen me s (outcome_is (add_fits o (class_of x) (class_of (term_is me s b)))) more

  pub term_is_seen : (me : List ℕ) (s : Scopes) (a : TermTree) → term_is me (seen_scopes me s) a ≡ map_ex (seen me) (term_is me s a)
  term_is_seen me s (term_of first more) = ap (λ y. multipliers_are me (seen_scopes me s) y more) (factor_is_seen me s first) ∙ multipliers_are_seen me s (factor_is me s first) more

  multipliers_are_seen : (me : List ℕ) (s : Scopes) (x : Ex) (more : MultipliersTree) → multipliers_are me (seen_scopes me s) (map_ex (seen me) x) more ≡ map_ex (seen me) (multipliers_are me s x more)
  multipliers_are_seen me s x no_multipliers = refl
  multipliers_are_seen me s x (more_multipliers o place f more) =
      ap (λ y. multipliers_are me (seen_scopes me s) (outcome_is (mul_fits o y (class_of (factor_is me (seen_scopes me s) f)))) more) (class_of_seen me x)
      ∙ ap (λ y. multipliers_are me (seen_scopes me s) (outcome_is (mul_fits o (class_of x) (class_of y))) more) (factor_is_seen me s f)
      ∙ ap (λ y. multipliers_are me (seen_scopes me s) (outcome_is (mul_fits o (class_of x) y)) more) (class_of_seen me (factor_is me s f))
      ∙ ap (λ y. multipliers_are me (seen_scopes me s) y more) (outcome_seen me (mul_fits o (class_of x) (class_of (factor_is me s f))))
      ∙ multipliers_are_seen me s (outcome_is (mul_fits o (class_of x) (class_of (factor_is me s f)))) more

  pub factor_is_seen : (me : List ℕ) (s : Scopes) (f : FactorTree) → factor_is me (seen_scopes me s) f ≡ map_ex (seen me) (factor_is me s f)
  factor_is_seen me s (integer_factor n) = refl
  factor_is_seen me s (string_factor x) = refl
  factor_is_seen me s (true_factor place) = refl
  factor_is_seen me s (false_factor place) = refl
  factor_is_seen me s (set_factor (set_of a es b)) = ap (λ y. value_if (all_whole y) set_ty) (elements_are_seen me s es) ∙ ap (λ y. value_if y set_ty) (all_whole_seen me (elements_are me s es)) ∙ choose (map_ex (seen me)) (all_whole (elements_are me s es)) (a_value set_ty) nothing
  factor_is_seen me s (designator_factor d) = designator_is_seen me s d
  factor_is_seen me s (group_factor a e b) = ap (λ t. a_value t) (typed me _ _ (expr_is_seen me s e))
  factor_is_seen me s (negation_factor place f) = outcomes me _ _ (ap (λ y. not_fits (class_of y)) (factor_is_seen me s f) ∙ ap (λ y. not_fits y) (class_of_seen me (factor_is me s f)))

  elements_are_seen : (me : List ℕ) (s : Scopes) (es : ElementsTree) → elements_are me (seen_scopes me s) es ≡ map (map_ex (seen me)) (elements_are me s es)
  elements_are_seen me s no_elements = refl
  elements_are_seen me s (some_elements e more) = ap (λ y. element_is me (seen_scopes me s) e y) (more_elements_are_seen me s more) ∙ element_is_seen me s e (more_elements_are me s more)

  more_elements_are_seen : (me : List ℕ) (s : Scopes) (es : MoreElementsTree) → more_elements_are me (seen_scopes me s) es ≡ map (map_ex (seen me)) (more_elements_are me s es)
  more_elements_are_seen me s no_more_elements = refl
  more_elements_are_seen me s (more_elements comma e more) = ap (λ y. element_is me (seen_scopes me s) e y) (more_elements_are_seen me s more) ∙ element_is_seen me s e (more_elements_are me s more)

  element_is_seen : (me : List ℕ) (s : Scopes) (e : ElementTree) (rest : List Ex) → element_is me (seen_scopes me s) e (map (map_ex (seen me)) rest) ≡ map (map_ex (seen me)) (element_is me s e rest)
  element_is_seen me s (element_of e no_upper) rest = ap (λ y. y ∷ map (map_ex (seen me)) rest) (expr_is_seen me s e)
  element_is_seen me s (element_of e (upper_of dots f)) rest = ap (λ y. y ∷ expr_is me (seen_scopes me s) f ∷ map (map_ex (seen me)) rest) (expr_is_seen me s e) ∙ ap (λ y. map_ex (seen me) (expr_is me s e) ∷ y ∷ map (map_ex (seen me)) rest) (expr_is_seen me s f)

  pub designator_is_seen : (me : List ℕ) (s : Scopes) (d : DesignatorTree) → designator_is me (seen_scopes me s) d ≡ map_ex (seen me) (designator_is me s d)
  designator_is_seen me s (designator_of x sels) = ap (λ m. selectors_are me (seen_scopes me s) (ex_of m) sels) (name_is_seen me s x.name) ∙ ap (λ y. selectors_are me (seen_scopes me s) y sels) (ex_of_seen me (name_is s x.name)) ∙ selectors_are_seen me s (ex_of (name_is s x.name)) sels

  selectors_are_seen : (me : List ℕ) (s : Scopes) (x : Ex) (sels : SelectorsTree) → selectors_are me (seen_scopes me s) (map_ex (seen me) x) sels ≡ map_ex (seen me) (selectors_are me s x sels)
  selectors_are_seen me s x no_selectors = refl
  selectors_are_seen me s x (more_selectors sel more) = ap (λ y. selectors_are me (seen_scopes me s) y more) (selected_seen me s x sel) ∙ selectors_are_seen me s (selected me s x sel) more

  pub selected_seen : (me : List ℕ) (s : Scopes) (x : Ex) (sel : SelectorTree) → selected me (seen_scopes me s) (map_ex (seen me) x) sel ≡ map_ex (seen me) (selected me s x sel)
  selected_seen me s nothing (field_selector m) = refl
  selected_seen me s nothing (index_selector p es q) = refl
  selected_seen me s nothing (call_selector p args q) = refl
  selected_seen me s (a_value t) (field_selector m) = refl
  selected_seen me s (a_value t) (index_selector p es q) = refl
  selected_seen me s (a_value t) (call_selector p args q) = refl
  selected_seen me s (a_type t) (field_selector m) = refl
  selected_seen me s (a_type t) (index_selector p es q) = refl
  selected_seen me s (a_type t) (call_selector p args q) = refl
  selected_seen me s a_call (field_selector m) = refl
  selected_seen me s a_call (index_selector p es q) = refl
  selected_seen me s a_call (call_selector p args q) = refl
  selected_seen me s (a_module v) (field_selector m) = ap (λ y. ex_of y) (member_seen (seen me) (import_meaning v) m.name) ∙ ex_of_seen me (member_is (import_meaning v) m.name)
  selected_seen me s (a_module v) (index_selector p es q) = refl
  selected_seen me s (a_module v) (call_selector p args q) = refl
  selected_seen me s (a_procedure y) (field_selector m) = refl
  selected_seen me s (a_procedure y) (index_selector p es q) = refl
  selected_seen me s (a_procedure y) (call_selector p args q) = called_seen me y.result_type
  selected_seen me s (a_word w) (field_selector m) = refl
  selected_seen me s (a_word w) (index_selector p es q) = refl
  selected_seen me s (a_word w) (call_selector p args q) = ap (λ y. word_called w y) (arguments_are_seen me s args) ∙ word_seen me w (arguments_are me s args)
  selected_seen me s (a_variable unknown_ty a) (field_selector m) = refl
  selected_seen me s (a_variable unknown_ty a) (index_selector p es q) = ap (λ y. part_of a y) (indexed_seen me unknown_ty es) ∙ part_seen me a (indexed_type unknown_ty es)
  selected_seen me s (a_variable unknown_ty a) (call_selector p args q) = refl
  selected_seen me s (a_variable integer_ty a) (field_selector m) = refl
  selected_seen me s (a_variable integer_ty a) (index_selector p es q) = ap (λ y. part_of a y) (indexed_seen me integer_ty es) ∙ part_seen me a (indexed_type integer_ty es)
  selected_seen me s (a_variable integer_ty a) (call_selector p args q) = refl
  selected_seen me s (a_variable byte_ty a) (field_selector m) = refl
  selected_seen me s (a_variable byte_ty a) (index_selector p es q) = ap (λ y. part_of a y) (indexed_seen me byte_ty es) ∙ part_seen me a (indexed_type byte_ty es)
  selected_seen me s (a_variable byte_ty a) (call_selector p args q) = refl
  selected_seen me s (a_variable char_ty a) (field_selector m) = refl
  selected_seen me s (a_variable char_ty a) (index_selector p es q) = ap (λ y. part_of a y) (indexed_seen me char_ty es) ∙ part_seen me a (indexed_type char_ty es)
  selected_seen me s (a_variable char_ty a) (call_selector p args q) = refl
  selected_seen me s (a_variable boolean_ty a) (field_selector m) = refl
  selected_seen me s (a_variable boolean_ty a) (index_selector p es q) = ap (λ y. part_of a y) (indexed_seen me boolean_ty es) ∙ part_seen me a (indexed_type boolean_ty es)
  selected_seen me s (a_variable boolean_ty a) (call_selector p args q) = refl
  selected_seen me s (a_variable set_ty a) (field_selector m) = refl
  selected_seen me s (a_variable set_ty a) (index_selector p es q) = ap (λ y. part_of a y) (indexed_seen me set_ty es) ∙ part_seen me a (indexed_type set_ty es)
  selected_seen me s (a_variable set_ty a) (call_selector p args q) = refl
  selected_seen me s (a_variable (string_ty n) a) (field_selector m) = refl
  selected_seen me s (a_variable (string_ty n) a) (index_selector p es q) = ap (λ y. part_of a y) (indexed_seen me (string_ty n) es) ∙ part_seen me a (indexed_type (string_ty n) es)
  selected_seen me s (a_variable (string_ty n) a) (call_selector p args q) = refl
  selected_seen me s (a_variable (array_ty n u) a) (field_selector m) = refl
  selected_seen me s (a_variable (array_ty n u) a) (index_selector p es q) = ap (λ y. part_of a y) (indexed_seen me (array_ty n u) es) ∙ part_seen me a (indexed_type (array_ty n u) es)
  selected_seen me s (a_variable (array_ty n u) a) (call_selector p args q) = refl
  selected_seen me s (a_variable (open_ty u) a) (field_selector m) = refl
  selected_seen me s (a_variable (open_ty u) a) (index_selector p es q) = ap (λ y. part_of a y) (indexed_seen me (open_ty u) es) ∙ part_seen me a (indexed_type (open_ty u) es)
  selected_seen me s (a_variable (open_ty u) a) (call_selector p args q) = refl
  selected_seen me s (a_variable (record_ty r) a) (field_selector m) = ap (λ y. part_of a y) (field_seen me m.name.name r) ∙ part_seen me a (field_of me m.name.name r)
  selected_seen me s (a_variable (record_ty r) a) (index_selector p es q) = ap (λ y. part_of a y) (indexed_seen me (record_ty r) es) ∙ part_seen me a (indexed_type (record_ty r) es)
  selected_seen me s (a_variable (record_ty r) a) (call_selector p args q) = ap (λ y. if a.by_var then guarded y (seen me (record_ty r)) else nothing) (argument_type_seen me s args) ∙ ap (λ y. if a.by_var then y else nothing) (guarded_seen me (argument_type s args) (record_ty r)) ∙ choose (map_ex (seen me)) a.by_var (guarded (argument_type s args) (record_ty r)) nothing

  arguments_are_seen : (me : List ℕ) (s : Scopes) (args : ArgumentsTree) → arguments_are me (seen_scopes me s) args ≡ map (map_ex (seen me)) (arguments_are me s args)
  arguments_are_seen me s no_arguments = refl
  arguments_are_seen me s (some_arguments es) = exprs_are_seen me s es

  exprs_are_seen : (me : List ℕ) (s : Scopes) (es : ExprsTree) → exprs_are me (seen_scopes me s) es ≡ map (map_ex (seen me)) (exprs_are me s es)
  exprs_are_seen me s (exprs_of e more) = ap (λ y. y ∷ more_exprs_are me (seen_scopes me s) more) (expr_is_seen me s e) ∙ ap (λ y. map_ex (seen me) (expr_is me s e) ∷ y) (more_exprs_are_seen me s more)

  more_exprs_are_seen : (me : List ℕ) (s : Scopes) (more : MoreExprsTree) → more_exprs_are me (seen_scopes me s) more ≡ map (map_ex (seen me)) (more_exprs_are me s more)
  more_exprs_are_seen me s no_more_exprs = refl
  more_exprs_are_seen me s (more_exprs comma e more) = ap (λ y. y ∷ more_exprs_are me (seen_scopes me s) more) (expr_is_seen me s e) ∙ ap (λ y. map_ex (seen me) (expr_is me s e) ∷ y) (more_exprs_are_seen me s more)
