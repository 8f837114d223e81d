-- What expressions and designators are (section 8). What is said of them stands in ExpressionRules. `me` is the stem
-- of the module whose text this is: it says which fields are visible.
use Rattle.std.specs.Prelude.{ℕ, ◌==◌, Bool, true, false, ◌&&◌, ◌||◌, if◌then◌else◌, List, [], ◌∷◌, length, is_some, Option, Some, None}
use Rattle.oberon_tree.specs.declared.leaf.Ident.{Ident}
use Rattle.oberon_tree.specs.declared.leaf.Member.{Member}
use Rattle.oberon_tree.specs.declared.leaf.Qualident.{Qualident}
use Rattle.oberon_tree.specs.declared.expression.Relator.TheVariants as relators
use Rattle.oberon_tree.specs.declared.expression.Signed.{Signed}
use Rattle.oberon_tree.specs.Trees.{ExprTree, expr_of, RelationTree, no_relation, relation_of, SimpleTree, simple_of, AddendsTree, no_addends, more_addends, TermTree, term_of, MultipliersTree, no_multipliers, more_multipliers, FactorTree, integer_factor, string_factor, true_factor, false_factor, set_factor, designator_factor, group_factor, negation_factor, set_of, ElementsTree, no_elements, some_elements, MoreElementsTree, no_more_elements, more_elements, ElementTree, element_of, no_upper, upper_of, DesignatorTree, designator_of, SelectorsTree, no_selectors, more_selectors, SelectorTree, field_selector, index_selector, call_selector, ArgumentsTree, no_arguments, some_arguments, ExprsTree, exprs_of, MoreExprsTree, no_more_exprs, more_exprs}
use Rattle.oberon_types.specs.declared.value.Value.{Value}
use Rattle.oberon_types.specs.declared.value.Value.TheVariants as values
use Rattle.oberon_types.specs.Types.{TyTree, unknown_ty, integer_ty, byte_ty, char_ty, boolean_ty, set_ty, string_ty, array_ty, open_ty, record_ty, same_origin, origin_of, extends}
use Rattle.oberon_types.specs.Sizes.{field_of}
use Rattle.oberon_types.specs.Entities.{SignatureTree, ViewTree}
use Rattle.oberon_rules.specs.Scopes.{Access, Predeclared, abs_word, odd_word, len_word, lsl_word, asr_word, ror_word, ord_word, chr_word, inc_word, dec_word, incl_word, excl_word, assert_word, Meaning, unknown_meaning, constant_meaning, type_meaning, variable_meaning, procedure_meaning, word_meaning, import_meaning, Scopes}
use Rattle.oberon_rules.specs.Names.{name_is, member_is}
use Rattle.oberon_rules.specs.Operators.{Class, operand_class, add_fits, mul_fits, sign_fits, not_fits, relation_fits, Outcome, no_outcome, whole_outcome, boolean_outcome, set_outcome}

-- ---- what an expression is

-- Of what is unknown nothing more is said. A call of a declared function and an expression in parentheses are values,
-- even where their type is unknown. A procedure and a predeclared word are not called; a call is one of a proper
-- procedure.
pub data Ex : Type 0 where
  nothing : Ex
  a_value : TyTree → Ex
  a_variable : TyTree → Access → Ex
  a_type : TyTree → Ex
  a_module : ViewTree → Ex
  a_procedure : SignatureTree → Ex
  a_word : Predeclared → Ex
  a_call : Ex

abbrev pub type_of_value : Value → TyTree
type_of_value (values.Integer n) = integer_ty
type_of_value (values.Char c) = char_ty
type_of_value (values.Boolean b) = boolean_ty
type_of_value (values.Set m) = set_ty
type_of_value (values.Str x) = string_ty (length x)

abbrev pub ex_of : Meaning → Ex
ex_of unknown_meaning = nothing
ex_of (constant_meaning v) = a_value (type_of_value v)
ex_of (type_meaning t) = a_type t
ex_of (variable_meaning t a) = a_variable t a
ex_of (procedure_meaning p) = a_procedure p
ex_of (word_meaning w) = a_word w
ex_of (import_meaning v) = a_module v

abbrev pub ty_of : Ex → TyTree
ty_of (a_value t) = t
ty_of (a_variable t a) = t
ty_of _ = unknown_ty

abbrev pub class_of : Ex → Class
class_of x = operand_class (ty_of x)

abbrev pub is_unknown : TyTree → Bool
is_unknown unknown_ty = true
is_unknown _ = false

abbrev pub is_whole : TyTree → Bool
is_whole integer_ty = true
is_whole byte_ty = true
is_whole _ = false

abbrev pub value_if : Bool → TyTree → Ex
value_if b t = if b then a_value t else nothing

-- an operator whose operands don't fit, or are unknown, makes an unknown expression
abbrev pub outcome_is : Option Outcome → Ex
outcome_is None = nothing
outcome_is (Some no_outcome) = nothing
outcome_is (Some whole_outcome) = a_value integer_ty
outcome_is (Some boolean_outcome) = a_value boolean_ty
outcome_is (Some set_outcome) = a_value set_ty

abbrev pub signed_is : Option Signed → Ex → Ex
signed_is None x = x
signed_is (Some g) x = outcome_is (sign_fits g.sign (class_of x))

-- ---- a name alone, where a type may be meant

abbrev pub bare_designator : Ident → SelectorsTree → Option Qualident
bare_designator x no_selectors = Some (record { first = x; member = None })
bare_designator x (more_selectors (field_selector m) no_selectors) = Some (record { first = x; member = Some m })
bare_designator x _ = None

abbrev pub bare_simple : SimpleTree → Option Qualident
bare_simple (simple_of None (term_of (designator_factor (designator_of x sels)) no_multipliers) no_addends) = bare_designator x sels
bare_simple _ = None

abbrev pub bare_expr : ExprTree → Option Qualident
bare_expr (expr_of a no_relation) = bare_simple a
bare_expr _ = None

abbrev pub type_meant : Meaning → Option TyTree
type_meant (type_meaning t) = Some t
type_meant unknown_meaning = Some unknown_ty
type_meant _ = None

abbrev pub member_meant : Meaning → Ident → Option TyTree
member_meant (import_meaning v) at = type_meant (member_is (import_meaning v) at)
member_meant unknown_meaning at = Some unknown_ty
member_meant _ at = None

abbrev pub qualident_meant : Meaning → Option Member → Option TyTree
qualident_meant m None = type_meant m
qualident_meant m (Some x) = member_meant m x.name

-- Some: the type that the name means, or an unknown one where nobody knows. None: it means no type.
abbrev pub bare_type : Scopes → Option Qualident → Option TyTree
bare_type s None = None
bare_type s (Some q) = qualident_meant (name_is s q.first.name) q.member

abbrev pub argument_type : Scopes → ArgumentsTree → Option TyTree
argument_type s (some_arguments (exprs_of e no_more_exprs)) = bare_type s (bare_expr e)
argument_type s _ = None

-- ---- the left side of IS, and the type behind it

-- the type itself, or an extension
abbrev pub is_or_extends : TyTree → TyTree → Bool
is_or_extends (record_ty r) (record_ty q) = same_origin (origin_of r) (origin_of q) || extends r (origin_of q)
is_or_extends _ _ = false

abbrev pub is_var_parameter : Ex → Bool
is_var_parameter (a_variable t a) = a.by_var
is_var_parameter _ = false

-- a VAR record parameter, and the name of its own type or of an extension
abbrev pub test_of : Bool → Bool → Option Outcome
test_of true fits = Some no_outcome
test_of false true = Some boolean_outcome
test_of false false = None

abbrev pub is_tested : Ex → Option TyTree → Option Outcome
is_tested x None = None
is_tested x (Some t) = test_of (is_unknown t || is_unknown (ty_of x)) (is_var_parameter x && is_or_extends t (ty_of x))

-- ---- selectors

abbrev pub part_access : Access → Access
part_access a = record { read_only = a.read_only; by_var = false }

abbrev pub part_of : Access → Option TyTree → Ex
part_of a None = nothing
part_of a (Some t) = a_variable t (part_access a)

-- an extension, and not the type itself
abbrev pub is_extension : TyTree → TyTree → Bool
is_extension (record_ty r) (record_ty q) = extends r (origin_of q)
is_extension _ _ = false

-- behind a guard a variable is of the named type, and no parameter any more
abbrev pub guarded : Option TyTree → TyTree → Ex
guarded None t = nothing
guarded (Some g) t = if is_extension g t then a_variable g (record { read_only = false; by_var = false }) else nothing

abbrev pub called_as : Option TyTree → Ex
called_as None = a_call
called_as (Some t) = a_value t

abbrev pub called : SignatureTree → Ex
called p = called_as p.result_type

abbrev pub element_type : TyTree → Option TyTree
element_type (array_ty n t) = Some t
element_type (open_ty t) = Some t
element_type _ = None

abbrev pub or_unknown : Option TyTree → TyTree
or_unknown None = unknown_ty
or_unknown (Some t) = t

-- behind so many indices
abbrev pub elements_type : TyTree → MoreExprsTree → Option TyTree
elements_type t no_more_exprs = element_type t
elements_type t (more_exprs comma e more) = elements_type (or_unknown (element_type t)) more

abbrev pub indexed_type : TyTree → ExprsTree → Option TyTree
indexed_type t (exprs_of e more) = elements_type t more

-- ---- calls of predeclared procedures (section 10.2), by what their arguments are

abbrev pub all_whole : List Ex → Bool
all_whole [] = true
all_whole (x ∷ xs) = is_whole (ty_of x) && all_whole xs

abbrev pub is_ordinal : TyTree → Bool
is_ordinal char_ty = true
is_ordinal (string_ty n) = n == 1
is_ordinal boolean_ty = true
is_ordinal set_ty = true
is_ordinal _ = false

abbrev pub length_of : Ex → Ex
length_of (a_variable t a) = value_if (is_some (element_type t) || is_unknown t) integer_ty
length_of _ = nothing

-- a function whose arguments don't fit, are unknown or are of the wrong number makes an unknown expression
abbrev pub word_called : Predeclared → List Ex → Ex
word_called abs_word (x ∷ []) = value_if (is_whole (ty_of x)) integer_ty
word_called odd_word (x ∷ []) = value_if (is_whole (ty_of x)) boolean_ty
word_called chr_word (x ∷ []) = value_if (is_whole (ty_of x)) char_ty
word_called ord_word (x ∷ []) = value_if (is_ordinal (ty_of x)) integer_ty
word_called len_word (x ∷ []) = length_of x
word_called lsl_word (x ∷ y ∷ []) = value_if (is_whole (ty_of x) && is_whole (ty_of y)) integer_ty
word_called asr_word (x ∷ y ∷ []) = value_if (is_whole (ty_of x) && is_whole (ty_of y)) integer_ty
word_called ror_word (x ∷ y ∷ []) = value_if (is_whole (ty_of x) && is_whole (ty_of y)) integer_ty
word_called inc_word _ = a_call
word_called dec_word _ = a_call
word_called incl_word _ = a_call
word_called excl_word _ = a_call
word_called assert_word _ = a_call
word_called _ _ = nothing

-- ---- expressions

abbrev mutual
  pub expr_is : List ℕ → Scopes → ExprTree → Ex
  expr_is me s (expr_of a r) = relation_is me s (simple_is me s a) r

  pub relation_is : List ℕ → Scopes → Ex → RelationTree → Ex
  relation_is me s x no_relation = x
  relation_is me s x (relation_of relators.Is place b) = outcome_is (is_tested x (bare_type s (bare_simple b)))
  relation_is me s x (relation_of o place b) = outcome_is (relation_fits o (class_of x) (class_of (simple_is me s b)))

  pub simple_is : List ℕ → Scopes → SimpleTree → Ex
  simple_is me s (simple_of sign first more) = addends_are me s (signed_is sign (term_is me s first)) more

  pub addends_are : List ℕ → Scopes → Ex → AddendsTree → Ex
  addends_are me s x no_addends = x
  addends_are me s x (more_addends o place b more) = addends_are me s (outcome_is (add_fits o (class_of x) (class_of (term_is me s b)))) more

  pub term_is : List ℕ → Scopes → TermTree → Ex
  term_is me s (term_of first more) = multipliers_are me s (factor_is me s first) more

  pub multipliers_are : List ℕ → Scopes → Ex → MultipliersTree → Ex
  multipliers_are me s x no_multipliers = x
  multipliers_are me s x (more_multipliers o place f more) = multipliers_are me s (outcome_is (mul_fits o (class_of x) (class_of (factor_is me s f)))) more

  pub factor_is : List ℕ → Scopes → FactorTree → Ex
  factor_is me s (integer_factor n) = a_value integer_ty
  factor_is me s (string_factor x) = a_value (string_ty (length x.value))
  factor_is me s (true_factor place) = a_value boolean_ty
  factor_is me s (false_factor place) = a_value boolean_ty
  factor_is me s (set_factor (set_of a es b)) = value_if (all_whole (elements_are me s es)) set_ty
  factor_is me s (designator_factor d) = designator_is me s d
  factor_is me s (group_factor a e b) = a_value (ty_of (expr_is me s e))
  factor_is me s (negation_factor place f) = outcome_is (not_fits (class_of (factor_is me s f)))

  pub elements_are : List ℕ → Scopes → ElementsTree → List Ex
  elements_are me s no_elements = []
  elements_are me s (some_elements e more) = element_is me s e (more_elements_are me s more)

  pub more_elements_are : List ℕ → Scopes → MoreElementsTree → List Ex
  more_elements_are me s no_more_elements = []
  more_elements_are me s (more_elements comma e more) = element_is me s e (more_elements_are me s more)

  pub element_is : List ℕ → Scopes → ElementTree → List Ex → List Ex
  element_is me s (element_of e no_upper) rest = expr_is me s e ∷ rest
  element_is me s (element_of e (upper_of dots f)) rest = expr_is me s e ∷ expr_is me s f ∷ rest

  pub designator_is : List ℕ → Scopes → DesignatorTree → Ex
  designator_is me s (designator_of x sels) = selectors_are me s (ex_of (name_is s x.name)) sels

  pub selectors_are : List ℕ → Scopes → Ex → SelectorsTree → Ex
  selectors_are me s x no_selectors = x
  selectors_are me s x (more_selectors sel more) = selectors_are me s (selected me s x sel) more

  pub selected : List ℕ → Scopes → Ex → SelectorTree → Ex
  selected me s (a_module v) (field_selector m) = ex_of (member_is (import_meaning v) m.name)
  selected me s (a_variable (record_ty r) a) (field_selector m) = part_of a (field_of me m.name.name r)
  selected me s (a_variable t a) (index_selector p es q) = part_of a (indexed_type t es)
  selected me s (a_variable (record_ty r) a) (call_selector p args q) = if a.by_var then guarded (argument_type s args) (record_ty r) else nothing
  selected me s (a_procedure p) (call_selector a args b) = called p
  selected me s (a_word w) (call_selector a args b) = word_called w (arguments_are me s args)
  selected me s _ _ = nothing

  pub arguments_are : List ℕ → Scopes → ArgumentsTree → List Ex
  arguments_are me s no_arguments = []
  arguments_are me s (some_arguments es) = exprs_are me s es

  pub exprs_are : List ℕ → Scopes → ExprsTree → List Ex
  exprs_are me s (exprs_of e more) = expr_is me s e ∷ more_exprs_are me s more

  pub more_exprs_are : List ℕ → Scopes → MoreExprsTree → List Ex
  more_exprs_are me s no_more_exprs = []
  more_exprs_are me s (more_exprs comma e more) = expr_is me s e ∷ more_exprs_are me s more
