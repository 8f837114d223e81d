-- What is said of expressions and designators: where their rules are broken, and which names resolve to imports. Each
-- function stands in front of what is said behind it.
use Rattle.std.specs.Prelude.{ℕ, ◌+◌, ◌==◌, Bool, true, false, ◌&&◌, ◌||◌, not, if◌then◌else◌, List, [], ◌∷◌, length, map, Option, Some, None}
use Rattle.ob_text.specs.declared.code.Code.TheVariants as codes_of
use Rattle.ob_text.specs.declared.span.Span.{Span}
use Rattle.oberon_tree.specs.declared.leaf.Ident.{Ident}
use Rattle.oberon_tree.specs.declared.leaf.Member.{Member}
use Rattle.oberon_tree.specs.declared.expression.Relator.TheVariants as relators
use Rattle.oberon_tree.specs.declared.expression.Signed.{Signed}
use Rattle.oberon_tree.specs.FirstSpans.{first_of_expr, first_of_simple, first_of_term, first_of_factor}
use Rattle.oberon_tree.specs.Trees.{ExprTree, expr_of, RelationTree, no_relation, relation_of, SimpleTree, simple_of, AddendsTree, no_addends, more_addends, TermTree, term_of, MultipliersTree, no_multipliers, more_multipliers, FactorTree, integer_factor, string_factor, true_factor, false_factor, set_factor, designator_factor, group_factor, negation_factor, set_of, ElementsTree, no_elements, some_elements, MoreElementsTree, no_more_elements, more_elements, ElementTree, element_of, UpperTree, no_upper, upper_of, DesignatorTree, designator_of, SelectorsTree, no_selectors, more_selectors, SelectorTree, field_selector, index_selector, call_selector, ArgumentsTree, no_arguments, some_arguments, ExprsTree, exprs_of, MoreExprsTree, no_more_exprs, more_exprs}
use Rattle.oberon_types.specs.Types.{TyTree, unknown_ty, integer_ty, char_ty, boolean_ty, set_ty, string_ty, array_ty, open_ty, record_ty, same_type, assignable}
use Rattle.oberon_types.specs.Sizes.{field_of}
use Rattle.oberon_types.specs.Entities.{ParamTree}
use Rattle.oberon_rules.specs.Scopes.{Predeclared, abs_word, odd_word, len_word, lsl_word, asr_word, ror_word, ord_word, chr_word, inc_word, dec_word, incl_word, excl_word, assert_word, import_meaning, Scopes, Said, broken, row}
use Rattle.oberon_rules.specs.Names.{name_is, name_says, member_says}
use Rattle.oberon_rules.specs.Operators.{add_fits, mul_fits, sign_fits, not_fits, relation_fits, is_bad}
use Rattle.oberon_rules.specs.Expressions.{Ex, nothing, a_value, a_variable, a_type, a_module, a_procedure, a_word, a_call, ex_of, ty_of, class_of, is_unknown, outcome_is, signed_is, bare_simple, bare_type, argument_type, is_tested, is_extension, is_or_extends, element_type, or_unknown, is_ordinal, expr_is, simple_is, term_is, factor_is, selected}

-- ---- rows

-- Where a value is wanted a type or a module is no variable, and a procedure that isn't called, or that gives no
-- value, is a bad call.
abbrev pub value_row : Ex → Span → List Said → List Said
value_row (a_type t) place rest = broken place codes_of.NotVariable None ∷ rest
value_row (a_module v) place rest = broken place codes_of.NotVariable None ∷ rest
value_row (a_procedure p) place rest = broken place codes_of.BadCall None ∷ rest
value_row (a_word w) place rest = broken place codes_of.BadCall None ∷ rest
value_row a_call place rest = broken place codes_of.BadCall None ∷ rest
value_row _ place rest = rest

abbrev pub whole_row : Ex → Span → List Said → List Said
whole_row x place rest = row (not (assignable (ty_of x) integer_ty)) place codes_of.NotInteger rest

abbrev pub left_row : RelationTree → Ex → Span → List Said → List Said
left_row no_relation x place rest = rest
left_row (relation_of o at b) x place rest = value_row x place rest

-- where no type is named a value is wanted
abbrev pub unless_type : Option TyTree → Ex → Span → List Said → List Said
unless_type None x place rest = value_row x place rest
unless_type (Some t) x place rest = rest

abbrev pub is_known : Ex → Bool
is_known x = not (is_unknown (ty_of x))

abbrev pub is_bad_test : Ex → Option TyTree → Ex → Bool
is_bad_test x None y = is_known x && is_known y
is_bad_test x (Some t) y = is_bad (is_tested x (Some t))

abbrev pub sign_row : Option Signed → Ex → List Said → List Said
sign_row None x rest = rest
sign_row (Some g) x rest = row (is_bad (sign_fits g.sign (class_of x))) g.span codes_of.BadOperand rest

-- ---- arguments

-- what an argument has to be
pub data Wanted : Type 0 where
  a_param : ParamTree → Wanted
  an_ordinal : Wanted
  a_whole_variable : Wanted
  a_set_variable : Wanted
  an_array : Wanted

abbrev pub by_value : TyTree → Wanted
by_value t = a_param (record { by_var = false; ty = t })

abbrev pub one_wanted : ℕ → Wanted → Option (List Wanted)
one_wanted n v = if n == 1 then Some (v ∷ []) else None

abbrev pub two_wanted : ℕ → Wanted → Wanted → Option (List Wanted)
two_wanted n v w = if n == 2 then Some (v ∷ w ∷ []) else None

abbrev pub one_or_two : ℕ → Wanted → Wanted → Option (List Wanted)
one_or_two n v w = if n == 1 then Some (v ∷ []) else two_wanted n v w

-- what n arguments have to be; None: it doesn't take so many
abbrev pub word_wants : Predeclared → ℕ → Option (List Wanted)
word_wants abs_word n = one_wanted n (by_value integer_ty)
word_wants odd_word n = one_wanted n (by_value integer_ty)
word_wants chr_word n = one_wanted n (by_value integer_ty)
word_wants ord_word n = one_wanted n an_ordinal
word_wants len_word n = one_wanted n an_array
word_wants lsl_word n = two_wanted n (by_value integer_ty) (by_value integer_ty)
word_wants asr_word n = two_wanted n (by_value integer_ty) (by_value integer_ty)
word_wants ror_word n = two_wanted n (by_value integer_ty) (by_value integer_ty)
word_wants inc_word n = one_or_two n a_whole_variable (by_value integer_ty)
word_wants dec_word n = one_or_two n a_whole_variable (by_value integer_ty)
word_wants incl_word n = two_wanted n a_set_variable (by_value integer_ty)
word_wants excl_word n = two_wanted n a_set_variable (by_value integer_ty)
word_wants assert_word n = one_wanted n (by_value boolean_ty)

abbrev more_count : MoreExprsTree → ℕ
more_count no_more_exprs = 0
more_count (more_exprs comma e more) = 1 + more_count more

abbrev pub argument_count : ArgumentsTree → ℕ
argument_count no_arguments = 0
argument_count (some_arguments (exprs_of e more)) = 1 + more_count more

abbrev pub wants : Ex → ArgumentsTree → Option (List Wanted)
wants (a_procedure p) args = if argument_count args == length p.params then Some (map (λ (q : ParamTree). a_param q) p.params) else None
wants (a_word w) args = word_wants w (argument_count args)
wants _ args = Some []

abbrev pub or_none : Option (List Wanted) → List Wanted
or_none None = []
or_none (Some ws) = ws

abbrev pub first_wanted : List Wanted → Option Wanted
first_wanted [] = None
first_wanted (w ∷ ws) = Some w

abbrev pub later_wanted : List Wanted → List Wanted
later_wanted [] = []
later_wanted (w ∷ ws) = ws

abbrev pub elements_same : TyTree → TyTree → Bool
elements_same (array_ty n t) u = same_type t u
elements_same (open_ty t) u = same_type t u
elements_same unknown_ty u = true
elements_same _ u = false

-- a variable of the first type for a VAR parameter of the second
abbrev pub var_fits : TyTree → TyTree → Bool
var_fits unknown_ty t = true
var_fits t unknown_ty = true
var_fits t (open_ty u) = elements_same t u
var_fits (record_ty r) t = is_or_extends (record_ty r) t
var_fits t u = same_type t u

abbrev pub is_char : TyTree → Bool
is_char char_ty = true
is_char unknown_ty = true
is_char _ = false

-- a value of the first type for a value parameter of the second
abbrev pub value_fits : TyTree → TyTree → Bool
value_fits (string_ty n) (open_ty u) = is_char u
value_fits t (open_ty u) = elements_same t u
value_fits t u = assignable t u

-- a variable is changed here: what is none, what is read-only, and what doesn't fit
abbrev pub changed_rows : Ex → Bool → Span → List Said → List Said
changed_rows (a_variable t a) fits place rest = row a.read_only place codes_of.ReadOnly (row (not fits) place codes_of.BadArgument rest)
changed_rows (a_value t) fits place rest = broken place codes_of.NotVariable None ∷ rest
changed_rows _ fits place rest = rest

abbrev pub is_array : TyTree → Bool
is_array (array_ty n t) = true
is_array (open_ty t) = true
is_array unknown_ty = true
is_array _ = false

abbrev pub array_rows : Ex → Span → List Said → List Said
array_rows (a_variable t a) place rest = row (not (is_array t)) place codes_of.BadArgument rest
array_rows (a_value t) place rest = broken place codes_of.NotVariable None ∷ rest
array_rows _ place rest = rest

abbrev pub wanted_rows : Wanted → Ex → Span → List Said → List Said
wanted_rows (a_param p) x place rest = if p.by_var then changed_rows x (var_fits (ty_of x) p.ty) place rest else row (not (value_fits (ty_of x) p.ty)) place codes_of.BadArgument rest
wanted_rows an_ordinal x place rest = row (not (is_unknown (ty_of x) || is_ordinal (ty_of x))) place codes_of.BadArgument rest
wanted_rows a_whole_variable x place rest = changed_rows x (assignable (ty_of x) integer_ty) place rest
wanted_rows a_set_variable x place rest = changed_rows x (same_type (ty_of x) set_ty) place rest
wanted_rows an_array x place rest = array_rows x place rest

-- what isn't compared is examined only
abbrev pub argument_rows : Option Wanted → Ex → Span → List Said → List Said
argument_rows None x place rest = rest
argument_rows (Some w) x place rest = value_row x place (wanted_rows w x place rest)

-- ---- selectors

abbrev pub field_row : Option TyTree → Ident → List Said → List Said
field_row None at rest = broken at.span codes_of.NoName (Some at.name) ∷ rest
field_row (Some t) at rest = rest

abbrev pub member_rows : List ℕ → Ex → Member → List Said → List Said
member_rows me nothing m rest = rest
member_rows me (a_module v) m rest = member_says (import_meaning v) m.name rest
member_rows me (a_variable (record_ty r) a) m rest = field_row (field_of me m.name.name r) m.name rest
member_rows me (a_variable unknown_ty a) m rest = rest
member_rows me _ m rest = broken m.period codes_of.BadSelector None ∷ rest

-- the type that is indexed; None: only a variable is
abbrev pub indexed : Ex → Option TyTree
indexed nothing = Some unknown_ty
indexed (a_variable t a) = Some t
indexed _ = None

-- an index into an array is a whole number; into what is no array none fits
abbrev pub index_rows : Option TyTree → TyTree → Ex → Span → Span → List Said → List Said
index_rows None t x place bracket rest = row (not (is_unknown t)) bracket codes_of.BadSelector rest
index_rows (Some u) t x place bracket rest = value_row x place (whole_row x place rest)

-- a guard, where a VAR record parameter stands before it and one type is named; else a call
abbrev pub is_guarded : Ex → Option TyTree → Bool
is_guarded (a_variable (record_ty r) a) (Some g) = a.by_var
is_guarded _ _ = false

abbrev pub is_bad_guard : TyTree → Option TyTree → Bool
is_bad_guard t (Some unknown_ty) = false
is_bad_guard t (Some g) = not (is_extension g t)
is_bad_guard t None = false

abbrev pub takes_arguments : Ex → Bool
takes_arguments nothing = true
takes_arguments (a_variable unknown_ty a) = true
takes_arguments (a_procedure p) = true
takes_arguments (a_word w) = true
takes_arguments _ = false

-- `at` is the designator's first token
abbrev pub call_rows : Scopes → Span → Ex → Span → ArgumentsTree → List Said → List Said
call_rows s at x bracket args rest =
    if is_guarded x (argument_type s args)
    then row (is_bad_guard (ty_of x) (argument_type s args)) bracket codes_of.BadSelector rest
    else row (not (takes_arguments x)) bracket codes_of.BadSelector (row (is_bad (wants x args)) at codes_of.ArgumentCount rest)

-- ---- expressions: `value_says` where a value is wanted, `expr_says` where a type may be meant

abbrev mutual
  pub value_says : List ℕ → Scopes → ExprTree → List Said → List Said
  value_says me s (expr_of a r) rest = simple_says me s a (left_row r (simple_is me s a) (first_of_simple a) (relation_says me s (simple_is me s a) r (value_row (expr_is me s (expr_of a r)) (first_of_simple a) rest)))

  pub expr_says : List ℕ → Scopes → ExprTree → List Said → List Said
  expr_says me s (expr_of a r) rest = simple_says me s a (left_row r (simple_is me s a) (first_of_simple a) (relation_says me s (simple_is me s a) r rest))

  pub relation_says : List ℕ → Scopes → Ex → RelationTree → List Said → List Said
  relation_says me s x no_relation rest = rest
  relation_says me s x (relation_of relators.Is place b) rest =
      simple_says me s b (unless_type (bare_type s (bare_simple b)) (simple_is me s b) (first_of_simple b)
      (row (is_bad_test x (bare_type s (bare_simple b)) (simple_is me s b)) place codes_of.BadOperand rest))
  relation_says me s x (relation_of o place b) rest =
      simple_says me s b (value_row (simple_is me s b) (first_of_simple b)
      (row (is_bad (relation_fits o (class_of x) (class_of (simple_is me s b)))) place codes_of.BadOperand rest))

  pub simple_says : List ℕ → Scopes → SimpleTree → List Said → List Said
  simple_says me s (simple_of None first no_addends) rest = term_says me s first rest
  simple_says me s (simple_of sign first more) rest =
      term_says me s first (value_row (term_is me s first) (first_of_term first)
      (sign_row sign (term_is me s first) (addends_say me s (signed_is sign (term_is me s first)) more rest)))

  pub addends_say : List ℕ → Scopes → Ex → AddendsTree → List Said → List Said
  addends_say me s x no_addends rest = rest
  addends_say me s x (more_addends o place b more) rest =
      term_says me s b (value_row (term_is me s b) (first_of_term b)
      (row (is_bad (add_fits o (class_of x) (class_of (term_is me s b)))) place codes_of.BadOperand
      (addends_say me s (outcome_is (add_fits o (class_of x) (class_of (term_is me s b)))) more rest)))

  pub term_says : List ℕ → Scopes → TermTree → List Said → List Said
  term_says me s (term_of first no_multipliers) rest = factor_says me s first rest
  term_says me s (term_of first more) rest =
      factor_says me s first (value_row (factor_is me s first) (first_of_factor first) (multipliers_say me s (factor_is me s first) more rest))

  pub multipliers_say : List ℕ → Scopes → Ex → MultipliersTree → List Said → List Said
  multipliers_say me s x no_multipliers rest = rest
  multipliers_say me s x (more_multipliers o place f more) rest =
      factor_says me s f (value_row (factor_is me s f) (first_of_factor f)
      (row (is_bad (mul_fits o (class_of x) (class_of (factor_is me s f)))) place codes_of.BadOperand
      (multipliers_say me s (outcome_is (mul_fits o (class_of x) (class_of (factor_is me s f)))) more rest)))

  pub factor_says : List ℕ → Scopes → FactorTree → List Said → List Said
  factor_says me s (integer_factor n) rest = rest
  factor_says me s (string_factor x) rest = rest
  factor_says me s (true_factor place) rest = rest
  factor_says me s (false_factor place) rest = rest
  factor_says me s (set_factor (set_of a es b)) rest = elements_say me s es rest
  factor_says me s (designator_factor d) rest = designator_says me s d rest
  factor_says me s (group_factor a e b) rest = value_says me s e rest
  factor_says me s (negation_factor place f) rest = factor_says me s f (value_row (factor_is me s f) (first_of_factor f) (row (is_bad (not_fits (class_of (factor_is me s f)))) place codes_of.BadOperand rest))

  pub elements_say : List ℕ → Scopes → ElementsTree → List Said → List Said
  elements_say me s no_elements rest = rest
  elements_say me s (some_elements e more) rest = element_says me s e (more_elements_say me s more rest)

  pub more_elements_say : List ℕ → Scopes → MoreElementsTree → List Said → List Said
  more_elements_say me s no_more_elements rest = rest
  more_elements_say me s (more_elements comma e more) rest = element_says me s e (more_elements_say me s more rest)

  pub element_says : List ℕ → Scopes → ElementTree → List Said → List Said
  element_says me s (element_of e u) rest = value_says me s e (whole_row (expr_is me s e) (first_of_expr e) (upper_says me s u rest))

  pub upper_says : List ℕ → Scopes → UpperTree → List Said → List Said
  upper_says me s no_upper rest = rest
  upper_says me s (upper_of dots e) rest = value_says me s e (whole_row (expr_is me s e) (first_of_expr e) rest)

  pub designator_says : List ℕ → Scopes → DesignatorTree → List Said → List Said
  designator_says me s (designator_of x sels) rest = name_says s x (selectors_say me s x.span (ex_of (name_is s x.name)) sels rest)

  pub selectors_say : List ℕ → Scopes → Span → Ex → SelectorsTree → List Said → List Said
  selectors_say me s at x no_selectors rest = rest
  selectors_say me s at x (more_selectors sel more) rest = selector_says me s at x sel (selectors_say me s at (selected me s x sel) more rest)

  pub selector_says : List ℕ → Scopes → Span → Ex → SelectorTree → List Said → List Said
  selector_says me s at x (field_selector m) rest = member_rows me x m rest
  selector_says me s at x (index_selector a es b) rest = row (is_bad (indexed x)) a codes_of.BadSelector (indices_say me s a (or_unknown (indexed x)) es rest)
  selector_says me s at x (call_selector a args b) rest = call_rows s at x a args (arguments_say me s (or_none (wants x args)) args rest)

  pub indices_say : List ℕ → Scopes → Span → TyTree → ExprsTree → List Said → List Said
  indices_say me s bracket t (exprs_of e more) rest = expr_says me s e (index_rows (element_type t) t (expr_is me s e) (first_of_expr e) bracket (more_indices_say me s bracket (or_unknown (element_type t)) more rest))

  pub more_indices_say : List ℕ → Scopes → Span → TyTree → MoreExprsTree → List Said → List Said
  more_indices_say me s bracket t no_more_exprs rest = rest
  more_indices_say me s bracket t (more_exprs comma e more) rest = expr_says me s e (index_rows (element_type t) t (expr_is me s e) (first_of_expr e) bracket (more_indices_say me s bracket (or_unknown (element_type t)) more rest))

  pub arguments_say : List ℕ → Scopes → List Wanted → ArgumentsTree → List Said → List Said
  arguments_say me s ws no_arguments rest = rest
  arguments_say me s ws (some_arguments es) rest = exprs_say me s ws es rest

  pub exprs_say : List ℕ → Scopes → List Wanted → ExprsTree → List Said → List Said
  exprs_say me s ws (exprs_of e more) rest = expr_says me s e (argument_rows (first_wanted ws) (expr_is me s e) (first_of_expr e) (more_exprs_say me s (later_wanted ws) more rest))

  pub more_exprs_say : List ℕ → Scopes → List Wanted → MoreExprsTree → List Said → List Said
  more_exprs_say me s ws no_more_exprs rest = rest
  more_exprs_say me s ws (more_exprs comma e more) rest = expr_says me s e (argument_rows (first_wanted ws) (expr_is me s e) (first_of_expr e) (more_exprs_say me s (later_wanted ws) more rest))
