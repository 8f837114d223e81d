-- What is said of statements (section 9). `me` is the stem of the module whose text this is.
use Rattle.std.specs.Prelude.{ℕ, ◌==◌, length, is_some, Bool, true, false, ◌&&◌, ◌||◌, not, if◌then◌else◌, nat_lt, int_lt, List, [], ◌∷◌, map, Option, Some, None, ℤ, pos}
use Rattle.std.specs.List.{list_any}
use Rattle.std.specs.Ordering.{int_eq}
use Rattle.ob_text.specs.declared.code.Code.TheVariants as codes_of
use Rattle.ob_text.specs.declared.span.Span.{Span}
use Rattle.oberon_tree.specs.declared.statement.Label.{Label}
use Rattle.oberon_tree.specs.declared.statement.LabelUpper.{LabelUpper}
use Rattle.oberon_tree.specs.declared.statement.LabelValue.{LabelValue}
use Rattle.oberon_tree.specs.declared.statement.LabelValue.TheVariants as labels_of
use Rattle.oberon_tree.specs.declared.statement.NextLabel.{NextLabel}
use Rattle.oberon_tree.specs.FirstSpans.{first_of_expr, first_of_designator, first_of_label}
use Rattle.oberon_tree.specs.Spans.{span_of_expr}
use Rattle.oberon_tree.specs.Trees.{ExprTree, DesignatorTree, designator_of, SelectorsTree, no_selectors, more_selectors, call_selector, StepTree, no_step, step_of, StatementsTree, statements_of, MoreStatementsTree, no_more_statements, more_statements, StatementTree, empty_statement, assign_statement, call_statement, if_statement, case_statement, while_statement, repeat_statement, for_statement, if_of, GuardedTree, guarded_of, ElsifsTree, no_elsifs, more_elsifs, ElseTree, no_else, else_of, case_of, ArmTree, empty_arm, labelled_arm, MoreArmsTree, no_more_arms, more_arms, while_of, repeat_of, for_of, LabelsTree}
use Rattle.oberon_types.specs.declared.value.Value.{Value}
use Rattle.oberon_types.specs.declared.value.Value.TheVariants as values
use Rattle.oberon_types.specs.Types.{TyTree, unknown_ty, integer_ty, byte_ty, char_ty, boolean_ty, same_type, assignable}
use Rattle.oberon_types.specs.Entities.{SignatureTree}
use Rattle.oberon_types.specs.Folding.{Folded, folded, not_constant, out_of_range, fold}
use Rattle.oberon_rules.specs.Scopes.{Predeclared, inc_word, dec_word, incl_word, excl_word, assert_word, Meaning, unknown_meaning, constant_meaning, variable_meaning, Scopes, Said, broken, row}
use Rattle.oberon_rules.specs.Names.{name_is, name_says, named, named_says}
use Rattle.oberon_rules.specs.Constants.{expr_const}
use Rattle.oberon_rules.specs.Expressions.{Ex, nothing, a_value, a_variable, a_type, a_module, a_procedure, a_word, a_call, ty_of, is_unknown, is_whole, expr_is, designator_is}
use Rattle.oberon_rules.specs.ExpressionRules.{value_says, designator_says, whole_row}

-- ---- assignments (section 9.1)

-- a value of the second type to the designator that begins at `place`; the value begins at `at`
abbrev pub target_rows : Ex → TyTree → Span → Span → List Said → List Said
target_rows nothing v place at rest = rest
target_rows (a_variable t a) v place at rest = row a.read_only place codes_of.ReadOnly (row (not (assignable v t)) at codes_of.NotAssignable rest)
target_rows _ v place at rest = broken place codes_of.NotVariable None ∷ rest

-- ---- calls as statements (section 9.2): of proper procedures, where empty parentheses may be left out

abbrev pub is_call : SelectorsTree → Bool
is_call no_selectors = false
is_call (more_selectors (call_selector a args b) no_selectors) = true
is_call (more_selectors x no_selectors) = false
is_call (more_selectors x more) = is_call more

abbrev pub call_is_last : DesignatorTree → Bool
call_is_last (designator_of x sels) = is_call sels

abbrev pub is_proper : Predeclared → Bool
is_proper inc_word = true
is_proper dec_word = true
is_proper incl_word = true
is_proper excl_word = true
is_proper assert_word = true
is_proper _ = false

abbrev pub takes_none : SignatureTree → Bool
takes_none p = length p.params == 0

abbrev pub statement_rows : Ex → Bool → Span → List Said → List Said
statement_rows nothing called place rest = rest
statement_rows a_call called place rest = rest
statement_rows (a_procedure p) called place rest = if is_some p.result_type then broken place codes_of.BadCall None ∷ rest else row (not (takes_none p)) place codes_of.ArgumentCount rest
statement_rows (a_word w) called place rest = broken place (if is_proper w then codes_of.ArgumentCount else codes_of.BadCall) None ∷ rest
statement_rows (a_variable t a) called place rest = broken place codes_of.BadCall None ∷ rest
statement_rows (a_value t) true place rest = broken place codes_of.BadCall None ∷ rest
statement_rows (a_value t) false place rest = broken place codes_of.NotVariable None ∷ rest
statement_rows (a_type t) called place rest = broken place codes_of.NotVariable None ∷ rest
statement_rows (a_module v) called place rest = broken place codes_of.NotVariable None ∷ rest

-- ---- conditions (sections 9.4, 9.6 and 9.7)

abbrev pub condition_says : List ℕ → Scopes → ExprTree → List Said → List Said
condition_says me s e rest = value_says me s e (row (not (same_type (ty_of (expr_is me s e)) boolean_ty)) (first_of_expr e) codes_of.NotBoolean rest)

-- ---- FOR (section 9.8): an INTEGER variable that isn't read-only, INTEGER bounds, and a constant step but 0

abbrev pub is_bad_control : Meaning → Bool
is_bad_control unknown_meaning = false
is_bad_control (variable_meaning integer_ty a) = a.read_only
is_bad_control (variable_meaning unknown_ty a) = a.read_only
is_bad_control _ = true

abbrev pub bound_says : List ℕ → Scopes → ExprTree → List Said → List Said
bound_says me s e rest = value_says me s e (whole_row (expr_is me s e) (first_of_expr e) rest)

abbrev pub is_zero : Value → Bool
is_zero (values.Integer n) = int_eq n (pos 0)
is_zero _ = false

abbrev pub step_row : Folded → Span → List Said → List Said
step_row (folded v) place rest = row (is_zero v) place codes_of.ConstantRange rest
step_row not_constant place rest = broken place codes_of.NotConstant None ∷ rest
step_row out_of_range place rest = broken place codes_of.ConstantRange None ∷ rest

-- of an INTEGER alone it is asked whether it is a constant
abbrev pub step_rows : TyTree → Folded → ExprTree → List Said → List Said
step_rows t f e rest = if is_unknown t then rest else if is_whole t then step_row f (span_of_expr e) rest else broken (first_of_expr e) codes_of.NotInteger None ∷ rest

abbrev pub step_says : List ℕ → Scopes → StepTree → List Said → List Said
step_says me s no_step rest = rest
step_says me s (step_of word e) rest = value_says me s e (step_rows (ty_of (expr_is me s e)) (fold (expr_const s e)) e rest)

-- ---- CASE (section 9.5): over INTEGER or CHAR, and constants of that kind as labels

-- of an unknown expression the labels are constants of either kind
pub data CaseKind : Type 0 where
  any_case : CaseKind
  whole_case : CaseKind
  char_case : CaseKind

abbrev pub case_kind : TyTree → CaseKind
case_kind integer_ty = whole_case
case_kind byte_ty = whole_case
case_kind char_ty = char_case
case_kind _ = any_case

abbrev pub is_case_type : TyTree → Bool
is_case_type unknown_ty = true
is_case_type integer_ty = true
is_case_type byte_ty = true
is_case_type char_ty = true
is_case_type _ = false

-- what an end of a label is: unknown, no constant of either kind, or one of them
pub data LabelMeant : Type 0 where
  unclear_label : LabelMeant
  no_label : LabelMeant
  whole_label : ℤ → LabelMeant
  char_label : ℕ → LabelMeant

abbrev pub string_label : List ℕ → LabelMeant
string_label (c ∷ []) = char_label c
string_label _ = no_label

abbrev pub meaning_label : Meaning → LabelMeant
meaning_label unknown_meaning = unclear_label
meaning_label (constant_meaning (values.Integer n)) = whole_label n
meaning_label (constant_meaning (values.Char c)) = char_label c
meaning_label (constant_meaning (values.Str x)) = string_label x
meaning_label _ = no_label

abbrev pub label_is : Scopes → LabelValue → LabelMeant
label_is s (labels_of.Integer n) = whole_label n.value
label_is s (labels_of.Str x) = string_label x.value
label_is s (labels_of.Named q) = meaning_label (named s q)

-- the upper end, which without `..` is the lower one
abbrev pub upper_is : Scopes → LabelMeant → Option LabelUpper → LabelMeant
upper_is s low None = low
upper_is s low (Some u) = label_is s u.last

abbrev pub value_label_says : Scopes → LabelValue → List Said → List Said
value_label_says s (labels_of.Integer n) rest = rest
value_label_says s (labels_of.Str x) rest = rest
value_label_says s (labels_of.Named q) rest = named_says s q rest

abbrev pub upper_label_says : Scopes → Option LabelUpper → List Said → List Said
upper_label_says s None rest = rest
upper_label_says s (Some u) rest = value_label_says s u.last rest

-- the values that a label stands for
pub data Interval : Type 0 where
  whole_interval : ℤ → ℤ → Interval
  char_interval : ℕ → ℕ → Interval

-- None: an end is unknown or no label, or they are of two kinds
abbrev pub interval_of : LabelMeant → LabelMeant → Option Interval
interval_of (whole_label a) (whole_label b) = Some (whole_interval a b)
interval_of (char_label a) (char_label b) = Some (char_interval a b)
interval_of _ _ = None

abbrev pub is_empty_interval : Option Interval → Bool
is_empty_interval None = false
is_empty_interval (Some (whole_interval a b)) = int_lt b a
is_empty_interval (Some (char_interval a b)) = nat_lt b a

abbrev pub is_of_kind : CaseKind → LabelMeant → Bool
is_of_kind k unclear_label = true
is_of_kind k no_label = false
is_of_kind any_case (whole_label n) = true
is_of_kind any_case (char_label c) = true
is_of_kind whole_case (whole_label n) = true
is_of_kind whole_case (char_label c) = false
is_of_kind char_case (whole_label n) = false
is_of_kind char_case (char_label c) = true

abbrev pub is_bad_label : CaseKind → LabelMeant → LabelMeant → Bool
is_bad_label k low high = not (is_of_kind k low && is_of_kind k high) || is_empty_interval (interval_of low high)

abbrev pub overlaps : Interval → Interval → Bool
overlaps (whole_interval a b) (whole_interval c d) = not (int_lt b c || int_lt d a)
overlaps (char_interval a b) (char_interval c d) = not (nat_lt b c || nat_lt d a)
overlaps (whole_interval a b) (char_interval c d) = false
overlaps (char_interval a b) (whole_interval c d) = false

abbrev pub overlaps_any : List Interval → Option Interval → Bool
overlaps_any earlier None = false
overlaps_any earlier (Some i) = list_any (overlaps i) earlier

-- a label that doesn't fit overlaps nothing; one that overlaps counts for later ones
abbrev pub label_rows : Bool → List Interval → Option Interval → Span → List Said → List Said
label_rows true earlier i place rest = broken place codes_of.BadCase None ∷ rest
label_rows false earlier i place rest = row (overlaps_any earlier i) place codes_of.LabelTwice rest

abbrev pub with_interval : Bool → Option Interval → List Interval → List Interval
with_interval true i earlier = earlier
with_interval false None earlier = earlier
with_interval false (Some i) earlier = i ∷ earlier

-- one label, by the intervals of the labels before it
abbrev pub low_of : Scopes → Label → LabelMeant
low_of s l = label_is s l.first

abbrev pub high_of : Scopes → Label → LabelMeant
high_of s l = upper_is s (low_of s l) l.upper

abbrev pub label_behind : Scopes → CaseKind → List Interval → Label → List Interval
label_behind s k earlier l = with_interval (is_bad_label k (low_of s l) (high_of s l)) (interval_of (low_of s l) (high_of s l)) earlier

abbrev pub label_says : Scopes → CaseKind → List Interval → Label → List Said → List Said
label_says s k earlier l rest = value_label_says s l.first (upper_label_says s l.upper (label_rows (is_bad_label k (low_of s l) (high_of s l)) earlier (interval_of (low_of s l) (high_of s l)) (first_of_label l) rest))

abbrev pub label_list : LabelsTree → List Label
label_list ls = ls.first ∷ map (λ (n : NextLabel). n.label) ls.rest

abbrev pub labels_behind : Scopes → CaseKind → List Interval → List Label → List Interval
labels_behind s k earlier [] = earlier
labels_behind s k earlier (l ∷ ls) = labels_behind s k (label_behind s k earlier l) ls

abbrev pub labels_say : Scopes → CaseKind → List Interval → List Label → List Said → List Said
labels_say s k earlier [] rest = rest
labels_say s k earlier (l ∷ ls) rest = label_says s k earlier l (labels_say s k (label_behind s k earlier l) ls rest)

abbrev pub arm_behind : Scopes → CaseKind → List Interval → ArmTree → List Interval
arm_behind s k earlier empty_arm = earlier
arm_behind s k earlier (labelled_arm ls colon b) = labels_behind s k earlier (label_list ls)

-- ---- statements

abbrev mutual
  pub statements_say : List ℕ → Scopes → StatementsTree → List Said → List Said
  statements_say me s (statements_of x more) rest = statement_says me s x (more_statements_say me s more rest)

  pub more_statements_say : List ℕ → Scopes → MoreStatementsTree → List Said → List Said
  more_statements_say me s no_more_statements rest = rest
  more_statements_say me s (more_statements semicolon x more) rest = statement_says me s x (more_statements_say me s more rest)

  pub statement_says : List ℕ → Scopes → StatementTree → List Said → List Said
  statement_says me s empty_statement rest = rest
  statement_says me s (assign_statement d at e) rest = designator_says me s d (value_says me s e (target_rows (designator_is me s d) (ty_of (expr_is me s e)) (first_of_designator d) (first_of_expr e) rest))
  statement_says me s (call_statement d) rest = designator_says me s d (statement_rows (designator_is me s d) (call_is_last d) (first_of_designator d) rest)
  statement_says me s (if_statement (if_of g gs e last)) rest = guarded_says me s g (elsifs_say me s gs (else_says me s e rest))
  statement_says me s (case_statement (case_of word e of_word arm arms last)) rest =
      value_says me s e (row (not (is_case_type (ty_of (expr_is me s e)))) (first_of_expr e) codes_of.BadOperand
      (arm_says me s (case_kind (ty_of (expr_is me s e))) [] arm
      (arms_say me s (case_kind (ty_of (expr_is me s e))) (arm_behind s (case_kind (ty_of (expr_is me s e))) [] arm) arms rest)))
  statement_says me s (while_statement (while_of g gs last)) rest = guarded_says me s g (elsifs_say me s gs rest)
  statement_says me s (repeat_statement (repeat_of word b until e)) rest = statements_say me s b (condition_says me s e rest)
  statement_says me s (for_statement (for_of word x becomes a to b by do_word body last)) rest =
      name_says s x (row (is_bad_control (name_is s x.name)) x.span codes_of.BadControl
      (bound_says me s a (bound_says me s b (step_says me s by (statements_say me s body rest)))))

  pub guarded_says : List ℕ → Scopes → GuardedTree → List Said → List Said
  guarded_says me s (guarded_of word e then_word b) rest = condition_says me s e (statements_say me s b rest)

  pub elsifs_say : List ℕ → Scopes → ElsifsTree → List Said → List Said
  elsifs_say me s no_elsifs rest = rest
  elsifs_say me s (more_elsifs g gs) rest = guarded_says me s g (elsifs_say me s gs rest)

  pub else_says : List ℕ → Scopes → ElseTree → List Said → List Said
  else_says me s no_else rest = rest
  else_says me s (else_of word b) rest = statements_say me s b rest

  pub arm_says : List ℕ → Scopes → CaseKind → List Interval → ArmTree → List Said → List Said
  arm_says me s k earlier empty_arm rest = rest
  arm_says me s k earlier (labelled_arm ls colon b) rest = labels_say s k earlier (label_list ls) (statements_say me s b rest)

  pub arms_say : List ℕ → Scopes → CaseKind → List Interval → MoreArmsTree → List Said → List Said
  arms_say me s k earlier no_more_arms rest = rest
  arms_say me s k earlier (more_arms bar a more) rest = arm_says me s k earlier a (arms_say me s k (arm_behind s k earlier a) more rest)
