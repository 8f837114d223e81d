-- What is said of statements with what is seen, is what is said with all.
use Rattle.std.specs.Prelude.{ℕ, ◌≡◌, ◌==◌, Bool, true, false, not, if◌then◌else◌, List, [], ◌∷◌, length, map, is_some, Option, Some, None, refl}
use Rattle.std.proofs.Common.{ap, ◌∙◌}
use Rattle.ob_text.specs.declared.code.Code.TheVariants as codes_of
use Rattle.ob_text.specs.declared.span.Span.{Span}
use Rattle.oberon_tree.specs.declared.statement.Label.{Label}
use Rattle.oberon_tree.specs.declared.statement.LabelUpper.{LabelUpper}
use Rattle.oberon_tree.specs.declared.statement.LabelValue.{LabelValue}
use Rattle.oberon_tree.specs.declared.statement.LabelValue.TheVariants as labels_of
use Rattle.oberon_tree.specs.FirstSpans.{first_of_expr, first_of_designator, first_of_label}
use Rattle.oberon_tree.specs.Spans.{span_of_expr}
use Rattle.oberon_tree.specs.Trees.{ExprTree, DesignatorTree, StepTree, no_step, step_of, StatementsTree, statements_of, MoreStatementsTree, no_more_statements, more_statements, StatementTree, empty_statement, assign_statement, call_statement, if_statement, case_statement, while_statement, repeat_statement, for_statement, if_of, GuardedTree, guarded_of, ElsifsTree, no_elsifs, more_elsifs, ElseTree, no_else, else_of, case_of, ArmTree, empty_arm, labelled_arm, MoreArmsTree, no_more_arms, more_arms, while_of, repeat_of, for_of}
use Rattle.oberon_types.specs.Types.{TyTree, unknown_ty, integer_ty, byte_ty, char_ty, boolean_ty, set_ty, string_ty, array_ty, open_ty, record_ty, same_type}
use Rattle.oberon_types.specs.Folding.{Folded, fold}
use Rattle.oberon_rules.specs.Scopes.{Meaning, unknown_meaning, constant_meaning, type_meaning, variable_meaning, procedure_meaning, word_meaning, import_meaning, Scopes, Said, broken, row}
use Rattle.oberon_rules.specs.Names.{name_is, name_says, named}
use Rattle.oberon_rules.specs.Constants.{expr_const}
use Rattle.oberon_rules.specs.Expressions.{Ex, nothing, a_value, a_variable, a_type, a_module, a_procedure, a_word, a_call, ty_of, is_unknown, is_whole, expr_is, designator_is}
use Rattle.oberon_rules.specs.ExpressionRules.{value_says, designator_says, whole_row}
use Rattle.oberon_rules.specs.Statements.{target_rows, call_is_last, statement_rows, condition_says, bound_says, is_bad_control, step_row, step_rows, step_says, CaseKind, case_kind, is_case_type, LabelMeant, meaning_label, label_is, upper_is, value_label_says, upper_label_says, Interval, interval_of, is_bad_label, label_rows, with_interval, low_of, high_of, label_behind, label_says, label_list, labels_behind, labels_say, arm_behind, statements_say, more_statements_say, statement_says, guarded_says, elsifs_say, else_says, arm_says, arms_say}
use Rattle.oberon_rules.specs.Views.{map_param}
use Rattle.oberon_rules.proofs.Seen.{seen, unknown_seen, whole_seen, same_seen, assignable_seen}
use Rattle.oberon_rules.proofs.AgreeNames.{map_meaning, seen_scopes, name_is_seen, name_says_seen}
use Rattle.oberon_rules.proofs.AgreeExpressions.{map_ex, ty_of_seen, some_seen, expr_is_seen, designator_is_seen}
use Rattle.oberon_rules.proofs.AgreeTypes.{expr_const_seen, named_seen}
use Rattle.oberon_rules.proofs.AgreeRows.{whole_row_seen, length_map}
use Rattle.oberon_rules.proofs.AgreeExpressionRules.{value_says_seen, designator_says_seen}
use Rattle.oberon_rules.proofs.AgreeTypeRules.{named_says_seen}

target_seen : (me : List ℕ) (x : Ex) (v : TyTree) (place at : Span) (rest : List Said) → target_rows (map_ex (seen me) x) (seen me v) place at rest ≡ target_rows x v place at rest
target_seen me nothing v place at rest = refl
target_seen me (a_value t) v place at rest = refl
target_seen me (a_variable t a) v place at rest = ap (λ b. row a.read_only place codes_of.ReadOnly (row (not b) at codes_of.NotAssignable rest)) (assignable_seen me v t)
target_seen me (a_type t) v place at rest = refl
target_seen me (a_module w) v place at rest = refl
target_seen me (a_procedure p) v place at rest = refl
target_seen me (a_word w) v place at rest = refl
target_seen me a_call v place at rest = refl

statement_rows_seen : (me : List ℕ) (x : Ex) (c : Bool) (place : Span) (rest : List Said) → statement_rows (map_ex (seen me) x) c place rest ≡ statement_rows x c place rest
statement_rows_seen me nothing c place rest = refl
statement_rows_seen me (a_value t) true place rest = refl
statement_rows_seen me (a_value t) false place rest = refl
statement_rows_seen me (a_variable t a) c place rest = refl
statement_rows_seen me (a_type t) c place rest = refl
statement_rows_seen me (a_module v) c place rest = refl
statement_rows_seen me (a_procedure p) c place rest =
    ap (λ b. if b then broken place codes_of.BadCall None ∷ rest else row (not (length (map (map_param (seen me)) p.params) == 0)) place codes_of.ArgumentCount rest) (some_seen me p.result_type)
    ∙ ap (λ n. if is_some p.result_type then broken place codes_of.BadCall None ∷ rest else row (not (n == 0)) place codes_of.ArgumentCount rest) (length_map (map_param (seen me)) p.params)
statement_rows_seen me (a_word w) c place rest = refl
statement_rows_seen me a_call c place rest = refl

control_seen : (me : List ℕ) (m : Meaning) → is_bad_control (map_meaning (seen me) m) ≡ is_bad_control m
control_seen me unknown_meaning = refl
control_seen me (constant_meaning v) = refl
control_seen me (type_meaning t) = refl
control_seen me (procedure_meaning p) = refl
control_seen me (word_meaning w) = refl
control_seen me (import_meaning v) = refl
control_seen me (variable_meaning unknown_ty a) = refl
control_seen me (variable_meaning integer_ty a) = refl
control_seen me (variable_meaning byte_ty a) = refl
control_seen me (variable_meaning char_ty a) = refl
control_seen me (variable_meaning boolean_ty a) = refl
control_seen me (variable_meaning set_ty a) = refl
control_seen me (variable_meaning (string_ty n) a) = refl
control_seen me (variable_meaning (array_ty n u) a) = refl
control_seen me (variable_meaning (open_ty u) a) = refl
control_seen me (variable_meaning (record_ty r) a) = refl

condition_seen : (me : List ℕ) (s : Scopes) (e : ExprTree) (rest : List Said) → condition_says me (seen_scopes me s) e rest ≡ condition_says me s e rest
condition_seen me s e rest =
    ap (λ x. value_says me (seen_scopes me s) e (row (not (same_type (ty_of x) boolean_ty)) (first_of_expr e) codes_of.NotBoolean rest)) (expr_is_seen me s e)
    ∙ ap (λ t. value_says me (seen_scopes me s) e (row (not (same_type t boolean_ty)) (first_of_expr e) codes_of.NotBoolean rest)) (ty_of_seen me (expr_is me s e))
    ∙ ap (λ b. value_says me (seen_scopes me s) e (row (not b) (first_of_expr e) codes_of.NotBoolean rest)) (same_seen me (ty_of (expr_is me s e)) boolean_ty)
    ∙ value_says_seen me s e (row (not (same_type (ty_of (expr_is me s e)) boolean_ty)) (first_of_expr e) codes_of.NotBoolean rest)

bound_seen : (me : List ℕ) (s : Scopes) (e : ExprTree) (rest : List Said) → bound_says me (seen_scopes me s) e rest ≡ bound_says me s e rest
bound_seen me s e rest =
    ap (λ x. value_says me (seen_scopes me s) e (whole_row x (first_of_expr e) rest)) (expr_is_seen me s e)
    ∙ ap (λ y. value_says me (seen_scopes me s) e y) (whole_row_seen me (expr_is me s e) (first_of_expr e) rest)
    ∙ value_says_seen me s e (whole_row (expr_is me s e) (first_of_expr e) rest)

step_rows_seen : (me : List ℕ) (t : TyTree) (f : Folded) (e : ExprTree) (rest : List Said) → step_rows (seen me t) f e rest ≡ step_rows t f e rest
step_rows_seen me t f e rest =
    ap (λ b. if b then rest else if is_whole (seen me t) then step_row f (span_of_expr e) rest else broken (first_of_expr e) codes_of.NotInteger None ∷ rest) (unknown_seen me t)
    ∙ ap (λ b. if is_unknown t then rest else if b then step_row f (span_of_expr e) rest else broken (first_of_expr e) codes_of.NotInteger None ∷ rest) (whole_seen me t)

step_seen : (me : List ℕ) (s : Scopes) (x : StepTree) (rest : List Said) → step_says me (seen_scopes me s) x rest ≡ step_says me s x rest
step_seen me s no_step rest = refl
step_seen me s (step_of word e) rest =
    ap (λ x. value_says me (seen_scopes me s) e (step_rows (ty_of x) (fold (expr_const (seen_scopes me s) e)) e rest)) (expr_is_seen me s e)
    ∙ ap (λ t. value_says me (seen_scopes me s) e (step_rows t (fold (expr_const (seen_scopes me s) e)) e rest)) (ty_of_seen me (expr_is me s e))
    ∙ ap (λ y. value_says me (seen_scopes me s) e y) (step_rows_seen me (ty_of (expr_is me s e)) (fold (expr_const (seen_scopes me s) e)) e rest)
    ∙ ap (λ c. value_says me (seen_scopes me s) e (step_rows (ty_of (expr_is me s e)) (fold c) e rest)) (expr_const_seen me s e)
    ∙ value_says_seen me s e (step_rows (ty_of (expr_is me s e)) (fold (expr_const s e)) e rest)

assign_seen : (me : List ℕ) (s : Scopes) (d : DesignatorTree) (e : ExprTree) (rest : List Said)
    → designator_says me (seen_scopes me s) d (value_says me (seen_scopes me s) e (target_rows (designator_is me (seen_scopes me s) d) (ty_of (expr_is me (seen_scopes me s) e)) (first_of_designator d) (first_of_expr e) rest)) ≡ designator_says me s d (value_says me s e (target_rows (designator_is me s d) (ty_of (expr_is me s e)) (first_of_designator d) (first_of_expr e) rest))
assign_seen me s d e rest =
    ap (λ x. designator_says me (seen_scopes me s) d (value_says me (seen_scopes me s) e (target_rows x (ty_of (expr_is me (seen_scopes me s) e)) (first_of_designator d) (first_of_expr e) rest))) (designator_is_seen me s d)
    ∙ ap (λ x. designator_says me (seen_scopes me s) d (value_says me (seen_scopes me s) e (target_rows (map_ex (seen me) (designator_is me s d)) (ty_of x) (first_of_designator d) (first_of_expr e) rest))) (expr_is_seen me s e)
    ∙ ap (λ t. designator_says me (seen_scopes me s) d (value_says me (seen_scopes me s) e (target_rows (map_ex (seen me) (designator_is me s d)) t (first_of_designator d) (first_of_expr e) rest))) (ty_of_seen me (expr_is me s e))
    ∙ ap (λ y. designator_says me (seen_scopes me s) d (value_says me (seen_scopes me s) e y)) (target_seen me (designator_is me s d) (ty_of (expr_is me s e)) (first_of_designator d) (first_of_expr e) rest)
    ∙ ap (λ y. designator_says me (seen_scopes me s) d y) (value_says_seen me s e (target_rows (designator_is me s d) (ty_of (expr_is me s e)) (first_of_designator d) (first_of_expr e) rest))
    ∙ designator_says_seen me s d (value_says me s e (target_rows (designator_is me s d) (ty_of (expr_is me s e)) (first_of_designator d) (first_of_expr e) rest))

-- ---- labels

case_type_seen : (me : List ℕ) (t : TyTree) → is_case_type (seen me t) ≡ is_case_type t
case_type_seen me unknown_ty = refl
case_type_seen me integer_ty = refl
case_type_seen me byte_ty = refl
case_type_seen me char_ty = refl
case_type_seen me boolean_ty = refl
case_type_seen me set_ty = refl
case_type_seen me (string_ty n) = refl
case_type_seen me (array_ty n u) = refl
case_type_seen me (open_ty u) = refl
case_type_seen me (record_ty r) = refl

case_kind_seen : (me : List ℕ) (t : TyTree) → case_kind (seen me t) ≡ case_kind t
case_kind_seen me unknown_ty = refl
case_kind_seen me integer_ty = refl
case_kind_seen me byte_ty = refl
case_kind_seen me char_ty = refl
case_kind_seen me boolean_ty = refl
case_kind_seen me set_ty = refl
case_kind_seen me (string_ty n) = refl
case_kind_seen me (array_ty n u) = refl
case_kind_seen me (open_ty u) = refl
case_kind_seen me (record_ty r) = refl

meaning_label_seen : (h : TyTree → TyTree) (m : Meaning) → meaning_label (map_meaning h m) ≡ meaning_label m
meaning_label_seen h unknown_meaning = refl
meaning_label_seen h (constant_meaning v) = refl
meaning_label_seen h (type_meaning t) = refl
meaning_label_seen h (variable_meaning t a) = refl
meaning_label_seen h (procedure_meaning p) = refl
meaning_label_seen h (word_meaning w) = refl
meaning_label_seen h (import_meaning v) = refl

label_is_seen : (me : List ℕ) (s : Scopes) (l : LabelValue) → label_is (seen_scopes me s) l ≡ label_is s l
label_is_seen me s (labels_of.Integer n) = refl
label_is_seen me s (labels_of.Str x) = refl
label_is_seen me s (labels_of.Named q) = ap (λ m. meaning_label m) (named_seen me s q) ∙ meaning_label_seen (seen me) (named s q)

upper_is_seen : (me : List ℕ) (s : Scopes) (low : LabelMeant) (u : Option LabelUpper) → upper_is (seen_scopes me s) low u ≡ upper_is s low u
upper_is_seen me s low None = refl
upper_is_seen me s low (Some u) = label_is_seen me s u.last

value_label_seen : (me : List ℕ) (s : Scopes) (l : LabelValue) (rest : List Said) → value_label_says (seen_scopes me s) l rest ≡ value_label_says s l rest
value_label_seen me s (labels_of.Integer n) rest = refl
value_label_seen me s (labels_of.Str x) rest = refl
value_label_seen me s (labels_of.Named q) rest = named_says_seen me s q rest

upper_label_seen : (me : List ℕ) (s : Scopes) (u : Option LabelUpper) (rest : List Said) → upper_label_says (seen_scopes me s) u rest ≡ upper_label_says s u rest
upper_label_seen me s None rest = refl
upper_label_seen me s (Some u) rest = value_label_seen me s u.last rest

high_seen : (me : List ℕ) (s : Scopes) (l : Label) → high_of (seen_scopes me s) l ≡ high_of s l
high_seen me s l = ap (λ y. upper_is (seen_scopes me s) y l.upper) (label_is_seen me s l.first) ∙ upper_is_seen me s (low_of s l) l.upper

label_behind_seen : (me : List ℕ) (s : Scopes) (k : CaseKind) (earlier : List Interval) (l : Label) → label_behind (seen_scopes me s) k earlier l ≡ label_behind s k earlier l
label_behind_seen me s k earlier l =
    ap (λ y. with_interval (is_bad_label k y (high_of (seen_scopes me s) l)) (interval_of y (high_of (seen_scopes me s) l)) earlier) (label_is_seen me s l.first)
    ∙ ap (λ y. with_interval (is_bad_label k (low_of s l) y) (interval_of (low_of s l) y) earlier) (high_seen me s l)

label_says_seen : (me : List ℕ) (s : Scopes) (k : CaseKind) (earlier : List Interval) (l : Label) (rest : List Said) → label_says (seen_scopes me s) k earlier l rest ≡ label_says s k earlier l rest
label_says_seen me s k earlier l rest =
    ap (λ y. value_label_says (seen_scopes me s) l.first (upper_label_says (seen_scopes me s) l.upper (label_rows (is_bad_label k y (high_of (seen_scopes me s) l)) earlier (interval_of y (high_of (seen_scopes me s) l)) (first_of_label l) rest))) (label_is_seen me s l.first)
    ∙ ap (λ y. value_label_says (seen_scopes me s) l.first (upper_label_says (seen_scopes me s) l.upper (label_rows (is_bad_label k (low_of s l) y) earlier (interval_of (low_of s l) y) (first_of_label l) rest))) (high_seen me s l)
    ∙ ap (λ y. value_label_says (seen_scopes me s) l.first y) (upper_label_seen me s l.upper (label_rows (is_bad_label k (low_of s l) (high_of s l)) earlier (interval_of (low_of s l) (high_of s l)) (first_of_label l) rest))
    ∙ value_label_seen me s l.first (upper_label_says s l.upper (label_rows (is_bad_label k (low_of s l) (high_of s l)) earlier (interval_of (low_of s l) (high_of s l)) (first_of_label l) rest))

labels_behind_seen : (me : List ℕ) (s : Scopes) (k : CaseKind) (earlier : List Interval) (ls : List Label) → labels_behind (seen_scopes me s) k earlier ls ≡ labels_behind s k earlier ls
labels_behind_seen me s k earlier [] = refl
labels_behind_seen me s k earlier (l ∷ ls) = ap (λ y. labels_behind (seen_scopes me s) k y ls) (label_behind_seen me s k earlier l) ∙ labels_behind_seen me s k (label_behind s k earlier l) ls

labels_say_seen : (me : List ℕ) (s : Scopes) (k : CaseKind) (earlier : List Interval) (ls : List Label) (rest : List Said) → labels_say (seen_scopes me s) k earlier ls rest ≡ labels_say s k earlier ls rest
labels_say_seen me s k earlier [] rest = refl
labels_say_seen me s k earlier (l ∷ ls) rest =
    label_says_seen me s k earlier l (labels_say (seen_scopes me s) k (label_behind (seen_scopes me s) k earlier l) ls rest)
    ∙ ap (λ y. label_says s k earlier l (labels_say (seen_scopes me s) k y ls rest)) (label_behind_seen me s k earlier l)
    ∙ ap (λ y. label_says s k earlier l y) (labels_say_seen me s k (label_behind s k earlier l) ls rest)

arm_behind_seen : (me : List ℕ) (s : Scopes) (k : CaseKind) (earlier : List Interval) (a : ArmTree) → arm_behind (seen_scopes me s) k earlier a ≡ arm_behind s k earlier a
arm_behind_seen me s k earlier empty_arm = refl
arm_behind_seen me s k earlier (labelled_arm ls colon b) = labels_behind_seen me s k earlier (label_list ls)

-- ---- statements

mutual
  pub statements_seen : (me : List ℕ) (s : Scopes) (x : StatementsTree) (rest : List Said) → statements_say me (seen_scopes me s) x rest ≡ statements_say me s x rest
  statements_seen me s (statements_of x more) rest = statement_seen me s x (more_statements_say me (seen_scopes me s) more rest) ∙ ap (λ y. statement_says me s x y) (more_statements_seen me s more rest)

  more_statements_seen : (me : List ℕ) (s : Scopes) (x : MoreStatementsTree) (rest : List Said) → more_statements_say me (seen_scopes me s) x rest ≡ more_statements_say me s x rest
  more_statements_seen me s no_more_statements rest = refl
  more_statements_seen me s (more_statements semicolon x more) rest = statement_seen me s x (more_statements_say me (seen_scopes me s) more rest) ∙ ap (λ y. statement_says me s x y) (more_statements_seen me s more rest)

  statement_seen : (me : List ℕ) (s : Scopes) (x : StatementTree) (rest : List Said) → statement_says me (seen_scopes me s) x rest ≡ statement_says me s x rest
  statement_seen me s empty_statement rest = refl
  statement_seen me s (assign_statement d at e) rest = assign_seen me s d e rest
  statement_seen me s (call_statement d) rest =
      ap (λ x. designator_says me (seen_scopes me s) d (statement_rows x (call_is_last d) (first_of_designator d) rest)) (designator_is_seen me s d)
      ∙ ap (λ y. designator_says me (seen_scopes me s) d y) (statement_rows_seen me (designator_is me s d) (call_is_last d) (first_of_designator d) rest)
      ∙ designator_says_seen me s d (statement_rows (designator_is me s d) (call_is_last d) (first_of_designator d) rest)
  statement_seen me s (if_statement (if_of g gs e last)) rest = guarded_seen me s g (elsifs_say me (seen_scopes me s) gs (else_says me (seen_scopes me s) e rest)) ∙ ap (λ y. guarded_says me s g y) (elsifs_seen me s gs (else_says me (seen_scopes me s) e rest) ∙ ap (λ y. elsifs_say me s gs y) (else_seen me s e rest))
  statement_seen me s (case_statement (case_of word e of_word arm arms last)) rest =
      ap (λ x. value_says me (seen_scopes me s) e (row (not (is_case_type (ty_of x))) (first_of_expr e) codes_of.BadOperand (arm_says me (seen_scopes me s) (case_kind (ty_of x)) [] arm (arms_say me (seen_scopes me s) (case_kind (ty_of x)) (arm_behind (seen_scopes me s) (case_kind (ty_of x)) [] arm) arms rest)))) (expr_is_seen me s e)
      ∙ ap (λ t. value_says me (seen_scopes me s) e (row (not (is_case_type t)) (first_of_expr e) codes_of.BadOperand (arm_says me (seen_scopes me s) (case_kind t) [] arm (arms_say me (seen_scopes me s) (case_kind t) (arm_behind (seen_scopes me s) (case_kind t) [] arm) arms rest)))) (ty_of_seen me (expr_is me s e))
      ∙ ap (λ b. value_says me (seen_scopes me s) e (row (not b) (first_of_expr e) codes_of.BadOperand (arm_says me (seen_scopes me s) (case_kind (seen me (ty_of (expr_is me s e)))) [] arm (arms_say me (seen_scopes me s) (case_kind (seen me (ty_of (expr_is me s e)))) (arm_behind (seen_scopes me s) (case_kind (seen me (ty_of (expr_is me s e)))) [] arm) arms rest)))) (case_type_seen me (ty_of (expr_is me s e)))
      ∙ ap (λ k. value_says me (seen_scopes me s) e (row (not (is_case_type (ty_of (expr_is me s e)))) (first_of_expr e) codes_of.BadOperand (arm_says me (seen_scopes me s) k [] arm (arms_say me (seen_scopes me s) k (arm_behind (seen_scopes me s) k [] arm) arms rest)))) (case_kind_seen me (ty_of (expr_is me s e)))
      ∙ ap (λ y. value_says me (seen_scopes me s) e (row (not (is_case_type (ty_of (expr_is me s e)))) (first_of_expr e) codes_of.BadOperand (arm_says me (seen_scopes me s) (case_kind (ty_of (expr_is me s e))) [] arm (arms_say me (seen_scopes me s) (case_kind (ty_of (expr_is me s e))) y arms rest)))) (arm_behind_seen me s (case_kind (ty_of (expr_is me s e))) [] arm)
      ∙ ap (λ y. value_says me (seen_scopes me s) e (row (not (is_case_type (ty_of (expr_is me s e)))) (first_of_expr e) codes_of.BadOperand (arm_says me (seen_scopes me s) (case_kind (ty_of (expr_is me s e))) [] arm y))) (arms_seen me s (case_kind (ty_of (expr_is me s e))) (arm_behind s (case_kind (ty_of (expr_is me s e))) [] arm) arms rest)
      ∙ ap (λ y. value_says me (seen_scopes me s) e (row (not (is_case_type (ty_of (expr_is me s e)))) (first_of_expr e) codes_of.BadOperand y)) (arm_seen me s (case_kind (ty_of (expr_is me s e))) [] arm (arms_say me s (case_kind (ty_of (expr_is me s e))) (arm_behind s (case_kind (ty_of (expr_is me s e))) [] arm) arms rest))
      ∙ value_says_seen me s e (row (not (is_case_type (ty_of (expr_is me s e)))) (first_of_expr e) codes_of.BadOperand (arm_says me s (case_kind (ty_of (expr_is me s e))) [] arm (arms_say me s (case_kind (ty_of (expr_is me s e))) (arm_behind s (case_kind (ty_of (expr_is me s e))) [] arm) arms rest)))
  statement_seen me s (while_statement (while_of g gs last)) rest = guarded_seen me s g (elsifs_say me (seen_scopes me s) gs rest) ∙ ap (λ y. guarded_says me s g y) (elsifs_seen me s gs rest)
  statement_seen me s (repeat_statement (repeat_of word b until e)) rest = statements_seen me s b (condition_says me (seen_scopes me s) e rest) ∙ ap (λ y. statements_say me s b y) (condition_seen me s e rest)
  statement_seen me s (for_statement (for_of word x becomes a to b by do_word body last)) rest =
      name_says_seen me s x (row (is_bad_control (name_is (seen_scopes me s) x.name)) x.span codes_of.BadControl (bound_says me (seen_scopes me s) a (bound_says me (seen_scopes me s) b (step_says me (seen_scopes me s) by (statements_say me (seen_scopes me s) body rest)))))
      ∙ ap (λ c. name_says s x (row c x.span codes_of.BadControl (bound_says me (seen_scopes me s) a (bound_says me (seen_scopes me s) b (step_says me (seen_scopes me s) by (statements_say me (seen_scopes me s) body rest)))))) (ap (λ m. is_bad_control m) (name_is_seen me s x.name) ∙ control_seen me (name_is s x.name))
      ∙ ap (λ y. name_says s x (row (is_bad_control (name_is s x.name)) x.span codes_of.BadControl y)) (bound_seen me s a (bound_says me (seen_scopes me s) b (step_says me (seen_scopes me s) by (statements_say me (seen_scopes me s) body rest))) ∙ ap (λ y. bound_says me s a y) (bound_seen me s b (step_says me (seen_scopes me s) by (statements_say me (seen_scopes me s) body rest)) ∙ ap (λ y. bound_says me s b y) (step_seen me s by (statements_say me (seen_scopes me s) body rest) ∙ ap (λ y. step_says me s by y) (statements_seen me s body rest))))

  guarded_seen : (me : List ℕ) (s : Scopes) (g : GuardedTree) (rest : List Said) → guarded_says me (seen_scopes me s) g rest ≡ guarded_says me s g rest
  guarded_seen me s (guarded_of word e then_word b) rest = condition_seen me s e (statements_say me (seen_scopes me s) b rest) ∙ ap (λ y. condition_says me s e y) (statements_seen me s b rest)

  elsifs_seen : (me : List ℕ) (s : Scopes) (gs : ElsifsTree) (rest : List Said) → elsifs_say me (seen_scopes me s) gs rest ≡ elsifs_say me s gs rest
  elsifs_seen me s no_elsifs rest = refl
  elsifs_seen me s (more_elsifs g gs) rest = guarded_seen me s g (elsifs_say me (seen_scopes me s) gs rest) ∙ ap (λ y. guarded_says me s g y) (elsifs_seen me s gs rest)

  else_seen : (me : List ℕ) (s : Scopes) (e : ElseTree) (rest : List Said) → else_says me (seen_scopes me s) e rest ≡ else_says me s e rest
  else_seen me s no_else rest = refl
  else_seen me s (else_of word b) rest = statements_seen me s b rest

  arm_seen : (me : List ℕ) (s : Scopes) (k : CaseKind) (earlier : List Interval) (a : ArmTree) (rest : List Said) → arm_says me (seen_scopes me s) k earlier a rest ≡ arm_says me s k earlier a rest
  arm_seen me s k earlier empty_arm rest = refl
  arm_seen me s k earlier (labelled_arm ls colon b) rest = labels_say_seen me s k earlier (label_list ls) (statements_say me (seen_scopes me s) b rest) ∙ ap (λ y. labels_say s k earlier (label_list ls) y) (statements_seen me s b rest)

  arms_seen : (me : List ℕ) (s : Scopes) (k : CaseKind) (earlier : List Interval) (a : MoreArmsTree) (rest : List Said) → arms_say me (seen_scopes me s) k earlier a rest ≡ arms_say me s k earlier a rest
  arms_seen me s k earlier no_more_arms rest = refl
  arms_seen me s k earlier (more_arms bar a more) rest =
      arm_seen me s k earlier a (arms_say me (seen_scopes me s) k (arm_behind (seen_scopes me s) k earlier a) more rest)
      ∙ ap (λ y. arm_says me s k earlier a (arms_say me (seen_scopes me s) k y more rest)) (arm_behind_seen me s k earlier a)
      ∙ ap (λ y. arm_says me s k earlier a y) (arms_seen me s k (arm_behind s k earlier a) more rest)
