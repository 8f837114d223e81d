-- Levels. Each '(', '[' and '{' of an expression or a designator opens one, and so do '~', IF, CASE,
-- WHILE, REPEAT, FOR, PROCEDURE, RECORD and ARRAY. A level holds from its opening token to the last
-- token of its construct: the factor behind '~', the element type behind ARRAY, the condition behind
-- UNTIL, the name behind a procedure's END. The '(' of formal parameters and of a record's base opens
-- none. `depth_of_x` is the number of levels inside which the deepest token of an x stands.
use Rattle.std.specs.Prelude.{ℕ, suc, max, List, [], ◌∷◌, Option, Some, None, length}
use Rattle.oberon_tree.specs.Trees.{ExprTree, expr_of, RelationTree, no_relation, relation_of, SimpleTree, simple_of, AddendsTree, no_addends, more_addends, TermTree, term_of, MultipliersTree, no_multipliers, more_multipliers, FactorTree, integer_factor, string_factor, true_factor, false_factor, set_factor, designator_factor, group_factor, negation_factor, SetTree, set_of, ElementsTree, no_elements, some_elements, MoreElementsTree, no_more_elements, more_elements, ElementTree, element_of, UpperTree, no_upper, upper_of, DesignatorTree, designator_of, SelectorsTree, no_selectors, more_selectors, SelectorTree, field_selector, index_selector, call_selector, ArgumentsTree, no_arguments, some_arguments, ExprsTree, exprs_of, MoreExprsTree, no_more_exprs, more_exprs}
use Rattle.oberon_tree.specs.Trees.{TypeTree, named_type, array_type, record_type, RecordTree, record_of, FieldListsTree, no_fields, some_fields, MoreFieldsTree, no_more_fields, more_fields, FieldsTree, fields_of}
use Rattle.oberon_tree.specs.Trees.{StepTree, no_step, step_of, StatementsTree, statements_of, MoreStatementsTree, no_more_statements, more_statements, StatementTree, empty_statement, assign_statement, call_statement, if_statement, case_statement, while_statement, repeat_statement, for_statement, IfTree, if_of, GuardedTree, guarded_of, ElsifsTree, no_elsifs, more_elsifs, ElseTree, no_else, else_of, CaseTree, case_of, ArmTree, empty_arm, labelled_arm, MoreArmsTree, no_more_arms, more_arms, WhileTree, while_of, RepeatTree, repeat_of, ForTree, for_of}
use Rattle.oberon_tree.specs.Trees.{ConstantTree, ConstantsTree, TypeDeclarationTree, TypesTree, VariableTree, VariablesTree, DeclarationsTree, LocalConstantTree, LocalConstantsTree, LocalVariableTree, LocalVariablesTree, LocalsTree, FormalTypeTree, SectionTree, NextSectionTree, SectionsTree, FormalsTree, BodyTree, ReturnTree, ProcedureTree, ProcedureItemTree, ModuleTree}

abbrev pub depth_of_each : {A : Type 0} → (A → ℕ) → List A → ℕ
depth_of_each depth [] = 0
depth_of_each depth (x ∷ xs) = max (depth x) (depth_of_each depth xs)

abbrev pub depth_of_some : {A : Type 0} → (A → ℕ) → Option A → ℕ
depth_of_some depth None = 0
depth_of_some depth (Some x) = depth x

-- ---- expressions

abbrev mutual
  pub depth_of_expr : ExprTree → ℕ
  depth_of_expr (expr_of left right) = max (depth_of_simple left) (depth_of_relation right)

  pub depth_of_relation : RelationTree → ℕ
  depth_of_relation no_relation = 0
  depth_of_relation (relation_of op span right) = depth_of_simple right

  pub depth_of_simple : SimpleTree → ℕ
  depth_of_simple (simple_of sign first more) = max (depth_of_term first) (depth_of_addends more)

  pub depth_of_addends : AddendsTree → ℕ
  depth_of_addends no_addends = 0
  depth_of_addends (more_addends op span t more) = max (depth_of_term t) (depth_of_addends more)

  pub depth_of_term : TermTree → ℕ
  depth_of_term (term_of first more) = max (depth_of_factor first) (depth_of_multipliers more)

  pub depth_of_multipliers : MultipliersTree → ℕ
  depth_of_multipliers no_multipliers = 0
  depth_of_multipliers (more_multipliers op span f more) = max (depth_of_factor f) (depth_of_multipliers more)

  pub depth_of_factor : FactorTree → ℕ
  depth_of_factor (integer_factor n) = 0
  depth_of_factor (string_factor s) = 0
  depth_of_factor (true_factor span) = 0
  depth_of_factor (false_factor span) = 0
  depth_of_factor (set_factor s) = depth_of_set s
  depth_of_factor (designator_factor d) = depth_of_designator d
  depth_of_factor (group_factor a e b) = suc (depth_of_expr e)
  depth_of_factor (negation_factor span f) = suc (depth_of_factor f)

  pub depth_of_set : SetTree → ℕ
  depth_of_set (set_of a es b) = suc (depth_of_elements es)

  pub depth_of_elements : ElementsTree → ℕ
  depth_of_elements no_elements = 0
  depth_of_elements (some_elements first more) = max (depth_of_element first) (depth_of_more_elements more)

  pub depth_of_more_elements : MoreElementsTree → ℕ
  depth_of_more_elements no_more_elements = 0
  depth_of_more_elements (more_elements comma e more) = max (depth_of_element e) (depth_of_more_elements more)

  pub depth_of_element : ElementTree → ℕ
  depth_of_element (element_of e last) = max (depth_of_expr e) (depth_of_upper last)

  pub depth_of_upper : UpperTree → ℕ
  depth_of_upper no_upper = 0
  depth_of_upper (upper_of dots e) = depth_of_expr e

  pub depth_of_designator : DesignatorTree → ℕ
  depth_of_designator (designator_of name more) = depth_of_selectors more

  pub depth_of_selectors : SelectorsTree → ℕ
  depth_of_selectors no_selectors = 0
  depth_of_selectors (more_selectors one more) = max (depth_of_selector one) (depth_of_selectors more)

  pub depth_of_selector : SelectorTree → ℕ
  depth_of_selector (field_selector m) = 0
  depth_of_selector (index_selector a es b) = suc (depth_of_exprs es)
  depth_of_selector (call_selector a es b) = suc (depth_of_arguments es)

  pub depth_of_arguments : ArgumentsTree → ℕ
  depth_of_arguments no_arguments = 0
  depth_of_arguments (some_arguments es) = depth_of_exprs es

  pub depth_of_exprs : ExprsTree → ℕ
  depth_of_exprs (exprs_of first more) = max (depth_of_expr first) (depth_of_more_exprs more)

  pub depth_of_more_exprs : MoreExprsTree → ℕ
  depth_of_more_exprs no_more_exprs = 0
  depth_of_more_exprs (more_exprs comma e more) = max (depth_of_expr e) (depth_of_more_exprs more)

-- ---- types

abbrev mutual
  pub depth_of_type : TypeTree → ℕ
  depth_of_type (named_type q) = 0
  depth_of_type (array_type word es of_word t) = suc (max (depth_of_exprs es) (depth_of_type t))
  depth_of_type (record_type r) = depth_of_record r

  pub depth_of_record : RecordTree → ℕ
  depth_of_record (record_of word base fs last) = suc (depth_of_field_lists fs)

  pub depth_of_field_lists : FieldListsTree → ℕ
  depth_of_field_lists no_fields = 0
  depth_of_field_lists (some_fields first more) = max (depth_of_fields first) (depth_of_more_fields more)

  pub depth_of_more_fields : MoreFieldsTree → ℕ
  depth_of_more_fields no_more_fields = 0
  depth_of_more_fields (more_fields semicolon fs more) = max (depth_of_fields fs) (depth_of_more_fields more)

  pub depth_of_fields : FieldsTree → ℕ
  depth_of_fields (fields_of names colon t) = depth_of_type t

-- ---- statements

abbrev pub depth_of_step : StepTree → ℕ
depth_of_step no_step = 0
depth_of_step (step_of word e) = depth_of_expr e

abbrev mutual
  pub depth_of_statements : StatementsTree → ℕ
  depth_of_statements (statements_of first more) = max (depth_of_statement first) (depth_of_more_statements more)

  pub depth_of_more_statements : MoreStatementsTree → ℕ
  depth_of_more_statements no_more_statements = 0
  depth_of_more_statements (more_statements semicolon one more) = max (depth_of_statement one) (depth_of_more_statements more)

  pub depth_of_statement : StatementTree → ℕ
  depth_of_statement empty_statement = 0
  depth_of_statement (assign_statement d becomes e) = max (depth_of_designator d) (depth_of_expr e)
  depth_of_statement (call_statement d) = depth_of_designator d
  depth_of_statement (if_statement i) = depth_of_if i
  depth_of_statement (case_statement c) = depth_of_case c
  depth_of_statement (while_statement w) = depth_of_while w
  depth_of_statement (repeat_statement r) = depth_of_repeat r
  depth_of_statement (for_statement f) = depth_of_for f

  pub depth_of_if : IfTree → ℕ
  depth_of_if (if_of first more other last) = suc (max (depth_of_guarded first) (max (depth_of_elsifs more) (depth_of_else other)))

  pub depth_of_guarded : GuardedTree → ℕ
  depth_of_guarded (guarded_of word e then_place ss) = max (depth_of_expr e) (depth_of_statements ss)

  pub depth_of_elsifs : ElsifsTree → ℕ
  depth_of_elsifs no_elsifs = 0
  depth_of_elsifs (more_elsifs one more) = max (depth_of_guarded one) (depth_of_elsifs more)

  pub depth_of_else : ElseTree → ℕ
  depth_of_else no_else = 0
  depth_of_else (else_of word ss) = depth_of_statements ss

  pub depth_of_case : CaseTree → ℕ
  depth_of_case (case_of word e of_word first more last) = suc (max (depth_of_expr e) (max (depth_of_arm first) (depth_of_more_arms more)))

  pub depth_of_arm : ArmTree → ℕ
  depth_of_arm empty_arm = 0
  depth_of_arm (labelled_arm ls colon ss) = depth_of_statements ss

  pub depth_of_more_arms : MoreArmsTree → ℕ
  depth_of_more_arms no_more_arms = 0
  depth_of_more_arms (more_arms bar one more) = max (depth_of_arm one) (depth_of_more_arms more)

  pub depth_of_while : WhileTree → ℕ
  depth_of_while (while_of first more last) = suc (max (depth_of_guarded first) (depth_of_elsifs more))

  pub depth_of_repeat : RepeatTree → ℕ
  depth_of_repeat (repeat_of word ss until e) = suc (max (depth_of_statements ss) (depth_of_expr e))

  pub depth_of_for : ForTree → ℕ
  depth_of_for (for_of word v becomes e to_word limit step do_word ss last) =
      suc (max (depth_of_expr e) (max (depth_of_expr limit) (max (depth_of_step step) (depth_of_statements ss))))

-- ---- declarations

abbrev pub depth_of_constant : ConstantTree → ℕ
depth_of_constant c = depth_of_expr c.value

abbrev pub depth_of_constants : ConstantsTree → ℕ
depth_of_constants cs = depth_of_each depth_of_constant cs.items

abbrev pub depth_of_type_declaration : TypeDeclarationTree → ℕ
depth_of_type_declaration d = depth_of_type d.of_type

abbrev pub depth_of_types : TypesTree → ℕ
depth_of_types ts = depth_of_each depth_of_type_declaration ts.items

abbrev pub depth_of_variable : VariableTree → ℕ
depth_of_variable v = depth_of_type v.of_type

abbrev pub depth_of_variables : VariablesTree → ℕ
depth_of_variables vs = depth_of_each depth_of_variable vs.items

abbrev pub depth_of_declarations : DeclarationsTree → ℕ
depth_of_declarations d = max (depth_of_some depth_of_constants d.constants) (max (depth_of_some depth_of_types d.types) (depth_of_some depth_of_variables d.variables))

abbrev pub depth_of_local_constant : LocalConstantTree → ℕ
depth_of_local_constant c = depth_of_expr c.value

abbrev pub depth_of_local_constants : LocalConstantsTree → ℕ
depth_of_local_constants cs = depth_of_each depth_of_local_constant cs.items

abbrev pub depth_of_local_variable : LocalVariableTree → ℕ
depth_of_local_variable v = depth_of_type v.of_type

abbrev pub depth_of_local_variables : LocalVariablesTree → ℕ
depth_of_local_variables vs = depth_of_each depth_of_local_variable vs.items

abbrev pub depth_of_locals : LocalsTree → ℕ
depth_of_locals ls = max (depth_of_some depth_of_local_constants ls.constants) (depth_of_some depth_of_local_variables ls.variables)

-- each ARRAY of a formal type opens a level, which holds to the end of the type
abbrev pub depth_of_formal_type : FormalTypeTree → ℕ
depth_of_formal_type f = length f.opens

abbrev pub depth_of_section : SectionTree → ℕ
depth_of_section s = depth_of_formal_type s.of_type

abbrev pub depth_of_next_section : NextSectionTree → ℕ
depth_of_next_section n = depth_of_section n.section

abbrev pub depth_of_sections : SectionsTree → ℕ
depth_of_sections ss = max (depth_of_section ss.first) (depth_of_each depth_of_next_section ss.rest)

abbrev pub depth_of_formals : FormalsTree → ℕ
depth_of_formals f = depth_of_some depth_of_sections f.sections

abbrev pub depth_of_body : BodyTree → ℕ
depth_of_body b = depth_of_statements b.statements

abbrev pub depth_of_return : ReturnTree → ℕ
depth_of_return r = depth_of_expr r.value

abbrev pub depth_of_procedure : ProcedureTree → ℕ
depth_of_procedure p = suc (max (depth_of_some depth_of_formals p.formals) (max (depth_of_locals p.locals) (max (depth_of_some depth_of_body p.body) (depth_of_some depth_of_return p.returns))))

abbrev pub depth_of_procedure_item : ProcedureItemTree → ℕ
depth_of_procedure_item p = depth_of_procedure p.procedure

-- ---- the module

abbrev pub depth_of_module : ModuleTree → ℕ
depth_of_module m = max (depth_of_declarations m.declarations) (max (depth_of_each depth_of_procedure_item m.procedures) (depth_of_some depth_of_body m.body))
