-- From the trees in memory to the plain trees. `x_tree` takes an x, `x_list` the x of a slice or a `Vec`,
-- `x_row` the same as a recursive type holds them, and `x_held` and `x_option` one that may be absent.
use Rattle.std.specs.Prelude.{List, [], ◌∷◌, Option, Some, None, map}
use Rattle.std.specs.declared.alloc.Global.{Global}
use Rattle.std.specs.declared.boxed.Box.{Box}
use Rattle.std.specs.Option.{option_map}
use Rattle.oberon_tree.specs.declared.leaf.IdentDefs.{IdentDefs}
use Rattle.oberon_tree.specs.declared.leaf.Idents.{Idents}
use Rattle.oberon_tree.specs.declared.expression.Expr.{Expr, Expr', Held-Expr-relation, Expr-relation-None', Expr-relation-Some'}
use Rattle.oberon_tree.specs.declared.expression.Relation.{Relation, Relation'}
use Rattle.oberon_tree.specs.declared.expression.Simple.{Simple, Simple', Row_of-Addend, end_of-Addend, more_of-Addend}
use Rattle.oberon_tree.specs.declared.expression.Addend.{Addend, Addend'}
use Rattle.oberon_tree.specs.declared.expression.Term.{Term, Term', Row_of-Multiplier, end_of-Multiplier, more_of-Multiplier}
use Rattle.oberon_tree.specs.declared.expression.Multiplier.{Multiplier}
use Rattle.oberon_tree.specs.declared.expression.Factor.{Factor}
use Rattle.oberon_tree.specs.declared.expression.Factor.TheVariants as factors
use Rattle.oberon_tree.specs.declared.expression.Set.{Set, Set', Held-Set-elements, Set-elements-None', Set-elements-Some'}
use Rattle.oberon_tree.specs.declared.expression.Elements.{Elements, Elements', Row_of-NextElement, end_of-NextElement, more_of-NextElement}
use Rattle.oberon_tree.specs.declared.expression.NextElement.{NextElement, NextElement'}
use Rattle.oberon_tree.specs.declared.expression.Element.{Element, Element', Held-Element-upper, Element-upper-None', Element-upper-Some'}
use Rattle.oberon_tree.specs.declared.expression.Upper.{Upper, Upper'}
use Rattle.oberon_tree.specs.declared.expression.Designator.{Designator, Row_of-Selector, end_of-Selector, more_of-Selector}
use Rattle.oberon_tree.specs.declared.expression.Selector.{Selector, Held-Selector-Call-1, Selector-Call-1-None', Selector-Call-1-Some'}
use Rattle.oberon_tree.specs.declared.expression.Selector.TheVariants as selectors
use Rattle.oberon_tree.specs.declared.expression.Exprs.{Exprs, Exprs', Row_of-NextExpr, end_of-NextExpr, more_of-NextExpr}
use Rattle.oberon_tree.specs.declared.expression.NextExpr.{NextExpr, NextExpr'}
use Rattle.oberon_tree.specs.declared.types.«Type».{«Type» as TypeOf}
use Rattle.oberon_tree.specs.declared.types.«Type».TheVariants as types
use Rattle.oberon_tree.specs.declared.types.RecordType.{RecordType, RecordType', Held-RecordType-fields, None' as NoFields, Some' as SomeFields}
use Rattle.oberon_tree.specs.declared.types.FieldLists.{FieldLists, FieldLists', Row_of-NextFields, end_of-NextFields, more_of-NextFields}
use Rattle.oberon_tree.specs.declared.types.NextFields.{NextFields}
use Rattle.oberon_tree.specs.declared.types.Fields.{Fields}
use Rattle.oberon_tree.specs.declared.statement.Labels.{Labels}
use Rattle.oberon_tree.specs.declared.statement.Step.{Step}
use Rattle.oberon_tree.specs.declared.statement.Statements.{Statements, Statements', Row_of-NextStatement, end_of-NextStatement, more_of-NextStatement}
use Rattle.oberon_tree.specs.declared.statement.NextStatement.{NextStatement}
use Rattle.oberon_tree.specs.declared.statement.Statement.{Statement}
use Rattle.oberon_tree.specs.declared.statement.Statement.TheVariants as statements
use Rattle.oberon_tree.specs.declared.statement.If.{If, If', Row_of-Guarded, end_of-Guarded, more_of-Guarded, Held-If-otherwise, None' as NoElse, Some' as SomeElse}
use Rattle.oberon_tree.specs.declared.statement.Guarded.{Guarded, Guarded'}
use Rattle.oberon_tree.specs.declared.statement.ElsePart.{ElsePart, ElsePart'}
use Rattle.oberon_tree.specs.declared.statement.Case.{Case, Case', Row_of-NextArm, end_of-NextArm, more_of-NextArm}
use Rattle.oberon_tree.specs.declared.statement.NextArm.{NextArm}
use Rattle.oberon_tree.specs.declared.statement.Arm.{Arm}
use Rattle.oberon_tree.specs.declared.statement.Arm.TheVariants as arms
use Rattle.oberon_tree.specs.declared.statement.While.{While, While'}
use Rattle.oberon_tree.specs.declared.statement.Repeat.{Repeat, Repeat'}
use Rattle.oberon_tree.specs.declared.statement.For.{For, For'}
use Rattle.oberon_tree.specs.declared.module.Constant.{Constant}
use Rattle.oberon_tree.specs.declared.module.Constants.{Constants}
use Rattle.oberon_tree.specs.declared.module.TypeDeclaration.{TypeDeclaration}
use Rattle.oberon_tree.specs.declared.module.Types.{Types}
use Rattle.oberon_tree.specs.declared.module.Variable.{Variable}
use Rattle.oberon_tree.specs.declared.module.Variables.{Variables}
use Rattle.oberon_tree.specs.declared.module.Declarations.{Declarations}
use Rattle.oberon_tree.specs.declared.module.LocalConstant.{LocalConstant}
use Rattle.oberon_tree.specs.declared.module.LocalConstants.{LocalConstants}
use Rattle.oberon_tree.specs.declared.module.LocalVariable.{LocalVariable}
use Rattle.oberon_tree.specs.declared.module.LocalVariables.{LocalVariables}
use Rattle.oberon_tree.specs.declared.module.Locals.{Locals}
use Rattle.oberon_tree.specs.declared.module.FormalType.{FormalType}
use Rattle.oberon_tree.specs.declared.module.Section.{Section}
use Rattle.oberon_tree.specs.declared.module.NextSection.{NextSection}
use Rattle.oberon_tree.specs.declared.module.Sections.{Sections}
use Rattle.oberon_tree.specs.declared.module.Formals.{Formals}
use Rattle.oberon_tree.specs.declared.module.Body.{Body}
use Rattle.oberon_tree.specs.declared.module.ReturnPart.{ReturnPart}
use Rattle.oberon_tree.specs.declared.module.Procedure.{Procedure}
use Rattle.oberon_tree.specs.declared.module.ProcedureItem.{ProcedureItem}
use Rattle.oberon_tree.specs.declared.module.Imports.{Imports}
use Rattle.oberon_tree.specs.declared.module.Module.{Module}
use Rattle.oberon_tree.specs.declared.tree.Tree.{Tree}
use Rattle.oberon_tree.specs.Trees.{IdentDefsTree, IdentsTree, ExprTree, expr_of, RelationTree, no_relation, relation_of, SimpleTree, simple_of, AddendsTree, no_addends, more_addends, TermTree, term_of, MultipliersTree, no_multipliers, more_multipliers, FactorTree, integer_factor, string_factor, true_factor, false_factor, set_factor, designator_factor, group_factor, negation_factor, SetTree, set_of, ElementsTree, no_elements, some_elements, MoreElementsTree, no_more_elements, more_elements, ElementTree, element_of, UpperTree, no_upper, upper_of, DesignatorTree, designator_of, SelectorsTree, no_selectors, more_selectors, SelectorTree, field_selector, index_selector, call_selector, ArgumentsTree, no_arguments, some_arguments, ExprsTree, exprs_of, MoreExprsTree, no_more_exprs, more_exprs}
use Rattle.oberon_tree.specs.Trees.{TypeTree, named_type, array_type, record_type, RecordTree, record_of, FieldListsTree, no_fields, some_fields, MoreFieldsTree, no_more_fields, more_fields, FieldsTree, fields_of}
use Rattle.oberon_tree.specs.Trees.{LabelsTree, StepTree, no_step, step_of, StatementsTree, statements_of, MoreStatementsTree, no_more_statements, more_statements, StatementTree, empty_statement, assign_statement, call_statement, if_statement, case_statement, while_statement, repeat_statement, for_statement, IfTree, if_of, GuardedTree, guarded_of, ElsifsTree, no_elsifs, more_elsifs, ElseTree, no_else, else_of, CaseTree, case_of, ArmTree, empty_arm, labelled_arm, MoreArmsTree, no_more_arms, more_arms, WhileTree, while_of, RepeatTree, repeat_of, ForTree, for_of}
use Rattle.oberon_tree.specs.Trees.{ConstantTree, ConstantsTree, TypeDeclarationTree, TypesTree, VariableTree, VariablesTree, DeclarationsTree, LocalConstantTree, LocalConstantsTree, LocalVariableTree, LocalVariablesTree, LocalsTree, FormalTypeTree, SectionTree, NextSectionTree, SectionsTree, FormalsTree, BodyTree, ReturnTree, ProcedureTree, ProcedureItemTree, ImportsTree, ModuleTree}

-- ---- names in a row

abbrev pub ident_defs_tree : IdentDefs → IdentDefsTree
ident_defs_tree x = record { first = x.first; rest = x.rest.items }

abbrev pub idents_tree : Idents → IdentsTree
idents_tree x = record { first = x.first; rest = x.rest.items }

-- ---- expressions

abbrev mutual
  pub expr_tree : Expr → ExprTree
  expr_tree (Expr' left right) = expr_of (simple_tree left) (relation_held right)

  pub relation_held : Held-Expr-relation → RelationTree
  relation_held Expr-relation-None' = no_relation
  relation_held (Expr-relation-Some' p r) = relation_tree r

  pub relation_tree : Relation → RelationTree
  relation_tree (Relation' op span right) = relation_of op span (simple_tree right)

  pub simple_tree : Simple → SimpleTree
  simple_tree (Simple' sign first shape row) = simple_of sign (term_tree first) (addends_row row)

  pub addends_row : {m : _} → Row_of-Addend m → AddendsTree
  addends_row end_of-Addend = no_addends
  addends_row (more_of-Addend x row) = addend_before x (addends_row row)

  pub addend_before : Addend → AddendsTree → AddendsTree
  addend_before (Addend' op span t) more = more_addends op span (term_tree t) more

  pub term_tree : Term → TermTree
  term_tree (Term' first shape row) = term_of (factor_tree first) (multipliers_row row)

  pub multipliers_row : {m : _} → Row_of-Multiplier m → MultipliersTree
  multipliers_row end_of-Multiplier = no_multipliers
  multipliers_row (more_of-Multiplier op span f row) = more_multipliers op span (factor_tree f) (multipliers_row row)

  pub factor_tree : Factor → FactorTree
  factor_tree (factors.Integer n) = integer_factor n
  factor_tree (factors.Str s) = string_factor s
  factor_tree (factors.True span) = true_factor span
  factor_tree (factors.False span) = false_factor span
  factor_tree (factors.Set s) = set_factor (set_tree s)
  factor_tree (factors.Designator' name shape row) = designator_factor (designator_of name (selectors_row row))
  factor_tree (factors.Group' a p e b) = group_factor a (expr_tree e) b
  factor_tree (factors.Not' span p f) = negation_factor span (factor_tree f)

  pub set_tree : Set → SetTree
  set_tree (Set' a es b) = set_of a (elements_held es) b

  pub elements_held : Held-Set-elements → ElementsTree
  elements_held Set-elements-None' = no_elements
  elements_held (Set-elements-Some' p es) = elements_tree es

  pub elements_tree : Elements → ElementsTree
  elements_tree (Elements' first shape row) = some_elements (element_tree first) (more_elements_row row)

  pub more_elements_row : {m : _} → Row_of-NextElement m → MoreElementsTree
  more_elements_row end_of-NextElement = no_more_elements
  more_elements_row (more_of-NextElement x row) = element_before x (more_elements_row row)

  pub element_before : NextElement → MoreElementsTree → MoreElementsTree
  element_before (NextElement' comma e) more = more_elements comma (element_tree e) more

  pub element_tree : Element → ElementTree
  element_tree (Element' e last) = element_of (expr_tree e) (upper_held last)

  pub upper_held : Held-Element-upper → UpperTree
  upper_held Element-upper-None' = no_upper
  upper_held (Element-upper-Some' u) = upper_tree u

  pub upper_tree : Upper → UpperTree
  upper_tree (Upper' dots e) = upper_of dots (expr_tree e)

  pub selectors_row : {m : _} → Row_of-Selector m → SelectorsTree
  selectors_row end_of-Selector = no_selectors
  selectors_row (more_of-Selector x row) = more_selectors (selector_tree x) (selectors_row row)

  pub selector_tree : Selector → SelectorTree
  selector_tree (selectors.Field m) = field_selector m
  selector_tree (selectors.Index' a p es b) = index_selector a (exprs_tree es) b
  selector_tree (selectors.Call' a es b) = call_selector a (arguments_held es) b

  pub arguments_held : Held-Selector-Call-1 → ArgumentsTree
  arguments_held Selector-Call-1-None' = no_arguments
  arguments_held (Selector-Call-1-Some' p es) = some_arguments (exprs_tree es)

  pub exprs_tree : Exprs → ExprsTree
  exprs_tree (Exprs' first shape row) = exprs_of (expr_tree first) (more_exprs_row row)

  pub more_exprs_row : {m : _} → Row_of-NextExpr m → MoreExprsTree
  more_exprs_row end_of-NextExpr = no_more_exprs
  more_exprs_row (more_of-NextExpr x row) = expr_before x (more_exprs_row row)

  pub expr_before : NextExpr → MoreExprsTree → MoreExprsTree
  expr_before (NextExpr' comma e) more = more_exprs comma (expr_tree e) more

abbrev pub relation_option : Option (Box Relation Global) → RelationTree
relation_option None = no_relation
relation_option (Some b) = relation_tree b.value

abbrev pub addends_list : List Addend → AddendsTree
addends_list [] = no_addends
addends_list (x ∷ xs) = addend_before x (addends_list xs)

abbrev pub multipliers_list : List Multiplier → MultipliersTree
multipliers_list [] = no_multipliers
multipliers_list (x ∷ xs) = more_multipliers x.operator x.span (factor_tree x.factor) (multipliers_list xs)

abbrev pub elements_option : Option (Box Elements Global) → ElementsTree
elements_option None = no_elements
elements_option (Some b) = elements_tree b.value

abbrev pub more_elements_list : List NextElement → MoreElementsTree
more_elements_list [] = no_more_elements
more_elements_list (x ∷ xs) = element_before x (more_elements_list xs)

abbrev pub upper_option : Option Upper → UpperTree
upper_option None = no_upper
upper_option (Some u) = upper_tree u

abbrev pub selectors_list : List Selector → SelectorsTree
selectors_list [] = no_selectors
selectors_list (x ∷ xs) = more_selectors (selector_tree x) (selectors_list xs)

abbrev pub designator_tree : Designator → DesignatorTree
designator_tree d = designator_of d.name (selectors_list d.selectors.items)

abbrev pub arguments_option : Option (Box Exprs Global) → ArgumentsTree
arguments_option None = no_arguments
arguments_option (Some b) = some_arguments (exprs_tree b.value)

abbrev pub more_exprs_list : List NextExpr → MoreExprsTree
more_exprs_list [] = no_more_exprs
more_exprs_list (x ∷ xs) = expr_before x (more_exprs_list xs)

-- ---- types

abbrev mutual
  pub type_tree : TypeOf → TypeTree
  type_tree (types.Named q) = named_type q
  type_tree (types.Array' p word es of_word t) = array_type word (exprs_tree es) of_word (type_tree t)
  type_tree (types.Record' p r) = record_type (record_tree r)

  pub record_tree : RecordType → RecordTree
  record_tree (RecordType' word base fs last) = record_of word base (field_lists_held fs) last

  pub field_lists_held : Held-RecordType-fields → FieldListsTree
  field_lists_held NoFields = no_fields
  field_lists_held (SomeFields fs) = field_lists_tree fs

  pub field_lists_tree : FieldLists → FieldListsTree
  field_lists_tree (FieldLists' names colon t shape row) = some_fields (fields_of (ident_defs_tree names) colon (type_tree t)) (more_fields_row row)

  pub more_fields_row : {m : _} → Row_of-NextFields m → MoreFieldsTree
  more_fields_row end_of-NextFields = no_more_fields
  more_fields_row (more_of-NextFields semicolon names colon t row) = more_fields semicolon (fields_of (ident_defs_tree names) colon (type_tree t)) (more_fields_row row)

abbrev pub fields_tree : Fields → FieldsTree
fields_tree f = fields_of (ident_defs_tree f.names) f.colon (type_tree f.of_type)

abbrev pub field_lists_option : Option FieldLists → FieldListsTree
field_lists_option None = no_fields
field_lists_option (Some fs) = field_lists_tree fs

abbrev pub more_fields_list : List NextFields → MoreFieldsTree
more_fields_list [] = no_more_fields
more_fields_list (x ∷ xs) = more_fields x.semicolon (fields_tree x.fields) (more_fields_list xs)

-- ---- statements

abbrev pub labels_tree : Labels → LabelsTree
labels_tree x = record { first = x.first; rest = x.rest.items }

abbrev pub step_option : Option Step → StepTree
step_option None = no_step
step_option (Some s) = step_of s.word (expr_tree s.value)

abbrev mutual
  pub statements_tree : Statements → StatementsTree
  statements_tree (Statements' first shape row) = statements_of (statement_tree first) (more_statements_row row)

  pub more_statements_row : {m : _} → Row_of-NextStatement m → MoreStatementsTree
  more_statements_row end_of-NextStatement = no_more_statements
  more_statements_row (more_of-NextStatement semicolon one row) = more_statements semicolon (statement_tree one) (more_statements_row row)

  pub statement_tree : Statement → StatementTree
  statement_tree statements.Empty = empty_statement
  statement_tree (statements.Assignment b) = assign_statement (designator_tree b.value.designator) b.value.becomes (expr_tree b.value.value)
  statement_tree (statements.Call d) = call_statement (designator_tree d)
  statement_tree (statements.If' p x) = if_statement (if_tree x)
  statement_tree (statements.Case' p x) = case_statement (case_tree x)
  statement_tree (statements.While' p x) = while_statement (while_tree x)
  statement_tree (statements.Repeat' p x) = repeat_statement (repeat_tree x)
  statement_tree (statements.For' p x) = for_statement (for_tree x)

  pub if_tree : If → IfTree
  if_tree (If' first shape row other last) = if_of (guarded_tree first) (elsifs_row row) (else_held other) last

  pub guarded_tree : Guarded → GuardedTree
  guarded_tree (Guarded' word e then_word ss) = guarded_of word (expr_tree e) then_word (statements_tree ss)

  pub elsifs_row : {m : _} → Row_of-Guarded m → ElsifsTree
  elsifs_row end_of-Guarded = no_elsifs
  elsifs_row (more_of-Guarded x row) = more_elsifs (guarded_tree x) (elsifs_row row)

  pub else_held : Held-If-otherwise → ElseTree
  else_held NoElse = no_else
  else_held (SomeElse e) = else_tree e

  pub else_tree : ElsePart → ElseTree
  else_tree (ElsePart' word ss) = else_of word (statements_tree ss)

  pub case_tree : Case → CaseTree
  case_tree (Case' word e of_word first shape row last) = case_of word (expr_tree e) of_word (arm_tree first) (more_arms_row row) last

  pub arm_tree : Arm → ArmTree
  arm_tree arms.Empty = empty_arm
  arm_tree (arms.Labelled ls colon ss) = labelled_arm (labels_tree ls) colon (statements_tree ss)

  pub more_arms_row : {m : _} → Row_of-NextArm m → MoreArmsTree
  more_arms_row end_of-NextArm = no_more_arms
  more_arms_row (more_of-NextArm bar one row) = more_arms bar (arm_tree one) (more_arms_row row)

  pub while_tree : While → WhileTree
  while_tree (While' first shape row last) = while_of (guarded_tree first) (elsifs_row row) last

  pub repeat_tree : Repeat → RepeatTree
  repeat_tree (Repeat' word ss until e) = repeat_of word (statements_tree ss) until (expr_tree e)

  pub for_tree : For → ForTree
  for_tree (For' word v becomes e to_word limit step do_word ss last) = for_of word v becomes (expr_tree e) to_word (expr_tree limit) (step_option step) do_word (statements_tree ss) last

abbrev pub more_statements_list : List NextStatement → MoreStatementsTree
more_statements_list [] = no_more_statements
more_statements_list (x ∷ xs) = more_statements x.semicolon (statement_tree x.statement) (more_statements_list xs)

abbrev pub elsifs_list : List Guarded → ElsifsTree
elsifs_list [] = no_elsifs
elsifs_list (x ∷ xs) = more_elsifs (guarded_tree x) (elsifs_list xs)

abbrev pub else_option : Option ElsePart → ElseTree
else_option None = no_else
else_option (Some e) = else_tree e

abbrev pub more_arms_list : List NextArm → MoreArmsTree
more_arms_list [] = no_more_arms
more_arms_list (x ∷ xs) = more_arms x.bar (arm_tree x.arm) (more_arms_list xs)

-- ---- declarations

abbrev pub constant_tree : Constant → ConstantTree
constant_tree x = record { name = x.name; equal = x.equal; value = expr_tree x.value; semicolon = x.semicolon }

abbrev pub constants_tree : Constants → ConstantsTree
constants_tree x = record { word = x.word; items = map constant_tree x.items.items }

abbrev pub type_declaration_tree : TypeDeclaration → TypeDeclarationTree
type_declaration_tree x = record { name = x.name; equal = x.equal; of_type = type_tree x.of_type; semicolon = x.semicolon }

abbrev pub types_tree : Types → TypesTree
types_tree x = record { word = x.word; items = map type_declaration_tree x.items.items }

abbrev pub variable_tree : Variable → VariableTree
variable_tree x = record { names = ident_defs_tree x.names; colon = x.colon; of_type = type_tree x.of_type; semicolon = x.semicolon }

abbrev pub variables_tree : Variables → VariablesTree
variables_tree x = record { word = x.word; items = map variable_tree x.items.items }

abbrev pub declarations_tree : Declarations → DeclarationsTree
declarations_tree x = record { constants = option_map constants_tree x.constants; types = option_map types_tree x.types; variables = option_map variables_tree x.variables }

abbrev pub local_constant_tree : LocalConstant → LocalConstantTree
local_constant_tree x = record { name = x.name; equal = x.equal; value = expr_tree x.value; semicolon = x.semicolon }

abbrev pub local_constants_tree : LocalConstants → LocalConstantsTree
local_constants_tree x = record { word = x.word; items = map local_constant_tree x.items.items }

abbrev pub local_variable_tree : LocalVariable → LocalVariableTree
local_variable_tree x = record { names = idents_tree x.names; colon = x.colon; of_type = type_tree x.of_type; semicolon = x.semicolon }

abbrev pub local_variables_tree : LocalVariables → LocalVariablesTree
local_variables_tree x = record { word = x.word; items = map local_variable_tree x.items.items }

abbrev pub locals_tree : Locals → LocalsTree
locals_tree x = record { constants = option_map local_constants_tree x.constants; variables = option_map local_variables_tree x.variables }

abbrev pub formal_type_tree : FormalType → FormalTypeTree
formal_type_tree x = record { opens = x.opens.items; name = x.name }

abbrev pub section_tree : Section → SectionTree
section_tree x = record { by_var = x.by_var; names = idents_tree x.names; colon = x.colon; of_type = formal_type_tree x.of_type }

abbrev pub next_section_tree : NextSection → NextSectionTree
next_section_tree x = record { semicolon = x.semicolon; section = section_tree x.section }

abbrev pub sections_tree : Sections → SectionsTree
sections_tree x = record { first = section_tree x.first; rest = map next_section_tree x.rest.items }

abbrev pub formals_tree : Formals → FormalsTree
formals_tree x = record { opening = x.opening; sections = option_map sections_tree x.sections; closing = x.closing; result_type = x.result_type }

abbrev pub body_tree : Body → BodyTree
body_tree x = record { word = x.word; statements = statements_tree x.statements }

abbrev pub return_tree : ReturnPart → ReturnTree
return_tree x = record { word = x.word; value = expr_tree x.value }

abbrev pub procedure_tree : Procedure → ProcedureTree
procedure_tree x = record {
  word = x.word;
  name = x.name;
  formals = option_map formals_tree x.formals;
  semicolon = x.semicolon;
  locals = locals_tree x.locals;
  body = option_map body_tree x.body;
  returns = option_map return_tree x.returns;
  end = x.end;
  end_name = x.end_name;
}

abbrev pub procedure_item_tree : ProcedureItem → ProcedureItemTree
procedure_item_tree x = record { procedure = procedure_tree x.procedure; semicolon = x.semicolon }

abbrev pub imports_tree : Imports → ImportsTree
imports_tree x = record { word = x.word; first = x.first; rest = x.rest.items; semicolon = x.semicolon }

abbrev pub module_tree : Module → ModuleTree
module_tree x = record {
  word = x.word;
  name = x.name;
  semicolon = x.semicolon;
  imports = option_map imports_tree x.imports;
  declarations = declarations_tree x.declarations;
  procedures = map procedure_item_tree x.procedures.items;
  body = option_map body_tree x.body;
  end = x.end;
  end_name = x.end_name;
  period = x.period;
}

-- the tree that is shared
abbrev pub tree_of : Tree → ModuleTree
tree_of t = module_tree t.root.value
