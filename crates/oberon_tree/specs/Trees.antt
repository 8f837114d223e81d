-- The syntax trees of Oberon-07 as plain data: a module as the grammar has it, and nothing of how it
-- lies in memory. Each construct has its parts in the order of its line in the grammar (The Programming
-- Language Oberon-07, sections 4 to 11), with the span of every token.
use Rattle.std.specs.Prelude.{List, Option}
use Rattle.ob_text.specs.declared.span.Span.{Span}
use Rattle.oberon_tree.specs.declared.leaf.Ident.{Ident}
use Rattle.oberon_tree.specs.declared.leaf.IntegerLiteral.{IntegerLiteral}
use Rattle.oberon_tree.specs.declared.leaf.StringLiteral.{StringLiteral}
use Rattle.oberon_tree.specs.declared.leaf.Qualident.{Qualident}
use Rattle.oberon_tree.specs.declared.leaf.Member.{Member}
use Rattle.oberon_tree.specs.declared.leaf.IdentDef.{IdentDef}
use Rattle.oberon_tree.specs.declared.leaf.NextIdentDef.{NextIdentDef}
use Rattle.oberon_tree.specs.declared.leaf.NextIdent.{NextIdent}
use Rattle.oberon_tree.specs.declared.expression.Relator.{Relator}
use Rattle.oberon_tree.specs.declared.expression.AddOperator.{AddOperator}
use Rattle.oberon_tree.specs.declared.expression.MulOperator.{MulOperator}
use Rattle.oberon_tree.specs.declared.expression.Signed.{Signed}
use Rattle.oberon_tree.specs.declared.types.Base.{Base}
use Rattle.oberon_tree.specs.declared.statement.Label.{Label}
use Rattle.oberon_tree.specs.declared.statement.NextLabel.{NextLabel}
use Rattle.oberon_tree.specs.declared.module.Import.{Import}
use Rattle.oberon_tree.specs.declared.module.NextImport.{NextImport}
use Rattle.oberon_tree.specs.declared.module.OpenArray.{OpenArray}
use Rattle.oberon_tree.specs.declared.module.ResultType.{ResultType}

-- ---- names in a row

-- identlist = identdef {"," identdef}
pub record IdentDefsTree : Type 0 where
  pub first : IdentDef
  pub rest : List NextIdentDef

-- ident {"," ident}
pub record IdentsTree : Type 0 where
  pub first : Ident
  pub rest : List NextIdent

-- ---- expressions (section 8)

mutual
  -- expr = simple [relator simple]
  pub data ExprTree : Type 0 where
    expr_of : SimpleTree → RelationTree → ExprTree

  pub data RelationTree : Type 0 where
    no_relation : RelationTree
    relation_of : Relator → Span → SimpleTree → RelationTree

  -- simple = ["+" | "-"] term {addoperator term}
  pub data SimpleTree : Type 0 where
    simple_of : Option Signed → TermTree → AddendsTree → SimpleTree

  pub data AddendsTree : Type 0 where
    no_addends : AddendsTree
    more_addends : AddOperator → Span → TermTree → AddendsTree → AddendsTree

  -- term = factor {muloperator factor}
  pub data TermTree : Type 0 where
    term_of : FactorTree → MultipliersTree → TermTree

  pub data MultipliersTree : Type 0 where
    no_multipliers : MultipliersTree
    more_multipliers : MulOperator → Span → FactorTree → MultipliersTree → MultipliersTree

  -- factor = integer | string | TRUE | FALSE | set | designator | "(" expr ")" | "~" factor
  pub data FactorTree : Type 0 where
    integer_factor : IntegerLiteral → FactorTree
    string_factor : StringLiteral → FactorTree
    true_factor : Span → FactorTree
    false_factor : Span → FactorTree
    set_factor : SetTree → FactorTree
    designator_factor : DesignatorTree → FactorTree
    group_factor : Span → ExprTree → Span → FactorTree
    negation_factor : Span → FactorTree → FactorTree

  -- set = "{" [element {"," element}] "}"
  pub data SetTree : Type 0 where
    set_of : Span → ElementsTree → Span → SetTree

  pub data ElementsTree : Type 0 where
    no_elements : ElementsTree
    some_elements : ElementTree → MoreElementsTree → ElementsTree

  pub data MoreElementsTree : Type 0 where
    no_more_elements : MoreElementsTree
    more_elements : Span → ElementTree → MoreElementsTree → MoreElementsTree

  -- element = expr [".." expr]
  pub data ElementTree : Type 0 where
    element_of : ExprTree → UpperTree → ElementTree

  pub data UpperTree : Type 0 where
    no_upper : UpperTree
    upper_of : Span → ExprTree → UpperTree

  -- designator = ident {selector}
  pub data DesignatorTree : Type 0 where
    designator_of : Ident → SelectorsTree → DesignatorTree

  pub data SelectorsTree : Type 0 where
    no_selectors : SelectorsTree
    more_selectors : SelectorTree → SelectorsTree → SelectorsTree

  -- selector = "." ident | "[" exprs "]" | "(" [exprs] ")"
  pub data SelectorTree : Type 0 where
    field_selector : Member → SelectorTree
    index_selector : Span → ExprsTree → Span → SelectorTree
    call_selector : Span → ArgumentsTree → Span → SelectorTree

  pub data ArgumentsTree : Type 0 where
    no_arguments : ArgumentsTree
    some_arguments : ExprsTree → ArgumentsTree

  -- exprs = expr {"," expr}
  pub data ExprsTree : Type 0 where
    exprs_of : ExprTree → MoreExprsTree → ExprsTree

  pub data MoreExprsTree : Type 0 where
    no_more_exprs : MoreExprsTree
    more_exprs : Span → ExprTree → MoreExprsTree → MoreExprsTree

-- ---- types (section 6)

mutual
  -- type = qualident | ARRAY exprs OF type | record
  pub data TypeTree : Type 0 where
    named_type : Qualident → TypeTree
    array_type : Span → ExprsTree → Span → TypeTree → TypeTree
    record_type : RecordTree → TypeTree

  -- record = RECORD ["(" qualident ")"] [fields {";" fields}] END
  pub data RecordTree : Type 0 where
    record_of : Span → Option Base → FieldListsTree → Span → RecordTree

  pub data FieldListsTree : Type 0 where
    no_fields : FieldListsTree
    some_fields : FieldsTree → MoreFieldsTree → FieldListsTree

  pub data MoreFieldsTree : Type 0 where
    no_more_fields : MoreFieldsTree
    more_fields : Span → FieldsTree → MoreFieldsTree → MoreFieldsTree

  -- fields = identlist ":" type
  pub data FieldsTree : Type 0 where
    fields_of : IdentDefsTree → Span → TypeTree → FieldsTree

-- ---- statements (section 9)

-- label {"," label}
pub record LabelsTree : Type 0 where
  pub first : Label
  pub rest : List NextLabel

-- [BY expr]
pub data StepTree : Type 0 where
  no_step : StepTree
  step_of : Span → ExprTree → StepTree

mutual
  -- stmts = stmt {";" stmt}
  pub data StatementsTree : Type 0 where
    statements_of : StatementTree → MoreStatementsTree → StatementsTree

  pub data MoreStatementsTree : Type 0 where
    no_more_statements : MoreStatementsTree
    more_statements : Span → StatementTree → MoreStatementsTree → MoreStatementsTree

  -- stmt = [designator [":=" expr] | if | case | while | repeat | for]
  pub data StatementTree : Type 0 where
    empty_statement : StatementTree
    assign_statement : DesignatorTree → Span → ExprTree → StatementTree
    call_statement : DesignatorTree → StatementTree
    if_statement : IfTree → StatementTree
    case_statement : CaseTree → StatementTree
    while_statement : WhileTree → StatementTree
    repeat_statement : RepeatTree → StatementTree
    for_statement : ForTree → StatementTree

  -- if = IF expr THEN stmts {ELSIF expr THEN stmts} [ELSE stmts] END
  pub data IfTree : Type 0 where
    if_of : GuardedTree → ElsifsTree → ElseTree → Span → IfTree

  -- a word, a condition, THEN or DO, and the statements under the condition
  pub data GuardedTree : Type 0 where
    guarded_of : Span → ExprTree → Span → StatementsTree → GuardedTree

  pub data ElsifsTree : Type 0 where
    no_elsifs : ElsifsTree
    more_elsifs : GuardedTree → ElsifsTree → ElsifsTree

  pub data ElseTree : Type 0 where
    no_else : ElseTree
    else_of : Span → StatementsTree → ElseTree

  -- case = CASE expr OF arm {"|" arm} END
  pub data CaseTree : Type 0 where
    case_of : Span → ExprTree → Span → ArmTree → MoreArmsTree → Span → CaseTree

  -- arm = [label {"," label} ":" stmts]
  pub data ArmTree : Type 0 where
    empty_arm : ArmTree
    labelled_arm : LabelsTree → Span → StatementsTree → ArmTree

  pub data MoreArmsTree : Type 0 where
    no_more_arms : MoreArmsTree
    more_arms : Span → ArmTree → MoreArmsTree → MoreArmsTree

  -- while = WHILE expr DO stmts {ELSIF expr DO stmts} END
  pub data WhileTree : Type 0 where
    while_of : GuardedTree → ElsifsTree → Span → WhileTree

  -- repeat = REPEAT stmts UNTIL expr
  pub data RepeatTree : Type 0 where
    repeat_of : Span → StatementsTree → Span → ExprTree → RepeatTree

  -- for = FOR ident ":=" expr TO expr [BY expr] DO stmts END
  pub data ForTree : Type 0 where
    for_of : Span → Ident → Span → ExprTree → Span → ExprTree → StepTree → Span → StatementsTree → Span → ForTree

-- ---- declarations (sections 5 to 7, 10) and the module (section 11)

-- identdef "=" expr ";"
pub record ConstantTree : Type 0 where
  pub name : IdentDef
  pub equal : Span
  pub value : ExprTree
  pub semicolon : Span

-- CONST {constant}
pub record ConstantsTree : Type 0 where
  pub word : Span
  pub items : List ConstantTree

-- identdef "=" type ";"
pub record TypeDeclarationTree : Type 0 where
  pub name : IdentDef
  pub equal : Span
  pub of_type : TypeTree
  pub semicolon : Span

-- TYPE {typedeclaration}
pub record TypesTree : Type 0 where
  pub word : Span
  pub items : List TypeDeclarationTree

-- identlist ":" type ";"
pub record VariableTree : Type 0 where
  pub names : IdentDefsTree
  pub colon : Span
  pub of_type : TypeTree
  pub semicolon : Span

-- VAR {variable}
pub record VariablesTree : Type 0 where
  pub word : Span
  pub items : List VariableTree

-- decls = [constants] [types] [variables]
pub record DeclarationsTree : Type 0 where
  pub constants : Option ConstantsTree
  pub types : Option TypesTree
  pub variables : Option VariablesTree

-- ident "=" expr ";"
pub record LocalConstantTree : Type 0 where
  pub name : Ident
  pub equal : Span
  pub value : ExprTree
  pub semicolon : Span

-- CONST {localconstant}
pub record LocalConstantsTree : Type 0 where
  pub word : Span
  pub items : List LocalConstantTree

-- ident {"," ident} ":" type ";"
pub record LocalVariableTree : Type 0 where
  pub names : IdentsTree
  pub colon : Span
  pub of_type : TypeTree
  pub semicolon : Span

-- VAR {localvariable}
pub record LocalVariablesTree : Type 0 where
  pub word : Span
  pub items : List LocalVariableTree

-- locals = [localconstants] [localvariables]
pub record LocalsTree : Type 0 where
  pub constants : Option LocalConstantsTree
  pub variables : Option LocalVariablesTree

-- {ARRAY OF} qualident
pub record FormalTypeTree : Type 0 where
  pub opens : List OpenArray
  pub name : Qualident

-- section = [VAR] ident {"," ident} ":" {ARRAY OF} qualident
pub record SectionTree : Type 0 where
  pub by_var : Option Span
  pub names : IdentsTree
  pub colon : Span
  pub of_type : FormalTypeTree

-- ";" section
pub record NextSectionTree : Type 0 where
  pub semicolon : Span
  pub section : SectionTree

-- section {";" section}
pub record SectionsTree : Type 0 where
  pub first : SectionTree
  pub rest : List NextSectionTree

-- formals = "(" [section {";" section}] ")" [":" qualident]
pub record FormalsTree : Type 0 where
  pub opening : Span
  pub sections : Option SectionsTree
  pub closing : Span
  pub result_type : Option ResultType

-- BEGIN stmts
pub record BodyTree : Type 0 where
  pub word : Span
  pub statements : StatementsTree

-- RETURN expr
pub record ReturnTree : Type 0 where
  pub word : Span
  pub value : ExprTree

-- procedure = PROCEDURE identdef [formals] ";" locals [BEGIN stmts] [RETURN expr] END ident
pub record ProcedureTree : Type 0 where
  pub word : Span
  pub name : IdentDef
  pub formals : Option FormalsTree
  pub semicolon : Span
  pub locals : LocalsTree
  pub body : Option BodyTree
  pub returns : Option ReturnTree
  pub end : Span
  pub end_name : Ident

-- procedure ";"
pub record ProcedureItemTree : Type 0 where
  pub procedure : ProcedureTree
  pub semicolon : Span

-- IMPORT import {"," import} ";"
pub record ImportsTree : Type 0 where
  pub word : Span
  pub first : Import
  pub rest : List NextImport
  pub semicolon : Span

-- module = MODULE ident ";" [imports] decls {procedure ";"} [BEGIN stmts] END ident "."
pub record ModuleTree : Type 0 where
  pub word : Span
  pub name : Ident
  pub semicolon : Span
  pub imports : Option ImportsTree
  pub declarations : DeclarationsTree
  pub procedures : List ProcedureItemTree
  pub body : Option BodyTree
  pub end : Span
  pub end_name : Ident
  pub period : Span
