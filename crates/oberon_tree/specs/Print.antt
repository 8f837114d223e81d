-- How a tree is printed as its tokens. Each function prints in front of the tokens that follow, so that
-- a line of the grammar is a line here.
use Rattle.std.specs.Prelude.{List, [], ◌∷◌, Option, Some, None}
use Rattle.ob_text.specs.declared.span.Span.{Span}
use Rattle.oberon_scan.specs.declared.token.Token.{Token}
use Rattle.oberon_scan.specs.declared.token.Word.{Word}
use Rattle.oberon_scan.specs.declared.token.Word.TheVariants as words
use Rattle.oberon_scan.specs.declared.token.Symbol.TheVariants as symbols
use Rattle.oberon_tree.specs.declared.leaf.Qualident.{Qualident}
use Rattle.oberon_tree.specs.declared.leaf.Member.{Member}
use Rattle.oberon_tree.specs.declared.leaf.IdentDef.{IdentDef}
use Rattle.oberon_tree.specs.declared.leaf.NextIdentDef.{NextIdentDef}
use Rattle.oberon_tree.specs.declared.leaf.NextIdent.{NextIdent}
use Rattle.oberon_tree.specs.declared.expression.Signed.{Signed}
use Rattle.oberon_tree.specs.declared.types.Base.{Base}
use Rattle.oberon_tree.specs.declared.statement.Label.{Label}
use Rattle.oberon_tree.specs.declared.statement.LabelUpper.{LabelUpper}
use Rattle.oberon_tree.specs.declared.statement.LabelValue.{LabelValue}
use Rattle.oberon_tree.specs.declared.statement.LabelValue.TheVariants as values
use Rattle.oberon_tree.specs.declared.statement.NextLabel.{NextLabel}
use Rattle.oberon_tree.specs.declared.module.Alias.{Alias}
use Rattle.oberon_tree.specs.declared.module.Import.{Import}
use Rattle.oberon_tree.specs.declared.module.NextImport.{NextImport}
use Rattle.oberon_tree.specs.declared.module.OpenArray.{OpenArray}
use Rattle.oberon_tree.specs.declared.module.ResultType.{ResultType}
use Rattle.oberon_tree.specs.Tokens.{symbol_token, word_token, ident_token, integer_token, string_token, relator_token, sign_token, add_token, mul_token}
use Rattle.oberon_tree.specs.Trees.{IdentDefsTree, IdentsTree, ExprTree, expr_of, RelationTree, no_relation, relation_of, SimpleTree, simple_of, AddendsTree, no_addends, more_addends, TermTree, term_of, MultipliersTree, no_multipliers, more_multipliers, FactorTree, integer_factor, string_factor, true_factor, false_factor, set_factor, designator_factor, group_factor, negation_factor, SetTree, set_of, ElementsTree, no_elements, some_elements, MoreElementsTree, no_more_elements, more_elements, ElementTree, element_of, UpperTree, no_upper, upper_of, DesignatorTree, designator_of, SelectorsTree, no_selectors, more_selectors, SelectorTree, field_selector, index_selector, call_selector, ArgumentsTree, no_arguments, some_arguments, ExprsTree, exprs_of, MoreExprsTree, no_more_exprs, more_exprs}
use Rattle.oberon_tree.specs.Trees.{TypeTree, named_type, array_type, record_type, RecordTree, record_of, FieldListsTree, no_fields, some_fields, MoreFieldsTree, no_more_fields, more_fields, FieldsTree, fields_of}
use Rattle.oberon_tree.specs.Trees.{LabelsTree, StepTree, no_step, step_of, StatementsTree, statements_of, MoreStatementsTree, no_more_statements, more_statements, StatementTree, empty_statement, assign_statement, call_statement, if_statement, case_statement, while_statement, repeat_statement, for_statement, IfTree, if_of, GuardedTree, guarded_of, ElsifsTree, no_elsifs, more_elsifs, ElseTree, no_else, else_of, CaseTree, case_of, ArmTree, empty_arm, labelled_arm, MoreArmsTree, no_more_arms, more_arms, WhileTree, while_of, RepeatTree, repeat_of, ForTree, for_of}
use Rattle.oberon_tree.specs.Trees.{ConstantTree, ConstantsTree, TypeDeclarationTree, TypesTree, VariableTree, VariablesTree, DeclarationsTree, LocalConstantTree, LocalConstantsTree, LocalVariableTree, LocalVariablesTree, LocalsTree, FormalTypeTree, SectionTree, NextSectionTree, SectionsTree, FormalsTree, BodyTree, ReturnTree, ProcedureTree, ProcedureItemTree, ImportsTree, ModuleTree}

-- the parts of a list, one after another
abbrev pub print_each : {A : Type 0} → (A → List Token → List Token) → List A → List Token → List Token
print_each print [] rest = rest
print_each print (x ∷ xs) rest = print x (print_each print xs rest)

-- a part where it stands
abbrev pub print_some : {A : Type 0} → (A → List Token → List Token) → Option A → List Token → List Token
print_some print None rest = rest
print_some print (Some x) rest = print x rest

-- ---- names

abbrev pub print_member : Member → List Token → List Token
print_member m rest = symbol_token symbols.Period m.period ∷ ident_token m.name ∷ rest

abbrev pub print_qualident : Qualident → List Token → List Token
print_qualident q rest = ident_token q.first ∷ print_some print_member q.member rest

abbrev pub print_mark : Span → List Token → List Token
print_mark span rest = symbol_token symbols.Star span ∷ rest

abbrev pub print_ident_def : IdentDef → List Token → List Token
print_ident_def d rest = ident_token d.name ∷ print_some print_mark d.export rest

abbrev pub print_next_ident_def : NextIdentDef → List Token → List Token
print_next_ident_def n rest = symbol_token symbols.Comma n.comma ∷ print_ident_def n.ident rest

abbrev pub print_ident_defs : IdentDefsTree → List Token → List Token
print_ident_defs ds rest = print_ident_def ds.first (print_each print_next_ident_def ds.rest rest)

abbrev pub print_next_ident : NextIdent → List Token → List Token
print_next_ident n rest = symbol_token symbols.Comma n.comma ∷ ident_token n.ident ∷ rest

abbrev pub print_idents : IdentsTree → List Token → List Token
print_idents is rest = ident_token is.first ∷ print_each print_next_ident is.rest rest

-- ---- expressions

abbrev pub print_sign : Signed → List Token → List Token
print_sign s rest = sign_token s.sign s.span ∷ rest

abbrev mutual
  pub print_expr : ExprTree → List Token → List Token
  print_expr (expr_of left right) rest = print_simple left (print_relation right rest)

  pub print_relation : RelationTree → List Token → List Token
  print_relation no_relation rest = rest
  print_relation (relation_of op span right) rest = relator_token op span ∷ print_simple right rest

  pub print_simple : SimpleTree → List Token → List Token
  print_simple (simple_of sign first more) rest = print_some print_sign sign (print_term first (print_addends more rest))

  pub print_addends : AddendsTree → List Token → List Token
  print_addends no_addends rest = rest
  print_addends (more_addends op span t more) rest = add_token op span ∷ print_term t (print_addends more rest)

  pub print_term : TermTree → List Token → List Token
  print_term (term_of first more) rest = print_factor first (print_multipliers more rest)

  pub print_multipliers : MultipliersTree → List Token → List Token
  print_multipliers no_multipliers rest = rest
  print_multipliers (more_multipliers op span f more) rest = mul_token op span ∷ print_factor f (print_multipliers more rest)

  pub print_factor : FactorTree → List Token → List Token
  print_factor (integer_factor n) rest = integer_token n ∷ rest
  print_factor (string_factor s) rest = string_token s ∷ rest
  print_factor (true_factor span) rest = word_token words.True span ∷ rest
  print_factor (false_factor span) rest = word_token words.False span ∷ rest
  print_factor (set_factor s) rest = print_set s rest
  print_factor (designator_factor d) rest = print_designator d rest
  print_factor (group_factor a e b) rest = symbol_token symbols.OpenParen a ∷ print_expr e (symbol_token symbols.CloseParen b ∷ rest)
  print_factor (negation_factor span f) rest = symbol_token symbols.Tilde span ∷ print_factor f rest

  pub print_set : SetTree → List Token → List Token
  print_set (set_of a es b) rest = symbol_token symbols.OpenBrace a ∷ print_elements es (symbol_token symbols.CloseBrace b ∷ rest)

  pub print_elements : ElementsTree → List Token → List Token
  print_elements no_elements rest = rest
  print_elements (some_elements first more) rest = print_element first (print_more_elements more rest)

  pub print_more_elements : MoreElementsTree → List Token → List Token
  print_more_elements no_more_elements rest = rest
  print_more_elements (more_elements comma e more) rest = symbol_token symbols.Comma comma ∷ print_element e (print_more_elements more rest)

  pub print_element : ElementTree → List Token → List Token
  print_element (element_of e last) rest = print_expr e (print_upper last rest)

  pub print_upper : UpperTree → List Token → List Token
  print_upper no_upper rest = rest
  print_upper (upper_of dots e) rest = symbol_token symbols.DotDot dots ∷ print_expr e rest

  pub print_designator : DesignatorTree → List Token → List Token
  print_designator (designator_of name more) rest = ident_token name ∷ print_selectors more rest

  pub print_selectors : SelectorsTree → List Token → List Token
  print_selectors no_selectors rest = rest
  print_selectors (more_selectors one more) rest = print_selector one (print_selectors more rest)

  pub print_selector : SelectorTree → List Token → List Token
  print_selector (field_selector m) rest = print_member m rest
  print_selector (index_selector a es b) rest = symbol_token symbols.OpenBracket a ∷ print_exprs es (symbol_token symbols.CloseBracket b ∷ rest)
  print_selector (call_selector a es b) rest = symbol_token symbols.OpenParen a ∷ print_arguments es (symbol_token symbols.CloseParen b ∷ rest)

  pub print_arguments : ArgumentsTree → List Token → List Token
  print_arguments no_arguments rest = rest
  print_arguments (some_arguments es) rest = print_exprs es rest

  pub print_exprs : ExprsTree → List Token → List Token
  print_exprs (exprs_of first more) rest = print_expr first (print_more_exprs more rest)

  pub print_more_exprs : MoreExprsTree → List Token → List Token
  print_more_exprs no_more_exprs rest = rest
  print_more_exprs (more_exprs comma e more) rest = symbol_token symbols.Comma comma ∷ print_expr e (print_more_exprs more rest)

-- ---- types

abbrev pub print_base : Base → List Token → List Token
print_base b rest = symbol_token symbols.OpenParen b.opening ∷ print_qualident b.name (symbol_token symbols.CloseParen b.closing ∷ rest)

abbrev mutual
  pub print_type : TypeTree → List Token → List Token
  print_type (named_type q) rest = print_qualident q rest
  print_type (array_type word es of_word t) rest = word_token words.Array word ∷ print_exprs es (word_token words.Of of_word ∷ print_type t rest)
  print_type (record_type r) rest = print_record r rest

  pub print_record : RecordTree → List Token → List Token
  print_record (record_of word base fs last) rest = word_token words.Record word ∷ print_some print_base base (print_field_lists fs (word_token words.End last ∷ rest))

  pub print_field_lists : FieldListsTree → List Token → List Token
  print_field_lists no_fields rest = rest
  print_field_lists (some_fields first more) rest = print_fields first (print_more_fields more rest)

  pub print_more_fields : MoreFieldsTree → List Token → List Token
  print_more_fields no_more_fields rest = rest
  print_more_fields (more_fields semicolon fs more) rest = symbol_token symbols.Semicolon semicolon ∷ print_fields fs (print_more_fields more rest)

  pub print_fields : FieldsTree → List Token → List Token
  print_fields (fields_of names colon t) rest = print_ident_defs names (symbol_token symbols.Colon colon ∷ print_type t rest)

-- ---- statements

abbrev pub print_value : LabelValue → List Token → List Token
print_value (values.Integer n) rest = integer_token n ∷ rest
print_value (values.Str s) rest = string_token s ∷ rest
print_value (values.Named q) rest = print_qualident q rest

abbrev pub print_label_upper : LabelUpper → List Token → List Token
print_label_upper u rest = symbol_token symbols.DotDot u.dots ∷ print_value u.last rest

abbrev pub print_label : Label → List Token → List Token
print_label l rest = print_value l.first (print_some print_label_upper l.upper rest)

abbrev pub print_next_label : NextLabel → List Token → List Token
print_next_label n rest = symbol_token symbols.Comma n.comma ∷ print_label n.label rest

abbrev pub print_labels : LabelsTree → List Token → List Token
print_labels ls rest = print_label ls.first (print_each print_next_label ls.rest rest)

abbrev pub print_step : StepTree → List Token → List Token
print_step no_step rest = rest
print_step (step_of word e) rest = word_token words.By word ∷ print_expr e rest

abbrev mutual
  pub print_statements : StatementsTree → List Token → List Token
  print_statements (statements_of first more) rest = print_statement first (print_more_statements more rest)

  pub print_more_statements : MoreStatementsTree → List Token → List Token
  print_more_statements no_more_statements rest = rest
  print_more_statements (more_statements semicolon one more) rest = symbol_token symbols.Semicolon semicolon ∷ print_statement one (print_more_statements more rest)

  pub print_statement : StatementTree → List Token → List Token
  print_statement empty_statement rest = rest
  print_statement (assign_statement d becomes e) rest = print_designator d (symbol_token symbols.Becomes becomes ∷ print_expr e rest)
  print_statement (call_statement d) rest = print_designator d rest
  print_statement (if_statement i) rest = print_if i rest
  print_statement (case_statement c) rest = print_case c rest
  print_statement (while_statement w) rest = print_while w rest
  print_statement (repeat_statement r) rest = print_repeat r rest
  print_statement (for_statement f) rest = print_for f rest

  pub print_if : IfTree → List Token → List Token
  print_if (if_of first more other last) rest = print_guarded words.If words.Then first (print_elsifs words.Then more (print_else other (word_token words.End last ∷ rest)))

  -- an arm of IF or WHILE, with the words that it begins with and that its statements stand behind
  pub print_guarded : Word → Word → GuardedTree → List Token → List Token
  print_guarded opener then_word (guarded_of word e then_place ss) rest = word_token opener word ∷ print_expr e (word_token then_word then_place ∷ print_statements ss rest)

  pub print_elsifs : Word → ElsifsTree → List Token → List Token
  print_elsifs then_word no_elsifs rest = rest
  print_elsifs then_word (more_elsifs one more) rest = print_guarded words.Elsif then_word one (print_elsifs then_word more rest)

  pub print_else : ElseTree → List Token → List Token
  print_else no_else rest = rest
  print_else (else_of word ss) rest = word_token words.Else word ∷ print_statements ss rest

  pub print_case : CaseTree → List Token → List Token
  print_case (case_of word e of_word first more last) rest = word_token words.Case word ∷ print_expr e (word_token words.Of of_word ∷ print_arm first (print_more_arms more (word_token words.End last ∷ rest)))

  pub print_arm : ArmTree → List Token → List Token
  print_arm empty_arm rest = rest
  print_arm (labelled_arm ls colon ss) rest = print_labels ls (symbol_token symbols.Colon colon ∷ print_statements ss rest)

  pub print_more_arms : MoreArmsTree → List Token → List Token
  print_more_arms no_more_arms rest = rest
  print_more_arms (more_arms bar one more) rest = symbol_token symbols.Bar bar ∷ print_arm one (print_more_arms more rest)

  pub print_while : WhileTree → List Token → List Token
  print_while (while_of first more last) rest = print_guarded words.While words.Do first (print_elsifs words.Do more (word_token words.End last ∷ rest))

  pub print_repeat : RepeatTree → List Token → List Token
  print_repeat (repeat_of word ss until e) rest = word_token words.Repeat word ∷ print_statements ss (word_token words.Until until ∷ print_expr e rest)

  pub print_for : ForTree → List Token → List Token
  print_for (for_of word v becomes e to_word limit step do_word ss last) rest =
      word_token words.For word ∷ ident_token v ∷ symbol_token symbols.Becomes becomes ∷ print_expr e (word_token words.To to_word ∷ print_expr limit (print_step step (word_token words.Do do_word ∷ print_statements ss (word_token words.End last ∷ rest))))

-- ---- declarations

abbrev pub print_constant : ConstantTree → List Token → List Token
print_constant c rest = print_ident_def c.name (symbol_token symbols.Equal c.equal ∷ print_expr c.value (symbol_token symbols.Semicolon c.semicolon ∷ rest))

abbrev pub print_constants : ConstantsTree → List Token → List Token
print_constants cs rest = word_token words.Const cs.word ∷ print_each print_constant cs.items rest

abbrev pub print_type_declaration : TypeDeclarationTree → List Token → List Token
print_type_declaration d rest = print_ident_def d.name (symbol_token symbols.Equal d.equal ∷ print_type d.of_type (symbol_token symbols.Semicolon d.semicolon ∷ rest))

abbrev pub print_types : TypesTree → List Token → List Token
print_types ts rest = word_token words.Type ts.word ∷ print_each print_type_declaration ts.items rest

abbrev pub print_variable : VariableTree → List Token → List Token
print_variable v rest = print_ident_defs v.names (symbol_token symbols.Colon v.colon ∷ print_type v.of_type (symbol_token symbols.Semicolon v.semicolon ∷ rest))

abbrev pub print_variables : VariablesTree → List Token → List Token
print_variables vs rest = word_token words.Var vs.word ∷ print_each print_variable vs.items rest

abbrev pub print_declarations : DeclarationsTree → List Token → List Token
print_declarations d rest = print_some print_constants d.constants (print_some print_types d.types (print_some print_variables d.variables rest))

abbrev pub print_local_constant : LocalConstantTree → List Token → List Token
print_local_constant c rest = ident_token c.name ∷ symbol_token symbols.Equal c.equal ∷ print_expr c.value (symbol_token symbols.Semicolon c.semicolon ∷ rest)

abbrev pub print_local_constants : LocalConstantsTree → List Token → List Token
print_local_constants cs rest = word_token words.Const cs.word ∷ print_each print_local_constant cs.items rest

abbrev pub print_local_variable : LocalVariableTree → List Token → List Token
print_local_variable v rest = print_idents v.names (symbol_token symbols.Colon v.colon ∷ print_type v.of_type (symbol_token symbols.Semicolon v.semicolon ∷ rest))

abbrev pub print_local_variables : LocalVariablesTree → List Token → List Token
print_local_variables vs rest = word_token words.Var vs.word ∷ print_each print_local_variable vs.items rest

abbrev pub print_locals : LocalsTree → List Token → List Token
print_locals ls rest = print_some print_local_constants ls.constants (print_some print_local_variables ls.variables rest)

abbrev pub print_open_array : OpenArray → List Token → List Token
print_open_array o rest = word_token words.Array o.word ∷ word_token words.Of o.of ∷ rest

abbrev pub print_formal_type : FormalTypeTree → List Token → List Token
print_formal_type f rest = print_each print_open_array f.opens (print_qualident f.name rest)

abbrev pub print_by_var : Span → List Token → List Token
print_by_var span rest = word_token words.Var span ∷ rest

abbrev pub print_section : SectionTree → List Token → List Token
print_section s rest = print_some print_by_var s.by_var (print_idents s.names (symbol_token symbols.Colon s.colon ∷ print_formal_type s.of_type rest))

abbrev pub print_next_section : NextSectionTree → List Token → List Token
print_next_section n rest = symbol_token symbols.Semicolon n.semicolon ∷ print_section n.section rest

abbrev pub print_sections : SectionsTree → List Token → List Token
print_sections ss rest = print_section ss.first (print_each print_next_section ss.rest rest)

abbrev pub print_result_type : ResultType → List Token → List Token
print_result_type r rest = symbol_token symbols.Colon r.colon ∷ print_qualident r.name rest

abbrev pub print_formals : FormalsTree → List Token → List Token
print_formals f rest = symbol_token symbols.OpenParen f.opening ∷ print_some print_sections f.sections (symbol_token symbols.CloseParen f.closing ∷ print_some print_result_type f.result_type rest)

abbrev pub print_body : BodyTree → List Token → List Token
print_body b rest = word_token words.Begin b.word ∷ print_statements b.statements rest

abbrev pub print_return : ReturnTree → List Token → List Token
print_return r rest = word_token words.Return r.word ∷ print_expr r.value rest

abbrev pub print_procedure : ProcedureTree → List Token → List Token
print_procedure p rest =
    word_token words.Procedure p.word ∷ print_ident_def p.name (print_some print_formals p.formals (symbol_token symbols.Semicolon p.semicolon ∷ print_locals p.locals (print_some print_body p.body (print_some print_return p.returns (word_token words.End p.end ∷ ident_token p.end_name ∷ rest)))))

abbrev pub print_procedure_item : ProcedureItemTree → List Token → List Token
print_procedure_item p rest = print_procedure p.procedure (symbol_token symbols.Semicolon p.semicolon ∷ rest)

abbrev pub print_alias : Alias → List Token → List Token
print_alias a rest = symbol_token symbols.Becomes a.becomes ∷ ident_token a.imported ∷ rest

abbrev pub print_import : Import → List Token → List Token
print_import i rest = ident_token i.name ∷ print_some print_alias i.alias rest

abbrev pub print_next_import : NextImport → List Token → List Token
print_next_import n rest = symbol_token symbols.Comma n.comma ∷ print_import n.import rest

abbrev pub print_imports : ImportsTree → List Token → List Token
print_imports is rest = word_token words.Import is.word ∷ print_import is.first (print_each print_next_import is.rest (symbol_token symbols.Semicolon is.semicolon ∷ rest))

-- ---- the module

abbrev pub print_module : ModuleTree → List Token → List Token
print_module m rest =
    word_token words.Module m.word ∷ ident_token m.name ∷ symbol_token symbols.Semicolon m.semicolon ∷ print_some print_imports m.imports (print_declarations m.declarations (print_each print_procedure_item m.procedures (print_some print_body m.body (word_token words.End m.end ∷ ident_token m.end_name ∷ symbol_token symbols.Period m.period ∷ rest))))

-- the tokens of a module
abbrev pub tokens_of : ModuleTree → List Token
tokens_of m = print_module m []
