-- What each part that the machine expects stands for: the trees that spell it, how they print, and how
-- many levels they may open.
use Rattle.std.specs.Prelude.{◌≡◌, ℕ, ◌≤◌, List, [], ◌∷◌, ◌++◌, length, Option, refl}
use Rattle.std.proofs.Common.{◌∙◌, ap}
use Rattle.ob_text.specs.declared.span.Span.{Span}
use Rattle.oberon_scan.specs.declared.token.Token.{Token}
use Rattle.oberon_scan.specs.declared.token.Word.TheVariants as words
use Rattle.oberon_scan.specs.declared.token.Symbol.TheVariants as symbols
use Rattle.oberon_tree.specs.declared.leaf.Ident.{Ident}
use Rattle.oberon_tree.specs.declared.leaf.Member.{Member}
use Rattle.oberon_tree.specs.declared.leaf.NextIdentDef.{NextIdentDef}
use Rattle.oberon_tree.specs.declared.leaf.NextIdent.{NextIdent}
use Rattle.oberon_tree.specs.declared.expression.Signed.{Signed}
use Rattle.oberon_tree.specs.declared.types.Base.{Base}
use Rattle.oberon_tree.specs.declared.statement.LabelUpper.{LabelUpper}
use Rattle.oberon_tree.specs.declared.statement.LabelValue.{LabelValue}
use Rattle.oberon_tree.specs.declared.statement.NextLabel.{NextLabel}
use Rattle.oberon_tree.specs.declared.module.Alias.{Alias}
use Rattle.oberon_tree.specs.declared.module.NextImport.{NextImport}
use Rattle.oberon_tree.specs.declared.module.OpenArray.{OpenArray}
use Rattle.oberon_tree.specs.declared.module.ResultType.{ResultType}
use Rattle.oberon_tree.specs.Tokens.{symbol_token, word_token, ident_token}
use Rattle.oberon_tree.specs.Trees.{AddendsTree, ArgumentsTree, ArmTree, BodyTree, ConstantTree, ConstantsTree, ElementsTree, ElseTree, ElsifsTree, ExprTree, FactorTree, FieldListsTree, FormalsTree, ImportsTree, LocalConstantTree, LocalConstantsTree, LocalVariableTree, LocalVariablesTree, MoreArmsTree, MoreElementsTree, MoreExprsTree, MoreFieldsTree, MoreStatementsTree, MultipliersTree, NextSectionTree, ProcedureItemTree, RelationTree, ReturnTree, SectionsTree, SelectorsTree, StatementTree, StepTree, TypeDeclarationTree, TypeTree, TypesTree, UpperTree, VariableTree, VariablesTree}
use Rattle.oberon_tree.specs.Print.{print_addends, print_alias, print_arguments, print_arm, print_base, print_body, print_by_var, print_constant, print_constants, print_each, print_elements, print_else, print_elsifs, print_factor, print_field_lists, print_formals, print_imports, print_label_upper, print_local_constant, print_local_constants, print_local_variable, print_local_variables, print_mark, print_member, print_more_arms, print_more_elements, print_more_exprs, print_more_fields, print_more_statements, print_multipliers, print_next_ident, print_next_ident_def, print_next_import, print_next_label, print_next_section, print_open_array, print_procedure_item, print_relation, print_result_type, print_return, print_sections, print_selectors, print_sign, print_some, print_statement, print_step, print_type, print_type_declaration, print_types, print_upper, print_value, print_variable, print_variables, print_expr}
use Rattle.oberon_tree.specs.Levels.{depth_of_addends, depth_of_arguments, depth_of_arm, depth_of_body, depth_of_constant, depth_of_constants, depth_of_each, depth_of_elements, depth_of_else, depth_of_elsifs, depth_of_expr, depth_of_factor, depth_of_field_lists, depth_of_formals, depth_of_local_constant, depth_of_local_constants, depth_of_local_variable, depth_of_local_variables, depth_of_more_arms, depth_of_more_elements, depth_of_more_exprs, depth_of_more_fields, depth_of_more_statements, depth_of_multipliers, depth_of_next_section, depth_of_procedure_item, depth_of_relation, depth_of_return, depth_of_sections, depth_of_selectors, depth_of_some, depth_of_statement, depth_of_step, depth_of_type, depth_of_type_declaration, depth_of_types, depth_of_upper, depth_of_variable, depth_of_variables}
use Rattle.oberon_productions.specs.Expected.{Expected}
use Rattle.oberon_productions.specs.Expected as want

-- ":=" expr, behind a designator
abbrev pub print_assigned : Span × ExprTree → List Token → List Token
print_assigned a rest = symbol_token symbols.Becomes a.0 ∷ print_expr a.1 rest

-- the trees of a part
abbrev pub Shape : Expected → Type 0
Shape want.ident = Ident
Shape (want.word w) = Span
Shape (want.symbol w) = Span
Shape want.some_member = Option Member
Shape want.some_mark = Option Span
Shape want.ident_defs = List NextIdentDef
Shape want.idents = List NextIdent
Shape want.some_sign = Option Signed
Shape (want.factor d) = FactorTree
Shape (want.multipliers d) = MultipliersTree
Shape (want.addends d) = AddendsTree
Shape (want.some_relation d) = RelationTree
Shape (want.rest_of_set d) = ElementsTree × Span
Shape (want.some_upper d) = UpperTree
Shape (want.elements d) = MoreElementsTree
Shape (want.selectors d) = SelectorsTree
Shape (want.rest_of_call d) = ArgumentsTree × Span
Shape (want.exprs d) = MoreExprsTree
Shape (want.type_part d) = TypeTree
Shape want.some_base = Option Base
Shape (want.rest_of_record d) = FieldListsTree × Span
Shape (want.fields d) = MoreFieldsTree
Shape want.value = LabelValue
Shape want.some_label_upper = Option LabelUpper
Shape want.labels = List NextLabel
Shape (want.statement d) = StatementTree
Shape (want.some_assigned d) = Option (Span × ExprTree)
Shape (want.statements d) = MoreStatementsTree
Shape (want.elsifs w d) = ElsifsTree
Shape (want.some_else d) = ElseTree
Shape (want.arm d) = ArmTree
Shape (want.arms d) = MoreArmsTree
Shape (want.some_step d) = StepTree
Shape (want.some_constants d) = Option ConstantsTree
Shape (want.constants d) = List ConstantTree
Shape (want.some_types d) = Option TypesTree
Shape (want.types d) = List TypeDeclarationTree
Shape (want.some_variables d) = Option VariablesTree
Shape (want.variables d) = List VariableTree
Shape (want.some_local_constants d) = Option LocalConstantsTree
Shape (want.local_constants d) = List LocalConstantTree
Shape (want.some_local_variables d) = Option LocalVariablesTree
Shape (want.local_variables d) = List LocalVariableTree
Shape want.some_by_var = Option Span
Shape (want.opens d) = List OpenArray
Shape (want.sections d) = List NextSectionTree
Shape (want.rest_of_formals d) = Option SectionsTree × Span
Shape (want.some_formals d) = Option FormalsTree
Shape want.some_result = Option ResultType
Shape (want.some_body d) = Option BodyTree
Shape (want.some_return d) = Option ReturnTree
Shape (want.procedures d) = List ProcedureItemTree
Shape want.some_alias = Option Alias
Shape want.imports = List NextImport
Shape want.some_imports = Option ImportsTree

-- their tokens, in front of what follows
abbrev pub spell : (x : Expected) → Shape x → List Token → List Token
spell want.ident v rest = ident_token v ∷ rest
spell (want.word w) v rest = word_token w v ∷ rest
spell (want.symbol w) v rest = symbol_token w v ∷ rest
spell want.some_member v rest = print_some print_member v rest
spell want.some_mark v rest = print_some print_mark v rest
spell want.ident_defs v rest = print_each print_next_ident_def v rest
spell want.idents v rest = print_each print_next_ident v rest
spell want.some_sign v rest = print_some print_sign v rest
spell (want.factor d) v rest = print_factor v rest
spell (want.multipliers d) v rest = print_multipliers v rest
spell (want.addends d) v rest = print_addends v rest
spell (want.some_relation d) v rest = print_relation v rest
spell (want.rest_of_set d) v rest = print_elements v.0 (symbol_token symbols.CloseBrace v.1 ∷ rest)
spell (want.some_upper d) v rest = print_upper v rest
spell (want.elements d) v rest = print_more_elements v rest
spell (want.selectors d) v rest = print_selectors v rest
spell (want.rest_of_call d) v rest = print_arguments v.0 (symbol_token symbols.CloseParen v.1 ∷ rest)
spell (want.exprs d) v rest = print_more_exprs v rest
spell (want.type_part d) v rest = print_type v rest
spell want.some_base v rest = print_some print_base v rest
spell (want.rest_of_record d) v rest = print_field_lists v.0 (word_token words.End v.1 ∷ rest)
spell (want.fields d) v rest = print_more_fields v rest
spell want.value v rest = print_value v rest
spell want.some_label_upper v rest = print_some print_label_upper v rest
spell want.labels v rest = print_each print_next_label v rest
spell (want.statement d) v rest = print_statement v rest
spell (want.some_assigned d) v rest = print_some print_assigned v rest
spell (want.statements d) v rest = print_more_statements v rest
spell (want.elsifs w d) v rest = print_elsifs w v rest
spell (want.some_else d) v rest = print_else v rest
spell (want.arm d) v rest = print_arm v rest
spell (want.arms d) v rest = print_more_arms v rest
spell (want.some_step d) v rest = print_step v rest
spell (want.some_constants d) v rest = print_some print_constants v rest
spell (want.constants d) v rest = print_each print_constant v rest
spell (want.some_types d) v rest = print_some print_types v rest
spell (want.types d) v rest = print_each print_type_declaration v rest
spell (want.some_variables d) v rest = print_some print_variables v rest
spell (want.variables d) v rest = print_each print_variable v rest
spell (want.some_local_constants d) v rest = print_some print_local_constants v rest
spell (want.local_constants d) v rest = print_each print_local_constant v rest
spell (want.some_local_variables d) v rest = print_some print_local_variables v rest
spell (want.local_variables d) v rest = print_each print_local_variable v rest
spell want.some_by_var v rest = print_some print_by_var v rest
spell (want.opens d) v rest = print_each print_open_array v rest
spell (want.sections d) v rest = print_each print_next_section v rest
spell (want.rest_of_formals d) v rest = print_some print_sections v.0 (symbol_token symbols.CloseParen v.1 ∷ rest)
spell (want.some_formals d) v rest = print_some print_formals v rest
spell want.some_result v rest = print_some print_result_type v rest
spell (want.some_body d) v rest = print_some print_body v rest
spell (want.some_return d) v rest = print_some print_return v rest
spell (want.procedures d) v rest = print_each print_procedure_item v rest
spell want.some_alias v rest = print_some print_alias v rest
spell want.imports v rest = print_each print_next_import v rest
spell want.some_imports v rest = print_some print_imports v rest

-- how many levels they open
abbrev pub deep : (x : Expected) → Shape x → ℕ
deep want.ident v = 0
deep (want.word w) v = 0
deep (want.symbol w) v = 0
deep want.some_member v = 0
deep want.some_mark v = 0
deep want.ident_defs v = 0
deep want.idents v = 0
deep want.some_sign v = 0
deep (want.factor d) v = depth_of_factor v
deep (want.multipliers d) v = depth_of_multipliers v
deep (want.addends d) v = depth_of_addends v
deep (want.some_relation d) v = depth_of_relation v
deep (want.rest_of_set d) v = depth_of_elements v.0
deep (want.some_upper d) v = depth_of_upper v
deep (want.elements d) v = depth_of_more_elements v
deep (want.selectors d) v = depth_of_selectors v
deep (want.rest_of_call d) v = depth_of_arguments v.0
deep (want.exprs d) v = depth_of_more_exprs v
deep (want.type_part d) v = depth_of_type v
deep want.some_base v = 0
deep (want.rest_of_record d) v = depth_of_field_lists v.0
deep (want.fields d) v = depth_of_more_fields v
deep want.value v = 0
deep want.some_label_upper v = 0
deep want.labels v = 0
deep (want.statement d) v = depth_of_statement v
deep (want.some_assigned d) v = depth_of_some (λ a. depth_of_expr a.1) v
deep (want.statements d) v = depth_of_more_statements v
deep (want.elsifs w d) v = depth_of_elsifs v
deep (want.some_else d) v = depth_of_else v
deep (want.arm d) v = depth_of_arm v
deep (want.arms d) v = depth_of_more_arms v
deep (want.some_step d) v = depth_of_step v
deep (want.some_constants d) v = depth_of_some depth_of_constants v
deep (want.constants d) v = depth_of_each depth_of_constant v
deep (want.some_types d) v = depth_of_some depth_of_types v
deep (want.types d) v = depth_of_each depth_of_type_declaration v
deep (want.some_variables d) v = depth_of_some depth_of_variables v
deep (want.variables d) v = depth_of_each depth_of_variable v
deep (want.some_local_constants d) v = depth_of_some depth_of_local_constants v
deep (want.local_constants d) v = depth_of_each depth_of_local_constant v
deep (want.some_local_variables d) v = depth_of_some depth_of_local_variables v
deep (want.local_variables d) v = depth_of_each depth_of_local_variable v
deep want.some_by_var v = 0
deep (want.opens d) v = length v
deep (want.sections d) v = depth_of_each depth_of_next_section v
deep (want.rest_of_formals d) v = depth_of_some depth_of_sections v.0
deep (want.some_formals d) v = depth_of_some depth_of_formals v
deep want.some_result v = 0
deep (want.some_body d) v = depth_of_some depth_of_body v
deep (want.some_return d) v = depth_of_some depth_of_return v
deep (want.procedures d) v = depth_of_each depth_of_procedure_item v
deep want.some_alias v = 0
deep want.imports v = 0
deep want.some_imports v = 0

-- and how many they may
abbrev pub limit : Expected → ℕ
limit want.ident = 0
limit (want.word w) = 0
limit (want.symbol w) = 0
limit want.some_member = 0
limit want.some_mark = 0
limit want.ident_defs = 0
limit want.idents = 0
limit want.some_sign = 0
limit (want.factor d) = d
limit (want.multipliers d) = d
limit (want.addends d) = d
limit (want.some_relation d) = d
limit (want.rest_of_set d) = d
limit (want.some_upper d) = d
limit (want.elements d) = d
limit (want.selectors d) = d
limit (want.rest_of_call d) = d
limit (want.exprs d) = d
limit (want.type_part d) = d
limit want.some_base = 0
limit (want.rest_of_record d) = d
limit (want.fields d) = d
limit want.value = 0
limit want.some_label_upper = 0
limit want.labels = 0
limit (want.statement d) = d
limit (want.some_assigned d) = d
limit (want.statements d) = d
limit (want.elsifs w d) = d
limit (want.some_else d) = d
limit (want.arm d) = d
limit (want.arms d) = d
limit (want.some_step d) = d
limit (want.some_constants d) = d
limit (want.constants d) = d
limit (want.some_types d) = d
limit (want.types d) = d
limit (want.some_variables d) = d
limit (want.variables d) = d
limit (want.some_local_constants d) = d
limit (want.local_constants d) = d
limit (want.some_local_variables d) = d
limit (want.local_variables d) = d
limit want.some_by_var = 0
limit (want.opens d) = d
limit (want.sections d) = d
limit (want.rest_of_formals d) = d
limit (want.some_formals d) = d
limit want.some_result = 0
limit (want.some_body d) = d
limit (want.some_return d) = d
limit (want.procedures d) = d
limit want.some_alias = 0
limit want.imports = 0
limit want.some_imports = 0

-- the tokens are those of a tree of this part, and then the rest
pub record Part (x : Expected) (ts rest : List Token) : Type 0 where
  pub tree : Shape x
  pub spelled : ts ≡ spell x tree rest
  pub within : deep x tree ≤ limit x

-- ---- several parts, one behind another

abbrev pub Shapes : List Expected → Type 0
Shapes [] = Unit {0}
Shapes (x ∷ xs) = Shape x × Shapes xs

abbrev pub spell_all : (xs : List Expected) → Shapes xs → List Token → List Token
spell_all [] v rest = rest
spell_all (x ∷ xs) v rest = spell x v.0 (spell_all xs v.1 rest)

abbrev pub Within : (xs : List Expected) → Shapes xs → Type 0
Within [] v = Unit {0}
Within (x ∷ xs) v = (deep x v.0 ≤ limit x) × Within xs v.1

pub record Parts (xs : List Expected) (ts rest : List Token) : Type 0 where
  pub trees : Shapes xs
  pub spelled : ts ≡ spell_all xs trees rest
  pub within : Within xs trees

pub parts_split : (xs s : List Expected) (ts rest : List Token) → Parts (xs ++ s) ts rest → (mid : List Token) × Parts xs ts mid × Parts s mid rest
parts_split [] s ts rest q = (ts, record { trees = tt; spelled = refl; within = tt }, q)
parts_split (x ∷ xs) s ts rest q =
    let r = parts_split xs s (spell_all (xs ++ s) q.trees.1 rest) rest (record { trees = q.trees.1; spelled = refl; within = q.within.1 }) in
    (r.0, record { trees = (q.trees.0, r.1.trees); spelled = q.spelled ∙ ap (spell x q.trees.0) r.1.spelled; within = (q.within.0, r.1.within) }, r.2)

pub parts_join : (x : Expected) (s : List Expected) (ts mid rest : List Token) → Part x ts mid → Parts s mid rest → Parts (x ∷ s) ts rest
parts_join x s ts mid rest p q = record { trees = (p.tree, q.trees); spelled = p.spelled ∙ ap (spell x p.tree) q.spelled; within = (p.within, q.within) }
