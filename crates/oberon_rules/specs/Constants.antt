-- What an expression is built of, as far as constants go (sections 5 and 8).
use Rattle.std.specs.Prelude.{ℕ, Bool, true, false, if◌then◌else◌, List, Option, Some, None}
use Rattle.oberon_tree.specs.declared.expression.Relator.{Relator}
use Rattle.oberon_tree.specs.declared.expression.Relator.TheVariants as relators
use Rattle.oberon_tree.specs.declared.expression.Sign.{Sign}
use Rattle.oberon_tree.specs.declared.expression.Sign.TheVariants as signs
use Rattle.oberon_tree.specs.declared.expression.Signed.{Signed}
use Rattle.oberon_tree.specs.declared.expression.AddOperator.{AddOperator}
use Rattle.oberon_tree.specs.declared.expression.AddOperator.TheVariants as adds
use Rattle.oberon_tree.specs.declared.expression.MulOperator.{MulOperator}
use Rattle.oberon_tree.specs.declared.expression.MulOperator.TheVariants as muls
use Rattle.oberon_tree.specs.Trees.{ExprTree, expr_of, RelationTree, no_relation, relation_of, SimpleTree, simple_of, AddendsTree, no_addends, more_addends, TermTree, term_of, MultipliersTree, no_multipliers, more_multipliers, FactorTree, integer_factor, string_factor, true_factor, false_factor, set_factor, designator_factor, group_factor, negation_factor, set_of, ElementsTree, no_elements, some_elements, MoreElementsTree, no_more_elements, more_elements, ElementTree, element_of, no_upper, upper_of, designator_of, SelectorsTree, no_selectors, more_selectors, field_selector, call_selector, some_arguments, ExprsTree, exprs_of, MoreExprsTree, no_more_exprs, more_exprs}
use Rattle.oberon_types.specs.declared.value.Value.TheVariants as values
use Rattle.oberon_types.specs.declared.constant.Op.{Op}
use Rattle.oberon_types.specs.declared.constant.Op.TheVariants as ops
use Rattle.oberon_types.specs.Folding.{ConstTree, known_const, other_const, unary_const, binary_const, set_const, call_const, RangesTree, no_ranges, more_ranges, PartsTree, no_parts, more_parts}
use Rattle.oberon_rules.specs.Scopes.{Predeclared, abs_word, odd_word, lsl_word, asr_word, ror_word, ord_word, chr_word, Meaning, constant_meaning, word_meaning, Scopes}
use Rattle.oberon_rules.specs.Names.{name_is, member_is}

-- ---- operators

abbrev pub add_op : AddOperator → Op
add_op adds.Add = ops.Add
add_op adds.Subtract = ops.Subtract
add_op adds.Or = ops.Or

abbrev pub mul_op : MulOperator → Op
mul_op muls.Multiply = ops.Multiply
mul_op muls.Divide = ops.Divide
mul_op muls.Div = ops.Div
mul_op muls.Mod = ops.Mod
mul_op muls.And = ops.And

-- IS tells the type of a variable, so no constant is built with it
abbrev pub relation_between : Relator → ConstTree → ConstTree → ConstTree
relation_between relators.Equal a b = binary_const ops.Equal a b
relation_between relators.Unequal a b = binary_const ops.Unequal a b
relation_between relators.Less a b = binary_const ops.Less a b
relation_between relators.LessEqual a b = binary_const ops.LessEqual a b
relation_between relators.Greater a b = binary_const ops.Greater a b
relation_between relators.GreaterEqual a b = binary_const ops.GreaterEqual a b
relation_between relators.In a b = binary_const ops.In a b
relation_between relators.Is a b = other_const

abbrev pub sign_op : Sign → Op
sign_op signs.Plus = ops.Add
sign_op signs.Minus = ops.Subtract

abbrev pub signed_const : Option Signed → ConstTree → ConstTree
signed_const None e = e
signed_const (Some s) e = unary_const (sign_op s.sign) e

-- ---- names and calls, by what the name means

abbrev pub meaning_const : Meaning → ConstTree
meaning_const (constant_meaning v) = known_const v
meaning_const _ = other_const

abbrev pub folds : Predeclared → Bool
folds abs_word = true
folds odd_word = true
folds lsl_word = true
folds asr_word = true
folds ror_word = true
folds ord_word = true
folds chr_word = true
folds _ = false

-- A function that a module declares is no part of a constant, whatever its name.
abbrev pub word_const : Meaning → List ℕ → PartsTree → ConstTree
word_const (word_meaning w) x parts = if folds w then call_const x parts else other_const
word_const _ x parts = other_const

-- ---- expressions

abbrev mutual
  pub expr_const : Scopes → ExprTree → ConstTree
  expr_const s (expr_of a r) = relation_const s (simple_const s a) r

  pub relation_const : Scopes → ConstTree → RelationTree → ConstTree
  relation_const s a no_relation = a
  relation_const s a (relation_of o place b) = relation_between o a (simple_const s b)

  pub simple_const : Scopes → SimpleTree → ConstTree
  simple_const s (simple_of sign first more) = addends_const s (signed_const sign (term_const s first)) more

  pub addends_const : Scopes → ConstTree → AddendsTree → ConstTree
  addends_const s a no_addends = a
  addends_const s a (more_addends o place t more) = addends_const s (binary_const (add_op o) a (term_const s t)) more

  pub term_const : Scopes → TermTree → ConstTree
  term_const s (term_of first more) = multipliers_const s (factor_const s first) more

  pub multipliers_const : Scopes → ConstTree → MultipliersTree → ConstTree
  multipliers_const s a no_multipliers = a
  multipliers_const s a (more_multipliers o place f more) = multipliers_const s (binary_const (mul_op o) a (factor_const s f)) more

  pub factor_const : Scopes → FactorTree → ConstTree
  factor_const s (integer_factor n) = known_const (values.Integer n.value)
  factor_const s (string_factor x) = known_const (values.Str x.value)
  factor_const s (true_factor place) = known_const (values.Boolean true)
  factor_const s (false_factor place) = known_const (values.Boolean false)
  factor_const s (set_factor (set_of a es b)) = set_const (elements_const s es)
  factor_const s (designator_factor (designator_of x sels)) = designator_const s x.name sels
  factor_const s (group_factor a e b) = expr_const s e
  factor_const s (negation_factor place f) = unary_const ops.Not (factor_const s f)

  pub designator_const : Scopes → List ℕ → SelectorsTree → ConstTree
  designator_const s x no_selectors = meaning_const (name_is s x)
  designator_const s x (more_selectors (field_selector m) no_selectors) = meaning_const (member_is (name_is s x) m.name)
  designator_const s x (more_selectors (call_selector a (some_arguments es) b) no_selectors) = word_const (name_is s x) x (exprs_const s es)
  designator_const s x _ = other_const

  pub exprs_const : Scopes → ExprsTree → PartsTree
  exprs_const s (exprs_of e more) = more_parts (expr_const s e) (more_exprs_const s more)

  pub more_exprs_const : Scopes → MoreExprsTree → PartsTree
  more_exprs_const s no_more_exprs = no_parts
  more_exprs_const s (more_exprs comma e more) = more_parts (expr_const s e) (more_exprs_const s more)

  pub elements_const : Scopes → ElementsTree → RangesTree
  elements_const s no_elements = no_ranges
  elements_const s (some_elements e more) = element_const s e (more_elements_const s more)

  pub more_elements_const : Scopes → MoreElementsTree → RangesTree
  more_elements_const s no_more_elements = no_ranges
  more_elements_const s (more_elements comma e more) = element_const s e (more_elements_const s more)

  pub element_const : Scopes → ElementTree → RangesTree → RangesTree
  element_const s (element_of e no_upper) rest = more_ranges (expr_const s e) (expr_const s e) rest
  element_const s (element_of e (upper_of dots f)) rest = more_ranges (expr_const s e) (expr_const s f) rest
