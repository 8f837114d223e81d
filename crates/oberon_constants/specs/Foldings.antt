-- Constants in one pass: of each part of an expression, whether it is built of constants, and its value.
use Rattle.std.specs.Prelude.{Bool, true, false, ◌&&◌, if◌then◌else◌, Option, Some, None}
use Rattle.std.specs.Option.{is_some, option_and_then}
use Rattle.oberon_tree.specs.declared.expression.Relator.{Relator}
use Rattle.oberon_tree.specs.declared.expression.Relator.TheVariants as relators
use Rattle.oberon_tree.specs.declared.expression.Signed.{Signed}
use Rattle.oberon_tree.specs.Trees.{RelationTree, no_relation, relation_of, ElementTree, element_of, no_upper, upper_of}
use Rattle.oberon_types.specs.declared.constant.Op.{Op}
use Rattle.oberon_types.specs.declared.constant.Op.TheVariants as ops
use Rattle.oberon_types.specs.declared.constant.FoldingFunction.{FoldingFunction}
use Rattle.oberon_types.specs.declared.value.Value.{Value}
use Rattle.oberon_types.specs.Folding.{ConstTree, PartsTree, is_built, parts_built, value_of, value_op, binary_value, call_value, call_one, call_two, with_range, end_value, set_value, Folded, not_constant, in_range}
use Rattle.oberon_rules.specs.Constants.{sign_op, folds, expr_const, simple_const}
use Rattle.oberon_rules.specs.Scopes.{Meaning, constant_meaning, word_meaning, Scopes}
use Rattle.oberon_constants.specs.declared.folding.Folding.{Folding}
use Rattle.oberon_constants.specs.declared.folding.SetFolding.{SetFolding}

-- ---- one part

abbrev pub folding_of : ConstTree → Folding
folding_of c = record { built = is_built c; value = value_of c }

-- what no constant is built of
abbrev pub no_folding : Folding
no_folding = record { built = false; value = None }

abbrev pub known_folding : Value → Folding
known_folding v = record { built = true; value = Some v }

-- its value, or why it has none
abbrev pub outcome_of : Folding → Folded
outcome_of f = if f.built then in_range f.value else not_constant

-- ---- operators

abbrev pub unary_folding : Op → Folding → Folding
unary_folding o f = record { built = f.built; value = option_and_then (value_op o) f.value }

abbrev pub binary_folding : Op → Folding → Folding → Folding
binary_folding o f g = record { built = f.built && g.built; value = binary_value o f.value g.value }

abbrev pub signed_folding : Option Signed → Folding → Folding
signed_folding None f = f
signed_folding (Some s) f = unary_folding (sign_op s.sign) f

abbrev pub relation_folding : Relator → Folding → Folding → Folding
relation_folding relators.Equal f g = binary_folding ops.Equal f g
relation_folding relators.Unequal f g = binary_folding ops.Unequal f g
relation_folding relators.Less f g = binary_folding ops.Less f g
relation_folding relators.LessEqual f g = binary_folding ops.LessEqual f g
relation_folding relators.Greater f g = binary_folding ops.Greater f g
relation_folding relators.GreaterEqual f g = binary_folding ops.GreaterEqual f g
relation_folding relators.In f g = binary_folding ops.In f g
relation_folding relators.Is f g = no_folding

abbrev pub related_folding : Scopes → Folding → RelationTree → Folding
related_folding s f no_relation = f
related_folding s f (relation_of o place b) = relation_folding o f (folding_of (simple_const s b))

-- ---- names and calls

abbrev pub named_folding : Meaning → Folding
named_folding (constant_meaning v) = known_folding v
named_folding _ = no_folding

-- whether a call of it may be part of a constant
abbrev pub is_folding : Meaning → Bool
is_folding (word_meaning w) = folds w
is_folding _ = false

abbrev pub call_folding : Option FoldingFunction → PartsTree → Folding
call_folding f ps = record { built = is_some f && parts_built ps; value = call_value f ps }

abbrev pub called_with_one : Option FoldingFunction → Folding → Folding
called_with_one g f = record { built = is_some g && f.built; value = call_one g f.value }

abbrev pub called_with_two : Option FoldingFunction → Folding → Folding → Folding
called_with_two g f h = record { built = is_some g && f.built && h.built; value = call_two g f.value h.value }

-- no function takes so many parts
abbrev pub called_with_more : Option FoldingFunction → Folding → Bool → Folding
called_with_more g f rest = record { built = is_some g && f.built && rest; value = None }

-- ---- sets

abbrev pub range_folding : SetFolding → Folding → Folding → SetFolding
range_folding r f g = record { built = r.built && (f.built && g.built); set = with_range r.set (end_value f.value) (end_value g.value) }

abbrev pub set_folding : SetFolding → Folding
set_folding r = record { built = r.built; value = set_value r.set }

abbrev pub element_folding : Scopes → SetFolding → ElementTree → SetFolding
element_folding s r (element_of e no_upper) = range_folding r (folding_of (expr_const s e)) (folding_of (expr_const s e))
element_folding s r (element_of e (upper_of dots f)) = range_folding r (folding_of (expr_const s e)) (folding_of (expr_const s f))
