-- A name alone, where a type may be meant, level by level of the tree.
use Rattle.std.specs.Prelude.{Bool, true, false, Option, Some, None}
use Rattle.oberon_tree.specs.declared.leaf.Qualident.{Qualident}
use Rattle.oberon_tree.specs.declared.expression.Signed.{Signed}
use Rattle.oberon_tree.specs.Trees.{AddendsTree, no_addends, more_addends, TermTree, term_of, MultipliersTree, no_multipliers, more_multipliers, FactorTree, designator_factor, designator_of, ExprsTree, exprs_of, MoreExprsTree, no_more_exprs, more_exprs}
use Rattle.oberon_types.specs.Types.{TyTree, unknown_ty}
use Rattle.oberon_rules.specs.Expressions.{Ex, nothing, a_type, a_module, bare_designator, bare_expr}

abbrev pub has_addends : AddendsTree → Bool
has_addends no_addends = false
has_addends (more_addends o place t more) = true

-- whether the first term of a simple expression stands alone
abbrev pub is_alone : Option Signed → AddendsTree → Bool
is_alone None no_addends = true
is_alone _ _ = false

abbrev pub has_multipliers : MultipliersTree → Bool
has_multipliers no_multipliers = false
has_multipliers (more_multipliers o place f more) = true

abbrev pub has_more : MoreExprsTree → Bool
has_more no_more_exprs = false
has_more (more_exprs comma e more) = true

abbrev pub bare_factor : FactorTree → Option Qualident
bare_factor (designator_factor (designator_of x sels)) = bare_designator x sels
bare_factor _ = None

abbrev pub bare_term : TermTree → Option Qualident
bare_term (term_of f no_multipliers) = bare_factor f
bare_term _ = None

abbrev pub sole_argument : ExprsTree → Option Qualident
sole_argument (exprs_of e no_more_exprs) = bare_expr e
sole_argument _ = None

-- what an expression that is a name alone means as a type
abbrev pub ex_meant : Ex → Option TyTree
ex_meant (a_type t) = Some t
ex_meant nothing = Some unknown_ty
ex_meant _ = None

-- what its member means as a type, where that is this
abbrev pub meant_of_module : Ex → Option TyTree → Option TyTree
meant_of_module (a_module v) meant = meant
meant_of_module nothing meant = Some unknown_ty
meant_of_module _ meant = None
