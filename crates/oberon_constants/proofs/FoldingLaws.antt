-- Folding in one pass is folding what the expression is built of.
use Rattle.std.specs.Prelude.{ℕ, ◌≡◌, Bool, true, false, ◌&&◌, if◌then◌else◌, List, Option, Some, None, refl}
use Rattle.std.specs.Option.{is_some}
use Rattle.std.proofs.Common.{ap, sym, ◌∙◌}
use Rattle.oberon_tree.specs.declared.expression.Relator.{Relator}
use Rattle.oberon_tree.specs.declared.expression.Relator.TheVariants as relators
use Rattle.oberon_tree.specs.declared.expression.Signed.{Signed}
use Rattle.oberon_tree.specs.Trees.{RelationTree, no_relation, relation_of, AddendsTree, no_addends, more_addends, MultipliersTree, no_multipliers, more_multipliers, MoreElementsTree, no_more_elements, more_elements, ElementTree, element_of, no_upper, upper_of}
use Rattle.oberon_types.specs.Folding.{ConstTree, other_const, call_const, PartsTree, no_parts, more_parts, parts_built, folding_function, call_one, call_two, call_value, RangesTree, set_const, binary_const, is_built, are_built, value_of, with_range, with_ranges, end_value}
use Rattle.oberon_rules.specs.Constants.{add_op, mul_op, meaning_const, word_const, signed_const, relation_between, relation_const, simple_const, addends_const, multipliers_const, term_const, factor_const, expr_const, more_elements_const, element_const}
use Rattle.oberon_rules.specs.Scopes.{Meaning, unknown_meaning, constant_meaning, type_meaning, variable_meaning, procedure_meaning, word_meaning, import_meaning, Scopes}
use Rattle.oberon_types.specs.declared.constant.FoldingFunction.{FoldingFunction}
use Rattle.oberon_constants.specs.declared.folding.SetFolding.{SetFolding}
use Rattle.oberon_constants.specs.Foldings.{folding_of, signed_folding, relation_folding, related_folding, no_folding, named_folding, is_folding, call_folding, called_with_one, called_with_two, called_with_more, element_folding, set_folding, binary_folding}
use Rattle.oberon_constants.specs.declared.folding.Folding.{Folding}

abbrev pub addends_folding : Scopes → Folding → AddendsTree → Folding
addends_folding s f no_addends = f
addends_folding s f (more_addends o place t more) = addends_folding s (binary_folding (add_op o) f (folding_of (term_const s t))) more

abbrev pub multipliers_folding : Scopes → Folding → MultipliersTree → Folding
multipliers_folding s f no_multipliers = f
multipliers_folding s f (more_multipliers o place x more) = multipliers_folding s (binary_folding (mul_op o) f (folding_of (factor_const s x))) more

abbrev pub elements_folding : Scopes → SetFolding → MoreElementsTree → SetFolding
elements_folding s r no_more_elements = r
elements_folding s r (more_elements comma e more) = elements_folding s (element_folding s r e) more

pub signed_folds : (sign : Option Signed) (c : ConstTree) → signed_folding sign (folding_of c) ≡ folding_of (signed_const sign c)
signed_folds None c = refl
signed_folds (Some s) c = refl

pub relation_folds : (o : Relator) (a b : ConstTree) → relation_folding o (folding_of a) (folding_of b) ≡ folding_of (relation_between o a b)
relation_folds relators.Equal a b = refl
relation_folds relators.Unequal a b = refl
relation_folds relators.Less a b = refl
relation_folds relators.LessEqual a b = refl
relation_folds relators.Greater a b = refl
relation_folds relators.GreaterEqual a b = refl
relation_folds relators.In a b = refl
relation_folds relators.Is a b = refl

pub related_folds : (s : Scopes) (a : ConstTree) (r : RelationTree) → related_folding s (folding_of a) r ≡ folding_of (relation_const s a r)
related_folds s a no_relation = refl
related_folds s a (relation_of o place b) = relation_folds o a (simple_const s b)

pub addends_fold : (s : Scopes) (a : ConstTree) (more : AddendsTree) → addends_folding s (folding_of a) more ≡ folding_of (addends_const s a more)
addends_fold s a no_addends = refl
addends_fold s a (more_addends o place t more) = addends_fold s (binary_const (add_op o) a (term_const s t)) more

pub multipliers_fold : (s : Scopes) (a : ConstTree) (more : MultipliersTree) → multipliers_folding s (folding_of a) more ≡ folding_of (multipliers_const s a more)
multipliers_fold s a no_multipliers = refl
multipliers_fold s a (more_multipliers o place f more) = multipliers_fold s (binary_const (mul_op o) a (factor_const s f)) more

-- ---- calls

and_true : (a : Bool) → a ≡ a && true
and_true true = refl
and_true false = refl

and_again : (a b c : Bool) → a && b && c ≡ a && (b && c)
and_again true b c = refl
and_again false b c = refl

pub one_called : (g : Option FoldingFunction) (e : ConstTree) → called_with_one g (folding_of e) ≡ call_folding g (more_parts e no_parts)
one_called g e = ap (λ b. record { built = is_some g && b; value = call_one g (value_of e) }) (and_true (is_built e))

pub two_called : (g : Option FoldingFunction) (a b : ConstTree) → called_with_two g (folding_of a) (folding_of b) ≡ call_folding g (more_parts a (more_parts b no_parts))
two_called g a b = ap (λ t. record { built = t; value = call_two g (value_of a) (value_of b) }) (and_again (is_some g) (is_built a) (is_built b) ∙ ap (λ t. is_some g && (is_built a && t)) (and_true (is_built b)))

pub more_called : (g : Option FoldingFunction) (a : ConstTree) (ps : PartsTree) → None ≡ call_value g (more_parts a ps) → called_with_more g (folding_of a) (parts_built ps) ≡ call_folding g (more_parts a ps)
more_called g a ps none = ap (λ t. record { built = t; value = None }) (and_again (is_some g) (is_built a) (parts_built ps)) ∙ ap (λ v. record { built = is_some g && (is_built a && parts_built ps); value = v }) none

-- whether the name's meaning lets a call of it fold
pub word_folds : (m : Meaning) (x : List ℕ) (ps : PartsTree) → is_folding m ≡ true → call_folding (folding_function x) ps ≡ folding_of (word_const m x ps)
word_folds unknown_meaning x ps f = absurd cc
word_folds (constant_meaning v) x ps f = absurd cc
word_folds (type_meaning t) x ps f = absurd cc
word_folds (variable_meaning t a) x ps f = absurd cc
word_folds (procedure_meaning p) x ps f = absurd cc
word_folds (import_meaning v) x ps f = absurd cc
word_folds (word_meaning w) x ps f = sym (ap (λ b. folding_of (if b then call_const x ps else other_const)) f)

pub word_unfolds : (m : Meaning) (x : List ℕ) (ps : PartsTree) → is_folding m ≡ false → no_folding ≡ folding_of (word_const m x ps)
word_unfolds unknown_meaning x ps f = refl
word_unfolds (constant_meaning v) x ps f = refl
word_unfolds (type_meaning t) x ps f = refl
word_unfolds (variable_meaning t a) x ps f = refl
word_unfolds (procedure_meaning p) x ps f = refl
word_unfolds (import_meaning v) x ps f = refl
word_unfolds (word_meaning w) x ps f = sym (ap (λ b. folding_of (if b then call_const x ps else other_const)) f)

pub name_folds : (m : Meaning) → named_folding m ≡ folding_of (meaning_const m)
name_folds unknown_meaning = refl
name_folds (constant_meaning v) = refl
name_folds (type_meaning t) = refl
name_folds (variable_meaning t a) = refl
name_folds (procedure_meaning p) = refl
name_folds (import_meaning v) = refl
name_folds (word_meaning w) = refl

-- ---- sets

-- the elements of a set behind others
abbrev pub behind : SetFolding → RangesTree → SetFolding
behind r rs = record { built = r.built && are_built rs; set = with_ranges r.set rs }

regroup : (a b c d : Bool) → (a && (b && c)) && d ≡ a && (b && c && d)
regroup true b c d = refl
regroup false b c d = refl

element_folds : (s : Scopes) (r : SetFolding) (e : ElementTree) (rs : RangesTree) → behind (element_folding s r e) rs ≡ behind r (element_const s e rs)
element_folds s r (element_of e no_upper) rs = ap (λ b. record { built = b; set = with_ranges (with_range r.set (end_value (value_of (expr_const s e))) (end_value (value_of (expr_const s e)))) rs }) (regroup r.built (is_built (expr_const s e)) (is_built (expr_const s e)) (are_built rs))
element_folds s r (element_of e (upper_of dots f)) rs = ap (λ b. record { built = b; set = with_ranges (with_range r.set (end_value (value_of (expr_const s e))) (end_value (value_of (expr_const s f)))) rs }) (regroup r.built (is_built (expr_const s e)) (is_built (expr_const s f)) (are_built rs))

elements_fold : (s : Scopes) (r : SetFolding) (more : MoreElementsTree) → elements_folding s r more ≡ behind r (more_elements_const s more)
elements_fold s r no_more_elements = ap (λ b. record { built = b; set = r.set }) (and_true r.built)
elements_fold s r (more_elements comma e more) = elements_fold s (element_folding s r e) more ∙ element_folds s r e (more_elements_const s more)

pub set_folds : (s : Scopes) (e : ElementTree) (more : MoreElementsTree) → set_folding (elements_folding s (element_folding s (record { built = true; set = Some 0 }) e) more) ≡ folding_of (set_const (element_const s e (more_elements_const s more)))
set_folds s e more = ap set_folding (elements_fold s (element_folding s (record { built = true; set = Some 0 }) e) more ∙ element_folds s (record { built = true; set = Some 0 }) e (more_elements_const s more))
