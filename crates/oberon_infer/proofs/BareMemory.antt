-- A name alone, in memory, level by level of the tree.
use Rattle.std.specs.Prelude.{◌≡◌, ◌≤◌, true, false, List, [], ◌∷◌, length, Option, Some, None, refl}
use Rattle.std.proofs.Common.{ap, sym, ◌∙◌, arith}
use Rattle.std.specs.declared.alloc.Global.{Global}
use Rattle.std.specs.declared.boxed.Box.{Box}
use Rattle.oberon_tree.specs.declared.leaf.Ident.{Ident}
use Rattle.oberon_tree.specs.declared.expression.Addend.{Addend}
use Rattle.oberon_tree.specs.declared.expression.Multiplier.{Multiplier}
use Rattle.oberon_tree.specs.declared.expression.NextExpr.{NextExpr}
use Rattle.oberon_tree.specs.declared.expression.Selector.{Selector}
use Rattle.oberon_tree.specs.declared.expression.Signed.{Signed}
use Rattle.oberon_tree.specs.declared.expression.Expr.{Expr, out-Expr}
use Rattle.oberon_tree.specs.declared.expression.Relation.{Relation}
use Rattle.oberon_tree.specs.declared.expression.Simple.{Simple, out-Simple}
use Rattle.oberon_tree.specs.declared.expression.Term.{Term, out-Term}
use Rattle.oberon_tree.specs.declared.expression.Designator.{Designator}
use Rattle.oberon_tree.specs.declared.expression.Factor.TheVariants as factors
use Rattle.oberon_tree.specs.declared.expression.Exprs.{Exprs, out-Exprs}
use Rattle.oberon_tree.specs.Memory.{expr_tree, relation_option, simple_tree, addends_list, term_tree, multipliers_list, factor_tree, selector_tree, selectors_list, exprs_tree, more_exprs_list}
use Rattle.oberon_tree.specs.Trees.{ExprTree, expr_of, simple_of, AddendsTree, no_addends, more_addends, TermTree, term_of, MultipliersTree, no_multipliers, more_multipliers, FactorTree, designator_factor, designator_of, SelectorTree, field_selector, SelectorsTree, more_selectors, exprs_of, MoreExprsTree, no_more_exprs, more_exprs}
use Rattle.oberon_tree.proofs.ExpressionMemory.{expr_out, relation_out, simple_out, term_out, exprs_out, designator_held, addend_out, next_expr_out}
use Rattle.oberon_rules.specs.Expressions.{bare_designator, bare_simple, bare_expr}
use Rattle.oberon_infer.specs.Bare.{is_alone, has_addends, has_multipliers, has_more, bare_factor, bare_term, sole_argument}

-- ---- arguments

one_left : (e : ExprTree) (more : MoreExprsTree) → has_more more ≡ false → sole_argument (exprs_of e more) ≡ bare_expr e
one_left e no_more_exprs h = refl
one_left e (more_exprs comma f more) h = absurd cc

many_left : (e : ExprTree) (more : MoreExprsTree) → has_more more ≡ true → sole_argument (exprs_of e more) ≡ None
many_left e no_more_exprs h = absurd cc
many_left e (more_exprs comma f more) h = refl

pub sole_one : (e : Exprs) → has_more (more_exprs_list (out-Exprs e).rest.items) ≡ false → sole_argument (exprs_tree e) ≡ bare_expr (expr_tree (out-Exprs e).first)
sole_one e h = ap sole_argument (exprs_out e) ∙ one_left _ _ h

pub sole_many : (e : Exprs) → has_more (more_exprs_list (out-Exprs e).rest.items) ≡ true → sole_argument (exprs_tree e) ≡ None
sole_many e h = ap sole_argument (exprs_out e) ∙ many_left _ _ h

pub expr_with : (f : Expr) (b : Box Relation Global) → (out-Expr f).relation ≡ Some b → bare_expr (expr_tree f) ≡ None
expr_with f b is =
    ap bare_expr (expr_out f)
    ∙ ap (λ r. bare_expr (expr_of (simple_tree (out-Expr f).left) (relation_option r))) is
    ∙ ap (λ r. bare_expr (expr_of (simple_tree (out-Expr f).left) r)) (relation_out b.value)

pub expr_without : (f : Expr) → (out-Expr f).relation ≡ None → bare_expr (expr_tree f) ≡ bare_simple (simple_tree (out-Expr f).left)
expr_without f is =
    ap bare_expr (expr_out f)
    ∙ ap (λ r. bare_expr (expr_of (simple_tree (out-Expr f).left) (relation_option r))) is

-- ---- simple expressions and terms

by_factor : (more : MultipliersTree) (f : FactorTree) → bare_simple (simple_of None (term_of f more) no_addends) ≡ bare_term (term_of f more)
by_factor no_multipliers (designator_factor (designator_of x sels)) = refl
by_factor no_multipliers _ = refl
by_factor (more_multipliers o place g more) (designator_factor (designator_of x sels)) = refl
by_factor (more_multipliers o place g more) _ = refl

alone_is : (sign : Option Signed) (t : TermTree) (more : AddendsTree) → is_alone sign more ≡ true → bare_simple (simple_of sign t more) ≡ bare_term t
alone_is None (term_of f more) no_addends h = by_factor more f
alone_is None t (more_addends o place b more) h = absurd cc
alone_is (Some g) t more h = absurd cc

crowd_is : (sign : Option Signed) (t : TermTree) (more : AddendsTree) → is_alone sign more ≡ false → bare_simple (simple_of sign t more) ≡ None
crowd_is None t no_addends h = absurd cc
crowd_is None (term_of (designator_factor (designator_of x sels)) no_multipliers) (more_addends o place b more) h = refl
crowd_is None (term_of f m) (more_addends o place b more) h = refl
crowd_is (Some g) t more h = refl

pub simple_alone : (x : Simple) → is_alone (out-Simple x).sign (addends_list (out-Simple x).rest.items) ≡ true → bare_simple (simple_tree x) ≡ bare_term (term_tree (out-Simple x).first)
simple_alone x h = ap bare_simple (simple_out x) ∙ alone_is _ _ _ h

pub simple_crowd : (x : Simple) → is_alone (out-Simple x).sign (addends_list (out-Simple x).rest.items) ≡ false → bare_simple (simple_tree x) ≡ None
simple_crowd x h = ap bare_simple (simple_out x) ∙ crowd_is _ _ _ h

factor_is : (f : FactorTree) (more : MultipliersTree) → has_multipliers more ≡ false → bare_term (term_of f more) ≡ bare_factor f
factor_is f no_multipliers h = refl
factor_is f (more_multipliers o place g more) h = absurd cc

factors_are : (f : FactorTree) (more : MultipliersTree) → has_multipliers more ≡ true → bare_term (term_of f more) ≡ None
factors_are f no_multipliers h = absurd cc
factors_are f (more_multipliers o place g more) h = refl

pub term_alone : (x : Term) → has_multipliers (multipliers_list (out-Term x).rest.items) ≡ false → bare_term (term_tree x) ≡ bare_factor (factor_tree (out-Term x).first)
term_alone x h = ap bare_term (term_out x) ∙ factor_is _ _ h

pub term_crowd : (x : Term) → has_multipliers (multipliers_list (out-Term x).rest.items) ≡ true → bare_term (term_tree x) ≡ None
term_crowd x h = ap bare_term (term_out x) ∙ factors_are _ _ h

pub designator_alone : (d : Designator) → bare_factor (factor_tree (factors.Designator d)) ≡ bare_designator d.name (selectors_list d.selectors.items)
designator_alone d = ap bare_factor (designator_held d)

-- ---- lists

pub some_addends : (xs : List Addend) → 1 ≤ length xs → true ≡ has_addends (addends_list xs)
some_addends [] h = absurd (omega arith)
some_addends (x ∷ xs) h = sym (ap has_addends (addend_out x (addends_list xs)))

pub some_multipliers : (xs : List Multiplier) → 1 ≤ length xs → true ≡ has_multipliers (multipliers_list xs)
some_multipliers [] h = absurd (omega arith)
some_multipliers (x ∷ xs) h = refl

pub some_more : (xs : List NextExpr) → 1 ≤ length xs → true ≡ has_more (more_exprs_list xs)
some_more [] h = absurd (omega arith)
some_more (x ∷ xs) h = sym (ap has_more (next_expr_out x (more_exprs_list xs)))

no_name : (name : Ident) (a b : SelectorTree) (more : SelectorsTree) → bare_designator name (more_selectors a (more_selectors b more)) ≡ None
no_name name (field_selector m) b more = refl
no_name name _ b more = refl

pub two_selectors : (name : Ident) (xs : List Selector) → 2 ≤ length xs → bare_designator name (selectors_list xs) ≡ None
two_selectors name [] h = absurd (omega arith)
two_selectors name (x ∷ []) h = absurd (omega arith)
two_selectors name (x ∷ y ∷ xs) h = no_name name (selector_tree x) (selector_tree y) (selectors_list xs)
