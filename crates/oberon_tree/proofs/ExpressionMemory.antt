-- Expressions in memory: what the tree of a struct is by the struct's fields, where it is made (`x_made`) and where
-- it is read (`x_out`).
use Rattle.std.specs.Prelude.{◌≡◌, Option, Some, None, refl}
use Rattle.std.proofs.Common.{ap, sym, ◌∙◌}
use Rattle.std.specs.declared.alloc.Global.{Global}
use Rattle.std.specs.declared.boxed.Box.{Box}
use Rattle.std.specs.declared.vec.Vec.{Vec}
use Rattle.ob_text.specs.declared.span.Span.{Span}
use denote.Hole.Carrier.{roll}
use Rattle.oberon_tree.specs.declared.expression.Factor.TheBlock.{back-Expr-relation, back-Set-elements, back-Element-upper, back-Selector-Call-1}
use Rattle.oberon_tree.specs.declared.expression.Factor.TheBlock.{Row_of-Selector, end_of-Selector, more_of-Selector, items-the_row-Selector, hidden-the_row-Selector-0, items_hidden-the_row-Selector-0}
use Rattle.oberon_tree.specs.declared.expression.Factor.TheBlock.{Row_of-NextElement, end_of-NextElement, more_of-NextElement, items-the_row-NextElement, hidden-the_row-NextElement-1, items_hidden-the_row-NextElement-1}
use Rattle.oberon_tree.specs.declared.expression.Factor.TheBlock.{Row_of-NextExpr, end_of-NextExpr, more_of-NextExpr, items-the_row-NextExpr, hidden-the_row-NextExpr-2, items_hidden-the_row-NextExpr-2}
use Rattle.oberon_tree.specs.declared.expression.Factor.TheBlock.{Row_of-Addend, end_of-Addend, more_of-Addend, items-the_row-Addend, hidden-the_row-Addend-3, items_hidden-the_row-Addend-3}
use Rattle.oberon_tree.specs.declared.expression.Factor.TheBlock.{Row_of-Multiplier, end_of-Multiplier, more_of-Multiplier, items-the_row-Multiplier, hidden-the_row-Multiplier-4, items_hidden-the_row-Multiplier-4}
use Rattle.oberon_tree.specs.declared.expression.Expr.{Expr, roll-Expr, out-Expr, roll-out-Expr}
use Rattle.oberon_tree.specs.declared.expression.Relation.{Relation, roll-Relation, out-Relation, roll-out-Relation}
use Rattle.oberon_tree.specs.declared.expression.Simple.{Simple, roll-Simple, out-Simple, roll-out-Simple}
use Rattle.oberon_tree.specs.declared.expression.Addend.{Addend, roll-Addend, out-Addend, roll-out-Addend}
use Rattle.oberon_tree.specs.declared.expression.Term.{Term, roll-Term, out-Term, roll-out-Term}
use Rattle.oberon_tree.specs.declared.expression.Set.{Set, roll-Set, out-Set, roll-out-Set}
use Rattle.oberon_tree.specs.declared.expression.Elements.{Elements, roll-Elements, out-Elements, roll-out-Elements}
use Rattle.oberon_tree.specs.declared.expression.NextElement.{NextElement, roll-NextElement, out-NextElement, roll-out-NextElement}
use Rattle.oberon_tree.specs.declared.expression.Element.{Element, roll-Element, out-Element, roll-out-Element}
use Rattle.oberon_tree.specs.declared.expression.Upper.{Upper, roll-Upper, out-Upper, roll-out-Upper}
use Rattle.oberon_tree.specs.declared.expression.Exprs.{Exprs, roll-Exprs, out-Exprs, roll-out-Exprs}
use Rattle.oberon_tree.specs.declared.expression.NextExpr.{NextExpr, roll-NextExpr, out-NextExpr, roll-out-NextExpr}
use Rattle.oberon_tree.specs.declared.expression.Multiplier.{Multiplier}
use Rattle.oberon_tree.specs.declared.expression.Designator.{Designator}
use Rattle.oberon_tree.specs.declared.expression.Selector.{Selector}
use Rattle.oberon_tree.specs.declared.expression.Selector.TheVariants as selectors
use Rattle.oberon_tree.specs.declared.expression.Factor.{Factor}
use Rattle.oberon_tree.specs.declared.expression.Factor.TheVariants as factors
use Rattle.oberon_tree.specs.declared.expression.Relator.{Relator}
use Rattle.oberon_tree.specs.declared.expression.AddOperator.{AddOperator}
use Rattle.oberon_tree.specs.declared.expression.Signed.{Signed}
use Rattle.oberon_tree.specs.Memory.{expr_tree, relation_held, relation_tree, simple_tree, addends_row, addend_before, term_tree, multipliers_row, factor_tree, set_tree, elements_held, elements_tree, more_elements_row, element_before, element_tree, upper_held, upper_tree, selectors_row, selector_tree, arguments_held, exprs_tree, more_exprs_row, expr_before, relation_option, addends_list, multipliers_list, elements_option, more_elements_list, upper_option, selectors_list, designator_tree, arguments_option, more_exprs_list}
use Rattle.oberon_tree.specs.Trees.{expr_of, relation_of, simple_of, AddendsTree, more_addends, term_of, more_multipliers, designator_factor, set_of, some_elements, MoreElementsTree, more_elements, element_of, upper_of, designator_of, more_selectors, call_selector, exprs_of, MoreExprsTree, more_exprs}

-- a row is the list of its items
addends_items : {m : _} (row : Row_of-Addend m) → addends_row row ≡ addends_list (items-the_row-Addend _ row)
addends_items end_of-Addend = refl
addends_items (more_of-Addend x row) = ap (addend_before x) (addends_items row)

pub addends_hidden : (v : Vec Addend Global) → addends_row (hidden-the_row-Addend-3 v) ≡ addends_list v.items
addends_hidden v = addends_items (hidden-the_row-Addend-3 v) ∙ ap addends_list (items_hidden-the_row-Addend-3 v)

-- a row is the list of its items
multipliers_items : {m : _} (row : Row_of-Multiplier m) → multipliers_row row ≡ multipliers_list (items-the_row-Multiplier _ row)
multipliers_items end_of-Multiplier = refl
multipliers_items (more_of-Multiplier op span f row) = ap (more_multipliers op span (factor_tree f)) (multipliers_items row)

pub multipliers_hidden : (v : Vec Multiplier Global) → multipliers_row (hidden-the_row-Multiplier-4 v) ≡ multipliers_list v.items
multipliers_hidden v = multipliers_items (hidden-the_row-Multiplier-4 v) ∙ ap multipliers_list (items_hidden-the_row-Multiplier-4 v)

-- a row is the list of its items
more_elements_items : {m : _} (row : Row_of-NextElement m) → more_elements_row row ≡ more_elements_list (items-the_row-NextElement _ row)
more_elements_items end_of-NextElement = refl
more_elements_items (more_of-NextElement x row) = ap (element_before x) (more_elements_items row)

pub more_elements_hidden : (v : Vec NextElement Global) → more_elements_row (hidden-the_row-NextElement-1 v) ≡ more_elements_list v.items
more_elements_hidden v = more_elements_items (hidden-the_row-NextElement-1 v) ∙ ap more_elements_list (items_hidden-the_row-NextElement-1 v)

-- a row is the list of its items
selectors_items : {m : _} (row : Row_of-Selector m) → selectors_row row ≡ selectors_list (items-the_row-Selector _ row)
selectors_items end_of-Selector = refl
selectors_items (more_of-Selector x row) = ap (more_selectors (selector_tree x)) (selectors_items row)

pub selectors_hidden : (v : Vec Selector Global) → selectors_row (hidden-the_row-Selector-0 v) ≡ selectors_list v.items
selectors_hidden v = selectors_items (hidden-the_row-Selector-0 v) ∙ ap selectors_list (items_hidden-the_row-Selector-0 v)

-- a row is the list of its items
more_exprs_items : {m : _} (row : Row_of-NextExpr m) → more_exprs_row row ≡ more_exprs_list (items-the_row-NextExpr _ row)
more_exprs_items end_of-NextExpr = refl
more_exprs_items (more_of-NextExpr x row) = ap (expr_before x) (more_exprs_items row)

pub more_exprs_hidden : (v : Vec NextExpr Global) → more_exprs_row (hidden-the_row-NextExpr-2 v) ≡ more_exprs_list v.items
more_exprs_hidden v = more_exprs_items (hidden-the_row-NextExpr-2 v) ∙ ap more_exprs_list (items_hidden-the_row-NextExpr-2 v)

relation_back : (o : Option (Box Relation Global)) → relation_held (back-Expr-relation o) ≡ relation_option o
relation_back None = refl
relation_back (Some b) = refl

elements_back : (o : Option (Box Elements Global)) → elements_held (back-Set-elements o) ≡ elements_option o
elements_back None = refl
elements_back (Some b) = refl

upper_back : (o : Option Upper) → upper_held (back-Element-upper o) ≡ upper_option o
upper_back None = refl
upper_back (Some b) = refl

arguments_back : (o : Option (Box Exprs Global)) → arguments_held (back-Selector-Call-1 o) ≡ arguments_option o
arguments_back None = refl
arguments_back (Some b) = refl

pub expr_made : (left' : Simple) (relation' : Option (Box Relation Global)) → expr_tree (roll-Expr (record { left = left'; relation = relation' })) ≡ expr_of (simple_tree left') (relation_option relation')
unfolding roll-Expr roll
expr_made left' relation' = ap (expr_of (simple_tree left')) (relation_back relation')

pub expr_out : (x : Expr) → expr_tree x ≡ expr_of (simple_tree (out-Expr x).left) (relation_option (out-Expr x).relation)
expr_out x = ap expr_tree (sym (roll-out-Expr x)) ∙ expr_made _ _

pub relation_made : (operator' : Relator) (span' : Span) (right' : Simple) → relation_tree (roll-Relation (record { operator = operator'; span = span'; right = right' })) ≡ relation_of operator' span' (simple_tree right')
unfolding roll-Relation roll
relation_made operator' span' right' = refl

pub relation_out : (x : Relation) → relation_tree x ≡ relation_of (out-Relation x).operator (out-Relation x).span (simple_tree (out-Relation x).right)
relation_out x = ap relation_tree (sym (roll-out-Relation x)) ∙ relation_made _ _ _

pub simple_made : (sign' : Option Signed) (first' : Term) (rest' : Vec Addend Global) → simple_tree (roll-Simple (record { sign = sign'; first = first'; rest = rest' })) ≡ simple_of sign' (term_tree first') (addends_list rest'.items)
unfolding roll-Simple roll
simple_made sign' first' rest' = ap (simple_of sign' (term_tree first')) (addends_hidden rest')

pub simple_out : (x : Simple) → simple_tree x ≡ simple_of (out-Simple x).sign (term_tree (out-Simple x).first) (addends_list (out-Simple x).rest.items)
simple_out x = ap simple_tree (sym (roll-out-Simple x)) ∙ simple_made _ _ _

pub addend_made : (op : AddOperator) (span : Span) (t : Term) (more : AddendsTree) → addend_before (roll-Addend (record { operator = op; span = span; term = t })) more ≡ more_addends op span (term_tree t) more
unfolding roll-Addend roll
addend_made op span t more = refl

pub addend_out : (x : Addend) (more : AddendsTree) → addend_before x more ≡ more_addends (out-Addend x).operator (out-Addend x).span (term_tree (out-Addend x).term) more
addend_out x more = ap (λ y. addend_before y more) (sym (roll-out-Addend x)) ∙ addend_made _ _ _ more

pub term_made : (first' : Factor) (rest' : Vec Multiplier Global) → term_tree (roll-Term (record { first = first'; rest = rest' })) ≡ term_of (factor_tree first') (multipliers_list rest'.items)
unfolding roll-Term roll
term_made first' rest' = ap (term_of (factor_tree first')) (multipliers_hidden rest')

pub term_out : (x : Term) → term_tree x ≡ term_of (factor_tree (out-Term x).first) (multipliers_list (out-Term x).rest.items)
term_out x = ap term_tree (sym (roll-out-Term x)) ∙ term_made _ _

pub set_made : (opening' : Span) (elements' : Option (Box Elements Global)) (closing' : Span) → set_tree (roll-Set (record { opening = opening'; elements = elements'; closing = closing' })) ≡ set_of opening' (elements_option elements') closing'
unfolding roll-Set roll
set_made opening' elements' closing' = ap (λ y. set_of opening' y closing') (elements_back elements')

pub set_out : (x : Set) → set_tree x ≡ set_of (out-Set x).opening (elements_option (out-Set x).elements) (out-Set x).closing
set_out x = ap set_tree (sym (roll-out-Set x)) ∙ set_made _ _ _

pub elements_made : (first' : Element) (rest' : Vec NextElement Global) → elements_tree (roll-Elements (record { first = first'; rest = rest' })) ≡ some_elements (element_tree first') (more_elements_list rest'.items)
unfolding roll-Elements roll
elements_made first' rest' = ap (some_elements (element_tree first')) (more_elements_hidden rest')

pub elements_out : (x : Elements) → elements_tree x ≡ some_elements (element_tree (out-Elements x).first) (more_elements_list (out-Elements x).rest.items)
elements_out x = ap elements_tree (sym (roll-out-Elements x)) ∙ elements_made _ _

pub next_element_made : (comma' : Span) (e : Element) (more : MoreElementsTree) → element_before (roll-NextElement (record { comma = comma'; element = e })) more ≡ more_elements comma' (element_tree e) more
unfolding roll-NextElement roll
next_element_made comma' e more = refl

pub next_element_out : (x : NextElement) (more : MoreElementsTree) → element_before x more ≡ more_elements (out-NextElement x).comma (element_tree (out-NextElement x).element) more
next_element_out x more = ap (λ y. element_before y more) (sym (roll-out-NextElement x)) ∙ next_element_made _ _ more

pub element_made : (first' : Expr) (upper' : Option Upper) → element_tree (roll-Element (record { first = first'; upper = upper' })) ≡ element_of (expr_tree first') (upper_option upper')
unfolding roll-Element roll
element_made first' upper' = ap (element_of (expr_tree first')) (upper_back upper')

pub element_out : (x : Element) → element_tree x ≡ element_of (expr_tree (out-Element x).first) (upper_option (out-Element x).upper)
element_out x = ap element_tree (sym (roll-out-Element x)) ∙ element_made _ _

pub upper_made : (dots' : Span) (last' : Expr) → upper_tree (roll-Upper (record { dots = dots'; last = last' })) ≡ upper_of dots' (expr_tree last')
unfolding roll-Upper roll
upper_made dots' last' = refl

pub upper_out : (x : Upper) → upper_tree x ≡ upper_of (out-Upper x).dots (expr_tree (out-Upper x).last)
upper_out x = ap upper_tree (sym (roll-out-Upper x)) ∙ upper_made _ _

pub exprs_made : (first' : Expr) (rest' : Vec NextExpr Global) → exprs_tree (roll-Exprs (record { first = first'; rest = rest' })) ≡ exprs_of (expr_tree first') (more_exprs_list rest'.items)
unfolding roll-Exprs roll
exprs_made first' rest' = ap (exprs_of (expr_tree first')) (more_exprs_hidden rest')

pub exprs_out : (x : Exprs) → exprs_tree x ≡ exprs_of (expr_tree (out-Exprs x).first) (more_exprs_list (out-Exprs x).rest.items)
exprs_out x = ap exprs_tree (sym (roll-out-Exprs x)) ∙ exprs_made _ _

pub next_expr_made : (comma' : Span) (e : Expr) (more : MoreExprsTree) → expr_before (roll-NextExpr (record { comma = comma'; expr = e })) more ≡ more_exprs comma' (expr_tree e) more
unfolding roll-NextExpr roll
next_expr_made comma' e more = refl

pub next_expr_out : (x : NextExpr) (more : MoreExprsTree) → expr_before x more ≡ more_exprs (out-NextExpr x).comma (expr_tree (out-NextExpr x).expr) more
next_expr_out x more = ap (λ y. expr_before y more) (sym (roll-out-NextExpr x)) ∙ next_expr_made _ _ more

pub designator_held : (d : Designator) → factor_tree (factors.Designator d) ≡ designator_factor (designator_tree d)
designator_held d = ap (λ y. designator_factor (designator_of d.name y)) (selectors_hidden d.selectors)

pub call_held : (a : Span) (o : Option (Box Exprs Global)) (b : Span) → selector_tree (selectors.Call a o b) ≡ call_selector a (arguments_option o) b
call_held a o b = ap (λ y. call_selector a y b) (arguments_back o)
