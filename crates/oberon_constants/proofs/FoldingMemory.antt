-- Folding over the trees in memory: what a function answers is what its tree folds to.
use Rattle.std.specs.Prelude.{ℕ, ◌≡◌, true, ◌&&◌, List, [], ◌∷◌, Option, Some, None, refl}
use Rattle.std.proofs.Common.{◌+◌, ◌<◌, ◌≤◌, length, drop, get_or, ap, sym, ◌∙◌, arith}
use Rattle.std.proofs.lemmas.List.{at_drop_more}
use Rattle.oberon_tree.specs.declared.expression.Expr.{Expr, out-Expr}
use Rattle.oberon_tree.specs.declared.expression.Relation.{Relation, out-Relation}
use Rattle.oberon_tree.specs.declared.expression.Simple.{Simple, out-Simple}
use Rattle.oberon_tree.specs.declared.expression.Addend.{Addend, out-Addend}
use Rattle.oberon_tree.specs.declared.expression.Term.{Term, out-Term}
use Rattle.oberon_tree.specs.declared.expression.Multiplier.{Multiplier}
use Rattle.oberon_tree.specs.declared.expression.Elements.{Elements, out-Elements}
use Rattle.oberon_tree.specs.declared.expression.NextElement.{NextElement, out-NextElement}
use Rattle.oberon_tree.specs.declared.expression.Element.{Element, out-Element}
use Rattle.oberon_tree.specs.declared.expression.Upper.{Upper, out-Upper}
use Rattle.oberon_tree.specs.declared.expression.Exprs.{Exprs, out-Exprs}
use Rattle.oberon_tree.specs.declared.expression.NextExpr.{NextExpr, out-NextExpr}
use Rattle.oberon_tree.specs.declared.expression.Selector.{Selector}
use Rattle.oberon_tree.specs.Memory.{selectors_list, selector_tree, exprs_tree, expr_before, more_exprs_list, expr_tree, relation_tree, relation_option, simple_tree, addend_before, addends_list, term_tree, multipliers_list, factor_tree, elements_tree, element_before, element_tree, upper_option, more_elements_list}
use Rattle.oberon_tree.specs.Trees.{AddendsTree, more_multipliers, MoreElementsTree, ElementTree, element_of, UpperTree, MoreExprsTree, no_more_exprs, more_exprs, SelectorTree, SelectorsTree, no_selectors, more_selectors, field_selector, index_selector, call_selector, no_arguments, some_arguments}
use Rattle.oberon_tree.proofs.ExpressionMemory.{expr_out, relation_out, simple_out, addend_out, term_out, elements_out, next_element_out, element_out, upper_out, exprs_out, next_expr_out}
use Rattle.oberon_types.specs.declared.constant.FoldingFunction.{FoldingFunction}
use Rattle.oberon_types.specs.Folding.{ConstTree, set_const, more_parts, is_built, parts_built, call_value}
use Rattle.oberon_rules.specs.Constants.{add_op, mul_op, expr_const, simple_const, term_const, factor_const, signed_const, elements_const, designator_const, exprs_const, more_exprs_const}
use Rattle.oberon_rules.specs.Names.{name_is}
use Rattle.oberon_types.specs.declared.constant.Op.{Op}
use Rattle.oberon_rules.specs.Scopes.{Scopes}
use Rattle.oberon_constants.specs.declared.folding.Folding.{Folding}
use Rattle.oberon_constants.specs.declared.folding.SetFolding.{SetFolding}
use Rattle.oberon_constants.specs.Foldings.{folding_of, no_folding, named_folding, call_folding, called_with_one, called_with_two, called_with_more, binary_folding, signed_folding, relation_folding, related_folding, range_folding, element_folding, set_folding}
use Rattle.oberon_constants.proofs.FoldingLaws.{name_folds, one_called, two_called, more_called, signed_folds, related_folds, addends_fold, multipliers_fold, set_folds, addends_folding, multipliers_folding, elements_folding}

-- ---- relations

pub related_out : (s : Scopes) (f : Folding) (x : Relation) → relation_folding (out-Relation x).operator f (folding_of (simple_const s (simple_tree (out-Relation x).right))) ≡ related_folding s f (relation_tree x)
related_out s f x = sym (ap (related_folding s f) (relation_out x))

pub expr_folds : (s : Scopes) (e : Expr) → related_folding s (folding_of (simple_const s (simple_tree (out-Expr e).left))) (relation_option (out-Expr e).relation) ≡ folding_of (expr_const s (expr_tree e))
expr_folds s e = related_folds s (simple_const s (simple_tree (out-Expr e).left)) (relation_option (out-Expr e).relation) ∙ sym (ap (λ t. folding_of (expr_const s t)) (expr_out e))

-- ---- sums and products

pub addend_step : (s : Scopes) (f : Folding) (x : Addend) (more : AddendsTree) → addends_folding s (binary_folding (add_op (out-Addend x).operator) f (folding_of (term_const s (term_tree (out-Addend x).term)))) more ≡ addends_folding s f (addend_before x more)
addend_step s f x more = sym (ap (addends_folding s f) (addend_out x more))

-- one more addend
pub addend_loop : (s : Scopes) (items : List Addend) (i : ℕ) (x : Addend) (o : Op) (f r g : Folding) → i < length items → x ≡ get_or items i x → o ≡ add_op (out-Addend x).operator → r ≡ folding_of (term_const s (term_tree (out-Addend x).term)) → g ≡ binary_folding o f r → addends_folding s g (addends_list (drop (i + 1) items)) ≡ addends_folding s f (addends_list (drop i items))
addend_loop s items i x o f r g l is op e h =
    let rest = addends_list (drop (i + 1) items) in
    ap (λ (y : Folding). addends_folding s y rest) (h ∙ ap (λ (p : Op). binary_folding p f r) op ∙ ap (binary_folding (add_op (out-Addend x).operator) f) e)
    ∙ addend_step s f x rest
    ∙ ap (λ (y : Addend). addends_folding s f (addend_before y rest)) is
    ∙ sym (at_drop_more (λ (ys : List Addend). addends_folding s f (addends_list ys)) items i x l)

pub simple_folds : (s : Scopes) (x : Simple) → addends_folding s (signed_folding (out-Simple x).sign (folding_of (term_const s (term_tree (out-Simple x).first)))) (addends_list (out-Simple x).rest.items) ≡ folding_of (simple_const s (simple_tree x))
simple_folds s x =
    let c = term_const s (term_tree (out-Simple x).first) in
    let rest = addends_list (out-Simple x).rest.items in
    ap (λ (f : Folding). addends_folding s f rest) (signed_folds (out-Simple x).sign c) ∙ addends_fold s (signed_const (out-Simple x).sign c) rest ∙ sym (ap (λ t. folding_of (simple_const s t)) (simple_out x))

-- one more multiplier
pub multiplier_loop : (s : Scopes) (items : List Multiplier) (i : ℕ) (x : Multiplier) (o : Op) (f r g : Folding) → i < length items → x ≡ get_or items i x → o ≡ mul_op x.operator → r ≡ folding_of (factor_const s (factor_tree x.factor)) → g ≡ binary_folding o f r → multipliers_folding s g (multipliers_list (drop (i + 1) items)) ≡ multipliers_folding s f (multipliers_list (drop i items))
multiplier_loop s items i x o f r g l is op e h =
    let rest = multipliers_list (drop (i + 1) items) in
    ap (λ (y : Folding). multipliers_folding s y rest) (h ∙ ap (λ (p : Op). binary_folding p f r) op ∙ ap (binary_folding (mul_op x.operator) f) e)
    ∙ ap (λ (y : Multiplier). multipliers_folding s f (more_multipliers y.operator y.span (factor_tree y.factor) rest)) is
    ∙ sym (at_drop_more (λ (ys : List Multiplier). multipliers_folding s f (multipliers_list ys)) items i x l)

pub term_folds : (s : Scopes) (x : Term) → multipliers_folding s (folding_of (factor_const s (factor_tree (out-Term x).first))) (multipliers_list (out-Term x).rest.items) ≡ folding_of (term_const s (term_tree x))
term_folds s x = multipliers_fold s (factor_const s (factor_tree (out-Term x).first)) (multipliers_list (out-Term x).rest.items) ∙ sym (ap (λ t. folding_of (term_const s t)) (term_out x))

-- ---- sets

pub element_step : (s : Scopes) (r : SetFolding) (x : NextElement) (more : MoreElementsTree) → elements_folding s (element_folding s r (element_tree (out-NextElement x).element)) more ≡ elements_folding s r (element_before x more)
element_step s r x more = sym (ap (elements_folding s r) (next_element_out x more))

pub upper_step : (s : Scopes) (r : SetFolding) (x : Element) (u : Upper) → (out-Element x).upper ≡ Some u → range_folding r (folding_of (expr_const s (expr_tree (out-Element x).first))) (folding_of (expr_const s (expr_tree (out-Upper u).last))) ≡ element_folding s r (element_tree x)
upper_step s r x u at =
    sym (ap (λ (e : ElementTree). element_folding s r e) (element_out x)
    ∙ ap (λ (o : Option Upper). element_folding s r (element_of (expr_tree (out-Element x).first) (upper_option o))) at
    ∙ ap (λ (t : UpperTree). element_folding s r (element_of (expr_tree (out-Element x).first) t)) (upper_out u))

pub only_step : (s : Scopes) (r : SetFolding) (x : Element) → (out-Element x).upper ≡ None → range_folding r (folding_of (expr_const s (expr_tree (out-Element x).first))) (folding_of (expr_const s (expr_tree (out-Element x).first))) ≡ element_folding s r (element_tree x)
only_step s r x at =
    sym (ap (λ (e : ElementTree). element_folding s r e) (element_out x)
    ∙ ap (λ (o : Option Upper). element_folding s r (element_of (expr_tree (out-Element x).first) (upper_option o))) at)

-- one more element
pub element_loop : (s : Scopes) (items : List NextElement) (i : ℕ) (x : NextElement) (r q : SetFolding) → i < length items → x ≡ get_or items i x → q ≡ element_folding s r (element_tree (out-NextElement x).element) → elements_folding s q (more_elements_list (drop (i + 1) items)) ≡ elements_folding s r (more_elements_list (drop i items))
element_loop s items i x r q l is e =
    let rest = more_elements_list (drop (i + 1) items) in
    ap (λ (y : SetFolding). elements_folding s y rest) e
    ∙ element_step s r x rest
    ∙ ap (λ (y : NextElement). elements_folding s r (element_before y rest)) is
    ∙ sym (at_drop_more (λ (ys : List NextElement). elements_folding s r (more_elements_list ys)) items i x l)

pub elements_fold_to : (s : Scopes) (x : Elements) → set_folding (elements_folding s (element_folding s (record { built = true; set = Some 0 }) (element_tree (out-Elements x).first)) (more_elements_list (out-Elements x).rest.items)) ≡ folding_of (set_const (elements_const s (elements_tree x)))
elements_fold_to s x = set_folds s (element_tree (out-Elements x).first) (more_elements_list (out-Elements x).rest.items) ∙ sym (ap (λ t. folding_of (set_const (elements_const s t))) (elements_out x))

-- ---- short lists

no_items : {A : Type 0} (xs : List A) → length xs < 1 → xs ≡ []
no_items [] l = refl
no_items (x ∷ xs) l = absurd (omega arith)

one_item : {A : Type 0} (xs : List A) (x : A) → 1 ≤ length xs → length xs < 2 → x ≡ get_or xs 0 x → xs ≡ x ∷ []
one_item [] x many few is = absurd (omega arith)
one_item (y ∷ []) x many few is = ap (λ z. z ∷ []) (sym is)
one_item (y ∷ z ∷ ys) x many few is = absurd (omega arith)

-- ---- names with selectors

pub bare_name : (s : Scopes) (x : List ℕ) (items sels : List Selector) → items ≡ sels → length items < 1 → named_folding (name_is s x) ≡ folding_of (designator_const s x (selectors_list sels))
bare_name s x items sels same few = name_folds (name_is s x) ∙ ap (λ (ys : List Selector). folding_of (designator_const s x (selectors_list ys))) (sym (no_items items few) ∙ same)

pub one_selector : (s : Scopes) (x : List ℕ) (items sels : List Selector) (y : Selector) → items ≡ sels → 1 ≤ length items → length items < 2 → y ≡ get_or items 0 y → folding_of (designator_const s x (more_selectors (selector_tree y) no_selectors)) ≡ folding_of (designator_const s x (selectors_list sels))
one_selector s x items sels y same many few is = ap (λ (ys : List Selector). folding_of (designator_const s x (selectors_list ys))) (sym (one_item items y many few is) ∙ same)

two_selectors : (s : Scopes) (x : List ℕ) (p q : SelectorTree) (more : SelectorsTree) → no_folding ≡ folding_of (designator_const s x (more_selectors p (more_selectors q more)))
two_selectors s x (field_selector m) q more = refl
two_selectors s x (index_selector a es b) q more = refl
two_selectors s x (call_selector a no_arguments b) q more = refl
two_selectors s x (call_selector a (some_arguments es) b) q more = refl

many_items : (s : Scopes) (x : List ℕ) (items : List Selector) → 2 ≤ length items → no_folding ≡ folding_of (designator_const s x (selectors_list items))
many_items s x [] many = absurd (omega arith)
many_items s x (p ∷ []) many = absurd (omega arith)
many_items s x (p ∷ q ∷ items) many = two_selectors s x (selector_tree p) (selector_tree q) (selectors_list items)

pub more_selected : (s : Scopes) (x : List ℕ) (items sels : List Selector) → items ≡ sels → 2 ≤ length items → no_folding ≡ folding_of (designator_const s x (selectors_list sels))
more_selected s x items sels same many = many_items s x items many ∙ ap (λ (ys : List Selector). folding_of (designator_const s x (selectors_list ys))) same

-- ---- calls

args_out : (s : Scopes) (g : Option FoldingFunction) (x : Exprs) (items : List NextExpr) → items ≡ (out-Exprs x).rest.items → call_folding g (more_parts (expr_const s (expr_tree (out-Exprs x).first)) (more_exprs_const s (more_exprs_list items))) ≡ call_folding g (exprs_const s (exprs_tree x))
args_out s g x items same =
    ap (λ (ys : List NextExpr). call_folding g (more_parts (expr_const s (expr_tree (out-Exprs x).first)) (more_exprs_const s (more_exprs_list ys)))) same
    ∙ sym (ap (λ t. call_folding g (exprs_const s t)) (exprs_out x))

pub call_one_out : (s : Scopes) (g : Option FoldingFunction) (x : Exprs) (items : List NextExpr) → items ≡ (out-Exprs x).rest.items → length items < 1 → called_with_one g (folding_of (expr_const s (expr_tree (out-Exprs x).first))) ≡ call_folding g (exprs_const s (exprs_tree x))
call_one_out s g x items same few =
    let e = expr_const s (expr_tree (out-Exprs x).first) in
    one_called g e ∙ ap (λ (ys : List NextExpr). call_folding g (more_parts e (more_exprs_const s (more_exprs_list ys)))) (sym (no_items items few)) ∙ args_out s g x items same

pub call_two_out : (s : Scopes) (g : Option FoldingFunction) (x : Exprs) (items : List NextExpr) (y : NextExpr) → items ≡ (out-Exprs x).rest.items → 1 ≤ length items → length items < 2 → y ≡ get_or items 0 y → called_with_two g (folding_of (expr_const s (expr_tree (out-Exprs x).first))) (folding_of (expr_const s (expr_tree (out-NextExpr y).expr))) ≡ call_folding g (exprs_const s (exprs_tree x))
call_two_out s g x items y same many few is =
    let e = expr_const s (expr_tree (out-Exprs x).first) in
    two_called g e (expr_const s (expr_tree (out-NextExpr y).expr))
    ∙ sym (ap (λ (more : MoreExprsTree). call_folding g (more_parts e (more_exprs_const s more))) (next_expr_out y no_more_exprs))
    ∙ ap (λ (ys : List NextExpr). call_folding g (more_parts e (more_exprs_const s (more_exprs_list ys)))) (sym (one_item items y many few is))
    ∙ args_out s g x items same

no_value : (s : Scopes) (g : Option FoldingFunction) (e : ConstTree) (items : List NextExpr) → 2 ≤ length items → None ≡ call_value g (more_parts e (more_exprs_const s (more_exprs_list items)))
no_value s g e [] many = absurd (omega arith)
no_value s g e (a ∷ []) many = absurd (omega arith)
no_value s g e (a ∷ b ∷ items) many =
    let more = more_exprs_list items in
    sym (ap (λ (m : MoreExprsTree). call_value g (more_parts e (more_exprs_const s m))) (next_expr_out a (expr_before b more) ∙ ap (more_exprs (out-NextExpr a).comma (expr_tree (out-NextExpr a).expr)) (next_expr_out b more)))

pub call_more_out : (s : Scopes) (g : Option FoldingFunction) (x : Exprs) (items : List NextExpr) → items ≡ (out-Exprs x).rest.items → 2 ≤ length items → called_with_more g (folding_of (expr_const s (expr_tree (out-Exprs x).first))) (parts_built (more_exprs_const s (more_exprs_list items))) ≡ call_folding g (exprs_const s (exprs_tree x))
call_more_out s g x items same many =
    let e = expr_const s (expr_tree (out-Exprs x).first) in
    more_called g e (more_exprs_const s (more_exprs_list items)) (no_value s g e items many) ∙ args_out s g x items same

-- one more part that is built
pub built_loop : (s : Scopes) (items : List NextExpr) (i : ℕ) (x : NextExpr) → i < length items → x ≡ get_or items i x → is_built (expr_const s (expr_tree (out-NextExpr x).expr)) ≡ true → parts_built (more_exprs_const s (more_exprs_list (drop i items))) ≡ parts_built (more_exprs_const s (more_exprs_list (drop (i + 1) items)))
built_loop s items i x l is built =
    let more = more_exprs_list (drop (i + 1) items) in
    at_drop_more (λ (ys : List NextExpr). parts_built (more_exprs_const s (more_exprs_list ys))) items i x l
    ∙ ap (λ (y : NextExpr). parts_built (more_exprs_const s (expr_before y more))) (sym is)
    ∙ ap (λ (m : MoreExprsTree). parts_built (more_exprs_const s m)) (next_expr_out x more)
    ∙ ap (λ b. b && parts_built (more_exprs_const s more)) built
