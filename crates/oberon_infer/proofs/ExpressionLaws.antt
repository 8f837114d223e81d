-- Expressions in memory, read as trees.
use Rattle.std.specs.Prelude.{◌≡◌, ℕ, List, Some, None, Result, OnOk}
use Rattle.ob_text.specs.declared.code.Code.TheVariants as codes_of
use Rattle.ob_text.specs.declared.span.Span.{Span}
use Rattle.std.proofs.Common.{ap, sym, ◌∙◌}
use Rattle.std.specs.declared.alloc.Global.{Global}
use Rattle.std.specs.declared.boxed.Box.{Box}
use Rattle.oberon_tree.specs.declared.expression.Expr.{Expr, out-Expr}
use Rattle.oberon_tree.specs.declared.expression.Relation.{Relation, out-Relation}
use Rattle.oberon_tree.specs.declared.expression.Set.{Set, out-Set}
use Rattle.oberon_tree.specs.declared.expression.Elements.{Elements, out-Elements}
use Rattle.oberon_tree.specs.declared.expression.Element.{Element, out-Element}
use Rattle.oberon_tree.specs.declared.expression.Upper.{Upper, out-Upper}
use Rattle.oberon_tree.specs.Memory.{expr_tree, relation_tree, relation_option, simple_tree, set_tree, elements_option, elements_tree, element_tree, more_elements_list, upper_option}
use Rattle.oberon_tree.specs.FirstSpans.{first_of_expr, first_of_simple, first_of_factor}
use Rattle.oberon_tree.specs.Trees.{ExprTree, FactorTree, negation_factor, expr_of, no_relation, relation_of, set_of, no_elements, some_elements, element_of, no_upper, upper_of}
use Rattle.oberon_tree.proofs.ExpressionMemory.{expr_out, relation_out, set_out, elements_out, element_out, upper_out}
use Rattle.oberon_rules.specs.Scopes.{Scopes, row}
use Rattle.oberon_rules.specs.Operators.{not_fits, is_bad}
use Rattle.oberon_rules.specs.Expressions.{Ex, class_of, expr_is, relation_is, simple_is, factor_is}
use Rattle.oberon_rules.specs.ExpressionRules.{value_row, whole_row, expr_says, value_says, relation_says, simple_says, factor_says}
use Rattle.oberon_infer.specs.declared.said.Said.{Said as OwnSaid}
use Rattle.oberon_infer.specs.Adds.{Adds}
use Rattle.oberon_infer.specs.Parts.{related_is, related_says, end_rows}
use Rattle.oberon_infer.proofs.AddsLaws.{adds_then, adds_as, adds_last}
use Rattle.oberon_infer.proofs.PartLaws.{value_parts, relation_parts, related_with}

pub expr_alone : (e : Expr) → (out-Expr e).relation ≡ None → expr_tree e ≡ expr_of (simple_tree (out-Expr e).left) no_relation
expr_alone e is = expr_out e ∙ ap (λ r. expr_of (simple_tree (out-Expr e).left) (relation_option r)) is

pub expr_related : (e : Expr) (b : Box Relation Global) (r : Relation) → (out-Expr e).relation ≡ Some b → r ≡ b.value → expr_tree e ≡ expr_of (simple_tree (out-Expr e).left) (relation_tree r)
expr_related e b r is held =
    expr_out e
    ∙ ap (λ o. expr_of (simple_tree (out-Expr e).left) (relation_option o)) is
    ∙ ap (λ y. expr_of (simple_tree (out-Expr e).left) (relation_tree y)) (sym held)

pub set_empty : (x : Set) → (out-Set x).elements ≡ None → set_tree x ≡ set_of (out-Set x).opening no_elements (out-Set x).closing
set_empty x is = set_out x ∙ ap (λ es. set_of (out-Set x).opening (elements_option es) (out-Set x).closing) is

pub set_filled : (x : Set) (b : Box Elements Global) (es : Elements) → (out-Set x).elements ≡ Some b → es ≡ b.value → set_tree x ≡ set_of (out-Set x).opening (some_elements (element_tree (out-Elements es).first) (more_elements_list (out-Elements es).rest.items)) (out-Set x).closing
set_filled x b es is held =
    set_out x
    ∙ ap (λ o. set_of (out-Set x).opening (elements_option o) (out-Set x).closing) is
    ∙ ap (λ y. set_of (out-Set x).opening (elements_tree y) (out-Set x).closing) (sym held)
    ∙ ap (λ t. set_of (out-Set x).opening t (out-Set x).closing) (elements_out es)

pub element_single : (x : Element) → (out-Element x).upper ≡ None → element_tree x ≡ element_of (expr_tree (out-Element x).first) no_upper
element_single x is = element_out x ∙ ap (λ u. element_of (expr_tree (out-Element x).first) (upper_option u)) is

pub element_range : (x : Element) (u : Upper) → (out-Element x).upper ≡ Some u → element_tree x ≡ element_of (expr_tree (out-Element x).first) (upper_of (out-Upper u).dots (expr_tree (out-Upper u).last))
element_range x u is =
    element_out x
    ∙ ap (λ o. element_of (expr_tree (out-Element x).first) (upper_option o)) is
    ∙ ap (element_of (expr_tree (out-Element x).first)) (upper_out u)

-- ---- what is said of an expression, a relation, a factor and an element

module _ (me : List ℕ) (s : Scopes) where
  pub expr_said : {X E : Type 0} (e : Expr) (b : Box Relation Global) (r : Relation) (x : Ex) (place : Span) (answer : Result X E) (f : List OwnSaid) {o c d : List OwnSaid} → (out-Expr e).relation ≡ Some b → r ≡ b.value → x ≡ simple_is me s (simple_tree (out-Expr e).left) → place ≡ first_of_simple (simple_tree (out-Expr e).left) → Adds o c (simple_says me s (simple_tree (out-Expr e).left)) → Adds c d (value_row x place) → OnOk answer (Adds d f (relation_says me s x (relation_tree r))) → OnOk answer (Adds o f (expr_says me s (expr_tree e)))
  expr_said e b r x place answer f is held p at u v w =
      let a = simple_tree (out-Expr e).left in
      let whole = relation_of (out-Relation r).operator (out-Relation r).span (simple_tree (out-Relation r).right) in
      adds_last answer f (relation_says me s x (relation_tree r)) (expr_says me s (expr_tree e)) (adds_then u v) w (λ rest.
      ap (λ y. simple_says me s a (value_row x y (relation_says me s x (relation_tree r) rest))) at
      ∙ ap (λ y. simple_says me s a (value_row y (first_of_simple a) (relation_says me s y (relation_tree r) rest))) p
      ∙ ap (λ y. simple_says me s a (value_row (simple_is me s a) (first_of_simple a) (relation_says me s (simple_is me s a) y rest))) (relation_out r)
      ∙ sym (ap (λ y. expr_says me s y rest) (expr_related e b r is held ∙ ap (expr_of a) (relation_out r))))

  pub expr_done : (e : Expr) (b : Box Relation Global) (r : Relation) (x : Ex) → (out-Expr e).relation ≡ Some b → r ≡ b.value → x ≡ simple_is me s (simple_tree (out-Expr e).left) → relation_is me s x (relation_tree r) ≡ expr_is me s (expr_tree e)
  expr_done e b r x is held p = ap (λ y. relation_is me s y (relation_tree r)) p ∙ sym (ap (expr_is me s) (expr_related e b r is held))

  pub relation_said : {X E : Type 0} (r : Relation) (x y : Ex) (answer : Result X E) (d : List OwnSaid) {o c : List OwnSaid} → y ≡ simple_is me s (simple_tree (out-Relation r).right) → Adds o c (simple_says me s (simple_tree (out-Relation r).right)) → OnOk answer (Adds c d (related_says s x (out-Relation r).operator (out-Relation r).span (simple_tree (out-Relation r).right) y)) → OnOk answer (Adds o d (relation_says me s x (relation_tree r)))
  relation_said r x y answer d p u v =
      let b = simple_tree (out-Relation r).right in
      adds_last answer d (related_says s x (out-Relation r).operator (out-Relation r).span b y) (relation_says me s x (relation_tree r)) u v (λ rest.
      ap (λ z. simple_says me s b (related_says s x (out-Relation r).operator (out-Relation r).span b z rest)) p
      ∙ relation_parts me s x (out-Relation r).operator (out-Relation r).span b rest
      ∙ sym (ap (λ t. relation_says me s x t rest) (relation_out r)))

  pub relation_done : (r : Relation) (x y : Ex) → y ≡ simple_is me s (simple_tree (out-Relation r).right) → related_is s x (out-Relation r).operator (simple_tree (out-Relation r).right) y ≡ relation_is me s x (relation_tree r)
  relation_done r x y p =
      ap (related_is s x (out-Relation r).operator (simple_tree (out-Relation r).right)) p
      ∙ related_with me s x (out-Relation r).operator (out-Relation r).span (simple_tree (out-Relation r).right)
      ∙ sym (ap (relation_is me s x) (relation_out r))

  -- an end of an element
  pub end_said : (e : ExprTree) (x : Ex) (place : Span) {a b c : List OwnSaid} → x ≡ expr_is me s e → place ≡ first_of_expr e → Adds a b (expr_says me s e) → Adds b c (end_rows x place) → Adds a c (λ rest. value_says me s e (whole_row (expr_is me s e) (first_of_expr e) rest))
  end_said e x place p at u v = adds_as (adds_then u v) (λ rest.
      ap (λ y. expr_says me s e (end_rows x y rest)) at
      ∙ ap (λ y. expr_says me s e (end_rows y (first_of_expr e) rest)) p
      ∙ value_parts me s e (whole_row (expr_is me s e) (first_of_expr e) rest))

  pub value_said : (e : ExprTree) (x : Ex) (place : Span) {a b c : List OwnSaid} → x ≡ expr_is me s e → place ≡ first_of_expr e → Adds a b (expr_says me s e) → Adds b c (value_row x place) → Adds a c (value_says me s e)
  value_said e x place p at u v = adds_as (adds_then u v) (λ rest.
      ap (λ y. expr_says me s e (value_row x y rest)) at
      ∙ ap (λ y. expr_says me s e (value_row y (first_of_expr e) rest)) p
      ∙ value_parts me s e rest)

  pub negation_said : {X E : Type 0} (t : FactorTree) (tilde place : Span) (x : Ex) (answer : Result X E) (d : List OwnSaid) {o c : List OwnSaid} → x ≡ factor_is me s t → place ≡ first_of_factor t → Adds o c (factor_says me s t) → OnOk answer (Adds c d (λ rest. value_row x place (row (is_bad (not_fits (class_of x))) tilde codes_of.BadOperand rest))) → OnOk answer (Adds o d (factor_says me s (negation_factor tilde t)))
  negation_said t tilde place x answer d p at u v = adds_last answer d (λ rest. value_row x place (row (is_bad (not_fits (class_of x))) tilde codes_of.BadOperand rest)) (factor_says me s (negation_factor tilde t)) u v (λ rest.
      ap (λ y. factor_says me s t (value_row x y (row (is_bad (not_fits (class_of x))) tilde codes_of.BadOperand rest))) at
      ∙ ap (λ y. factor_says me s t (value_row y (first_of_factor t) (row (is_bad (not_fits (class_of y))) tilde codes_of.BadOperand rest))) p)
