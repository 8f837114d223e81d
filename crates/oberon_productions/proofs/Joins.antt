-- Lists of trees with one more at their end, and moves of the machine at operators and literals.
use Rattle.std.specs.Prelude.{◌≡◌, ℕ, zero, suc, max, Bool, true, false, cond, List, [], ◌∷◌, ◌++◌, length, Some, refl}
use Rattle.std.proofs.Common.{sym, ◌∙◌, ap, subst, arith}
use Rattle.ob_text.specs.declared.span.Span.{Span}
use Rattle.oberon_scan.specs.declared.token.Token.{Token}
use Rattle.oberon_scan.specs.declared.token.Word.TheVariants as words
use Rattle.oberon_scan.specs.declared.token.Symbol.TheVariants as symbols
use Rattle.oberon_tree.specs.declared.types.NextFields.{NextFields}
use Rattle.oberon_tree.specs.declared.expression.Relator.{Relator}
use Rattle.oberon_tree.specs.declared.expression.AddOperator.{AddOperator}
use Rattle.oberon_tree.specs.declared.expression.MulOperator.{MulOperator}
use Rattle.oberon_tree.specs.declared.expression.Addend.{Addend, roll-Addend, out-Addend}
use Rattle.oberon_tree.specs.declared.expression.Multiplier.{Multiplier}
use Rattle.oberon_tree.specs.declared.expression.NextElement.{NextElement, roll-NextElement, out-NextElement}
use Rattle.oberon_tree.specs.declared.expression.NextExpr.{NextExpr, roll-NextExpr, out-NextExpr}
use Rattle.oberon_tree.specs.declared.expression.Selector.{Selector}
use Rattle.oberon_tree.specs.declared.expression.Term.{Term}
use Rattle.oberon_tree.specs.declared.expression.Designator.{Designator}
use Rattle.oberon_tree.specs.declared.expression.Factor.TheVariants as factors
use Rattle.oberon_tree.specs.declared.expression.Element.{Element}
use Rattle.oberon_tree.specs.declared.expression.Expr.{Expr}
use Rattle.oberon_tree.specs.Tokens.{symbol_token, relator_token, add_token, mul_token}
use Rattle.oberon_tree.specs.Trees.{no_addends, no_more_elements, no_more_exprs}
use Rattle.oberon_tree.specs.Print.{print_designator, print_term, print_addends, print_factor, print_multipliers, print_element, print_more_elements, print_selector, print_selectors, print_expr, print_more_exprs, print_fields, print_more_fields}
use Rattle.oberon_tree.specs.Levels.{depth_of_designator, depth_of_term, depth_of_addends, depth_of_factor, depth_of_multipliers, depth_of_element, depth_of_more_elements, depth_of_selector, depth_of_selectors, depth_of_expr, depth_of_more_exprs, depth_of_fields, depth_of_more_fields}
use Rattle.oberon_tree.specs.Memory.{addends_list, multipliers_list, more_elements_list, selectors_list, selector_tree, designator_tree, more_exprs_list, term_tree, factor_tree, element_tree, expr_tree, more_fields_list, fields_tree}
use Rattle.oberon_tree.proofs.ExpressionMemory.{addend_made, addend_out, next_element_made, next_element_out, next_expr_made, next_expr_out, designator_held}
use Rattle.oberon_productions.specs.Expected.{Expected}
use Rattle.oberon_productions.specs.Expected as want
use Rattle.oberon_productions.specs.Tests.{is_symbol, is_word, is_ident, is_constant, next_is}
use Rattle.oberon_productions.specs.Machine.{refuses, move, simple_parts, term_parts, stops}
use Rattle.oberon_productions.specs.Reading.{ReadsParts, Single}
use Rattle.oberon_productions.proofs.Steps.{taken, refused, lacked}
use Rattle.oberon_productions.proofs.ForthExpressions.{take_relator, take_add, take_mul}

-- ---- operators

pub entered_relator : (op : Relator) (span : Span) (d : ℕ) (s : List Expected) {given rest : List Token} → given ≡ relator_token op span ∷ rest → stops (want.some_relation d ∷ s) given ≡ stops (simple_parts d ++ s) rest
entered_relator op span d s {given} {rest} h = ap (stops (want.some_relation d ∷ s)) h ∙ take_relator op span d s rest

pub entered_add : (op : AddOperator) (span : Span) (d : ℕ) (s : List Expected) {given rest : List Token} → given ≡ add_token op span ∷ rest → stops (want.addends d ∷ s) given ≡ stops (term_parts d ++ want.addends d ∷ s) rest
entered_add op span d s {given} {rest} h = ap (stops (want.addends d ∷ s)) h ∙ take_add op span d s rest

pub entered_mul : (op : MulOperator) (span : Span) (d : ℕ) (s : List Expected) {given rest : List Token} → given ≡ mul_token op span ∷ rest → stops (want.multipliers d ∷ s) given ≡ stops (term_parts d ++ s) rest
entered_mul op span d s {given} {rest} h = ap (stops (want.multipliers d ∷ s)) h ∙ take_mul op span d s rest

-- ---- factors

pub single_factor : (d : ℕ) (s : List Expected) {given : List Token} {print : List Token → List Token} {rest : List Token} → Single is_constant given print rest → stops (want.factor d ∷ s) given ≡ stops s rest
single_factor d s {given} {print} {rest} q = ap (stops (want.factor d ∷ s)) q.whole ∙ taken (want.factor d) [] s q.token rest (rw q.holds refl)

cond_same : {A : Type 0} (b : Bool) (x : A) → cond b x x ≡ x
cond_same true x = refl
cond_same false x = refl

pub refuse_factor : (d : ℕ) (s : List Expected) (given : List Token) → next_is is_constant given ≡ false → next_is is_ident given ≡ false → next_is (is_symbol symbols.OpenParen) given ≡ false → next_is (is_symbol symbols.Tilde) given ≡ false → next_is (is_symbol symbols.OpenBrace) given ≡ false → stops (want.factor d ∷ s) given ≡ Some (length given)
refuse_factor d s [] e f g h i = lacked (want.factor d) s refl
refuse_factor d s (t ∷ ts) e f g h i = refused (want.factor d) s t ts (rw (e, f, g, h, i) refl)

pub no_levels : (d : ℕ) (s : List Expected) (given : List Token) → d ≡ 0 → next_is is_constant given ≡ false → next_is is_ident given ≡ false → stops (want.factor d ∷ s) given ≡ Some (length given)
no_levels zero s [] z e f = lacked (want.factor 0) s refl
no_levels zero s (t ∷ ts) z e f = refused (want.factor 0) s t ts (rw (e, f) (ap (λ m. cond (is_symbol symbols.OpenParen t.kind) refuses (cond (is_symbol symbols.Tilde t.kind) refuses m)) (cond_same (is_symbol symbols.OpenBrace t.kind) refuses) ∙ ap (λ m. cond (is_symbol symbols.OpenParen t.kind) refuses m) (cond_same (is_symbol symbols.Tilde t.kind) refuses) ∙ cond_same (is_symbol symbols.OpenParen t.kind) refuses))
no_levels (suc d) s given z e f = absurd (omega arith)

-- a bracket or a parenthesis where no level is left
pub no_level : (x : Expected) (s : List Expected) (t : Token) (given rest : List Token) → given ≡ t ∷ rest → move x t.kind ≡ refuses → stops (x ∷ s) given ≡ Some (length given)
no_level x s t given rest h e = ap (stops (x ∷ s)) h ∙ refused x s t rest e ∙ ap (λ (l : List Token). Some (length l)) (sym h)

-- a designator that was read is a factor
pub place_reads : (span : Designator) (parts : List Expected) (limit : ℕ) (given rest : List Token) → ReadsParts parts limit given (print_designator (designator_tree span)) (depth_of_designator (designator_tree span)) rest → ReadsParts parts limit given (print_factor (factor_tree (factors.Designator span))) (depth_of_factor (factor_tree (factors.Designator span))) rest
place_reads span parts limit given rest q =
    subst (λ y. ReadsParts parts limit given (print_factor y) (depth_of_factor y) rest) (sym (designator_held span)) q

-- ---- lists with one more item

pub addends_push : (xs : List Addend) (op : AddOperator) (span : Span) (t : Term) (rest : List Token) → print_addends (addends_list (xs ++ roll-Addend (record { operator = op; span = span; term = t }) ∷ [])) rest ≡ print_addends (addends_list xs) (add_token op span ∷ print_term (term_tree t) rest)
addends_push [] op span t rest = ap (λ y. print_addends y rest) (addend_made op span t no_addends)
addends_push (x ∷ xs) op span t rest =
    let item : Addend = roll-Addend (record { operator = op; span = span; term = t }) in
    ap (λ y. print_addends y rest) (addend_out x (addends_list (xs ++ item ∷ []))) ∙ ap (λ (l : List Token). add_token (out-Addend x).operator (out-Addend x).span ∷ print_term (term_tree (out-Addend x).term) l) (addends_push xs op span t rest) ∙ sym (ap (λ y. print_addends y (add_token op span ∷ print_term (term_tree t) rest)) (addend_out x (addends_list xs)))

pub addends_depth : (xs : List Addend) (op : AddOperator) (span : Span) (t : Term) → depth_of_addends (addends_list (xs ++ roll-Addend (record { operator = op; span = span; term = t }) ∷ [])) ≡ max (depth_of_addends (addends_list xs)) (depth_of_term (term_tree t))
addends_depth [] op span t = ap depth_of_addends (addend_made op span t no_addends) ∙ omega arith
addends_depth (x ∷ xs) op span t =
    let item : Addend = roll-Addend (record { operator = op; span = span; term = t }) in
    omega (arith, addends_depth xs op span t, ap depth_of_addends (addend_out x (addends_list (xs ++ item ∷ []))), ap depth_of_addends (addend_out x (addends_list xs)))

pub multipliers_push : (xs : List Multiplier) (x : Multiplier) (rest : List Token) → print_multipliers (multipliers_list (xs ++ x ∷ [])) rest ≡ print_multipliers (multipliers_list xs) (mul_token x.operator x.span ∷ print_factor (factor_tree x.factor) rest)
multipliers_push [] x rest = refl
multipliers_push (y ∷ ys) x rest = ap (λ (l : List Token). mul_token y.operator y.span ∷ print_factor (factor_tree y.factor) l) (multipliers_push ys x rest)

pub multipliers_depth : (xs : List Multiplier) (x : Multiplier) → depth_of_multipliers (multipliers_list (xs ++ x ∷ [])) ≡ max (depth_of_multipliers (multipliers_list xs)) (depth_of_factor (factor_tree x.factor))
multipliers_depth [] x = omega arith
multipliers_depth (y ∷ ys) x = omega (arith, multipliers_depth ys x)

pub selectors_push : (xs : List Selector) (x : Selector) (rest : List Token) → print_selectors (selectors_list (xs ++ x ∷ [])) rest ≡ print_selectors (selectors_list xs) (print_selector (selector_tree x) rest)
selectors_push [] x rest = refl
selectors_push (y ∷ ys) x rest = ap (print_selector (selector_tree y)) (selectors_push ys x rest)

pub selectors_depth : (xs : List Selector) (x : Selector) → depth_of_selectors (selectors_list (xs ++ x ∷ [])) ≡ max (depth_of_selectors (selectors_list xs)) (depth_of_selector (selector_tree x))
selectors_depth [] x = omega arith
selectors_depth (y ∷ ys) x = omega (arith, selectors_depth ys x)

pub more_elements_push : (xs : List NextElement) (span : Span) (e : Element) (rest : List Token) → print_more_elements (more_elements_list (xs ++ roll-NextElement (record { comma = span; element = e }) ∷ [])) rest ≡ print_more_elements (more_elements_list xs) (symbol_token symbols.Comma span ∷ print_element (element_tree e) rest)
more_elements_push [] span e rest = ap (λ y. print_more_elements y rest) (next_element_made span e no_more_elements)
more_elements_push (x ∷ xs) span e rest =
    let item : NextElement = roll-NextElement (record { comma = span; element = e }) in
    ap (λ y. print_more_elements y rest) (next_element_out x (more_elements_list (xs ++ item ∷ []))) ∙ ap (λ (l : List Token). symbol_token symbols.Comma (out-NextElement x).comma ∷ print_element (element_tree (out-NextElement x).element) l) (more_elements_push xs span e rest) ∙ sym (ap (λ y. print_more_elements y (symbol_token symbols.Comma span ∷ print_element (element_tree e) rest)) (next_element_out x (more_elements_list xs)))

pub more_elements_depth : (xs : List NextElement) (span : Span) (e : Element) → depth_of_more_elements (more_elements_list (xs ++ roll-NextElement (record { comma = span; element = e }) ∷ [])) ≡ max (depth_of_more_elements (more_elements_list xs)) (depth_of_element (element_tree e))
more_elements_depth [] span e = ap depth_of_more_elements (next_element_made span e no_more_elements) ∙ omega arith
more_elements_depth (x ∷ xs) span e =
    let item : NextElement = roll-NextElement (record { comma = span; element = e }) in
    omega (arith, more_elements_depth xs span e, ap depth_of_more_elements (next_element_out x (more_elements_list (xs ++ item ∷ []))), ap depth_of_more_elements (next_element_out x (more_elements_list xs)))

pub more_exprs_push : (xs : List NextExpr) (span : Span) (e : Expr) (rest : List Token) → print_more_exprs (more_exprs_list (xs ++ roll-NextExpr (record { comma = span; expr = e }) ∷ [])) rest ≡ print_more_exprs (more_exprs_list xs) (symbol_token symbols.Comma span ∷ print_expr (expr_tree e) rest)
more_exprs_push [] span e rest = ap (λ y. print_more_exprs y rest) (next_expr_made span e no_more_exprs)
more_exprs_push (x ∷ xs) span e rest =
    let item : NextExpr = roll-NextExpr (record { comma = span; expr = e }) in
    ap (λ y. print_more_exprs y rest) (next_expr_out x (more_exprs_list (xs ++ item ∷ []))) ∙ ap (λ (l : List Token). symbol_token symbols.Comma (out-NextExpr x).comma ∷ print_expr (expr_tree (out-NextExpr x).expr) l) (more_exprs_push xs span e rest) ∙ sym (ap (λ y. print_more_exprs y (symbol_token symbols.Comma span ∷ print_expr (expr_tree e) rest)) (next_expr_out x (more_exprs_list xs)))

pub more_exprs_depth : (xs : List NextExpr) (span : Span) (e : Expr) → depth_of_more_exprs (more_exprs_list (xs ++ roll-NextExpr (record { comma = span; expr = e }) ∷ [])) ≡ max (depth_of_more_exprs (more_exprs_list xs)) (depth_of_expr (expr_tree e))
more_exprs_depth [] span e = ap depth_of_more_exprs (next_expr_made span e no_more_exprs) ∙ omega arith
more_exprs_depth (x ∷ xs) span e =
    let item : NextExpr = roll-NextExpr (record { comma = span; expr = e }) in
    omega (arith, more_exprs_depth xs span e, ap depth_of_more_exprs (next_expr_out x (more_exprs_list (xs ++ item ∷ []))), ap depth_of_more_exprs (next_expr_out x (more_exprs_list xs)))

-- ---- types

pub refuse_type : (d : ℕ) (s : List Expected) (given : List Token) → next_is is_ident given ≡ false → next_is (is_word words.Array) given ≡ false → next_is (is_word words.Record) given ≡ false → stops (want.type_part d ∷ s) given ≡ Some (length given)
refuse_type d s [] e f g = lacked (want.type_part d) s refl
refuse_type d s (t ∷ ts) e f g = refused (want.type_part d) s t ts (rw (e, f, g) refl)

pub no_levels_type : (d : ℕ) (s : List Expected) (given : List Token) → d ≡ 0 → next_is is_ident given ≡ false → stops (want.type_part d ∷ s) given ≡ Some (length given)
no_levels_type zero s [] z e = lacked (want.type_part 0) s refl
no_levels_type zero s (t ∷ ts) z e = refused (want.type_part 0) s t ts (rw e (ap (λ m. cond (is_word words.Array t.kind) refuses m) (cond_same (is_word words.Record t.kind) refuses) ∙ cond_same (is_word words.Array t.kind) refuses))
no_levels_type (suc d) s given z e = absurd (omega arith)

pub more_fields_push : (xs : List NextFields) (x : NextFields) (rest : List Token) → print_more_fields (more_fields_list (xs ++ x ∷ [])) rest ≡ print_more_fields (more_fields_list xs) (symbol_token symbols.Semicolon x.semicolon ∷ print_fields (fields_tree x.fields) rest)
more_fields_push [] x rest = refl
more_fields_push (y ∷ ys) x rest = ap (λ (l : List Token). symbol_token symbols.Semicolon y.semicolon ∷ print_fields (fields_tree y.fields) l) (more_fields_push ys x rest)

pub more_fields_depth : (xs : List NextFields) (x : NextFields) → depth_of_more_fields (more_fields_list (xs ++ x ∷ [])) ≡ max (depth_of_more_fields (more_fields_list xs)) (depth_of_fields (fields_tree x.fields))
more_fields_depth [] x = omega arith
more_fields_depth (y ∷ ys) x = omega (arith, more_fields_depth ys x)
