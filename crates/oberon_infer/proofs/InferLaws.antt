-- The loops over parts of an expression in memory: one turn, and the end.
use Rattle.std.specs.Prelude.{◌≡◌, ℕ, ◌+◌, ◌<◌, ◌≤◌, Bool, ◌&&◌, not, List, length, drop, Option, Some, None}
use Rattle.std.proofs.Common.{ap, sym, ◌∙◌, get_or}
use Rattle.std.proofs.lemmas.List.{at_drop_all}
use Rattle.std.specs.declared.alloc.Global.{Global}
use Rattle.std.specs.declared.boxed.Box.{Box}
use Rattle.ob_text.specs.declared.code.Code.TheVariants as codes_of
use Rattle.ob_text.specs.declared.span.Span.{Span}
use Rattle.oberon_tree.specs.declared.expression.Simple.{Simple, out-Simple}
use Rattle.oberon_tree.specs.declared.expression.Addend.{Addend, out-Addend}
use Rattle.oberon_tree.specs.declared.expression.Term.{Term, out-Term}
use Rattle.oberon_tree.specs.declared.expression.Multiplier.{Multiplier}
use Rattle.oberon_tree.specs.declared.expression.Set.{Set, out-Set}
use Rattle.oberon_tree.specs.declared.expression.Elements.{Elements, out-Elements}
use Rattle.oberon_tree.specs.declared.expression.Element.{Element, out-Element}
use Rattle.oberon_tree.specs.declared.expression.Upper.{Upper, out-Upper}
use Rattle.oberon_tree.specs.declared.expression.NextElement.{NextElement, out-NextElement}
use Rattle.oberon_tree.specs.declared.expression.Designator.{Designator}
use Rattle.oberon_tree.specs.declared.expression.Selector.{Selector}
use Rattle.oberon_tree.specs.declared.expression.Exprs.{Exprs, out-Exprs}
use Rattle.oberon_tree.specs.declared.expression.NextExpr.{NextExpr, out-NextExpr}
use Rattle.oberon_tree.specs.FirstSpans.{first_of_expr, first_of_term, first_of_factor}
use Rattle.oberon_tree.specs.Memory.{expr_tree, simple_tree, addends_list, term_tree, multipliers_list, factor_tree, set_tree, element_tree, more_elements_list, selector_tree, selectors_list, exprs_tree, more_exprs_list, arguments_option, designator_tree}
use Rattle.oberon_tree.specs.Trees.{simple_of, term_of, exprs_of, more_exprs, call_selector}
use Rattle.oberon_tree.proofs.ExpressionMemory.{simple_out, term_out, exprs_out}
use Rattle.oberon_types.specs.Types.{TyTree}
use Rattle.oberon_rules.specs.Scopes.{Scopes, Said, row}
use Rattle.oberon_rules.specs.Names.{name_is, name_says}
use Rattle.oberon_rules.specs.Operators.{add_fits, mul_fits, is_bad}
use Rattle.oberon_rules.specs.Expressions.{Ex, class_of, outcome_is, signed_is, element_type, elements_type, or_unknown, indexed_type, expr_is, simple_is, addends_are, term_is, multipliers_are, factor_is, selected, selectors_are, exprs_are, more_exprs_are, argument_type, is_whole, ty_of, ex_of, designator_is}
use Rattle.oberon_rules.specs.ExpressionRules.{Wanted, first_wanted, later_wanted, value_row, sign_row, index_rows, argument_rows, expr_says, simple_says, addends_say, term_says, multipliers_say, factor_says, element_says, more_elements_say, selector_says, selectors_say, wants, argument_count, or_none, arguments_say, indices_say, more_indices_say, exprs_say, more_exprs_say, designator_says, call_rows}
use Rattle.oberon_infer.specs.declared.said.Said.{Said as OwnSaid}
use Rattle.oberon_infer.specs.Adds.{Goes, Adds}
use Rattle.oberon_infer.specs.Bare.{is_alone, has_multipliers}
use Rattle.oberon_infer.specs.Given.{Given, none_given, one_given, given_with, given_behind}
use Rattle.oberon_infer.specs.Parts.{operand_rows, end_rows, wants_of, guard_of, called_rows}
use Rattle.oberon_infer.specs.Sets.{is_whole_set, set_says, is_whole_element}
use Rattle.oberon_infer.proofs.AddsLaws.{adds_then, adds_as, goes_on, goes_end, goes_to}
use Rattle.oberon_infer.proofs.ExpressionLaws.{set_filled, element_single, element_range, end_said}
use Rattle.oberon_infer.proofs.LoopLaws.{addends_step, multipliers_step, elements_step, exprs_step, selectors_step, elements_behind, behind_all}
use Rattle.oberon_infer.proofs.PartLaws.{whole_all, wants_parts, call_said, are_whole}
use Rattle.oberon_infer.proofs.TurnLaws.{simple_done, simple_said, addend_is, addend_said, term_done, term_said, multiplier_is, multiplier_said, selector_is, selector_said, index_said, indices_said, argument_said, arguments_said}

module _ (me : List ℕ) (s : Scopes) where
  -- ---- addends

  pub addend_turn : (xs : List Addend) (n : ℕ) (a : Addend) (w x y z : Ex) → n < length xs → a ≡ get_or xs n a → y ≡ term_is me s (term_tree (out-Addend a).term) → z ≡ outcome_is (add_fits (out-Addend a).operator (class_of x) (class_of y)) → w ≡ addends_are me s x (addends_list (drop n xs)) → w ≡ addends_are me s z (addends_list (drop (n + 1) xs))
  addend_turn xs n a w x y z h is p q r = r ∙ ap (addends_are me s x) (addends_step xs n a h is) ∙ addend_is me s (out-Addend a).operator (out-Addend a).span (term_tree (out-Addend a).term) (addends_list (drop (n + 1) xs)) x y z p q

  pub addend_turn_said : (xs : List Addend) (n : ℕ) (a : Addend) (x y z : Ex) (at : Span) {f : List Said → List Said} {b c d e : List OwnSaid} → n < length xs → a ≡ get_or xs n a → y ≡ term_is me s (term_tree (out-Addend a).term) → at ≡ first_of_term (term_tree (out-Addend a).term) → z ≡ outcome_is (add_fits (out-Addend a).operator (class_of x) (class_of y)) → Goes b c f (addends_say me s x (addends_list (drop n xs))) → Adds c d (term_says me s (term_tree (out-Addend a).term)) → Adds d e (λ rest. value_row y at (row (is_bad (add_fits (out-Addend a).operator (class_of x) (class_of y))) (out-Addend a).span codes_of.BadOperand rest)) → Goes b e f (addends_say me s z (addends_list (drop (n + 1) xs)))
  addend_turn_said xs n a x y z at h is p i q g v w =
      addend_said me s (out-Addend a).operator (out-Addend a).span (term_tree (out-Addend a).term) (addends_list (drop (n + 1) xs)) x y z at p i q
      (goes_to g (λ rest. ap (λ t. addends_say me s x t rest) (addends_step xs n a h is))) v w

  pub simple_end : (t : Simple) (xs : List Addend) (n : ℕ) (f x z : Ex) → xs ≡ (out-Simple t).rest.items → length xs ≤ n → f ≡ term_is me s (term_tree (out-Simple t).first) → x ≡ signed_is (out-Simple t).sign f → addends_are me s x (addends_list xs) ≡ addends_are me s z (addends_list (drop n xs)) → z ≡ simple_is me s (simple_tree t)
  simple_end t xs n f x z items h p q r =
      simple_done me s (out-Simple t).sign (term_tree (out-Simple t).first) (addends_list xs) f x z p q (r ∙ ap (addends_are me s z) (at_drop_all addends_list xs n h))
      ∙ ap (λ ys. simple_is me s (simple_of (out-Simple t).sign (term_tree (out-Simple t).first) (addends_list ys))) items
      ∙ sym (ap (simple_is me s) (simple_out t))

  pub simple_end_said : (t : Simple) (xs ys : List Addend) (n : ℕ) (alone : Bool) (f x z : Ex) (place : Span) {a b c d e : List OwnSaid} → xs ≡ (out-Simple t).rest.items → ys ≡ (out-Simple t).rest.items → length xs ≤ n → alone ≡ is_alone (out-Simple t).sign (addends_list ys) → f ≡ term_is me s (term_tree (out-Simple t).first) → x ≡ signed_is (out-Simple t).sign f → place ≡ first_of_term (term_tree (out-Simple t).first) → Adds a b (term_says me s (term_tree (out-Simple t).first)) → Adds b c (operand_rows alone f place) → Adds c d (sign_row (out-Simple t).sign f) → Goes d e (addends_say me s x (addends_list xs)) (addends_say me s z (addends_list (drop n xs))) → Adds a e (simple_says me s (simple_tree t))
  simple_end_said t xs ys n alone f x z place items slice h o p q i v w u g =
      adds_as (simple_said me s (out-Simple t).sign (term_tree (out-Simple t).first) (addends_list xs) alone f x z place
      (o ∙ ap (λ zs. is_alone (out-Simple t).sign (addends_list zs)) (slice ∙ sym items)) p q i v w u
      (goes_to g (λ rest. ap (λ y. addends_say me s z y rest) (at_drop_all addends_list xs n h)))) (λ rest.
      ap (λ zs. simple_says me s (simple_of (out-Simple t).sign (term_tree (out-Simple t).first) (addends_list zs)) rest) items
      ∙ sym (ap (λ y. simple_says me s y rest) (simple_out t)))

  -- ---- multipliers

  pub multiplier_turn : (xs : List Multiplier) (n : ℕ) (m : Multiplier) (w x y z : Ex) → n < length xs → m ≡ get_or xs n m → y ≡ factor_is me s (factor_tree m.factor) → z ≡ outcome_is (mul_fits m.operator (class_of x) (class_of y)) → w ≡ multipliers_are me s x (multipliers_list (drop n xs)) → w ≡ multipliers_are me s z (multipliers_list (drop (n + 1) xs))
  multiplier_turn xs n m w x y z h is p q r = r ∙ ap (multipliers_are me s x) (multipliers_step xs n m h is) ∙ multiplier_is me s m.operator m.span (factor_tree m.factor) (multipliers_list (drop (n + 1) xs)) x y z p q

  pub multiplier_turn_said : (xs : List Multiplier) (n : ℕ) (m : Multiplier) (x y z : Ex) (at : Span) {f : List Said → List Said} {b c d e : List OwnSaid} → n < length xs → m ≡ get_or xs n m → y ≡ factor_is me s (factor_tree m.factor) → at ≡ first_of_factor (factor_tree m.factor) → z ≡ outcome_is (mul_fits m.operator (class_of x) (class_of y)) → Goes b c f (multipliers_say me s x (multipliers_list (drop n xs))) → Adds c d (factor_says me s (factor_tree m.factor)) → Adds d e (λ rest. value_row y at (row (is_bad (mul_fits m.operator (class_of x) (class_of y))) m.span codes_of.BadOperand rest)) → Goes b e f (multipliers_say me s z (multipliers_list (drop (n + 1) xs)))
  multiplier_turn_said xs n m x y z at h is p i q g v w =
      multiplier_said me s m.operator m.span (factor_tree m.factor) (multipliers_list (drop (n + 1) xs)) x y z at p i q
      (goes_to g (λ rest. ap (λ t. multipliers_say me s x t rest) (multipliers_step xs n m h is))) v w

  pub term_end : (t : Term) (xs : List Multiplier) (n : ℕ) (f z : Ex) → xs ≡ (out-Term t).rest.items → length xs ≤ n → f ≡ factor_is me s (factor_tree (out-Term t).first) → multipliers_are me s f (multipliers_list xs) ≡ multipliers_are me s z (multipliers_list (drop n xs)) → z ≡ term_is me s (term_tree t)
  term_end t xs n f z items h p r =
      term_done me s (factor_tree (out-Term t).first) (multipliers_list xs) f z p (r ∙ ap (multipliers_are me s z) (at_drop_all multipliers_list xs n h))
      ∙ ap (λ ys. term_is me s (term_of (factor_tree (out-Term t).first) (multipliers_list ys))) items
      ∙ sym (ap (term_is me s) (term_out t))

  pub term_end_said : (t : Term) (xs ys : List Multiplier) (n : ℕ) (alone : Bool) (f z : Ex) (place : Span) {a b c d : List OwnSaid} → xs ≡ (out-Term t).rest.items → ys ≡ (out-Term t).rest.items → length xs ≤ n → alone ≡ not (has_multipliers (multipliers_list ys)) → f ≡ factor_is me s (factor_tree (out-Term t).first) → place ≡ first_of_factor (factor_tree (out-Term t).first) → Adds a b (factor_says me s (factor_tree (out-Term t).first)) → Adds b c (operand_rows alone f place) → Goes c d (multipliers_say me s f (multipliers_list xs)) (multipliers_say me s z (multipliers_list (drop n xs))) → Adds a d (term_says me s (term_tree t))
  term_end_said t xs ys n alone f z place items slice h o p i v w g =
      adds_as (term_said me s (factor_tree (out-Term t).first) (multipliers_list xs) alone f z place
      (o ∙ ap (λ zs. not (has_multipliers (multipliers_list zs))) (slice ∙ sym items)) p i v w
      (goes_to g (λ rest. ap (λ y. multipliers_say me s z y rest) (at_drop_all multipliers_list xs n h)))) (λ rest.
      ap (λ zs. term_says me s (term_of (factor_tree (out-Term t).first) (multipliers_list zs)) rest) items
      ∙ sym (ap (λ y. term_says me s y rest) (term_out t)))

  -- ---- sets

  pub element_turn : (xs : List NextElement) (n : ℕ) (x : NextElement) (u v w fits : Bool) → n < length xs → x ≡ get_or xs n x → fits ≡ is_whole_element me s (element_tree (out-NextElement x).element) → w ≡ (v && fits) → u ≡ are_whole me s v (more_elements_list (drop n xs)) → u ≡ are_whole me s w (more_elements_list (drop (n + 1) xs))
  element_turn xs n x u v w fits h is p q r =
      r ∙ ap (are_whole me s v) (elements_step xs n x h is)
      ∙ sym (ap (λ b. are_whole me s b (more_elements_list (drop (n + 1) xs))) (q ∙ ap (λ b. v && b) p))

  pub element_turn_said : (xs : List NextElement) (n : ℕ) (x : NextElement) {f : List Said → List Said} {a b c : List OwnSaid} → n < length xs → x ≡ get_or xs n x → Goes a b f (more_elements_say me s (more_elements_list (drop n xs))) → Adds b c (element_says me s (element_tree (out-NextElement x).element)) → Goes a c f (more_elements_say me s (more_elements_list (drop (n + 1) xs)))
  element_turn_said xs n x h is g v = goes_on g v (λ rest. ap (λ t. more_elements_say me s t rest) (elements_step xs n x h is))

  pub set_end : (t : Set) (b : Box Elements Global) (es : Elements) (xs : List NextElement) (n : ℕ) (v w : Bool) → (out-Set t).elements ≡ Some b → es ≡ b.value → xs ≡ (out-Elements es).rest.items → length xs ≤ n → v ≡ is_whole_element me s (element_tree (out-Elements es).first) → are_whole me s v (more_elements_list xs) ≡ are_whole me s w (more_elements_list (drop n xs)) → w ≡ is_whole_set me s (set_tree t)
  set_end t b es xs n v w is held items h p r =
      sym (ap (are_whole me s w) (at_drop_all more_elements_list xs n h)) ∙ sym r
      ∙ ap (λ c. are_whole me s c (more_elements_list xs)) p
      ∙ ap (λ ys. are_whole me s (is_whole_element me s (element_tree (out-Elements es).first)) (more_elements_list ys)) items
      ∙ whole_all me s (element_tree (out-Elements es).first) (more_elements_list (out-Elements es).rest.items)
      ∙ sym (ap (is_whole_set me s) (set_filled t b es is held))

  pub set_end_said : (t : Set) (b : Box Elements Global) (es : Elements) (xs : List NextElement) (n : ℕ) {c d e : List OwnSaid} → (out-Set t).elements ≡ Some b → es ≡ b.value → xs ≡ (out-Elements es).rest.items → length xs ≤ n → Adds c d (element_says me s (element_tree (out-Elements es).first)) → Goes d e (more_elements_say me s (more_elements_list xs)) (more_elements_say me s (more_elements_list (drop n xs))) → Adds c e (set_says me s (set_tree t))
  set_end_said t b es xs n is held items h v g =
      adds_as (adds_then v (goes_end g (λ rest. ap (λ y. more_elements_say me s y rest) (at_drop_all more_elements_list xs n h)))) (λ rest.
      ap (λ ys. element_says me s (element_tree (out-Elements es).first) (more_elements_say me s (more_elements_list ys) rest)) items
      ∙ sym (ap (λ y. set_says me s y rest) (set_filled t b es is held)))

  pub single_said : (t : Element) (x : Ex) (place : Span) {a b c : List OwnSaid} → (out-Element t).upper ≡ None → x ≡ expr_is me s (expr_tree (out-Element t).first) → place ≡ first_of_expr (expr_tree (out-Element t).first) → Adds a b (expr_says me s (expr_tree (out-Element t).first)) → Adds b c (end_rows x place) → Adds a c (element_says me s (element_tree t))
  single_said t x place is p at v w =
      adds_as (end_said me s (expr_tree (out-Element t).first) x place p at v w) (λ rest. sym (ap (λ y. element_says me s y rest) (element_single t is)))

  pub range_said : (t : Element) (u : Upper) (x y : Ex) (place at : Span) {a b c d e : List OwnSaid} → (out-Element t).upper ≡ Some u → x ≡ expr_is me s (expr_tree (out-Element t).first) → place ≡ first_of_expr (expr_tree (out-Element t).first) → y ≡ expr_is me s (expr_tree (out-Upper u).last) → at ≡ first_of_expr (expr_tree (out-Upper u).last) → Adds a b (expr_says me s (expr_tree (out-Element t).first)) → Adds b c (end_rows x place) → Adds c d (expr_says me s (expr_tree (out-Upper u).last)) → Adds d e (end_rows y at) → Adds a e (element_says me s (element_tree t))
  range_said t u x y place at is p i q j k l m n =
      adds_as (adds_then (end_said me s (expr_tree (out-Element t).first) x place p i k l) (end_said me s (expr_tree (out-Upper u).last) y at q j m n)) (λ rest. sym (ap (λ z. element_says me s z rest) (element_range t u is)))

  -- whether both ends of a range are whole numbers
  pub range_whole : (t : Element) (u : Upper) (x y : Ex) (v w : Bool) → (out-Element t).upper ≡ Some u → x ≡ expr_is me s (expr_tree (out-Element t).first) → y ≡ expr_is me s (expr_tree (out-Upper u).last) → v ≡ is_whole (ty_of x) → w ≡ is_whole (ty_of y) → (v && w) ≡ is_whole_element me s (element_tree t)
  range_whole t u x y v w is p q i j =
      let a = expr_is me s (expr_tree (out-Element t).first) in
      ap (λ b. b && w) (i ∙ ap (λ z. is_whole (ty_of z)) p)
      ∙ ap (λ b. is_whole (ty_of a) && b) (j ∙ ap (λ z. is_whole (ty_of z)) q)
      ∙ sym (ap (is_whole_element me s) (element_range t u is))

  -- ---- selectors

  pub selector_turn : (xs : List Selector) (n : ℕ) (sel : Selector) (w x z : Ex) → n < length xs → sel ≡ get_or xs n sel → z ≡ selected me s x (selector_tree sel) → w ≡ selectors_are me s x (selectors_list (drop n xs)) → w ≡ selectors_are me s z (selectors_list (drop (n + 1) xs))
  selector_turn xs n sel w x z h is p r = r ∙ ap (selectors_are me s x) (selectors_step xs n sel h is) ∙ selector_is me s (selector_tree sel) (selectors_list (drop (n + 1) xs)) x z p

  pub selector_turn_said : (place : Span) (xs : List Selector) (n : ℕ) (sel : Selector) (x z : Ex) {f : List Said → List Said} {a b c : List OwnSaid} → n < length xs → sel ≡ get_or xs n sel → z ≡ selected me s x (selector_tree sel) → Goes a b f (selectors_say me s place x (selectors_list (drop n xs))) → Adds b c (selector_says me s place x (selector_tree sel)) → Goes a c f (selectors_say me s place z (selectors_list (drop (n + 1) xs)))
  selector_turn_said place xs n sel x z h is p g v =
      selector_said me s place (selector_tree sel) (selectors_list (drop (n + 1) xs)) x z p
      (goes_to g (λ rest. ap (λ t. selectors_say me s place x t rest) (selectors_step xs n sel h is))) v

  pub designator_end : (t : Designator) (xs : List Selector) (n : ℕ) (f z : Ex) → xs ≡ t.selectors.items → length xs ≤ n → f ≡ ex_of (name_is s t.name.name) → selectors_are me s f (selectors_list xs) ≡ selectors_are me s z (selectors_list (drop n xs)) → z ≡ designator_is me s (designator_tree t)
  designator_end t xs n f z items h p r =
      sym (ap (selectors_are me s z) (at_drop_all selectors_list xs n h)) ∙ sym r
      ∙ ap (λ y. selectors_are me s y (selectors_list xs)) p
      ∙ ap (λ ys. selectors_are me s (ex_of (name_is s t.name.name)) (selectors_list ys)) items

  pub designator_end_said : (t : Designator) (xs : List Selector) (n : ℕ) (f z : Ex) {a b c : List OwnSaid} → xs ≡ t.selectors.items → length xs ≤ n → f ≡ ex_of (name_is s t.name.name) → Adds a b (name_says s t.name) → Goes b c (selectors_say me s t.name.span f (selectors_list xs)) (selectors_say me s t.name.span z (selectors_list (drop n xs))) → Adds a c (designator_says me s (designator_tree t))
  designator_end_said t xs n f z items h p v g =
      adds_as (adds_then v (goes_end g (λ rest. ap (λ y. selectors_say me s t.name.span z y rest) (at_drop_all selectors_list xs n h)))) (λ rest.
      ap (λ y. name_says s t.name (selectors_say me s t.name.span y (selectors_list xs) rest)) p
      ∙ ap (λ ys. name_says s t.name (selectors_say me s t.name.span (ex_of (name_is s t.name.name)) (selectors_list ys) rest)) items)

  -- ---- indices

  pub index_turn : (xs : List NextExpr) (n : ℕ) (e : NextExpr) (w element next : Option TyTree) → n < length xs → e ≡ get_or xs n e → next ≡ element_type (or_unknown element) → w ≡ elements_behind element (more_exprs_list (drop n xs)) → w ≡ elements_behind next (more_exprs_list (drop (n + 1) xs))
  index_turn xs n e w element next h is p r =
      r ∙ ap (elements_behind element) (exprs_step xs n e h is)
      ∙ sym (ap (λ t. elements_behind t (more_exprs_list (drop (n + 1) xs))) p)

  pub index_turn_said : (bracket : Span) (xs : List NextExpr) (n : ℕ) (e : NextExpr) (array : TyTree) (element next : Option TyTree) (x : Ex) (at : Span) {f : List Said → List Said} {a b c d : List OwnSaid} → n < length xs → e ≡ get_or xs n e → x ≡ expr_is me s (expr_tree (out-NextExpr e).expr) → at ≡ first_of_expr (expr_tree (out-NextExpr e).expr) → array ≡ or_unknown element → next ≡ element_type array → Goes a b f (more_indices_say me s bracket (or_unknown element) (more_exprs_list (drop n xs))) → Adds b c (expr_says me s (expr_tree (out-NextExpr e).expr)) → Adds c d (index_rows next array x at bracket) → Goes a d f (more_indices_say me s bracket (or_unknown next) (more_exprs_list (drop (n + 1) xs)))
  index_turn_said bracket xs n e array element next x at h is p i q r g v w =
      index_said me s bracket (out-NextExpr e).comma (expr_tree (out-NextExpr e).expr) (more_exprs_list (drop (n + 1) xs)) array next x at p i r
      (goes_to g (λ rest. ap (λ t. more_indices_say me s bracket (or_unknown element) t rest) (exprs_step xs n e h is) ∙ ap (λ t. more_indices_say me s bracket t (more_exprs (out-NextExpr e).comma (expr_tree (out-NextExpr e).expr) (more_exprs_list (drop (n + 1) xs))) rest) (sym q))) v w

  pub indices_end : (t : Exprs) (xs : List NextExpr) (n : ℕ) (ty : TyTree) (first element : Option TyTree) → xs ≡ (out-Exprs t).rest.items → length xs ≤ n → first ≡ element_type ty → elements_behind first (more_exprs_list xs) ≡ elements_behind element (more_exprs_list (drop n xs)) → element ≡ indexed_type ty (exprs_tree t)
  indices_end t xs n ty first element items h p r =
      sym (ap (elements_behind element) (at_drop_all more_exprs_list xs n h)) ∙ sym r
      ∙ ap (λ y. elements_behind y (more_exprs_list xs)) p
      ∙ behind_all ty (more_exprs_list xs)
      ∙ ap (λ ys. elements_type ty (more_exprs_list ys)) items
      ∙ sym (ap (indexed_type ty) (exprs_out t))

  pub indices_end_said : (bracket : Span) (t : Exprs) (xs : List NextExpr) (n : ℕ) (ty : TyTree) (first element : Option TyTree) (x : Ex) (at : Span) {a b c d : List OwnSaid} → xs ≡ (out-Exprs t).rest.items → length xs ≤ n → x ≡ expr_is me s (expr_tree (out-Exprs t).first) → at ≡ first_of_expr (expr_tree (out-Exprs t).first) → first ≡ element_type ty → Adds a b (expr_says me s (expr_tree (out-Exprs t).first)) → Adds b c (index_rows first ty x at bracket) → Goes c d (more_indices_say me s bracket (or_unknown first) (more_exprs_list xs)) (more_indices_say me s bracket (or_unknown element) (more_exprs_list (drop n xs))) → Adds a d (indices_say me s bracket ty (exprs_tree t))
  indices_end_said bracket t xs n ty first element x at items h p i q v w g =
      adds_as (indices_said me s bracket (expr_tree (out-Exprs t).first) (more_exprs_list xs) ty first (or_unknown element) x at p i q v w
      (goes_to g (λ rest. ap (λ y. more_indices_say me s bracket (or_unknown element) y rest) (at_drop_all more_exprs_list xs n h)))) (λ rest.
      ap (λ ys. indices_say me s bracket ty (exprs_of (expr_tree (out-Exprs t).first) (more_exprs_list ys)) rest) items
      ∙ sym (ap (λ y. indices_say me s bracket ty y rest) (exprs_out t)))

  -- ---- calls

  pub call_said_with : (place : Span) (x : Ex) (p q : Span) (o : Option (Box Exprs Global)) (b : Box Exprs Global) (es : Exprs) (guard : Option TyTree) (bad : Bool) (count : ℕ) (wanted : Option (List Wanted)) (v : List Wanted) {a c d : List OwnSaid} → o ≡ Some b → es ≡ b.value → guard ≡ guard_of x (argument_type s (arguments_option o)) → count ≡ argument_count (arguments_option o) → wanted ≡ wants_of x count → bad ≡ is_bad wanted → v ≡ or_none wanted → Adds a c (called_rows place x p guard bad) → Adds c d (exprs_say me s v (exprs_tree es)) → Adds a d (selector_says me s place x (call_selector p (arguments_option o) q))
  call_said_with place x p q o b es guard bad count wanted v is held g n w e y u t =
      let args = arguments_option o in
      let all = w ∙ ap (wants_of x) n ∙ wants_parts x args in
      adds_as (adds_then u t) (λ rest.
      ap (λ z. called_rows place x p guard bad (exprs_say me s z (exprs_tree es) rest)) (y ∙ ap or_none all)
      ∙ ap (λ (z : Exprs). called_rows place x p guard bad (exprs_say me s (or_none (wants x args)) (exprs_tree z) rest)) held
      ∙ ap (λ (z : Option (Box Exprs Global)). called_rows place x p guard bad (arguments_say me s (or_none (wants x args)) (arguments_option z) rest)) (sym is)
      ∙ call_said s place x p args guard bad (arguments_say me s (or_none (wants x args)) args rest) g (e ∙ ap is_bad all))

  pub call_said_without : (place : Span) (x : Ex) (p q : Span) (o : Option (Box Exprs Global)) (guard : Option TyTree) (bad : Bool) (count : ℕ) (wanted : Option (List Wanted)) {a c : List OwnSaid} → o ≡ None → guard ≡ guard_of x (argument_type s (arguments_option o)) → count ≡ argument_count (arguments_option o) → wanted ≡ wants_of x count → bad ≡ is_bad wanted → Adds a c (called_rows place x p guard bad) → Adds a c (selector_says me s place x (call_selector p (arguments_option o) q))
  call_said_without place x p q o guard bad count wanted is g n w e u =
      let args = arguments_option o in
      adds_as u (λ rest.
      call_said s place x p args guard bad rest g (e ∙ ap is_bad (w ∙ ap (wants_of x) n ∙ wants_parts x args))
      ∙ sym (ap (λ (z : Option (Box Exprs Global)). call_rows s place x p args (arguments_say me s (or_none (wants x args)) (arguments_option z) rest)) is))

  -- ---- arguments

  pub argument_turn : (xs : List NextExpr) (n : ℕ) (e : NextExpr) (w g next : Given) (x : Ex) → n < length xs → e ≡ get_or xs n e → x ≡ expr_is me s (expr_tree (out-NextExpr e).expr) → next ≡ given_with g x → w ≡ given_behind g (more_exprs_are me s (more_exprs_list (drop n xs))) → w ≡ given_behind next (more_exprs_are me s (more_exprs_list (drop (n + 1) xs)))
  argument_turn xs n e w g next x h is p q r =
      r ∙ ap (λ t. given_behind g (more_exprs_are me s t)) (exprs_step xs n e h is)
      ∙ sym (ap (λ y. given_behind y (more_exprs_are me s (more_exprs_list (drop (n + 1) xs)))) (q ∙ ap (given_with g) p))

  pub argument_turn_said : (xs : List NextExpr) (n : ℕ) (e : NextExpr) (wanted : List Wanted) (w : Option Wanted) (later : List Wanted) (x : Ex) (at : Span) {f : List Said → List Said} {a b c d : List OwnSaid} → n < length xs → e ≡ get_or xs n e → x ≡ expr_is me s (expr_tree (out-NextExpr e).expr) → at ≡ first_of_expr (expr_tree (out-NextExpr e).expr) → w ≡ first_wanted wanted → later ≡ later_wanted wanted → Goes a b f (more_exprs_say me s wanted (more_exprs_list (drop n xs))) → Adds b c (expr_says me s (expr_tree (out-NextExpr e).expr)) → Adds c d (argument_rows w x at) → Goes a d f (more_exprs_say me s later (more_exprs_list (drop (n + 1) xs)))
  argument_turn_said xs n e wanted w later x at h is p i q r g u v =
      argument_said me s (out-NextExpr e).comma (expr_tree (out-NextExpr e).expr) (more_exprs_list (drop (n + 1) xs)) wanted w later x at p i q r
      (goes_to g (λ rest. ap (λ t. more_exprs_say me s wanted t rest) (exprs_step xs n e h is))) u v

  pub arguments_end : (t : Exprs) (xs : List NextExpr) (n : ℕ) (x : Ex) (g : Given) → xs ≡ (out-Exprs t).rest.items → length xs ≤ n → x ≡ expr_is me s (expr_tree (out-Exprs t).first) → given_behind (one_given x) (more_exprs_are me s (more_exprs_list xs)) ≡ given_behind g (more_exprs_are me s (more_exprs_list (drop n xs))) → g ≡ given_behind none_given (exprs_are me s (exprs_tree t))
  arguments_end t xs n x g items h p r =
      sym (ap (λ y. given_behind g (more_exprs_are me s y)) (at_drop_all more_exprs_list xs n h)) ∙ sym r
      ∙ ap (λ y. given_behind (one_given y) (more_exprs_are me s (more_exprs_list xs))) p
      ∙ ap (λ ys. given_behind (one_given (expr_is me s (expr_tree (out-Exprs t).first))) (more_exprs_are me s (more_exprs_list ys))) items
      ∙ sym (ap (λ y. given_behind none_given (exprs_are me s y)) (exprs_out t))

  pub arguments_end_said : (t : Exprs) (xs : List NextExpr) (n : ℕ) (wanted : List Wanted) (w : Option Wanted) (later end : List Wanted) (x : Ex) (at : Span) {a b c d : List OwnSaid} → xs ≡ (out-Exprs t).rest.items → length xs ≤ n → x ≡ expr_is me s (expr_tree (out-Exprs t).first) → at ≡ first_of_expr (expr_tree (out-Exprs t).first) → w ≡ first_wanted wanted → later ≡ later_wanted wanted → Adds a b (expr_says me s (expr_tree (out-Exprs t).first)) → Adds b c (argument_rows w x at) → Goes c d (more_exprs_say me s later (more_exprs_list xs)) (more_exprs_say me s end (more_exprs_list (drop n xs))) → Adds a d (exprs_say me s wanted (exprs_tree t))
  arguments_end_said t xs n wanted w later end x at items h p i q r u v g =
      adds_as (arguments_said me s (expr_tree (out-Exprs t).first) (more_exprs_list xs) wanted w later end x at p i q r u v
      (goes_to g (λ rest. ap (λ y. more_exprs_say me s end y rest) (at_drop_all more_exprs_list xs n h)))) (λ rest.
      ap (λ ys. exprs_say me s wanted (exprs_of (expr_tree (out-Exprs t).first) (more_exprs_list ys)) rest) items
      ∙ sym (ap (λ y. exprs_say me s wanted y rest) (exprs_out t)))
