-- What is said of expressions with what is seen, is what is said with all.
use Rattle.std.specs.Prelude.{ℕ, ◌≡◌, List, map, Option, Some, None, refl}
use Rattle.std.proofs.Common.{ap, ◌∙◌}
use Rattle.std.specs.Option.{option_map}
use Rattle.ob_text.specs.declared.code.Code.TheVariants as codes_of
use Rattle.ob_text.specs.declared.span.Span.{Span}
use Rattle.oberon_tree.specs.declared.expression.Relator.{Relator}
use Rattle.oberon_tree.specs.declared.expression.Relator.TheVariants as relators
use Rattle.oberon_tree.specs.declared.expression.Signed.{Signed}
use Rattle.oberon_tree.specs.FirstSpans.{first_of_expr, first_of_simple, first_of_term, first_of_factor}
use Rattle.oberon_tree.specs.Trees.{ExprTree, expr_of, RelationTree, no_relation, relation_of, SimpleTree, simple_of, AddendsTree, no_addends, more_addends, TermTree, term_of, MultipliersTree, no_multipliers, more_multipliers, FactorTree, integer_factor, string_factor, true_factor, false_factor, set_factor, designator_factor, group_factor, negation_factor, set_of, ElementsTree, no_elements, some_elements, MoreElementsTree, no_more_elements, more_elements, ElementTree, element_of, UpperTree, no_upper, upper_of, DesignatorTree, designator_of, SelectorsTree, no_selectors, more_selectors, SelectorTree, field_selector, index_selector, call_selector, ArgumentsTree, no_arguments, some_arguments, ExprsTree, exprs_of, MoreExprsTree, no_more_exprs, more_exprs}
use Rattle.oberon_types.specs.Types.{TyTree}
use Rattle.oberon_rules.specs.Scopes.{Scopes, Said, row}
use Rattle.oberon_rules.specs.Names.{name_is, name_says}
use Rattle.oberon_rules.specs.Operators.{add_fits, mul_fits, not_fits, relation_fits, is_bad}
use Rattle.oberon_rules.specs.Expressions.{Ex, ex_of, class_of, outcome_is, signed_is, bare_simple, bare_type, element_type, or_unknown, expr_is, simple_is, term_is, factor_is, selected}
use Rattle.oberon_rules.specs.ExpressionRules.{value_row, whole_row, left_row, unless_type, is_bad_test, sign_row, Wanted, wants, or_none, first_wanted, later_wanted, argument_rows, indexed, index_rows, call_rows, value_says, expr_says, relation_says, simple_says, addends_say, term_says, multipliers_say, factor_says, elements_say, more_elements_say, element_says, upper_says, designator_says, selectors_say, selector_says, indices_say, more_indices_say, arguments_say, exprs_say, more_exprs_say}
use Rattle.oberon_rules.proofs.Seen.{seen, element_seen}
use Rattle.oberon_rules.proofs.AgreeNames.{seen_scopes, name_is_seen, name_says_seen}
use Rattle.oberon_rules.proofs.AgreeExpressions.{map_ex, ex_of_seen, class_of_seen, outcome_seen, bare_type_seen, or_unknown_seen, signed_seen, expr_is_seen, simple_is_seen, term_is_seen, factor_is_seen, selected_seen}
use Rattle.oberon_rules.proofs.AgreeRows.{value_row_seen, left_row_seen, whole_row_seen, unless_type_seen, bad_test_seen, sign_row_seen, map_wanted, wants_seen, or_none_seen, first_wanted_seen, later_wanted_seen, argument_seen, member_rows_seen, indexed_ex_seen, bad_seen, index_start_seen, index_rows_seen, call_rows_seen}

-- an Ex that is seen, in front of rows that say the same of it
with_ex : (me : List ℕ) (f : Ex → List Said) (x y : Ex) (z : List Said) → x ≡ map_ex (seen me) y → f (map_ex (seen me) y) ≡ z → f x ≡ z
with_ex me f x y z e h = ap (λ w. f w) e ∙ h

-- steps of the recursion, given what it has for the parts

index_says : (me : List ℕ) (s : Scopes) (bracket : Span) (t : TyTree) (e : ExprTree) (f : TyTree → List Said) (z : List Said) → f (seen me (or_unknown (element_type t))) ≡ z
    → expr_says me (seen_scopes me s) e (index_rows (element_type t) t (expr_is me s e) (first_of_expr e) bracket z) ≡ expr_says me s e (index_rows (element_type t) t (expr_is me s e) (first_of_expr e) bracket z)
    → expr_says me (seen_scopes me s) e (index_rows (element_type (seen me t)) (seen me t) (expr_is me (seen_scopes me s) e) (first_of_expr e) bracket (f (or_unknown (element_type (seen me t))))) ≡ expr_says me s e (index_rows (element_type t) t (expr_is me s e) (first_of_expr e) bracket z)
index_says me s bracket t e f z h i =
    ap (λ y. expr_says me (seen_scopes me s) e (index_rows y (seen me t) (expr_is me (seen_scopes me s) e) (first_of_expr e) bracket (f (or_unknown y)))) (element_seen me t)
    ∙ ap (λ y. expr_says me (seen_scopes me s) e (index_rows (option_map (seen me) (element_type t)) (seen me t) y (first_of_expr e) bracket (f (or_unknown (option_map (seen me) (element_type t)))))) (expr_is_seen me s e)
    ∙ ap (λ y. expr_says me (seen_scopes me s) e (index_rows (option_map (seen me) (element_type t)) (seen me t) (map_ex (seen me) (expr_is me s e)) (first_of_expr e) bracket y)) (ap (λ y. f y) (or_unknown_seen me (element_type t)) ∙ h)
    ∙ ap (λ y. expr_says me (seen_scopes me s) e y) (index_rows_seen me (element_type t) t (expr_is me s e) (first_of_expr e) bracket z)
    ∙ i

one_argument : (me : List ℕ) (s : Scopes) (ws : List Wanted) (e : ExprTree) (f : List Wanted → List Said) (z : List Said) → f (map (map_wanted (seen me)) (later_wanted ws)) ≡ z
    → expr_says me (seen_scopes me s) e (argument_rows (first_wanted ws) (expr_is me s e) (first_of_expr e) z) ≡ expr_says me s e (argument_rows (first_wanted ws) (expr_is me s e) (first_of_expr e) z)
    → expr_says me (seen_scopes me s) e (argument_rows (first_wanted (map (map_wanted (seen me)) ws)) (expr_is me (seen_scopes me s) e) (first_of_expr e) (f (later_wanted (map (map_wanted (seen me)) ws)))) ≡ expr_says me s e (argument_rows (first_wanted ws) (expr_is me s e) (first_of_expr e) z)
one_argument me s ws e f z h i =
    ap (λ y. expr_says me (seen_scopes me s) e (argument_rows y (expr_is me (seen_scopes me s) e) (first_of_expr e) (f (later_wanted (map (map_wanted (seen me)) ws))))) (first_wanted_seen me ws)
    ∙ ap (λ y. expr_says me (seen_scopes me s) e (argument_rows (option_map (map_wanted (seen me)) (first_wanted ws)) y (first_of_expr e) (f (later_wanted (map (map_wanted (seen me)) ws))))) (expr_is_seen me s e)
    ∙ ap (λ y. expr_says me (seen_scopes me s) e (argument_rows (option_map (map_wanted (seen me)) (first_wanted ws)) (map_ex (seen me) (expr_is me s e)) (first_of_expr e) y)) (ap (λ y. f y) (later_wanted_seen me ws) ∙ h)
    ∙ ap (λ y. expr_says me (seen_scopes me s) e y) (argument_seen me (first_wanted ws) (expr_is me s e) (first_of_expr e) z)
    ∙ i

compared_says : (o : Relator) (me : List ℕ) (s : Scopes) (x : Ex) (place : Span) (b : SimpleTree) (rest : List Said)
    → simple_says me (seen_scopes me s) b (value_row (simple_is me s b) (first_of_simple b) (row (is_bad (relation_fits o (class_of x) (class_of (simple_is me s b)))) place codes_of.BadOperand rest)) ≡ simple_says me s b (value_row (simple_is me s b) (first_of_simple b) (row (is_bad (relation_fits o (class_of x) (class_of (simple_is me s b)))) place codes_of.BadOperand rest))
    → simple_says me (seen_scopes me s) b (value_row (simple_is me (seen_scopes me s) b) (first_of_simple b) (row (is_bad (relation_fits o (class_of (map_ex (seen me) x)) (class_of (simple_is me (seen_scopes me s) b)))) place codes_of.BadOperand rest)) ≡ simple_says me s b (value_row (simple_is me s b) (first_of_simple b) (row (is_bad (relation_fits o (class_of x) (class_of (simple_is me s b)))) place codes_of.BadOperand rest))
compared_says o me s x place b rest i =
    ap (λ y. simple_says me (seen_scopes me s) b (value_row y (first_of_simple b) (row (is_bad (relation_fits o (class_of (map_ex (seen me) x)) (class_of y))) place codes_of.BadOperand rest))) (simple_is_seen me s b)
    ∙ ap (λ c. simple_says me (seen_scopes me s) b (value_row (map_ex (seen me) (simple_is me s b)) (first_of_simple b) (row (is_bad (relation_fits o c (class_of (map_ex (seen me) (simple_is me s b))))) place codes_of.BadOperand rest))) (class_of_seen me x)
    ∙ ap (λ c. simple_says me (seen_scopes me s) b (value_row (map_ex (seen me) (simple_is me s b)) (first_of_simple b) (row (is_bad (relation_fits o (class_of x) c)) place codes_of.BadOperand rest))) (class_of_seen me (simple_is me s b))
    ∙ ap (λ y. simple_says me (seen_scopes me s) b y) (value_row_seen me (simple_is me s b) (first_of_simple b) (row (is_bad (relation_fits o (class_of x) (class_of (simple_is me s b)))) place codes_of.BadOperand rest))
    ∙ i

test_says : (me : List ℕ) (s : Scopes) (x : Ex) (place : Span) (b : SimpleTree) (rest : List Said)
    → simple_says me (seen_scopes me s) b (unless_type (bare_type s (bare_simple b)) (simple_is me s b) (first_of_simple b) (row (is_bad_test x (bare_type s (bare_simple b)) (simple_is me s b)) place codes_of.BadOperand rest)) ≡ simple_says me s b (unless_type (bare_type s (bare_simple b)) (simple_is me s b) (first_of_simple b) (row (is_bad_test x (bare_type s (bare_simple b)) (simple_is me s b)) place codes_of.BadOperand rest))
    → simple_says me (seen_scopes me s) b (unless_type (bare_type (seen_scopes me s) (bare_simple b)) (simple_is me (seen_scopes me s) b) (first_of_simple b) (row (is_bad_test (map_ex (seen me) x) (bare_type (seen_scopes me s) (bare_simple b)) (simple_is me (seen_scopes me s) b)) place codes_of.BadOperand rest)) ≡ simple_says me s b (unless_type (bare_type s (bare_simple b)) (simple_is me s b) (first_of_simple b) (row (is_bad_test x (bare_type s (bare_simple b)) (simple_is me s b)) place codes_of.BadOperand rest))
test_says me s x place b rest i =
    ap (λ g. simple_says me (seen_scopes me s) b (unless_type g (simple_is me (seen_scopes me s) b) (first_of_simple b) (row (is_bad_test (map_ex (seen me) x) g (simple_is me (seen_scopes me s) b)) place codes_of.BadOperand rest))) (bare_type_seen me s (bare_simple b))
    ∙ ap (λ y. simple_says me (seen_scopes me s) b (unless_type (option_map (seen me) (bare_type s (bare_simple b))) y (first_of_simple b) (row (is_bad_test (map_ex (seen me) x) (option_map (seen me) (bare_type s (bare_simple b))) y) place codes_of.BadOperand rest))) (simple_is_seen me s b)
    ∙ ap (λ c. simple_says me (seen_scopes me s) b (unless_type (option_map (seen me) (bare_type s (bare_simple b))) (map_ex (seen me) (simple_is me s b)) (first_of_simple b) (row c place codes_of.BadOperand rest))) (bad_test_seen me x (bare_type s (bare_simple b)) (simple_is me s b))
    ∙ ap (λ y. simple_says me (seen_scopes me s) b y) (unless_type_seen me (bare_type s (bare_simple b)) (simple_is me s b) (first_of_simple b) (row (is_bad_test x (bare_type s (bare_simple b)) (simple_is me s b)) place codes_of.BadOperand rest))
    ∙ i

signed_says : (me : List ℕ) (s : Scopes) (g : Option Signed) (first : TermTree) (more : AddendsTree) (rest : List Said)
    → addends_say me (seen_scopes me s) (map_ex (seen me) (signed_is g (term_is me s first))) more rest ≡ addends_say me s (signed_is g (term_is me s first)) more rest
    → term_says me (seen_scopes me s) first (value_row (term_is me s first) (first_of_term first) (sign_row g (term_is me s first) (addends_say me s (signed_is g (term_is me s first)) more rest))) ≡ term_says me s first (value_row (term_is me s first) (first_of_term first) (sign_row g (term_is me s first) (addends_say me s (signed_is g (term_is me s first)) more rest)))
    → term_says me (seen_scopes me s) first (value_row (term_is me (seen_scopes me s) first) (first_of_term first) (sign_row g (term_is me (seen_scopes me s) first) (addends_say me (seen_scopes me s) (signed_is g (term_is me (seen_scopes me s) first)) more rest))) ≡ term_says me s first (value_row (term_is me s first) (first_of_term first) (sign_row g (term_is me s first) (addends_say me s (signed_is g (term_is me s first)) more rest)))
signed_says me s g first more rest h i =
    ap (λ y. term_says me (seen_scopes me s) first (value_row y (first_of_term first) (sign_row g y (addends_say me (seen_scopes me s) (signed_is g y) more rest)))) (term_is_seen me s first)
    ∙ ap (λ y. term_says me (seen_scopes me s) first (value_row (map_ex (seen me) (term_is me s first)) (first_of_term first) (sign_row g (map_ex (seen me) (term_is me s first)) y))) (ap (λ x. addends_say me (seen_scopes me s) x more rest) (signed_seen me g (term_is me s first)) ∙ h)
    ∙ ap (λ y. term_says me (seen_scopes me s) first (value_row (map_ex (seen me) (term_is me s first)) (first_of_term first) y)) (sign_row_seen me g (term_is me s first) (addends_say me s (signed_is g (term_is me s first)) more rest))
    ∙ ap (λ y. term_says me (seen_scopes me s) first y) (value_row_seen me (term_is me s first) (first_of_term first) (sign_row g (term_is me s first) (addends_say me s (signed_is g (term_is me s first)) more rest)))
    ∙ i

mutual
  pub expr_says_seen : (me : List ℕ) (s : Scopes) (e : ExprTree) (rest : List Said) → expr_says me (seen_scopes me s) e rest ≡ expr_says me s e rest
  expr_says_seen me s (expr_of a r) rest =
      ap (λ y. simple_says me (seen_scopes me s) a (left_row r y (first_of_simple a) (relation_says me (seen_scopes me s) y r rest))) (simple_is_seen me s a)
      ∙ ap (λ y. simple_says me (seen_scopes me s) a y) (left_row_seen me r (simple_is me s a) (first_of_simple a) (relation_says me (seen_scopes me s) (map_ex (seen me) (simple_is me s a)) r rest) ∙ ap (λ y. left_row r (simple_is me s a) (first_of_simple a) y) (relation_says_seen me s (simple_is me s a) r rest))
      ∙ simple_says_seen me s a (left_row r (simple_is me s a) (first_of_simple a) (relation_says me s (simple_is me s a) r rest))

  pub value_says_seen : (me : List ℕ) (s : Scopes) (e : ExprTree) (rest : List Said) → value_says me (seen_scopes me s) e rest ≡ value_says me s e rest
  value_says_seen me s (expr_of a r) rest =
      ap (λ y. simple_says me (seen_scopes me s) a (left_row r (simple_is me (seen_scopes me s) a) (first_of_simple a) (relation_says me (seen_scopes me s) (simple_is me (seen_scopes me s) a) r (value_row y (first_of_simple a) rest)))) (expr_is_seen me s (expr_of a r))
      ∙ ap (λ y. simple_says me (seen_scopes me s) a (left_row r (simple_is me (seen_scopes me s) a) (first_of_simple a) (relation_says me (seen_scopes me s) (simple_is me (seen_scopes me s) a) r y))) (value_row_seen me (expr_is me s (expr_of a r)) (first_of_simple a) rest)
      ∙ ap (λ y. simple_says me (seen_scopes me s) a (left_row r y (first_of_simple a) (relation_says me (seen_scopes me s) y r (value_row (expr_is me s (expr_of a r)) (first_of_simple a) rest)))) (simple_is_seen me s a)
      ∙ ap (λ y. simple_says me (seen_scopes me s) a y) (left_row_seen me r (simple_is me s a) (first_of_simple a) (relation_says me (seen_scopes me s) (map_ex (seen me) (simple_is me s a)) r (value_row (expr_is me s (expr_of a r)) (first_of_simple a) rest)) ∙ ap (λ y. left_row r (simple_is me s a) (first_of_simple a) y) (relation_says_seen me s (simple_is me s a) r (value_row (expr_is me s (expr_of a r)) (first_of_simple a) rest)))
      ∙ simple_says_seen me s a (left_row r (simple_is me s a) (first_of_simple a) (relation_says me s (simple_is me s a) r (value_row (expr_is me s (expr_of a r)) (first_of_simple a) rest)))

  relation_says_seen : (me : List ℕ) (s : Scopes) (x : Ex) (r : RelationTree) (rest : List Said) → relation_says me (seen_scopes me s) (map_ex (seen me) x) r rest ≡ relation_says me s x r rest
  relation_says_seen me s x no_relation rest = refl
  relation_says_seen me s x (relation_of relators.Is place b) rest = test_says me s x place b rest (simple_says_seen me s b (unless_type (bare_type s (bare_simple b)) (simple_is me s b) (first_of_simple b) (row (is_bad_test x (bare_type s (bare_simple b)) (simple_is me s b)) place codes_of.BadOperand rest)))
  relation_says_seen me s x (relation_of relators.Equal place b) rest = compared_says relators.Equal me s x place b rest (simple_says_seen me s b (value_row (simple_is me s b) (first_of_simple b) (row (is_bad (relation_fits relators.Equal (class_of x) (class_of (simple_is me s b)))) place codes_of.BadOperand rest)))
  relation_says_seen me s x (relation_of relators.Unequal place b) rest = compared_says relators.Unequal me s x place b rest (simple_says_seen me s b (value_row (simple_is me s b) (first_of_simple b) (row (is_bad (relation_fits relators.Unequal (class_of x) (class_of (simple_is me s b)))) place codes_of.BadOperand rest)))
  relation_says_seen me s x (relation_of relators.Less place b) rest = compared_says relators.Less me s x place b rest (simple_says_seen me s b (value_row (simple_is me s b) (first_of_simple b) (row (is_bad (relation_fits relators.Less (class_of x) (class_of (simple_is me s b)))) place codes_of.BadOperand rest)))
  relation_says_seen me s x (relation_of relators.LessEqual place b) rest = compared_says relators.LessEqual me s x place b rest (simple_says_seen me s b (value_row (simple_is me s b) (first_of_simple b) (row (is_bad (relation_fits relators.LessEqual (class_of x) (class_of (simple_is me s b)))) place codes_of.BadOperand rest)))
  relation_says_seen me s x (relation_of relators.Greater place b) rest = compared_says relators.Greater me s x place b rest (simple_says_seen me s b (value_row (simple_is me s b) (first_of_simple b) (row (is_bad (relation_fits relators.Greater (class_of x) (class_of (simple_is me s b)))) place codes_of.BadOperand rest)))
  relation_says_seen me s x (relation_of relators.GreaterEqual place b) rest = compared_says relators.GreaterEqual me s x place b rest (simple_says_seen me s b (value_row (simple_is me s b) (first_of_simple b) (row (is_bad (relation_fits relators.GreaterEqual (class_of x) (class_of (simple_is me s b)))) place codes_of.BadOperand rest)))
  relation_says_seen me s x (relation_of relators.In place b) rest = compared_says relators.In me s x place b rest (simple_says_seen me s b (value_row (simple_is me s b) (first_of_simple b) (row (is_bad (relation_fits relators.In (class_of x) (class_of (simple_is me s b)))) place codes_of.BadOperand rest)))

  pub simple_says_seen : (me : List ℕ) (s : Scopes) (a : SimpleTree) (rest : List Said) → simple_says me (seen_scopes me s) a rest ≡ simple_says me s a rest
  simple_says_seen me s (simple_of None first no_addends) rest = term_says_seen me s first rest
  simple_says_seen me s (simple_of None first (more_addends o place b more)) rest = signed_says me s None first (more_addends o place b more) rest (addends_say_seen me s (term_is me s first) (more_addends o place b more) rest) (term_says_seen me s first (value_row (term_is me s first) (first_of_term first) (addends_say me s (term_is me s first) (more_addends o place b more) rest)))
  simple_says_seen me s (simple_of (Some g) first more) rest = signed_says me s (Some g) first more rest (addends_say_seen me s (signed_is (Some g) (term_is me s first)) more rest) (term_says_seen me s first (value_row (term_is me s first) (first_of_term first) (sign_row (Some g) (term_is me s first) (addends_say me s (signed_is (Some g) (term_is me s first)) more rest))))

  addends_say_seen : (me : List ℕ) (s : Scopes) (x : Ex) (more : AddendsTree) (rest : List Said) → addends_say me (seen_scopes me s) (map_ex (seen me) x) more rest ≡ addends_say me s x more rest
  addends_say_seen me s x no_addends rest = refl
  addends_say_seen me s x (more_addends o place b more) rest =
      ap (λ y. term_says me (seen_scopes me s) b (value_row (term_is me (seen_scopes me s) b) (first_of_term b) (row (is_bad (add_fits o y (class_of (term_is me (seen_scopes me s) b)))) place codes_of.BadOperand (addends_say me (seen_scopes me s) (outcome_is (add_fits o y (class_of (term_is me (seen_scopes me s) b)))) more rest)))) (class_of_seen me x)
      ∙ ap (λ y. term_says me (seen_scopes me s) b (value_row y (first_of_term b) (row (is_bad (add_fits o (class_of x) (class_of y))) place codes_of.BadOperand (addends_say me (seen_scopes me s) (outcome_is (add_fits o (class_of x) (class_of y))) more rest)))) (term_is_seen me s b)
      ∙ ap (λ y. term_says me (seen_scopes me s) b (value_row (map_ex (seen me) (term_is me s b)) (first_of_term b) (row (is_bad (add_fits o (class_of x) y)) place codes_of.BadOperand (addends_say me (seen_scopes me s) (outcome_is (add_fits o (class_of x) y)) more rest)))) (class_of_seen me (term_is me s b))
      ∙ ap (λ y. term_says me (seen_scopes me s) b (value_row (map_ex (seen me) (term_is me s b)) (first_of_term b) (row (is_bad (add_fits o (class_of x) (class_of (term_is me s b)))) place codes_of.BadOperand (addends_say me (seen_scopes me s) y more rest)))) (outcome_seen me (add_fits o (class_of x) (class_of (term_is me s b))))
      ∙ ap (λ y. term_says me (seen_scopes me s) b (value_row (map_ex (seen me) (term_is me s b)) (first_of_term b) (row (is_bad (add_fits o (class_of x) (class_of (term_is me s b)))) place codes_of.BadOperand y))) (addends_say_seen me s (outcome_is (add_fits o (class_of x) (class_of (term_is me s b)))) more rest)
      ∙ ap (λ y. term_says me (seen_scopes me s) b y) (value_row_seen me (term_is me s b) (first_of_term b) (row (is_bad (add_fits o (class_of x) (class_of (term_is me s b)))) place codes_of.BadOperand (addends_say me s (outcome_is (add_fits o (class_of x) (class_of (term_is me s b)))) more rest)))
      ∙ term_says_seen me s b (value_row (term_is me s b) (first_of_term b) (row (is_bad (add_fits o (class_of x) (class_of (term_is me s b)))) place codes_of.BadOperand (addends_say me s (outcome_is (add_fits o (class_of x) (class_of (term_is me s b)))) more rest)))

  pub term_says_seen : (me : List ℕ) (s : Scopes) (a : TermTree) (rest : List Said) → term_says me (seen_scopes me s) a rest ≡ term_says me s a rest
  term_says_seen me s (term_of first no_multipliers) rest = factor_says_seen me s first rest
  term_says_seen me s (term_of first (more_multipliers o place f more)) rest =
      ap (λ y. factor_says me (seen_scopes me s) first (value_row y (first_of_factor first) (multipliers_say me (seen_scopes me s) y (more_multipliers o place f more) rest))) (factor_is_seen me s first)
      ∙ ap (λ y. factor_says me (seen_scopes me s) first (value_row (map_ex (seen me) (factor_is me s first)) (first_of_factor first) y)) (multipliers_say_seen me s (factor_is me s first) (more_multipliers o place f more) rest)
      ∙ ap (λ y. factor_says me (seen_scopes me s) first y) (value_row_seen me (factor_is me s first) (first_of_factor first) (multipliers_say me s (factor_is me s first) (more_multipliers o place f more) rest))
      ∙ factor_says_seen me s first (value_row (factor_is me s first) (first_of_factor first) (multipliers_say me s (factor_is me s first) (more_multipliers o place f more) rest))

  multipliers_say_seen : (me : List ℕ) (s : Scopes) (x : Ex) (more : MultipliersTree) (rest : List Said) → multipliers_say me (seen_scopes me s) (map_ex (seen me) x) more rest ≡ multipliers_say me s x more rest
  multipliers_say_seen me s x no_multipliers rest = refl
  multipliers_say_seen me s x (more_multipliers o place b more) rest =
      ap (λ y. factor_says me (seen_scopes me s) b (value_row (factor_is me (seen_scopes me s) b) (first_of_factor b) (row (is_bad (mul_fits o y (class_of (factor_is me (seen_scopes me s) b)))) place codes_of.BadOperand (multipliers_say me (seen_scopes me s) (outcome_is (mul_fits o y (class_of (factor_is me (seen_scopes me s) b)))) more rest)))) (class_of_seen me x)
      ∙ ap (λ y. factor_says me (seen_scopes me s) b (value_row y (first_of_factor b) (row (is_bad (mul_fits o (class_of x) (class_of y))) place codes_of.BadOperand (multipliers_say me (seen_scopes me s) (outcome_is (mul_fits o (class_of x) (class_of y))) more rest)))) (factor_is_seen me s b)
      ∙ ap (λ y. factor_says me (seen_scopes me s) b (value_row (map_ex (seen me) (factor_is me s b)) (first_of_factor b) (row (is_bad (mul_fits o (class_of x) y)) place codes_of.BadOperand (multipliers_say me (seen_scopes me s) (outcome_is (mul_fits o (class_of x) y)) more rest)))) (class_of_seen me (factor_is me s b))
      ∙ ap (λ y. factor_says me (seen_scopes me s) b (value_row (map_ex (seen me) (factor_is me s b)) (first_of_factor b) (row (is_bad (mul_fits o (class_of x) (class_of (factor_is me s b)))) place codes_of.BadOperand (multipliers_say me (seen_scopes me s) y more rest)))) (outcome_seen me (mul_fits o (class_of x) (class_of (factor_is me s b))))
      ∙ ap (λ y. factor_says me (seen_scopes me s) b (value_row (map_ex (seen me) (factor_is me s b)) (first_of_factor b) (row (is_bad (mul_fits o (class_of x) (class_of (factor_is me s b)))) place codes_of.BadOperand y))) (multipliers_say_seen me s (outcome_is (mul_fits o (class_of x) (class_of (factor_is me s b)))) more rest)
      ∙ ap (λ y. factor_says me (seen_scopes me s) b y) (value_row_seen me (factor_is me s b) (first_of_factor b) (row (is_bad (mul_fits o (class_of x) (class_of (factor_is me s b)))) place codes_of.BadOperand (multipliers_say me s (outcome_is (mul_fits o (class_of x) (class_of (factor_is me s b)))) more rest)))
      ∙ factor_says_seen me s b (value_row (factor_is me s b) (first_of_factor b) (row (is_bad (mul_fits o (class_of x) (class_of (factor_is me s b)))) place codes_of.BadOperand (multipliers_say me s (outcome_is (mul_fits o (class_of x) (class_of (factor_is me s b)))) more rest)))

  pub factor_says_seen : (me : List ℕ) (s : Scopes) (f : FactorTree) (rest : List Said) → factor_says me (seen_scopes me s) f rest ≡ factor_says me s f rest
  factor_says_seen me s (integer_factor n) rest = refl
  factor_says_seen me s (string_factor x) rest = refl
  factor_says_seen me s (true_factor place) rest = refl
  factor_says_seen me s (false_factor place) rest = refl
  factor_says_seen me s (set_factor (set_of a es b)) rest = elements_say_seen me s es rest
  factor_says_seen me s (designator_factor d) rest = designator_says_seen me s d rest
  factor_says_seen me s (group_factor a e b) rest = value_says_seen me s e rest
  factor_says_seen me s (negation_factor place f) rest =
      ap (λ y. factor_says me (seen_scopes me s) f (value_row y (first_of_factor f) (row (is_bad (not_fits (class_of y))) place codes_of.BadOperand rest))) (factor_is_seen me s f)
      ∙ ap (λ y. factor_says me (seen_scopes me s) f (value_row (map_ex (seen me) (factor_is me s f)) (first_of_factor f) (row (is_bad (not_fits y)) place codes_of.BadOperand rest))) (class_of_seen me (factor_is me s f))
      ∙ ap (λ y. factor_says me (seen_scopes me s) f y) (value_row_seen me (factor_is me s f) (first_of_factor f) (row (is_bad (not_fits (class_of (factor_is me s f)))) place codes_of.BadOperand rest))
      ∙ factor_says_seen me s f (value_row (factor_is me s f) (first_of_factor f) (row (is_bad (not_fits (class_of (factor_is me s f)))) place codes_of.BadOperand rest))

  elements_say_seen : (me : List ℕ) (s : Scopes) (es : ElementsTree) (rest : List Said) → elements_say me (seen_scopes me s) es rest ≡ elements_say me s es rest
  elements_say_seen me s no_elements rest = refl
  elements_say_seen me s (some_elements e more) rest = element_says_seen me s e (more_elements_say me (seen_scopes me s) more rest) ∙ ap (λ y. element_says me s e y) (more_elements_say_seen me s more rest)

  more_elements_say_seen : (me : List ℕ) (s : Scopes) (es : MoreElementsTree) (rest : List Said) → more_elements_say me (seen_scopes me s) es rest ≡ more_elements_say me s es rest
  more_elements_say_seen me s no_more_elements rest = refl
  more_elements_say_seen me s (more_elements comma e more) rest = element_says_seen me s e (more_elements_say me (seen_scopes me s) more rest) ∙ ap (λ y. element_says me s e y) (more_elements_say_seen me s more rest)

  element_says_seen : (me : List ℕ) (s : Scopes) (e : ElementTree) (rest : List Said) → element_says me (seen_scopes me s) e rest ≡ element_says me s e rest
  element_says_seen me s (element_of e u) rest =
      ap (λ y. value_says me (seen_scopes me s) e y) (with_ex me (λ x. whole_row x (first_of_expr e) (upper_says me (seen_scopes me s) u rest)) (expr_is me (seen_scopes me s) e) (expr_is me s e) _ (expr_is_seen me s e) (whole_row_seen me (expr_is me s e) (first_of_expr e) (upper_says me (seen_scopes me s) u rest)) ∙ ap (λ y. whole_row (expr_is me s e) (first_of_expr e) y) (upper_says_seen me s u rest))
      ∙ value_says_seen me s e (whole_row (expr_is me s e) (first_of_expr e) (upper_says me s u rest))

  upper_says_seen : (me : List ℕ) (s : Scopes) (u : UpperTree) (rest : List Said) → upper_says me (seen_scopes me s) u rest ≡ upper_says me s u rest
  upper_says_seen me s no_upper rest = refl
  upper_says_seen me s (upper_of dots e) rest =
      ap (λ y. value_says me (seen_scopes me s) e y) (with_ex me (λ x. whole_row x (first_of_expr e) rest) (expr_is me (seen_scopes me s) e) (expr_is me s e) _ (expr_is_seen me s e) (whole_row_seen me (expr_is me s e) (first_of_expr e) rest))
      ∙ value_says_seen me s e (whole_row (expr_is me s e) (first_of_expr e) rest)

  pub designator_says_seen : (me : List ℕ) (s : Scopes) (d : DesignatorTree) (rest : List Said) → designator_says me (seen_scopes me s) d rest ≡ designator_says me s d rest
  designator_says_seen me s (designator_of x sels) rest =
      name_says_seen me s x (selectors_say me (seen_scopes me s) x.span (ex_of (name_is (seen_scopes me s) x.name)) sels rest)
      ∙ ap (λ m. name_says s x (selectors_say me (seen_scopes me s) x.span (ex_of m) sels rest)) (name_is_seen me s x.name)
      ∙ ap (λ y. name_says s x (selectors_say me (seen_scopes me s) x.span y sels rest)) (ex_of_seen me (name_is s x.name))
      ∙ ap (λ y. name_says s x y) (selectors_say_seen me s x.span (ex_of (name_is s x.name)) sels rest)

  selectors_say_seen : (me : List ℕ) (s : Scopes) (at : Span) (x : Ex) (sels : SelectorsTree) (rest : List Said) → selectors_say me (seen_scopes me s) at (map_ex (seen me) x) sels rest ≡ selectors_say me s at x sels rest
  selectors_say_seen me s at x no_selectors rest = refl
  selectors_say_seen me s at x (more_selectors sel more) rest =
      ap (λ y. selector_says me (seen_scopes me s) at (map_ex (seen me) x) sel (selectors_say me (seen_scopes me s) at y more rest)) (selected_seen me s x sel)
      ∙ ap (λ y. selector_says me (seen_scopes me s) at (map_ex (seen me) x) sel y) (selectors_say_seen me s at (selected me s x sel) more rest)
      ∙ selector_says_seen me s at x sel (selectors_say me s at (selected me s x sel) more rest)

  selector_says_seen : (me : List ℕ) (s : Scopes) (at : Span) (x : Ex) (sel : SelectorTree) (rest : List Said) → selector_says me (seen_scopes me s) at (map_ex (seen me) x) sel rest ≡ selector_says me s at x sel rest
  selector_says_seen me s at x (field_selector m) rest = member_rows_seen me x m rest
  selector_says_seen me s at x (index_selector a es b) rest =
      ap (λ y. row (is_bad y) a codes_of.BadSelector (indices_say me (seen_scopes me s) a (or_unknown (indexed (map_ex (seen me) x))) es rest)) (indexed_ex_seen me x)
      ∙ ap (λ y. row y a codes_of.BadSelector (indices_say me (seen_scopes me s) a (or_unknown (indexed (map_ex (seen me) x))) es rest)) (bad_seen me (indexed x))
      ∙ ap (λ y. row (is_bad (indexed x)) a codes_of.BadSelector (indices_say me (seen_scopes me s) a y es rest)) (index_start_seen me x)
      ∙ ap (λ y. row (is_bad (indexed x)) a codes_of.BadSelector y) (indices_say_seen me s a (or_unknown (indexed x)) es rest)
  selector_says_seen me s at x (call_selector a args b) rest =
      ap (λ y. call_rows (seen_scopes me s) at (map_ex (seen me) x) a args (arguments_say me (seen_scopes me s) y args rest)) (ap (λ y. or_none y) (wants_seen me x args) ∙ or_none_seen me (wants x args))
      ∙ ap (λ y. call_rows (seen_scopes me s) at (map_ex (seen me) x) a args y) (arguments_say_seen me s (or_none (wants x args)) args rest)
      ∙ call_rows_seen me s at x a args (arguments_say me s (or_none (wants x args)) args rest)

  indices_say_seen : (me : List ℕ) (s : Scopes) (bracket : Span) (t : TyTree) (es : ExprsTree) (rest : List Said) → indices_say me (seen_scopes me s) bracket (seen me t) es rest ≡ indices_say me s bracket t es rest
  indices_say_seen me s bracket t (exprs_of e more) rest = index_says me s bracket t e (λ u. more_indices_say me (seen_scopes me s) bracket u more rest) (more_indices_say me s bracket (or_unknown (element_type t)) more rest) (more_indices_say_seen me s bracket (or_unknown (element_type t)) more rest) (expr_says_seen me s e (index_rows (element_type t) t (expr_is me s e) (first_of_expr e) bracket (more_indices_say me s bracket (or_unknown (element_type t)) more rest)))

  more_indices_say_seen : (me : List ℕ) (s : Scopes) (bracket : Span) (t : TyTree) (more : MoreExprsTree) (rest : List Said) → more_indices_say me (seen_scopes me s) bracket (seen me t) more rest ≡ more_indices_say me s bracket t more rest
  more_indices_say_seen me s bracket t no_more_exprs rest = refl
  more_indices_say_seen me s bracket t (more_exprs comma e more) rest = index_says me s bracket t e (λ u. more_indices_say me (seen_scopes me s) bracket u more rest) (more_indices_say me s bracket (or_unknown (element_type t)) more rest) (more_indices_say_seen me s bracket (or_unknown (element_type t)) more rest) (expr_says_seen me s e (index_rows (element_type t) t (expr_is me s e) (first_of_expr e) bracket (more_indices_say me s bracket (or_unknown (element_type t)) more rest)))

  arguments_say_seen : (me : List ℕ) (s : Scopes) (ws : List Wanted) (args : ArgumentsTree) (rest : List Said) → arguments_say me (seen_scopes me s) (map (map_wanted (seen me)) ws) args rest ≡ arguments_say me s ws args rest
  arguments_say_seen me s ws no_arguments rest = refl
  arguments_say_seen me s ws (some_arguments es) rest = exprs_say_seen me s ws es rest

  exprs_say_seen : (me : List ℕ) (s : Scopes) (ws : List Wanted) (es : ExprsTree) (rest : List Said) → exprs_say me (seen_scopes me s) (map (map_wanted (seen me)) ws) es rest ≡ exprs_say me s ws es rest
  exprs_say_seen me s ws (exprs_of e more) rest = one_argument me s ws e (λ us. more_exprs_say me (seen_scopes me s) us more rest) (more_exprs_say me s (later_wanted ws) more rest) (more_exprs_say_seen me s (later_wanted ws) more rest) (expr_says_seen me s e (argument_rows (first_wanted ws) (expr_is me s e) (first_of_expr e) (more_exprs_say me s (later_wanted ws) more rest)))

  more_exprs_say_seen : (me : List ℕ) (s : Scopes) (ws : List Wanted) (more : MoreExprsTree) (rest : List Said) → more_exprs_say me (seen_scopes me s) (map (map_wanted (seen me)) ws) more rest ≡ more_exprs_say me s ws more rest
  more_exprs_say_seen me s ws no_more_exprs rest = refl
  more_exprs_say_seen me s ws (more_exprs comma e more) rest = one_argument me s ws e (λ us. more_exprs_say me (seen_scopes me s) us more rest) (more_exprs_say me s (later_wanted ws) more rest) (more_exprs_say_seen me s (later_wanted ws) more rest) (expr_says_seen me s e (argument_rows (first_wanted ws) (expr_is me s e) (first_of_expr e) (more_exprs_say me s (later_wanted ws) more rest)))
