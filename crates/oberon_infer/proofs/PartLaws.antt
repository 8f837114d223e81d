-- The rules, split where the code splits them.
use Rattle.std.specs.Prelude.{◌≡◌, ℕ, Bool, true, false, ◌&&◌, if◌then◌else◌, not, List, [], ◌∷◌, Option, Some, None, is_some, refl}
use Rattle.std.specs.Option.{option_map}
use Rattle.std.proofs.Common.{ap, sym, ◌∙◌}
use Rattle.ob_text.specs.declared.span.Span.{Span}
use Rattle.oberon_tree.specs.declared.leaf.Ident.{Ident}
use Rattle.oberon_tree.specs.declared.leaf.Member.{Member}
use Rattle.oberon_rules.specs.Names.{member_is}
use Rattle.oberon_tree.specs.declared.expression.Signed.{Signed}
use Rattle.oberon_tree.specs.declared.expression.Relator.{Relator}
use Rattle.oberon_tree.specs.declared.expression.Relator.TheVariants as relators
use Rattle.oberon_tree.specs.FirstSpans.{first_of_expr, first_of_term, first_of_factor}
use Rattle.oberon_tree.specs.Trees.{ExprTree, expr_of, relation_of, SimpleTree, simple_of, AddendsTree, no_addends, more_addends, TermTree, term_of, MultipliersTree, no_multipliers, more_multipliers, FactorTree, some_elements, MoreElementsTree, no_more_elements, more_elements, ElementTree, element_of, no_upper, upper_of, field_selector, index_selector, call_selector, ArgumentsTree, ExprsTree, SetTree, set_of, set_factor}
use Rattle.oberon_types.specs.Types.{TyTree, unknown_ty, record_ty, set_ty}
use Rattle.oberon_rules.specs.Scopes.{Access, Predeclared, abs_word, Meaning, unknown_meaning, type_meaning, import_meaning, Scopes, Said, row}
use Rattle.oberon_rules.specs.Expressions.{Ex, nothing, a_variable, a_module, a_procedure, a_word, ex_of, ty_of, expr_is, relation_is, simple_is, term_is, factor_is, signed_is, elements_are, more_elements_are, element_is, all_whole, is_whole, selected, arguments_are, argument_type, indexed_type, or_unknown, type_meant, member_meant, word_called, guarded, value_if}
use Rattle.oberon_rules.specs.ExpressionRules.{value_says, expr_says, relation_says, simple_says, addends_say, term_says, multipliers_say, factor_says, value_row, sign_row, member_rows, indexed, is_guarded, is_bad_guard, call_rows, wants, argument_count, takes_arguments}
use Rattle.oberon_rules.specs.Operators.{is_bad}
use Rattle.ob_text.specs.declared.code.Code.TheVariants as codes_of
use Rattle.oberon_infer.specs.Bare.{is_alone, has_multipliers, ex_meant, meant_of_module}
use Rattle.oberon_infer.specs.Given.{Given, none_given, many_given, given_behind, word_given}
use Rattle.oberon_infer.specs.Parts.{operand_rows, related_is, related_says, wants_of, field_rows, member_selected, indexed_part, guard_of, called_with, called_rows}
use Rattle.oberon_infer.specs.Sets.{is_whole_element, is_whole_set, set_says}

-- with these behind
abbrev pub are_whole : List ℕ → Scopes → Bool → MoreElementsTree → Bool
are_whole me s w no_more_elements = w
are_whole me s w (more_elements comma e more) = are_whole me s (w && is_whole_element me s e) more

-- ---- operators

pub value_parts : (me : List ℕ) (s : Scopes) (e : ExprTree) (rest : List Said) → expr_says me s e (value_row (expr_is me s e) (first_of_expr e) rest) ≡ value_says me s e rest
value_parts me s (expr_of a r) rest = refl

pub relation_parts : (me : List ℕ) (s : Scopes) (x : Ex) (o : Relator) (place : Span) (b : SimpleTree) (rest : List Said) → simple_says me s b (related_says s x o place b (simple_is me s b) rest) ≡ relation_says me s x (relation_of o place b) rest
relation_parts me s x relators.Is place b rest = refl
relation_parts me s x _ place b rest = refl

pub related_with : (me : List ℕ) (s : Scopes) (x : Ex) (o : Relator) (place : Span) (b : SimpleTree) → related_is s x o b (simple_is me s b) ≡ relation_is me s x (relation_of o place b)
related_with me s x relators.Is place b = refl
related_with me s x _ place b = refl

pub simple_parts : (me : List ℕ) (s : Scopes) (sign : Option Signed) (first : TermTree) (more : AddendsTree) (rest : List Said) → term_says me s first (operand_rows (is_alone sign more) (term_is me s first) (first_of_term first) (sign_row sign (term_is me s first) (addends_say me s (signed_is sign (term_is me s first)) more rest))) ≡ simple_says me s (simple_of sign first more) rest
simple_parts me s None first no_addends rest = refl
simple_parts me s None first (more_addends o place t more) rest = refl
simple_parts me s (Some g) first no_addends rest = refl
simple_parts me s (Some g) first (more_addends o place t more) rest = refl

pub term_parts : (me : List ℕ) (s : Scopes) (first : FactorTree) (more : MultipliersTree) (rest : List Said) → factor_says me s first (operand_rows (not (has_multipliers more)) (factor_is me s first) (first_of_factor first) (multipliers_say me s (factor_is me s first) more rest)) ≡ term_says me s (term_of first more) rest
term_parts me s first no_multipliers rest = refl
term_parts me s first (more_multipliers o place f more) rest = refl

-- ---- sets

and_assoc : (a b c : Bool) → ((a && b) && c) ≡ (a && (b && c))
and_assoc true b c = refl
and_assoc false b c = refl

whole_before : (me : List ℕ) (s : Scopes) (e : ElementTree) (rest : List Ex) → (is_whole_element me s e && all_whole rest) ≡ all_whole (element_is me s e rest)
whole_before me s (element_of e no_upper) rest = refl
whole_before me s (element_of e (upper_of dots f)) rest = and_assoc (is_whole (ty_of (expr_is me s e))) (is_whole (ty_of (expr_is me s f))) (all_whole rest)

pub set_parts : (me : List ℕ) (s : Scopes) (t : SetTree) → value_if (is_whole_set me s t) set_ty ≡ factor_is me s (set_factor t)
set_parts me s (set_of a es b) = refl

pub set_speaks : (me : List ℕ) (s : Scopes) (t : SetTree) (rest : List Said) → set_says me s t rest ≡ factor_says me s (set_factor t) rest
set_speaks me s (set_of a es b) rest = refl

and_true : (a : Bool) → (a && true) ≡ a
and_true true = refl
and_true false = refl

whole_behind : (me : List ℕ) (s : Scopes) (w : Bool) (more : MoreElementsTree) → are_whole me s w more ≡ (w && all_whole (more_elements_are me s more))
whole_behind me s w no_more_elements = sym (and_true w)
whole_behind me s w (more_elements comma e more) =
    whole_behind me s (w && is_whole_element me s e) more
    ∙ and_assoc w (is_whole_element me s e) (all_whole (more_elements_are me s more))
    ∙ ap (λ b. w && b) (whole_before me s e (more_elements_are me s more))

pub whole_all : (me : List ℕ) (s : Scopes) (e : ElementTree) (more : MoreElementsTree) → are_whole me s (is_whole_element me s e) more ≡ all_whole (elements_are me s (some_elements e more))
whole_all me s e more = whole_behind me s (is_whole_element me s e) more ∙ whole_before me s e (more_elements_are me s more)

-- ---- selectors

pub member_parts : (me : List ℕ) (s : Scopes) (x : Ex) (m : Member) → member_selected me x m ≡ selected me s x (field_selector m)
member_parts me s (a_module v) m = refl
member_parts me s (a_variable (record_ty r) a) m = refl
member_parts me s (a_variable unknown_ty a) m = refl
member_parts me s (a_variable _ a) m = refl
member_parts me s _ m = refl

pub field_parts : (me : List ℕ) (t : TyTree) (a : Access) (m : Member) (rest : List Said) → field_rows me t m rest ≡ member_rows me (a_variable t a) m rest
field_parts me (record_ty r) a m rest = refl
field_parts me unknown_ty a m rest = refl
field_parts me _ a m rest = refl

pub index_parts : (me : List ℕ) (s : Scopes) (x : Ex) (p q : Span) (es : ExprsTree) → indexed_part x (indexed_type (or_unknown (indexed x)) es) ≡ selected me s x (index_selector p es q)
index_parts me s (a_variable unknown_ty a) p q es = refl
index_parts me s (a_variable _ a) p q es = refl
index_parts me s _ p q es = refl

many_stay : (xs : List Ex) → given_behind many_given xs ≡ many_given
many_stay [] = refl
many_stay (x ∷ xs) = many_stay xs

three_are_more : (w : Predeclared) (x y z : Ex) (xs : List Ex) → word_given w many_given ≡ word_called w (x ∷ y ∷ z ∷ xs)
three_are_more abs_word x y z xs = refl
three_are_more _ x y z xs = refl

pub word_parts : (w : Predeclared) (xs : List Ex) → word_given w (given_behind none_given xs) ≡ word_called w xs
word_parts w [] = refl
word_parts w (x ∷ []) = refl
word_parts w (x ∷ y ∷ []) = refl
word_parts w (x ∷ y ∷ z ∷ xs) = ap (word_given w) (many_stay xs) ∙ three_are_more w x y z xs

guard_if : (b : Bool) (named : Option TyTree) (t : TyTree) → guarded (if b then named else None) t ≡ (if b then guarded named t else nothing)
guard_if true named t = refl
guard_if false named t = refl

called_given : (me : List ℕ) (s : Scopes) (x : Ex) (p q : Span) (args : ArgumentsTree) → called_with x (guard_of x (argument_type s args)) (given_behind none_given (arguments_are me s args)) ≡ selected me s x (call_selector p args q)
called_given me s (a_variable (record_ty r) a) p q args = guard_if a.by_var (argument_type s args) (record_ty r)
called_given me s (a_variable _ a) p q args = refl
called_given me s (a_procedure f) p q args = refl
called_given me s (a_word w) p q args = word_parts w (arguments_are me s args)
called_given me s _ p q args = refl

pub call_parts : (me : List ℕ) (s : Scopes) (x : Ex) (p q : Span) (args : ArgumentsTree) (guard : Option TyTree) (given : Given) → guard ≡ guard_of x (argument_type s args) → given ≡ given_behind none_given (arguments_are me s args) → called_with x guard given ≡ selected me s x (call_selector p args q)
call_parts me s x p q args guard given g e = ap (λ y. called_with x y given) g ∙ ap (called_with x (guard_of x (argument_type s args))) e ∙ called_given me s x p q args

pub wants_parts : (x : Ex) (args : ArgumentsTree) → wants_of x (argument_count args) ≡ wants x args
wants_parts (a_procedure p) args = refl
wants_parts (a_word w) args = refl
wants_parts _ args = refl

guard_rows : (place : Span) (x : Ex) (bracket : Span) (named : Option TyTree) (bad : Bool) (rest : List Said) → called_rows place x bracket (guard_of x named) bad rest ≡ (if is_guarded x named then row (is_bad_guard (ty_of x) named) bracket codes_of.BadSelector rest else row (not (takes_arguments x)) bracket codes_of.BadSelector (row bad place codes_of.ArgumentCount rest))
guard_rows place (a_variable (record_ty r) a) bracket (Some g) bad rest = chosen a.by_var
  where
    chosen : (b : Bool) → called_rows place (a_variable (record_ty r) a) bracket (if b then Some g else None) bad rest ≡ (if b then row (is_bad_guard (record_ty r) (Some g)) bracket codes_of.BadSelector rest else row true bracket codes_of.BadSelector (row bad place codes_of.ArgumentCount rest))
    chosen true = refl
    chosen false = refl
guard_rows place (a_variable (record_ty r) a) bracket None bad rest = chosen a.by_var
  where
    chosen : (b : Bool) → called_rows place (a_variable (record_ty r) a) bracket (if b then None else None) bad rest ≡ row true bracket codes_of.BadSelector (row bad place codes_of.ArgumentCount rest)
    chosen true = refl
    chosen false = refl
guard_rows place (a_variable _ a) bracket named bad rest = refl
guard_rows place _ bracket named bad rest = refl

pub call_said : (s : Scopes) (place : Span) (x : Ex) (bracket : Span) (args : ArgumentsTree) (guard : Option TyTree) (bad : Bool) (rest : List Said) → guard ≡ guard_of x (argument_type s args) → bad ≡ is_bad (wants x args) → called_rows place x bracket guard bad rest ≡ call_rows s place x bracket args rest
call_said s place x bracket args guard bad rest g e =
    ap (λ y. called_rows place x bracket y bad rest) g
    ∙ ap (λ b. called_rows place x bracket (guard_of x (argument_type s args)) b rest) e
    ∙ guard_rows place x bracket (argument_type s args) (is_bad (wants x args)) rest

-- ---- names of types

pub meant_parts : (m : Meaning) → ex_meant (ex_of m) ≡ type_meant m
meant_parts unknown_meaning = refl
meant_parts (type_meaning t) = refl
meant_parts _ = refl

pub member_meant_parts : (m : Meaning) (at : Ident) → meant_of_module (ex_of m) (type_meant (member_is m at)) ≡ member_meant m at
member_meant_parts unknown_meaning at = refl
member_meant_parts (import_meaning v) at = refl
member_meant_parts _ at = refl

pub none_is_bad : {X Y : Type 0} (f : X → Y) (o : Option X) (none : Bool) → is_some o ≡ not none → none ≡ is_bad (option_map f o)
none_is_bad f None true h = refl
none_is_bad f None false h = absurd cc
none_is_bad f (Some x) true h = absurd cc
none_is_bad f (Some x) false h = refl
