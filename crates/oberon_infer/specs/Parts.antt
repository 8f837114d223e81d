-- Parts of the rules that have a function of their own in code.
use Rattle.std.specs.Prelude.{ℕ, ◌==◌, Bool, true, false, not, if◌then◌else◌, List, [], ◌∷◌, length, map, Option, Some, None}
use Rattle.ob_text.specs.declared.code.Code.TheVariants as codes_of
use Rattle.ob_text.specs.declared.span.Span.{Span}
use Rattle.oberon_tree.specs.declared.leaf.Member.{Member}
use Rattle.oberon_tree.specs.declared.expression.Relator.{Relator}
use Rattle.oberon_tree.specs.declared.expression.Relator.TheVariants as relators
use Rattle.oberon_tree.specs.FirstSpans.{first_of_simple}
use Rattle.oberon_tree.specs.Trees.{SimpleTree}
use Rattle.oberon_types.specs.Entities.{ParamTree}
use Rattle.oberon_types.specs.Types.{TyTree, unknown_ty, record_ty}
use Rattle.oberon_types.specs.Sizes.{field_of}
use Rattle.oberon_rules.specs.Scopes.{Scopes, Said, broken, row, import_meaning}
use Rattle.oberon_rules.specs.Names.{member_is}
use Rattle.oberon_rules.specs.Operators.{Class, whole_class, set_class, relation_fits, is_bad}
use Rattle.oberon_rules.specs.Expressions.{Ex, nothing, a_variable, a_module, a_procedure, a_word, ex_of, ty_of, class_of, outcome_is, bare_simple, bare_type, is_tested, part_of, guarded, called}
use Rattle.oberon_rules.specs.ExpressionRules.{Wanted, a_param, word_wants, value_row, whole_row, unless_type, is_bad_test, field_row, is_bad_guard, takes_arguments}
use Rattle.oberon_infer.specs.declared.operator.Outcome.{Outcome as OwnOutcome}
use Rattle.oberon_infer.specs.declared.operator.Outcome.TheVariants as outcomes
use Rattle.oberon_infer.specs.Given.{Given, word_given}

-- ---- operators

abbrev pub is_membership : Class → Class → Bool
is_membership whole_class set_class = true
is_membership _ _ = false

abbrev pub boolean_if : Bool → Option OwnOutcome
boolean_if true = Some outcomes.Boolean
boolean_if false = None

-- what is said of the first operand, where it isn't alone
abbrev pub operand_rows : Bool → Ex → Span → List Said → List Said
operand_rows alone x place rest = if alone then rest else value_row x place rest

-- a relation with its right side
abbrev pub related_is : Scopes → Ex → Relator → SimpleTree → Ex → Ex
related_is s x relators.Is b y = outcome_is (is_tested x (bare_type s (bare_simple b)))
related_is s x o b y = outcome_is (relation_fits o (class_of x) (class_of y))

abbrev pub related_says : Scopes → Ex → Relator → Span → SimpleTree → Ex → List Said → List Said
related_says s x relators.Is place b y rest =
    unless_type (bare_type s (bare_simple b)) y (first_of_simple b)
    (row (is_bad_test x (bare_type s (bare_simple b)) y) place codes_of.BadOperand rest)
related_says s x o place b y rest =
    value_row y (first_of_simple b) (row (is_bad (relation_fits o (class_of x) (class_of y))) place codes_of.BadOperand rest)

-- an end of an element of a set
abbrev pub end_rows : Ex → Span → List Said → List Said
end_rows x place rest = value_row x place (whole_row x place rest)

-- ---- arguments

-- what so many arguments have to be
abbrev pub wants_of : Ex → ℕ → Option (List Wanted)
wants_of (a_procedure p) n = if n == length p.params then Some (map (λ (q : ParamTree). a_param q) p.params) else None
wants_of (a_word w) n = word_wants w n
wants_of _ n = Some []

-- ---- selectors

-- the field of a variable of this type
abbrev pub field_selected : List ℕ → TyTree → Bool → Member → Ex
field_selected me (record_ty r) read_only m = part_of (record { read_only = read_only; by_var = false }) (field_of me m.name.name r)
field_selected me _ read_only m = nothing

abbrev pub field_rows : List ℕ → TyTree → Member → List Said → List Said
field_rows me (record_ty r) m rest = field_row (field_of me m.name.name r) m.name rest
field_rows me unknown_ty m rest = rest
field_rows me _ m rest = broken m.period codes_of.BadSelector None ∷ rest

-- what a name behind a dot selects
abbrev pub member_selected : List ℕ → Ex → Member → Ex
member_selected me (a_module v) m = ex_of (member_is (import_meaning v) m.name)
member_selected me (a_variable t a) m = field_selected me t a.read_only m
member_selected me _ m = nothing

-- an element of an indexed variable
abbrev pub indexed_part : Ex → Option TyTree → Ex
indexed_part (a_variable t a) element = part_of a element
indexed_part _ element = nothing

-- the type that is named behind a VAR record parameter
abbrev pub guard_of : Ex → Option TyTree → Option TyTree
guard_of (a_variable (record_ty r) a) named = if a.by_var then named else None
guard_of _ named = None

-- a guard, or a call with these arguments
abbrev pub called_with : Ex → Option TyTree → Given → Ex
called_with (a_variable t a) guard given = guarded guard t
called_with (a_procedure p) guard given = called p
called_with (a_word w) guard given = word_given w given
called_with _ guard given = nothing

abbrev pub called_rows : Span → Ex → Span → Option TyTree → Bool → List Said → List Said
called_rows at x bracket None bad_count rest = row (not (takes_arguments x)) bracket codes_of.BadSelector (row bad_count at codes_of.ArgumentCount rest)
called_rows at x bracket (Some g) bad_count rest = row (is_bad_guard (ty_of x) (Some g)) bracket codes_of.BadSelector rest
