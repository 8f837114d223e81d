-- What expressions and designators do (section 8), from left to right, and what they do with arguments (section 10.1).
use Rattle.std.specs.Prelude.{ℕ, Bool, true, false, if◌then◌else◌, codes, List, [], ◌∷◌, ◌++◌, length, Option, Some, None}
use Rattle.std.specs.Int.Bits.{bit_or}
use Rattle.ob_text.specs.declared.span.Span.{Span}
use Rattle.oberon_tree.specs.declared.expression.Relator.{Relator}
use Rattle.oberon_tree.specs.declared.expression.Relator.TheVariants as relators
use Rattle.oberon_tree.specs.declared.expression.Signed.{Signed}
use Rattle.oberon_tree.specs.declared.expression.AddOperator.{AddOperator}
use Rattle.oberon_tree.specs.declared.expression.AddOperator.TheVariants as adds
use Rattle.oberon_tree.specs.declared.expression.MulOperator.{MulOperator}
use Rattle.oberon_tree.specs.declared.expression.MulOperator.TheVariants as muls
use Rattle.oberon_tree.specs.FirstSpans.{first_of_expr}
use Rattle.oberon_tree.specs.Trees.{ExprTree, expr_of, no_relation, relation_of, SimpleTree, simple_of, AddendsTree, no_addends, more_addends, TermTree, term_of, MultipliersTree, no_multipliers, more_multipliers, FactorTree, integer_factor, string_factor, true_factor, false_factor, set_factor, designator_factor, group_factor, negation_factor, set_of, ElementsTree, no_elements, some_elements, MoreElementsTree, no_more_elements, more_elements, ElementTree, element_of, UpperTree, no_upper, upper_of, DesignatorTree, designator_of, SelectorsTree, no_selectors, more_selectors, SelectorTree, field_selector, index_selector, call_selector, ArgumentsTree, no_arguments, some_arguments, ExprsTree, exprs_of, MoreExprsTree, no_more_exprs, more_exprs}
use Rattle.oberon_types.specs.declared.value.Value.TheVariants as values
use Rattle.oberon_types.specs.declared.constant.Op.{Op}
use Rattle.oberon_types.specs.declared.constant.Op.TheVariants as ops
use Rattle.oberon_types.specs.Folding.{below, range_bits}
use Rattle.oberon_types.specs.Types.{TyTree, unknown_ty, string_ty, array_ty, open_ty, record_ty, RecordTree, same_name}
use Rattle.oberon_types.specs.Entities.{ParamTree}
use Rattle.oberon_rules.specs.Scopes.{Predeclared, Meaning, constant_meaning, variable_meaning, procedure_meaning, word_meaning, import_meaning, Scopes, look_up, predeclared}
use Rattle.oberon_rules.specs.Names.{look_up_option}
use Rattle.oberon_rules.specs.Constants.{add_op, mul_op, sign_op}
use Rattle.oberon_rules.specs.Expressions.{bare_type, bare_simple, argument_type, is_or_extends}
use Rattle.oberon_rules.specs.Procedures.{signature_of}
use Rattle.run_rules.specs.declared.trap_kind.TrapKind.TheVariants as traps
use Rattle.run_rules.specs.World.{went, Gives, then_do, At, trap, stuck, with_cells}
use Rattle.run_rules.specs.Cells.{Spot, Operand, single, structured, nothing, field, element, contents, fitted}
use Rattle.run_rules.specs.Operators.{operated, signed, chosen, truth_alone}
use Rattle.run_rules.specs.Words.{Argument, word_called, out_called}
use Rattle.run_rules.specs.Linked.{Bound, bound_to, Linked, linked_as, module_named, Found, procedure_in}

-- where a construct stands: all modules, its own, the names that are known there, and the variables of the call around it
pub record Env : Type 0 where
  pub modules : List Linked
  pub own : Linked
  pub scope : Scopes
  pub locals : List Bound

abbrev pub place_in : Env → Span → At
place_in v s = record { stem = v.own.source.stem; offset = s.start }

-- ---- what a name stands for

pub data State : Type 0 where
  at_spot : Spot → State
  at_operand : Operand → State
  at_procedure : (of_module name : List ℕ) → State
  at_word : Predeclared → State
  at_module : List ℕ → State

abbrev pub spot_state : Option Spot → Gives State
spot_state None w = stuck w
spot_state (Some s) w = went (at_spot s) w

abbrev pub module_state : Option (List ℕ) → Gives State
module_state None w = stuck w
module_state (Some m) w = went (at_module m) w

-- a name of the level of a module
abbrev pub global_state : Linked → List ℕ → Option Meaning → Gives State
global_state m x (Some (constant_meaning c)) w = went (at_operand (single c)) w
global_state m x (Some (variable_meaning t a)) w = spot_state (bound_to x m.variables) w
global_state m x (Some (procedure_meaning p)) w = went (at_procedure m.source.stem x) w
global_state m x (Some (import_meaning view)) w = module_state (module_named x m.source.tree) w
global_state m x (Some (word_meaning p)) w = went (at_word p) w
global_state m x _ w = stuck w

abbrev pub or_predeclared : List ℕ → Option Meaning → Option Meaning
or_predeclared x None = look_up x predeclared
or_predeclared x (Some m) = Some m

-- a name of the procedure comes first
abbrev pub local_state : Env → List ℕ → Option Meaning → Gives State
local_state v x (Some (constant_meaning c)) w = went (at_operand (single c)) w
local_state v x (Some (variable_meaning t a)) w = spot_state (bound_to x v.locals) w
local_state v x None w = global_state v.own x (or_predeclared x (look_up x v.scope.globals)) w
local_state v x _ w = stuck w

abbrev pub name_state : Env → List ℕ → Gives State
name_state v x w = local_state v x (look_up_option x v.scope.locals) w

-- a member of the module of this stem; Out alone has no text
abbrev pub member_state : List ℕ → Option Linked → List ℕ → Gives State
member_state m None x w = if same_name m (codes "Out") then went (at_procedure m x) w else stuck w
member_state m (Some l) x w = global_state l x (look_up x l.scope.globals) w

-- ---- calls

-- What a call of a declared procedure does: the stem of its module, its name, the place of the call, how many cells there
-- were before its arguments, and what its parameters stand for.
abbrev pub Calls : Type 0
Calls = List ℕ → List ℕ → At → ℕ → List Spot → Gives Operand

abbrev pub params_of : Linked → Option Found → Option (List ParamTree)
params_of m None = None
params_of m (Some f) = Some (signature_of m.source.stem f.before f.procedure).params

abbrev pub params_found : Env → List ℕ → Option Linked → Option (List ParamTree)
params_found v x None = None
params_found v x (Some m) = params_of m (procedure_in v.modules x m)

-- an open array has the lengths of what it is given
abbrev pub closed : TyTree → TyTree → TyTree
closed (open_ty t) (array_ty n u) = array_ty n (closed t u)
closed (open_ty t) (string_ty n) = array_ty n t
closed t u = t

abbrev pub type_of : Operand → TyTree
type_of (structured t vs) = t
type_of (single (values.Str x)) = string_ty (length x)
type_of (single v) = unknown_ty
type_of nothing = unknown_ty

abbrev pub own_record : TyTree → Option RecordTree
own_record (record_ty r) = Some r
own_record _ = None

abbrev pub or_record : Option RecordTree → Option RecordTree → Option RecordTree
or_record None r = r
or_record (Some r) s = Some r

abbrev pub actual_of : Spot → Option RecordTree
actual_of s = or_record s.actual (own_record s.ty)

-- a VAR parameter stands for the variable, and keeps the type that this has
abbrev pub lent : TyTree → Spot → Spot
lent t s = record { place = s.place; ty = closed t s.ty; actual = actual_of s }

-- cells of its own for a value parameter
abbrev pub copied : TyTree → At → Operand → Gives Spot
copied t at x w = then_do (fitted (closed t (type_of x)) at x w) (λ vs w1. went (record { place = length w1.cells; ty = closed t (type_of x); actual = None }) (with_cells w1 (w1.cells ++ vs)))

abbrev pub passed_as : ParamTree → Argument → Gives Spot
passed_as p e w = if p.by_var then then_do (e.spot w) (λ s w1. went (lent p.ty s) w1) else then_do (e.value w) (λ x w1. copied p.ty e.at x w1)

abbrev pub passed : List ParamTree → List Argument → Gives (List Spot)
passed [] [] w = went [] w
passed (p ∷ ps) (e ∷ es) w = then_do (passed_as p e w) (λ s w1. then_do (passed ps es w1) (λ ss w2. went (s ∷ ss) w2))
passed _ _ w = stuck w

abbrev pub all_values : List Argument → Gives (List Operand)
all_values [] w = went [] w
all_values (e ∷ es) w = then_do (e.value w) (λ x w1. then_do (all_values es w1) (λ xs w2. went (x ∷ xs) w2))

-- a call with its arguments; where no declared procedure has the name it is one of Out
abbrev pub called_with : Calls → List ℕ → List ℕ → At → Option (List ParamTree) → List Argument → Gives Operand
called_with c m x at (Some ps) es w = then_do (passed ps es w) (λ spots w1. c m x at (length w.cells) spots w1)
called_with c m x at None es w = then_do (all_values es w) (λ xs w1. out_called x xs w1)

abbrev pub call_state : Calls → Env → At → State → List Argument → Gives State
call_state c v at (at_procedure m x) es w = then_do (called_with c m x at (params_found v x (linked_as m v.modules)) es w) (λ y w1. went (at_operand y) w1)
call_state c v at (at_word p) es w = then_do (word_called p at es w) (λ y w1. went (at_operand y) w1)
call_state c v at _ es w = stuck w

-- ---- type guards and tests

abbrev pub is_of : Spot → Option TyTree → Option RecordTree → Option Bool
is_of s (Some t) (Some r) = Some (is_or_extends (record_ty r) t)
is_of s _ _ = None

abbrev pub truth_or_stuck : Option Bool → Gives Operand
truth_or_stuck None w = stuck w
truth_or_stuck (Some b) w = went (single (values.Boolean b)) w

abbrev pub tested : Spot → Option TyTree → Gives Operand
tested s t w = truth_or_stuck (is_of s t (actual_of s)) w

abbrev pub guarded : At → Spot → Option TyTree → Option Bool → Gives State
guarded at s (Some t) (Some true) w = went (at_spot (record { place = s.place; ty = t; actual = s.actual })) w
guarded at s (Some t) (Some false) w = trap traps.Guard at w
guarded at s _ _ w = stuck w

-- a call and a type guard have one form
abbrev pub call_or_guard : Calls → Env → At → At → State → Option TyTree → List Argument → Gives State
call_or_guard c v at bracket (at_spot s) t es w = guarded bracket s t (is_of s t (actual_of s)) w
call_or_guard c v at bracket x t es w = call_state c v at x es w

-- ---- what a designator gives at its end

abbrev pub operand_of : Calls → Env → At → State → Gives Operand
operand_of c v at (at_spot s) w = contents s w
operand_of c v at (at_operand x) w = went x w
operand_of c v at (at_procedure m x) w = called_with c m x at (params_found v x (linked_as m v.modules)) [] w
operand_of c v at _ w = stuck w

-- an expression has a value
abbrev pub value_alone : Operand → Gives Operand
value_alone nothing w = stuck w
value_alone x w = went x w

abbrev pub spot_of : State → Gives Spot
spot_of (at_spot s) w = went s w
spot_of _ w = stuck w

abbrev pub field_state : Env → State → List ℕ → Gives State
field_state v (at_spot s) x w = then_do (field v.own.source.stem x s.ty s.place w) (λ f w1. went (at_spot f) w1)
field_state v (at_module m) x w = member_state m (linked_as m v.modules) x w
field_state v _ x w = stuck w

-- a variable alone has elements
abbrev pub of_variable : State → (Spot → Gives Spot) → Gives State
of_variable (at_spot s) go w = then_do (go s w) (λ e w1. went (at_spot e) w1)
of_variable _ go w = stuck w

-- ---- operators

abbrev pub relation_of_sort : Relator → Op
relation_of_sort relators.Equal = ops.Equal
relation_of_sort relators.Unequal = ops.Unequal
relation_of_sort relators.Less = ops.Less
relation_of_sort relators.LessEqual = ops.LessEqual
relation_of_sort relators.Greater = ops.Greater
relation_of_sort relators.GreaterEqual = ops.GreaterEqual
relation_of_sort relators.In = ops.In
relation_of_sort relators.Is = ops.Equal

abbrev pub two_sides : Op → At → Gives Operand → Gives Operand → Gives Operand
two_sides o at left right w = then_do (left w) (λ x w1. then_do (right w1) (λ y w2. operated o at x y w2))

-- IS looks at the variable, every other relation at two values
abbrev pub related : Relator → At → Gives Spot → Option TyTree → Gives Operand → Gives Operand → Gives Operand
related relators.Is at spot t left right w = then_do (spot w) (λ s w1. tested s t w1)
related o at spot t left right w = two_sides (relation_of_sort o) at left right w

-- `&` and OR look at the second side only where the first doesn't decide
abbrev pub added : AddOperator → At → Operand → Gives Operand → Gives Operand
added adds.Or at x right w = chosen x (λ w1. went (single (values.Boolean true)) w1) (λ w1. then_do (right w1) (λ y w2. truth_alone y w2)) w
added o at x right w = then_do (right w) (λ y w1. operated (add_op o) at x y w1)

abbrev pub multiplied : MulOperator → At → Operand → Gives Operand → Gives Operand
multiplied muls.And at x right w = chosen x (λ w1. then_do (right w1) (λ y w2. truth_alone y w2)) (λ w1. went (single (values.Boolean false)) w1) w
multiplied o at x right w = then_do (right w) (λ y w1. operated (mul_op o) at x y w1)

abbrev pub with_sign : Env → Option Signed → Operand → Gives Operand
with_sign v None x w = went x w
with_sign v (Some s) x w = signed (sign_op s.sign) (place_in v s.span) x w

abbrev pub negated : Operand → Gives Operand
negated x w = signed ops.Not (record { stem = []; offset = 0 }) x w

-- an end of an element of a set
abbrev pub end_or_trap : At → Option ℕ → Gives ℕ
end_or_trap at None w = trap traps.Range at w
end_or_trap at (Some k) w = went k w

abbrev pub set_end : At → Operand → Gives ℕ
set_end at (single (values.Integer n)) w = end_or_trap at (below 32 n) w
set_end at _ w = stuck w

-- ---- the trees

abbrev mutual
  pub expr_does : Calls → Env → ExprTree → Gives Operand
  expr_does c v (expr_of left no_relation) w = simple_does c v left w
  expr_does c v (expr_of left (relation_of o span right)) w = related o (place_in v span) (λ w1. simple_spot c v left w1) (bare_type v.scope (bare_simple right)) (λ w1. simple_does c v left w1) (λ w1. simple_does c v right w1) w

  pub simple_does : Calls → Env → SimpleTree → Gives Operand
  simple_does c v (simple_of sign first more) w = then_do (term_does c v first w) (λ x w1. then_do (with_sign v sign x w1) (λ y w2. addends_do c v y more w2))

  pub addends_do : Calls → Env → Operand → AddendsTree → Gives Operand
  addends_do c v x no_addends w = went x w
  addends_do c v x (more_addends o span t more) w = then_do (added o (place_in v span) x (λ w1. term_does c v t w1) w) (λ y w1. addends_do c v y more w1)

  pub term_does : Calls → Env → TermTree → Gives Operand
  term_does c v (term_of first more) w = then_do (factor_does c v first w) (λ x w1. multipliers_do c v x more w1)

  pub multipliers_do : Calls → Env → Operand → MultipliersTree → Gives Operand
  multipliers_do c v x no_multipliers w = went x w
  multipliers_do c v x (more_multipliers o span f more) w = then_do (multiplied o (place_in v span) x (λ w1. factor_does c v f w1) w) (λ y w1. multipliers_do c v y more w1)

  pub factor_does : Calls → Env → FactorTree → Gives Operand
  factor_does c v (integer_factor n) w = went (single (values.Integer n.value)) w
  factor_does c v (string_factor s) w = went (single (values.Str s.value)) w
  factor_does c v (true_factor span) w = went (single (values.Boolean true)) w
  factor_does c v (false_factor span) w = went (single (values.Boolean false)) w
  factor_does c v (set_factor (set_of a es b)) w = then_do (elements_do c v es w) (λ m w1. went (single (values.Set m)) w1)
  factor_does c v (designator_factor d) w = then_do (designator_does c v d w) (λ x w1. value_alone x w1)
  factor_does c v (group_factor a e b) w = expr_does c v e w
  factor_does c v (negation_factor span f) w = then_do (factor_does c v f w) (λ x w1. negated x w1)

  pub elements_do : Calls → Env → ElementsTree → Gives ℕ
  elements_do c v no_elements w = went 0 w
  elements_do c v (some_elements e more) w = then_do (element_does c v 0 e w) (λ m w1. more_elements_do c v m more w1)

  pub more_elements_do : Calls → Env → ℕ → MoreElementsTree → Gives ℕ
  more_elements_do c v m no_more_elements w = went m w
  more_elements_do c v m (more_elements comma e more) w = then_do (element_does c v m e w) (λ n w1. more_elements_do c v n more w1)

  pub element_does : Calls → Env → ℕ → ElementTree → Gives ℕ
  element_does c v m (element_of e upper) w =
      then_do (expr_does c v e w) (λ x w1. then_do (set_end (place_in v (first_of_expr e)) x w1) (λ low w2. then_do (upper_does c v low upper w2) (λ high w3. went (bit_or m (range_bits low high)) w3)))

  pub upper_does : Calls → Env → ℕ → UpperTree → Gives ℕ
  upper_does c v low no_upper w = went low w
  upper_does c v low (upper_of dots e) w = then_do (expr_does c v e w) (λ x w1. set_end (place_in v (first_of_expr e)) x w1)

  pub designator_does : Calls → Env → DesignatorTree → Gives Operand
  designator_does c v (designator_of x sels) w = then_do (name_state v x.name w) (λ s w1. then_do (selectors_do c v (place_in v x.span) s sels w1) (λ t w2. operand_of c v (place_in v x.span) t w2))

  pub designator_spot : Calls → Env → DesignatorTree → Gives Spot
  designator_spot c v (designator_of x sels) w = then_do (name_state v x.name w) (λ s w1. then_do (selectors_do c v (place_in v x.span) s sels w1) (λ t w2. spot_of t w2))

  pub selectors_do : Calls → Env → At → State → SelectorsTree → Gives State
  selectors_do c v at s no_selectors w = went s w
  selectors_do c v at s (more_selectors sel more) w = then_do (selector_does c v at s sel w) (λ t w1. selectors_do c v at t more w1)

  pub selector_does : Calls → Env → At → State → SelectorTree → Gives State
  selector_does c v at s (field_selector m) w = field_state v s m.name.name w
  selector_does c v at s (index_selector a es b) w = of_variable s (λ p w1. indices_do c v p es w1) w
  selector_does c v at s (call_selector a args b) w = call_or_guard c v at (place_in v a) s (argument_type v.scope args) (arguments_of c v args) w

  pub indices_do : Calls → Env → Spot → ExprsTree → Gives Spot
  indices_do c v s (exprs_of e more) w = then_do (expr_does c v e w) (λ x w1. then_do (element x (place_in v (first_of_expr e)) s.ty s.place w1) (λ p w2. more_indices_do c v p more w2))

  pub more_indices_do : Calls → Env → Spot → MoreExprsTree → Gives Spot
  more_indices_do c v s no_more_exprs w = went s w
  more_indices_do c v s (more_exprs comma e more) w = then_do (expr_does c v e w) (λ x w1. then_do (element x (place_in v (first_of_expr e)) s.ty s.place w1) (λ p w2. more_indices_do c v p more w2))

  -- arguments: what each would do
  pub arguments_of : Calls → Env → ArgumentsTree → List Argument
  arguments_of c v no_arguments = []
  arguments_of c v (some_arguments es) = exprs_as c v es

  pub exprs_as : Calls → Env → ExprsTree → List Argument
  exprs_as c v (exprs_of e more) = record { spot = λ w. expr_spot c v e w; value = λ w. expr_does c v e w; at = place_in v (first_of_expr e) } ∷ more_exprs_as c v more

  pub more_exprs_as : Calls → Env → MoreExprsTree → List Argument
  more_exprs_as c v no_more_exprs = []
  more_exprs_as c v (more_exprs comma e more) = record { spot = λ w. expr_spot c v e w; value = λ w. expr_does c v e w; at = place_in v (first_of_expr e) } ∷ more_exprs_as c v more

  -- an expression that is a designator alone names a variable
  pub expr_spot : Calls → Env → ExprTree → Gives Spot
  expr_spot c v (expr_of left no_relation) w = simple_spot c v left w
  expr_spot c v (expr_of left (relation_of o span right)) w = stuck w

  pub simple_spot : Calls → Env → SimpleTree → Gives Spot
  simple_spot c v (simple_of None t no_addends) w = term_spot c v t w
  simple_spot c v (simple_of _ t _) w = stuck w

  pub term_spot : Calls → Env → TermTree → Gives Spot
  term_spot c v (term_of f no_multipliers) w = factor_spot c v f w
  term_spot c v (term_of f (more_multipliers o span g more)) w = stuck w

  pub factor_spot : Calls → Env → FactorTree → Gives Spot
  factor_spot c v (designator_factor d) w = designator_spot c v d w
  factor_spot c v _ w = stuck w
