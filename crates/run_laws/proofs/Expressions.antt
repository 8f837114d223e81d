-- What expressions, designators and calls pay for.
use Rattle.std.proofs.Common.{ℕ, Bool, true, false, List, [], ◌∷◌, ◌++◌, length, Option, Some, None, arith}
use Rattle.std.specs.Prelude.{if◌then◌else◌, codes}
use Rattle.oberon_tree.specs.declared.expression.Relator.{Relator}
use Rattle.oberon_tree.specs.declared.expression.Relator.TheVariants as relators
use Rattle.oberon_tree.specs.declared.expression.Signed.{Signed}
use Rattle.oberon_tree.specs.declared.expression.AddOperator.{AddOperator}
use Rattle.oberon_tree.specs.declared.expression.AddOperator.TheVariants as adds
use Rattle.oberon_tree.specs.declared.expression.MulOperator.{MulOperator}
use Rattle.oberon_tree.specs.declared.expression.MulOperator.TheVariants as muls
use Rattle.oberon_tree.specs.FirstSpans.{first_of_expr}
use Rattle.oberon_tree.specs.Trees.{ExprTree, expr_of, no_relation, relation_of, SimpleTree, simple_of, AddendsTree, no_addends, more_addends, TermTree, term_of, MultipliersTree, no_multipliers, more_multipliers, FactorTree, integer_factor, string_factor, true_factor, false_factor, set_factor, designator_factor, group_factor, negation_factor, set_of, ElementsTree, no_elements, some_elements, MoreElementsTree, no_more_elements, more_elements, ElementTree, element_of, UpperTree, no_upper, upper_of, DesignatorTree, designator_of, SelectorsTree, no_selectors, more_selectors, SelectorTree, field_selector, index_selector, call_selector, ArgumentsTree, no_arguments, some_arguments, ExprsTree, exprs_of, MoreExprsTree, no_more_exprs, more_exprs}
use Rattle.oberon_types.specs.declared.value.Value.{Value}
use Rattle.oberon_types.specs.declared.value.Value.TheVariants as values
use Rattle.oberon_types.specs.declared.constant.Op.{Op}
use Rattle.oberon_types.specs.declared.constant.Op.TheVariants as ops
use Rattle.oberon_types.specs.Folding.{below}
use Rattle.oberon_types.specs.Types.{TyTree, same_name}
use Rattle.oberon_types.specs.Entities.{ParamTree}
use Rattle.oberon_rules.specs.Scopes.{Meaning, constant_meaning, variable_meaning, procedure_meaning, word_meaning, import_meaning, look_up}
use Rattle.oberon_rules.specs.Names.{look_up_option}
use Rattle.oberon_rules.specs.Constants.{add_op, mul_op, sign_op}
use Rattle.oberon_rules.specs.Expressions.{bare_type, bare_simple, argument_type}
use Rattle.run_rules.specs.World.{World, Ran, went, stopped, Gives, then_do, At, stuck, with_cells}
use Rattle.run_rules.specs.Cells.{Spot, Operand, single, structured, nothing, field, element, contents, fitted}
use Rattle.run_rules.specs.Operators.{truth_alone}
use Rattle.run_rules.specs.Words.{Argument, word_called}
use Rattle.run_rules.specs.Linked.{bound_to, Linked, linked_as, module_named}
use Rattle.run_rules.specs.Expressions.{Env, place_in, State, at_spot, at_operand, at_procedure, at_word, at_module, spot_state, module_state, global_state, or_predeclared, local_state, name_state, member_state, Calls, params_found, closed, type_of, copied, passed_as, passed, lent, all_values, called_with, call_state, actual_of, is_of, truth_or_stuck, tested, guarded, call_or_guard, operand_of, value_alone, spot_of, field_state, of_variable, relation_of_sort, two_sides, related, added, multiplied, with_sign, negated, end_or_trap, set_end, expr_does, simple_does, addends_do, term_does, multipliers_do, factor_does, elements_do, more_elements_do, element_does, upper_does, designator_does, designator_spot, selectors_do, selector_does, indices_do, more_indices_do, arguments_of, exprs_as, more_exprs_as, expr_spot, simple_spot, term_spot, factor_spot}
use Rattle.run_laws.proofs.Paid.{Paid, paid_same, paid_then}
use Rattle.run_laws.proofs.Parts.{Pays, if_pays, then_pays, field_pays, element_pays, contents_pay, fitted_pays, operated_pays, signed_pays, chosen_within, truth_alone_pays}
use Rattle.run_laws.proofs.Words.{ArgumentPays, ArgumentsPay, word_called_pays, Gave, pays_gave, then_gave, out_called_gave}

-- what calls of declared procedures pay for
abbrev pub CallsPay : Calls → Type 0
CallsPay c = (m x : List ℕ) (at : At) (mark : ℕ) (spots : List Spot) (w : World) → Pays w (c m x at mark spots w)

-- ---- what a designator has come to owes a byte where a call gave nothing

abbrev owed : State → ℕ
owed (at_operand nothing) = 1
owed (at_operand (single v)) = 0
owed (at_operand (structured t vs)) = 0
owed (at_spot s) = 0
owed (at_procedure m x) = 0
owed (at_word p) = 0
owed (at_module m) = 0

abbrev Came : World → Ran State → Type 0
Came w (went s v) = Paid (owed s) w v
Came w (stopped e v) = Paid 1 w v

most_owed : (s : State) (w v : World) → Paid (owed s) w v → Paid 1 w v
most_owed (at_operand nothing) w v p = p
most_owed (at_operand (single x)) w v p = record { left = p.left; output = omega (arith, p.output) }
most_owed (at_operand (structured t vs)) w v p = record { left = p.left; output = omega (arith, p.output) }
most_owed (at_spot s) w v p = record { left = p.left; output = omega (arith, p.output) }
most_owed (at_procedure m x) w v p = record { left = p.left; output = omega (arith, p.output) }
most_owed (at_word x) w v p = record { left = p.left; output = omega (arith, p.output) }
most_owed (at_module m) w v p = record { left = p.left; output = omega (arith, p.output) }

came_behind : (w v : World) → Paid 0 w v → (r : Ran State) → Came v r → Came w r
came_behind w v p (went s u) q = paid_then (owed s) w v u p q
came_behind w v p (stopped e u) q = paid_then 1 w v u p q

then_came : {A : Type 0} (w : World) (r : Ran A) (go : A → Gives State) → Pays w r → ((x : A) (v : World) → Came v (go x v)) → Came w (then_do r go)
then_came w (went x v) go p h = came_behind w v p (go x v) (h x v)
then_came w (stopped e v) go p h = p

as_operand : Operand → Gives State
as_operand y v = went (at_operand y) v

gave_came : (w : World) (r : Ran Operand) → Gave w r → Came w (then_do r (λ y v. went (at_operand y) v))
gave_came w (went (single x) v) p = p
gave_came w (went (structured t vs) v) p = p
gave_came w (went nothing v) p = p
gave_came w (stopped e v) p = p

gave_behind : (w v : World) → Paid 0 w v → (r : Ran Operand) → Gave v r → Gave w r
gave_behind w v p (went (single x) u) q = paid_then 0 w v u p q
gave_behind w v p (went (structured t vs) u) q = paid_then 0 w v u p q
gave_behind w v p (went nothing u) q = paid_then 1 w v u p q
gave_behind w v p (stopped e u) q = paid_then 1 w v u p q

value_alone_pays : (w : World) (r : Ran Operand) → Gave w r → Pays w (then_do r (λ x v. value_alone x v))
value_alone_pays w (went (single x) v) p = p
value_alone_pays w (went (structured t vs) v) p = p
value_alone_pays w (went nothing v) p = p
value_alone_pays w (stopped e v) p = p

-- ---- names

spot_state_came : (o : Option Spot) (w : World) → Came w (spot_state o w)
spot_state_came None w = paid_same 1 w
spot_state_came (Some s) w = paid_same 0 w

module_state_came : (o : Option (List ℕ)) (w : World) → Came w (module_state o w)
module_state_came None w = paid_same 1 w
module_state_came (Some m) w = paid_same 0 w

global_state_came : (m : Linked) (x : List ℕ) (o : Option Meaning) (w : World) → Came w (global_state m x o w)
global_state_came m x (Some (constant_meaning c)) w = paid_same 0 w
global_state_came m x (Some (variable_meaning t a)) w = spot_state_came (bound_to x m.variables) w
global_state_came m x (Some (procedure_meaning p)) w = paid_same 0 w
global_state_came m x (Some (import_meaning view)) w = module_state_came (module_named x m.source.tree) w
global_state_came m x (Some (word_meaning p)) w = paid_same 0 w
global_state_came m x _ w = paid_same 1 w

local_state_came : (v : Env) (x : List ℕ) (o : Option Meaning) (w : World) → Came w (local_state v x o w)
local_state_came v x (Some (constant_meaning c)) w = paid_same 0 w
local_state_came v x (Some (variable_meaning t a)) w = spot_state_came (bound_to x v.locals) w
local_state_came v x None w = global_state_came v.own x (or_predeclared x (look_up x v.scope.globals)) w
local_state_came v x _ w = paid_same 1 w

pub name_state_came : (v : Env) (x : List ℕ) (w : World) → Came w (name_state v x w)
name_state_came v x w = local_state_came v x (look_up_option x v.scope.locals) w

if_came : (q : Bool) (w : World) (r s : Ran State) → Came w r → Came w s → Came w (if q then r else s)
if_came true w r s p n = p
if_came false w r s p n = n

member_state_came : (m : List ℕ) (l : Option Linked) (x : List ℕ) (w : World) → Came w (member_state m l x w)
member_state_came m None x w = if_came (same_name m (codes "Out")) w (went (at_procedure m x) w) (stuck w) (paid_same 0 w) (paid_same 1 w)
member_state_came m (Some l) x w = global_state_came l x (look_up x l.scope.globals) w

-- ---- arguments

paid_cells : (w : World) (cells : List Value) → Paid 0 w (with_cells w cells)
paid_cells w cells = record { left = omega arith; output = omega arith }

copied_pays : (t : TyTree) (at : At) (x : Operand) (w : World) → Pays w (copied t at x w)
copied_pays t at x w = then_pays w (fitted (closed t (type_of x)) at x w) _ (fitted_pays (closed t (type_of x)) at x w) (λ vs v. paid_cells v (v.cells ++ vs))

passed_as_pays : (p : ParamTree) (e : Argument) (w : World) → ArgumentPays e → Pays w (passed_as p e w)
passed_as_pays p e w h = if_pays p.by_var w (then_do (e.spot w) (λ s v. went (lent p.ty s) v)) (then_do (e.value w) (λ x v. copied p.ty e.at x v))
    (then_pays w (e.spot w) _ (h.spot w) (λ s v. paid_same 0 v)) (then_pays w (e.value w) _ (h.value w) (λ x v. copied_pays p.ty e.at x v))

passed_pay : (ps : List ParamTree) (es : List Argument) (w : World) → ArgumentsPay es → Pays w (passed ps es w)
passed_pay [] [] w h = paid_same 0 w
passed_pay (p ∷ ps) (e ∷ es) w h = then_pays w (passed_as p e w) _ (passed_as_pays p e w h.0) (λ s v. then_pays v (passed ps es v) _ (passed_pay ps es v h.1) (λ ss u. paid_same 0 u))
passed_pay [] (e ∷ es) w h = paid_same 1 w
passed_pay (p ∷ ps) [] w h = paid_same 1 w

all_values_pay : (es : List Argument) (w : World) → ArgumentsPay es → Pays w (all_values es w)
all_values_pay [] w h = paid_same 0 w
all_values_pay (e ∷ es) w h = then_pays w (e.value w) _ (h.0.value w) (λ x v. then_pays v (all_values es v) _ (all_values_pay es v h.1) (λ xs u. paid_same 0 u))

-- ---- type guards and tests

truth_or_stuck_pays : (o : Option Bool) (w : World) → Pays w (truth_or_stuck o w)
truth_or_stuck_pays None w = paid_same 1 w
truth_or_stuck_pays (Some b) w = paid_same 0 w

guarded_came : (at : At) (s : Spot) (t : Option TyTree) (q : Option Bool) (w : World) → Came w (guarded at s t q w)
guarded_came at s (Some t) (Some true) w = paid_same 0 w
guarded_came at s (Some t) (Some false) w = paid_same 1 w
guarded_came at s _ _ w = paid_same 1 w

-- ---- operators

two_sides_pay : (o : Op) (at : At) (left right : Gives Operand) (w : World) → ((v : World) → Pays v (left v)) → ((v : World) → Pays v (right v)) → Pays w (two_sides o at left right w)
two_sides_pay o at left right w h k = then_pays w (left w) _ (h w) (λ x v. then_pays v (right v) _ (k v) (λ y u. operated_pays o at x y u))

tested_pays : (s : Spot) (t : Option TyTree) (w : World) → Pays w (tested s t w)
tested_pays s t w = truth_or_stuck_pays (is_of s t (actual_of s)) w

related_pays : (o : Relator) (at : At) (spot : Gives Spot) (t : Option TyTree) (left right : Gives Operand) (w : World) → ((v : World) → Pays v (spot v)) → ((v : World) → Pays v (left v)) → ((v : World) → Pays v (right v)) → Pays w (related o at spot t left right w)
related_pays relators.Is at spot t left right w g h k = then_pays w (spot w) _ (g w) (λ s v. tested_pays s t v)
related_pays o at spot t left right w g h k = two_sides_pay (relation_of_sort o) at left right w h k

alone_behind : (right : Gives Operand) (w : World) → ((v : World) → Pays v (right v)) → Pays w (then_do (right w) (λ y v. truth_alone y v))
alone_behind right w h = then_pays w (right w) _ (h w) (λ y v. truth_alone_pays y v)

added_pays : (o : AddOperator) (at : At) (x : Operand) (right : Gives Operand) (w : World) → ((v : World) → Pays v (right v)) → Pays w (added o at x right w)
added_pays adds.Or at x right w h = chosen_within 0 1 x (λ v. went (single (values.Boolean true)) v) (λ v. then_do (right v) (λ y u. truth_alone y u)) w (paid_same 0 w) (alone_behind right w h)
added_pays o at x right w h = then_pays w (right w) _ (h w) (λ y v. operated_pays (add_op o) at x y v)

multiplied_pays : (o : MulOperator) (at : At) (x : Operand) (right : Gives Operand) (w : World) → ((v : World) → Pays v (right v)) → Pays w (multiplied o at x right w)
multiplied_pays muls.And at x right w h = chosen_within 0 1 x (λ v. then_do (right v) (λ y u. truth_alone y u)) (λ v. went (single (values.Boolean false)) v) w (alone_behind right w h) (paid_same 0 w)
multiplied_pays o at x right w h = then_pays w (right w) _ (h w) (λ y v. operated_pays (mul_op o) at x y v)

with_sign_pays : (v : Env) (s : Option Signed) (x : Operand) (w : World) → Pays w (with_sign v s x w)
with_sign_pays v None x w = paid_same 0 w
with_sign_pays v (Some s) x w = signed_pays (sign_op s.sign) (place_in v s.span) x w

negated_pays : (x : Operand) (w : World) → Pays w (negated x w)
negated_pays x w = signed_pays ops.Not (record { stem = []; offset = 0 }) x w

end_or_trap_pays : (at : At) (o : Option ℕ) (w : World) → Pays w (end_or_trap at o w)
end_or_trap_pays at None w = paid_same 1 w
end_or_trap_pays at (Some k) w = paid_same 0 w

set_end_pays : (at : At) (x : Operand) (w : World) → Pays w (set_end at x w)
set_end_pays at (single (values.Integer n)) w = end_or_trap_pays at (below 32 n) w
set_end_pays at _ w = paid_same 1 w

-- ---- states

field_state_came : (v : Env) (s : State) (x : List ℕ) (w0 w : World) → Paid (owed s) w0 w → Came w0 (field_state v s x w)
field_state_came v (at_spot s) x w0 w p = came_behind w0 w p _ (then_came w (field v.own.source.stem x s.ty s.place w) _ (field_pays v.own.source.stem x s.ty s.place w) (λ f u. paid_same 0 u))
field_state_came v (at_module m) x w0 w p = came_behind w0 w p _ (member_state_came m (linked_as m v.modules) x w)
field_state_came v (at_operand y) x w0 w p = most_owed (at_operand y) w0 w p
field_state_came v (at_procedure m y) x w0 w p = most_owed (at_procedure m y) w0 w p
field_state_came v (at_word y) x w0 w p = most_owed (at_word y) w0 w p

spot_of_pays : (s : State) (w0 w : World) → Paid (owed s) w0 w → Pays w0 (spot_of s w)
spot_of_pays (at_spot s) w0 w p = p
spot_of_pays (at_module m) w0 w p = most_owed (at_module m) w0 w p
spot_of_pays (at_operand y) w0 w p = most_owed (at_operand y) w0 w p
spot_of_pays (at_procedure m y) w0 w p = most_owed (at_procedure m y) w0 w p
spot_of_pays (at_word y) w0 w p = most_owed (at_word y) w0 w p

came_spot : (w : World) (r : Ran State) → Came w r → Pays w (then_do r (λ t v. spot_of t v))
came_spot w (went s v) p = spot_of_pays s w v p
came_spot w (stopped e v) p = p

-- one state behind another
then_state : (w : World) (r : Ran State) (go : State → Gives State) → Came w r → ((s : State) (v : World) → Paid (owed s) w v → Came w (go s v)) → Came w (then_do r go)
then_state w (went s v) go p h = h s v p
then_state w (stopped e v) go p h = p

state_gave : (w : World) (r : Ran State) (go : State → Gives Operand) → Came w r → ((s : State) (v : World) → Paid (owed s) w v → Gave w (go s v)) → Gave w (then_do r go)
state_gave w (went s v) go p h = h s v p
state_gave w (stopped e v) go p h = p

state_pays : (w : World) (r : Ran State) (go : State → Gives Spot) → Came w r → ((s : State) (v : World) → Paid (owed s) w v → Pays w (go s v)) → Pays w (then_do r go)
state_pays w (went s v) go p h = h s v p
state_pays w (stopped e v) go p h = p

-- a variable owes nothing
of_variable_came : (s : State) (go : Spot → Gives Spot) (w0 w : World) → Paid (owed s) w0 w → ((p : Spot) → Pays w (go p w)) → Came w0 (of_variable s go w)
of_variable_came (at_spot s) go w0 w p h = came_behind w0 w p _ (then_came w (go s w) _ (h s) (λ e u. paid_same 0 u))
of_variable_came (at_module m) go w0 w p h = most_owed (at_module m) w0 w p
of_variable_came (at_operand y) go w0 w p h = most_owed (at_operand y) w0 w p
of_variable_came (at_procedure m y) go w0 w p h = most_owed (at_procedure m y) w0 w p
of_variable_came (at_word y) go w0 w p h = most_owed (at_word y) w0 w p

pub name_spot_pays : (v : Env) (x : List ℕ) (w : World) → Pays w (then_do (name_state v x w) (λ s u. spot_of s u))
name_spot_pays v x w = came_spot w (name_state v x w) (name_state_came v x w)

module _ (c : Calls) (good : CallsPay c) where
  called_with_gave : (m x : List ℕ) (at : At) (ps : Option (List ParamTree)) (es : List Argument) (w : World) → ArgumentsPay es → Gave w (called_with c m x at ps es w)
  called_with_gave m x at (Some ps) es w h = then_gave w (passed ps es w) _ (passed_pay ps es w h) (λ spots v. pays_gave v (c m x at (length w.cells) spots v) (good m x at (length w.cells) spots v))
  called_with_gave m x at None es w h = then_gave w (all_values es w) _ (all_values_pay es w h) (λ xs v. out_called_gave x xs v)

  call_state_came : (v : Env) (at : At) (s : State) (es : List Argument) (w0 w : World) → ArgumentsPay es → Paid (owed s) w0 w → Came w0 (call_state c v at s es w)
  call_state_came v at (at_procedure m x) es w0 w h p = came_behind w0 w p _ (gave_came w _ (called_with_gave m x at (params_found v x (linked_as m v.modules)) es w h))
  call_state_came v at (at_word q) es w0 w h p = came_behind w0 w p _ (gave_came w _ (pays_gave w (word_called q at es w) (word_called_pays q at es w h)))
  call_state_came v at (at_spot s) es w0 w h p = most_owed (at_spot s) w0 w p
  call_state_came v at (at_module m) es w0 w h p = most_owed (at_module m) w0 w p
  call_state_came v at (at_operand y) es w0 w h p = most_owed (at_operand y) w0 w p

  call_or_guard_came : (v : Env) (at bracket : At) (s : State) (t : Option TyTree) (es : List Argument) (w0 w : World) → ArgumentsPay es → Paid (owed s) w0 w → Came w0 (call_or_guard c v at bracket s t es w)
  call_or_guard_came v at bracket (at_spot s) t es w0 w h p = came_behind w0 w p _ (guarded_came bracket s t (is_of s t (actual_of s)) w)
  call_or_guard_came v at bracket (at_procedure m x) t es w0 w h p = call_state_came v at (at_procedure m x) es w0 w h p
  call_or_guard_came v at bracket (at_word q) t es w0 w h p = call_state_came v at (at_word q) es w0 w h p
  call_or_guard_came v at bracket (at_module m) t es w0 w h p = call_state_came v at (at_module m) es w0 w h p
  call_or_guard_came v at bracket (at_operand y) t es w0 w h p = call_state_came v at (at_operand y) es w0 w h p

  operand_of_gave : (v : Env) (at : At) (s : State) (w0 w : World) → Paid (owed s) w0 w → Gave w0 (operand_of c v at s w)
  operand_of_gave v at (at_spot s) w0 w p = gave_behind w0 w p _ (pays_gave w (contents s w) (contents_pay s w))
  operand_of_gave v at (at_operand (single x)) w0 w p = p
  operand_of_gave v at (at_operand (structured t vs)) w0 w p = p
  operand_of_gave v at (at_operand nothing) w0 w p = p
  operand_of_gave v at (at_procedure m x) w0 w p = gave_behind w0 w p _ (called_with_gave m x at (params_found v x (linked_as m v.modules)) [] w tt)
  operand_of_gave v at (at_word q) w0 w p = most_owed (at_word q) w0 w p
  operand_of_gave v at (at_module m) w0 w p = most_owed (at_module m) w0 w p

  came_operand : (v : Env) (at : At) (w : World) (r : Ran State) → Came w r → Gave w (then_do r (λ t u. operand_of c v at t u))
  came_operand v at w (went s u) p = operand_of_gave v at s w u p
  came_operand v at w (stopped e u) p = p

  -- ---- the trees

  mutual
    pub expr_pays : (v : Env) (e : ExprTree) (w : World) → Pays w (expr_does c v e w)
    expr_pays v (expr_of left no_relation) w = simple_pays v left w
    expr_pays v (expr_of left (relation_of o span right)) w = related_pays o (place_in v span) _ (bare_type v.scope (bare_simple right)) _ _ w (λ u. simple_spot_pays v left u) (λ u. simple_pays v left u) (λ u. simple_pays v right u)

    simple_pays : (v : Env) (e : SimpleTree) (w : World) → Pays w (simple_does c v e w)
    simple_pays v (simple_of sign first more) w = then_pays w (term_does c v first w) _ (term_pays v first w) (λ x u. then_pays u (with_sign v sign x u) _ (with_sign_pays v sign x u) (λ y t. addends_pay v y more t))

    addends_pay : (v : Env) (x : Operand) (e : AddendsTree) (w : World) → Pays w (addends_do c v x e w)
    addends_pay v x no_addends w = paid_same 0 w
    addends_pay v x (more_addends o span t more) w = then_pays w (added o (place_in v span) x (λ u. term_does c v t u) w) _ (added_pays o (place_in v span) x (λ u. term_does c v t u) w (λ u. term_pays v t u)) (λ y u. addends_pay v y more u)

    term_pays : (v : Env) (e : TermTree) (w : World) → Pays w (term_does c v e w)
    term_pays v (term_of first more) w = then_pays w (factor_does c v first w) _ (factor_pays v first w) (λ x u. multipliers_pay v x more u)

    multipliers_pay : (v : Env) (x : Operand) (e : MultipliersTree) (w : World) → Pays w (multipliers_do c v x e w)
    multipliers_pay v x no_multipliers w = paid_same 0 w
    multipliers_pay v x (more_multipliers o span f more) w = then_pays w (multiplied o (place_in v span) x (λ u. factor_does c v f u) w) _ (multiplied_pays o (place_in v span) x (λ u. factor_does c v f u) w (λ u. factor_pays v f u)) (λ y u. multipliers_pay v y more u)

    factor_pays : (v : Env) (f : FactorTree) (w : World) → Pays w (factor_does c v f w)
    factor_pays v (integer_factor n) w = paid_same 0 w
    factor_pays v (string_factor s) w = paid_same 0 w
    factor_pays v (true_factor span) w = paid_same 0 w
    factor_pays v (false_factor span) w = paid_same 0 w
    factor_pays v (set_factor (set_of a es b)) w = then_pays w (elements_do c v es w) _ (elements_pay v es w) (λ m u. paid_same 0 u)
    factor_pays v (designator_factor d) w = value_alone_pays w (designator_does c v d w) (designator_gave v d w)
    factor_pays v (group_factor a e b) w = expr_pays v e w
    factor_pays v (negation_factor span f) w = then_pays w (factor_does c v f w) _ (factor_pays v f w) (λ x u. negated_pays x u)

    elements_pay : (v : Env) (es : ElementsTree) (w : World) → Pays w (elements_do c v es w)
    elements_pay v no_elements w = paid_same 0 w
    elements_pay v (some_elements e more) w = then_pays w (element_does c v 0 e w) _ (element_of_pays v 0 e w) (λ m u. more_elements_pay v m more u)

    more_elements_pay : (v : Env) (m : ℕ) (es : MoreElementsTree) (w : World) → Pays w (more_elements_do c v m es w)
    more_elements_pay v m no_more_elements w = paid_same 0 w
    more_elements_pay v m (more_elements comma e more) w = then_pays w (element_does c v m e w) _ (element_of_pays v m e w) (λ n u. more_elements_pay v n more u)

    element_of_pays : (v : Env) (m : ℕ) (e : ElementTree) (w : World) → Pays w (element_does c v m e w)
    element_of_pays v m (element_of e upper) w = then_pays w (expr_does c v e w) _ (expr_pays v e w) (λ x u. then_pays u (set_end (place_in v (first_of_expr e)) x u) _ (set_end_pays (place_in v (first_of_expr e)) x u) (λ low t. then_pays t (upper_does c v low upper t) _ (upper_pays v low upper t) (λ high r. paid_same 0 r)))

    upper_pays : (v : Env) (low : ℕ) (e : UpperTree) (w : World) → Pays w (upper_does c v low e w)
    upper_pays v low no_upper w = paid_same 0 w
    upper_pays v low (upper_of dots e) w = then_pays w (expr_does c v e w) _ (expr_pays v e w) (λ x u. set_end_pays (place_in v (first_of_expr e)) x u)

    pub designator_gave : (v : Env) (d : DesignatorTree) (w : World) → Gave w (designator_does c v d w)
    designator_gave v (designator_of x sels) w = state_gave w (name_state v x.name w) _ (name_state_came v x.name w) (λ s u p. came_operand v (place_in v x.span) w (selectors_do c v (place_in v x.span) s sels u) (selectors_came v (place_in v x.span) s sels w u p))

    pub designator_spot_pays : (v : Env) (d : DesignatorTree) (w : World) → Pays w (designator_spot c v d w)
    designator_spot_pays v (designator_of x sels) w = state_pays w (name_state v x.name w) _ (name_state_came v x.name w) (λ s u p. came_spot w (selectors_do c v (place_in v x.span) s sels u) (selectors_came v (place_in v x.span) s sels w u p))

    selectors_came : (v : Env) (at : At) (s : State) (sels : SelectorsTree) (w0 w : World) → Paid (owed s) w0 w → Came w0 (selectors_do c v at s sels w)
    selectors_came v at s no_selectors w0 w p = p
    selectors_came v at s (more_selectors sel more) w0 w p = then_state w0 (selector_does c v at s sel w) _ (selector_came v at s sel w0 w p) (λ t u q. selectors_came v at t more w0 u q)

    selector_came : (v : Env) (at : At) (s : State) (sel : SelectorTree) (w0 w : World) → Paid (owed s) w0 w → Came w0 (selector_does c v at s sel w)
    selector_came v at s (field_selector m) w0 w p = field_state_came v s m.name.name w0 w p
    selector_came v at s (index_selector a es b) w0 w p = of_variable_came s (λ q u. indices_do c v q es u) w0 w p (λ q. indices_pay v q es w)
    selector_came v at s (call_selector a args b) w0 w p = call_or_guard_came v at (place_in v a) s (argument_type v.scope args) (arguments_of c v args) w0 w (arguments_pay v args) p

    indices_pay : (v : Env) (s : Spot) (es : ExprsTree) (w : World) → Pays w (indices_do c v s es w)
    indices_pay v s (exprs_of e more) w = then_pays w (expr_does c v e w) _ (expr_pays v e w) (λ x u. then_pays u (element x (place_in v (first_of_expr e)) s.ty s.place u) _ (element_pays x (place_in v (first_of_expr e)) s.ty s.place u) (λ q t. more_indices_pay v q more t))

    more_indices_pay : (v : Env) (s : Spot) (es : MoreExprsTree) (w : World) → Pays w (more_indices_do c v s es w)
    more_indices_pay v s no_more_exprs w = paid_same 0 w
    more_indices_pay v s (more_exprs comma e more) w = then_pays w (expr_does c v e w) _ (expr_pays v e w) (λ x u. then_pays u (element x (place_in v (first_of_expr e)) s.ty s.place u) _ (element_pays x (place_in v (first_of_expr e)) s.ty s.place u) (λ q t. more_indices_pay v q more t))

    arguments_pay : (v : Env) (es : ArgumentsTree) → ArgumentsPay (arguments_of c v es)
    arguments_pay v no_arguments = tt
    arguments_pay v (some_arguments es) = exprs_pay v es

    exprs_pay : (v : Env) (es : ExprsTree) → ArgumentsPay (exprs_as c v es)
    exprs_pay v (exprs_of e more) = (record { spot = λ w. expr_spot_pays v e w; value = λ w. expr_pays v e w }, more_exprs_pay v more)

    more_exprs_pay : (v : Env) (es : MoreExprsTree) → ArgumentsPay (more_exprs_as c v es)
    more_exprs_pay v no_more_exprs = tt
    more_exprs_pay v (more_exprs comma e more) = (record { spot = λ w. expr_spot_pays v e w; value = λ w. expr_pays v e w }, more_exprs_pay v more)

    pub expr_spot_pays : (v : Env) (e : ExprTree) (w : World) → Pays w (expr_spot c v e w)
    expr_spot_pays v (expr_of left no_relation) w = simple_spot_pays v left w
    expr_spot_pays v (expr_of left (relation_of o span right)) w = paid_same 1 w

    simple_spot_pays : (v : Env) (e : SimpleTree) (w : World) → Pays w (simple_spot c v e w)
    simple_spot_pays v (simple_of None t no_addends) w = term_spot_pays v t w
    simple_spot_pays v (simple_of None t (more_addends o span u more)) w = paid_same 1 w
    simple_spot_pays v (simple_of (Some s) t a) w = paid_same 1 w

    term_spot_pays : (v : Env) (e : TermTree) (w : World) → Pays w (term_spot c v e w)
    term_spot_pays v (term_of f no_multipliers) w = factor_spot_pays v f w
    term_spot_pays v (term_of f (more_multipliers o span g more)) w = paid_same 1 w

    factor_spot_pays : (v : Env) (e : FactorTree) (w : World) → Pays w (factor_spot c v e w)
    factor_spot_pays v (designator_factor d) w = designator_spot_pays v d w
    factor_spot_pays v (integer_factor n) w = paid_same 1 w
    factor_spot_pays v (string_factor s) w = paid_same 1 w
    factor_spot_pays v (true_factor s) w = paid_same 1 w
    factor_spot_pays v (false_factor s) w = paid_same 1 w
    factor_spot_pays v (set_factor s) w = paid_same 1 w
    factor_spot_pays v (group_factor a e b) w = paid_same 1 w
    factor_spot_pays v (negation_factor a f) w = paid_same 1 w
