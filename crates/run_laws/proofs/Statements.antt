-- What statements, calls and whole runs pay for: each statement that acts takes a step first, so nothing is owed.
use Rattle.std.proofs.Common.{ℕ, zero, suc, Bool, true, false, List, [], ◌∷◌, Option, Some, None, ℤ}
use Rattle.std.proofs.Math.IntN.{◌+ℤ◌}
use Rattle.oberon_tree.specs.FirstSpans.{first_of_expr}
use Rattle.oberon_tree.specs.Trees.{StatementsTree, statements_of, MoreStatementsTree, no_more_statements, more_statements, StatementTree, empty_statement, assign_statement, call_statement, if_statement, case_statement, while_statement, repeat_statement, for_statement, IfTree, if_of, GuardedTree, guarded_of, ElsifsTree, no_elsifs, more_elsifs, ElseTree, no_else, else_of, CaseTree, case_of, ArmTree, empty_arm, labelled_arm, MoreArmsTree, no_more_arms, more_arms, while_of, repeat_of, for_of, BodyTree, ReturnTree, ProcedureTree}
use Rattle.oberon_types.specs.declared.value.Value.{Value}
use Rattle.oberon_types.specs.declared.value.Value.TheVariants as values
use Rattle.oberon_types.specs.Folding.{whole}
use Rattle.oberon_types.specs.Types.{TyTree, integer_ty}
use Rattle.run_rules.specs.World.{World, Ran, went, stopped, Gives, then_do, At, ticks}
use Rattle.run_rules.specs.Cells.{Spot, Operand, single, structured, nothing, contents, put, fitted}
use Rattle.run_rules.specs.Expressions.{Env, place_in, Calls, expr_does, designator_does, designator_spot, name_state, spot_of}
use Rattle.run_rules.specs.Statements.{assigned, called, choice, more_turns, turns, loop_of, and_again, guarded_turn, is_false, until_turn, step_is, goes_on, go_while, or_overflow, stepped, count_turn, counted, fits, statements_do, more_statements_do, statement_does, if_does, guarded_does, elsifs_do, else_does, while_turn, elsif_turns, case_does, arm_does, arms_do, body_does, first_single, result_of, return_does, procedure_does}
use Rattle.run_laws.proofs.Paid.{Within, paid_same, then_paid, owes_more, spends, step_spends}
use Rattle.run_laws.proofs.Parts.{Pays, if_pays, then_pays, ticks_pay, contents_pay, put_pays, fitted_pays, chosen_within}
use Rattle.run_laws.proofs.Words.{Gave, gave_owes}
use Rattle.run_laws.proofs.Expressions.{CallsPay, expr_pays, designator_gave, designator_spot_pays, name_spot_pays}

-- a part that owes nothing
abbrev pub Settles : {A : Type 0} → World → Ran A → Type 0
Settles w r = Within 0 0 w r

pub then_settles : {A B : Type 0} (w : World) (r : Ran A) (go : A → Gives B) → Settles w r → ((x : A) (v : World) → Settles v (go x v)) → Settles w (then_do r go)
then_settles w r go p h = then_paid 0 0 w r go p h

-- a step pays for what stands behind it, where that owes a byte at most
pub step_pays : {A : Type 0} (w : World) (go : ℕ → Gives A) → ((x : ℕ) (v : World) → Pays v (go x v)) → Settles w (then_do (ticks 1 w) go)
step_pays w go h = step_spends w go h

pub settled_pays : {A : Type 0} (w : World) (r : Ran A) → Settles w r → Pays w r
settled_pays w r p = owes_more 0 1 w r p

-- ---- parts

assigned_pays : (at : At) (target : Gives Spot) (value : Gives Operand) (w : World) → ((v : World) → Pays v (target v)) → ((v : World) → Pays v (value v)) → Pays w (assigned at target value w)
assigned_pays at target value w h k = then_pays w (target w) _ (h w) (λ s v. then_pays v (value v) _ (k v) (λ x u. then_pays u (fitted s.ty at x u) _ (fitted_pays s.ty at x u) (λ vs t. put_pays s.place vs t)))

called_owes : (w : World) (r : Ran Operand) → Gave w r → Within {A = ℕ} 1 1 w (then_do r (λ x v. went 0 v))
called_owes w (went (single x) v) p = gave_owes w (went (single x) v) p
called_owes w (went (structured t vs) v) p = gave_owes w (went (structured t vs) v) p
called_owes w (went nothing v) p = p
called_owes w (stopped e v) p = p

choice_pays : (condition : Gives Operand) (first other : Gives ℕ) (w : World) → ((v : World) → Pays v (condition v)) → ((v : World) → Pays v (first v)) → ((v : World) → Pays v (other v)) → Pays w (choice condition first other w)
choice_pays condition first other w h k l = then_pays w (condition w) _ (h w) (λ x v. chosen_within 0 1 x first other v (k v) (l v))

-- ---- loops

more_turns_settle : (more : Bool) (others : Gives ℕ) (w : World) → Settles w (others w) → Settles w (more_turns more others w)
more_turns_settle true others w h = h
more_turns_settle false others w h = paid_same 0 w

turns_settle : (n : ℕ) (turn : Gives Bool) (w : World) → ((v : World) → Settles v (turn v)) → Settles w (turns n turn w)
turns_settle zero turn w h = paid_same 0 w
turns_settle (suc n) turn w h = then_settles w (turn w) _ (h w) (λ more v. more_turns_settle more (λ u. turns n turn u) v (turns_settle n turn v h))

loop_settles : (turn : Gives Bool) (w : World) → ((v : World) → Settles v (turn v)) → Settles w (loop_of turn w)
loop_settles turn w h = turns_settle w.left turn w h

pub and_again_settles : (body : Gives ℕ) (w : World) → Settles w (body w) → Settles w (and_again body w)
and_again_settles body w h = then_settles w (body w) _ h (λ n v. paid_same 0 v)

pub guarded_turn_settles : (condition : Gives Operand) (body : Gives ℕ) (other : Gives Bool) (w : World) → ((v : World) → Pays v (condition v)) → ((v : World) → Settles v (body v)) → ((v : World) → Settles v (other v)) → Settles w (guarded_turn condition body other w)
guarded_turn_settles condition body other w h k l = step_pays w _ (λ n v. then_pays v (condition v) _ (h v) (λ x u. chosen_within 0 1 x (and_again body) other u (settled_pays u _ (and_again_settles body u (k u))) (settled_pays u _ (l u))))

pub is_false_pays : (x : Operand) (w : World) → Pays w (is_false x w)
is_false_pays (single (values.Boolean true)) w = paid_same 0 w
is_false_pays (single (values.Boolean false)) w = paid_same 0 w
is_false_pays _ w = paid_same 1 w

pub until_turn_settles : (body : Gives ℕ) (condition : Gives Operand) (w : World) → ((v : World) → Settles v (body v)) → ((v : World) → Pays v (condition v)) → Settles w (until_turn body condition w)
until_turn_settles body condition w h k = then_settles w (body w) _ (h w) (λ n v. step_pays v _ (λ m u. then_pays u (condition u) _ (k u) (λ x t. is_false_pays x t)))

-- ---- FOR

or_overflow_pays : (at : At) (place : ℕ) (o : Option Value) (w : World) → Pays w (or_overflow at place o w)
or_overflow_pays at place (Some v) w = then_pays w (put place (v ∷ []) w) _ (put_pays place (v ∷ []) w) (λ n u. paid_same 0 u)
or_overflow_pays at place None w = paid_same 1 w

pub stepped_pays : (at : At) (c : ℤ) (s : Spot) (x : Operand) (w : World) → Pays w (stepped at c s x w)
stepped_pays at c s (single (values.Integer x)) w = or_overflow_pays at s.place (whole (x +ℤ c)) w
stepped_pays at c s _ w = paid_same 1 w

pub go_while_pays : (c : ℤ) (x b : Operand) (next : Gives Bool) (w : World) → Pays w (next w) → Pays w (go_while c x b next w)
go_while_pays c (single (values.Integer x)) (single (values.Integer b)) next w h = if_pays (goes_on c x b) w (next w) (went false w) h (paid_same 0 w)
go_while_pays c _ _ next w h = paid_same 1 w

pub count_turn_settles : (at : At) (c : ℤ) (s : Spot) (limit : Gives Operand) (body : Gives ℕ) (w : World) → ((v : World) → Pays v (limit v)) → ((v : World) → Settles v (body v)) → Settles w (count_turn at c s limit body w)
count_turn_settles at c s limit body w h k = step_pays w _ (λ n v. then_pays v (contents s v) _ (contents_pay s v) (λ x u. then_pays u (limit u) _ (h u) (λ b t.
    go_while_pays c x b (λ r. then_do (body r) (λ m r1. then_do (ticks 1 r1) (λ l r2. then_do (contents s r2) (λ y r3. stepped at c s y r3)))) t
    (settled_pays t _ (then_settles t (body t) _ (k t) (λ m r. step_pays r _ (λ l q. then_pays q (contents s q) _ (contents_pay s q) (λ y z. stepped_pays at c s y z))))))))

counted_settles : (at from_at : At) (c : ℤ) (target : Gives Spot) (from limit : Gives Operand) (body : Gives ℕ) (w : World) → ((v : World) → Pays v (target v)) → ((v : World) → Pays v (from v)) → ((v : World) → Pays v (limit v)) → ((v : World) → Settles v (body v)) → Settles w (counted at from_at c target from limit body w)
counted_settles at from_at c target from limit body w g h k l = step_pays w _ (λ n v. then_pays v (target v) _ (g v) (λ s u. then_pays u (from u) _ (h u) (λ x t. then_pays t (fitted integer_ty from_at x t) _ (fitted_pays integer_ty from_at x t) (λ vs r. then_pays r (put s.place vs r) _ (put_pays s.place vs r) (λ m q.
    then_pays q (ticks 1 q) _ (ticks_pay 1 q) (λ j z. settled_pays z _ (loop_settles (count_turn at c s limit body) z (λ y. count_turn_settles at c s limit body y k l))))))))

call_settles : (w : World) (value : Gives Operand) → ((v : World) → Gave v (value v)) → Settles w (then_do (ticks 1 w) (λ n v. called value v))
call_settles w value h = spends 1 w (λ n v. called value v) (λ n v. called_owes v (value v) (h v))

module _ (c : Calls) (good : CallsPay c) where
  mutual
    pub statements_settle : (v : Env) (b : StatementsTree) (w : World) → Settles w (statements_do c v b w)
    statements_settle v (statements_of s more) w = then_settles w (statement_does c v s w) _ (statement_settles v s w) (λ n u. more_settle v more u)

    more_settle : (v : Env) (b : MoreStatementsTree) (w : World) → Settles w (more_statements_do c v b w)
    more_settle v no_more_statements w = paid_same 0 w
    more_settle v (more_statements semicolon s more) w = then_settles w (statement_does c v s w) _ (statement_settles v s w) (λ n u. more_settle v more u)

    statement_settles : (v : Env) (s : StatementTree) (w : World) → Settles w (statement_does c v s w)
    statement_settles v empty_statement w = paid_same 0 w
    statement_settles v (assign_statement d becomes e) w = step_pays w _ (λ n u. assigned_pays (place_in v (first_of_expr e)) (λ t. designator_spot c v d t) (λ t. expr_does c v e t) u (λ t. designator_spot_pays c good v d t) (λ t. expr_pays c good v e t))
    statement_settles v (call_statement d) w = call_settles w (λ u. designator_does c v d u) (λ u. designator_gave c good v d u)
    statement_settles v (if_statement i) w = step_pays w _ (λ n u. if_pays_step v i u)
    statement_settles v (case_statement k) w = step_pays w _ (λ n u. case_pays v k u)
    statement_settles v (while_statement (while_of g rest end)) w = step_pays w _ (λ n u. settled_pays u _ (loop_settles (λ t. while_turn c v g (λ r. elsif_turns c v rest r) t) u (λ t. while_turn_settles v g (λ r. elsif_turns c v rest r) t (λ r. elsif_turns_settle v rest r))))
    statement_settles v (repeat_statement (repeat_of word b until e)) w = step_pays w _ (λ n u. settled_pays u _ (loop_settles (until_turn (λ t. statements_do c v b t) (λ t. expr_does c v e t)) u (λ t. until_turn_settles (λ r. statements_do c v b r) (λ r. expr_does c v e r) t (λ r. statements_settle v b r) (λ r. expr_pays c good v e r))))
    statement_settles v (for_statement (for_of word x becomes a to b step do_word body end)) w =
        counted_settles (place_in v word) (place_in v (first_of_expr a)) (step_is v step) (λ u. then_do (name_state v x.name u) (λ s t. spot_of s t)) (λ u. expr_does c v a u) (λ u. expr_does c v b u) (λ u. statements_do c v body u) w
        (λ u. name_spot_pays v x.name u) (λ u. expr_pays c good v a u) (λ u. expr_pays c good v b u) (λ u. statements_settle v body u)

    if_pays_step : (v : Env) (i : IfTree) (w : World) → Pays w (if_does c v i w)
    if_pays_step v (if_of g rest other end) w = guarded_pays v g (λ u. elsifs_do c v rest (λ t. else_does c v other t) u) w (λ u. elsifs_pay v rest (λ t. else_does c v other t) u (λ t. settled_pays t _ (else_settles v other t)))

    guarded_pays : (v : Env) (g : GuardedTree) (other : Gives ℕ) (w : World) → ((u : World) → Pays u (other u)) → Pays w (guarded_does c v g other w)
    guarded_pays v (guarded_of word e then_word b) other w h = choice_pays (λ u. expr_does c v e u) (λ u. statements_do c v b u) other w (λ u. expr_pays c good v e u) (λ u. settled_pays u _ (statements_settle v b u)) h

    elsifs_pay : (v : Env) (es : ElsifsTree) (other : Gives ℕ) (w : World) → ((u : World) → Pays u (other u)) → Pays w (elsifs_do c v es other w)
    elsifs_pay v no_elsifs other w h = h w
    elsifs_pay v (more_elsifs g rest) other w h = guarded_pays v g (λ u. elsifs_do c v rest other u) w (λ u. elsifs_pay v rest other u h)

    else_settles : (v : Env) (e : ElseTree) (w : World) → Settles w (else_does c v e w)
    else_settles v no_else w = paid_same 0 w
    else_settles v (else_of word b) w = statements_settle v b w

    pub while_turn_settles : (v : Env) (g : GuardedTree) (other : Gives Bool) (w : World) → ((u : World) → Settles u (other u)) → Settles w (while_turn c v g other w)
    while_turn_settles v (guarded_of word e do_word b) other w h = guarded_turn_settles (λ u. expr_does c v e u) (λ u. statements_do c v b u) other w (λ u. expr_pays c good v e u) (λ u. statements_settle v b u) h

    pub elsif_turns_settle : (v : Env) (es : ElsifsTree) (w : World) → Settles w (elsif_turns c v es w)
    elsif_turns_settle v no_elsifs w = paid_same 0 w
    elsif_turns_settle v (more_elsifs g rest) w = while_turn_settles v g (λ u. elsif_turns c v rest u) w (λ u. elsif_turns_settle v rest u)

    case_pays : (v : Env) (k : CaseTree) (w : World) → Pays w (case_does c v k w)
    case_pays v (case_of word e of_word a rest end) w = then_pays w (expr_does c v e w) _ (expr_pays c good v e w) (λ x u. arm_pays v x a (λ t. arms_do c v x rest (place_in v word) t) u (λ t. arms_pay v x rest (place_in v word) t))

    arm_pays : (v : Env) (x : Operand) (a : ArmTree) (other : Gives ℕ) (w : World) → ((u : World) → Pays u (other u)) → Pays w (arm_does c v x a other w)
    arm_pays v x empty_arm other w h = h w
    arm_pays v x (labelled_arm ls colon b) other w h = if_pays (fits v.scope x ls) w (statements_do c v b w) (other w) (settled_pays w _ (statements_settle v b w)) (h w)

    arms_pay : (v : Env) (x : Operand) (a : MoreArmsTree) (at : At) (w : World) → Pays w (arms_do c v x a at w)
    arms_pay v x no_more_arms at w = paid_same 1 w
    arms_pay v x (more_arms bar a rest) at w = arm_pays v x a (λ u. arms_do c v x rest at u) w (λ u. arms_pay v x rest at u)

  -- ---- procedures

  pub body_settles : (v : Env) (b : Option BodyTree) (w : World) → Settles w (body_does c v b w)
  body_settles v None w = paid_same 0 w
  body_settles v (Some b) w = statements_settle v b.statements w

  first_single_pays : (vs : List Value) (w : World) → Pays w (first_single vs w)
  first_single_pays (x ∷ []) w = paid_same 0 w
  first_single_pays [] w = paid_same 1 w
  first_single_pays (x ∷ y ∷ vs) w = paid_same 1 w

  result_of_pays : (at : At) (t : Option TyTree) (x : Operand) (w : World) → Pays w (result_of at t x w)
  result_of_pays at (Some t) x w = then_pays w (fitted t at x w) _ (fitted_pays t at x w) (λ vs u. first_single_pays vs u)
  result_of_pays at None x w = paid_same 1 w

  return_pays : (v : Env) (t : Option TyTree) (r : Option ReturnTree) (w : World) → Pays w (return_does c v t r w)
  return_pays v t None w = paid_same 0 w
  return_pays v t (Some r) w = then_pays w (expr_does c v r.value w) _ (expr_pays c good v r.value w) (λ x u. result_of_pays (place_in v (first_of_expr r.value)) t x u)

  pub procedure_settles : (v : Env) (p : ProcedureTree) (t : Option TyTree) (w : World) → Settles w (procedure_does c v p t w)
  procedure_settles v p t w = step_pays w _ (λ n u. then_pays u (body_does c v p.body u) _ (settled_pays u _ (body_settles v p.body u)) (λ m z. return_pays v t p.returns z))
