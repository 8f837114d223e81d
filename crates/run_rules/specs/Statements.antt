-- What statements do (section 9), and calls of procedures (section 10).
use Rattle.std.specs.Prelude.{ℕ, zero, suc, ◌+◌, ◌-◌, nat_lt, nat_le, Bool, true, false, ◌&&◌, not, if◌then◌else◌, List, [], ◌∷◌, ◌++◌, take, drop, length, int_lt, Option, Some, None, ℤ, pos, negsuc}
use Rattle.std.proofs.Math.IntN.{◌+ℤ◌}
use Rattle.std.specs.List.{list_any}
use Rattle.std.specs.Ordering.{int_cmp, is_le, is_ge}
use Rattle.oberon_tree.specs.declared.statement.Label.{Label}
use Rattle.oberon_tree.specs.FirstSpans.{first_of_expr}
use Rattle.oberon_tree.specs.Trees.{LabelsTree, StepTree, no_step, step_of, StatementsTree, statements_of, MoreStatementsTree, no_more_statements, more_statements, StatementTree, empty_statement, assign_statement, call_statement, if_statement, case_statement, while_statement, repeat_statement, for_statement, IfTree, if_of, GuardedTree, guarded_of, ElsifsTree, no_elsifs, more_elsifs, ElseTree, no_else, else_of, CaseTree, case_of, ArmTree, empty_arm, labelled_arm, MoreArmsTree, no_more_arms, more_arms, while_of, repeat_of, for_of, BodyTree, ReturnTree, ProcedureTree}
use Rattle.oberon_types.specs.declared.value.Value.{Value}
use Rattle.oberon_types.specs.declared.value.Value.TheVariants as values
use Rattle.oberon_types.specs.Folding.{whole}
use Rattle.oberon_types.specs.Types.{TyTree, integer_ty}
use Rattle.oberon_rules.specs.Scopes.{Entry, Scopes}
use Rattle.oberon_rules.specs.Statements.{Interval, whole_interval, char_interval, interval_of, low_of, high_of, label_list}
use Rattle.oberon_rules.specs.TypeRules.{constant_is}
use Rattle.oberon_rules.specs.Procedures.{inside_body, signature_of}
use Rattle.run_rules.specs.declared.trap_kind.TrapKind.TheVariants as traps
use Rattle.run_rules.specs.World.{went, stopped, out_of_steps, Gives, then_do, At, trap, stuck, ticks}
use Rattle.run_rules.specs.Cells.{Spot, Operand, single, nothing, contents, put, fitted}
use Rattle.run_rules.specs.Operators.{chosen}
use Rattle.run_rules.specs.Linked.{Bound, Linked, linked_as, Found, procedure_in, variables_from, cells_from}
use Rattle.run_rules.specs.Expressions.{Env, place_in, Calls, expr_does, designator_does, designator_spot, name_state, spot_of}

-- ---- parts of statements; each gives nothing that is used

abbrev pub assigned : At → Gives Spot → Gives Operand → Gives ℕ
assigned at target value w = then_do (target w) (λ s w1. then_do (value w1) (λ x w2. then_do (fitted s.ty at x w2) (λ vs w3. put s.place vs w3)))

abbrev pub called : Gives Operand → Gives ℕ
called value w = then_do (value w) (λ x w1. went 0 w1)

abbrev pub choice : Gives Operand → Gives ℕ → Gives ℕ → Gives ℕ
choice condition first other w = then_do (condition w) (λ x w1. chosen x first other w1)

-- ---- loops

-- A loop with at most n turns, each of which tells whether there is another. A turn takes a step, so no loop has more
-- turns than there are steps left.
abbrev pub more_turns : Bool → Gives ℕ → Gives ℕ
more_turns true others w = others w
more_turns false others w = went 0 w

abbrev pub turns : ℕ → Gives Bool → Gives ℕ
turns zero turn w = stopped out_of_steps w
turns (suc n) turn w = then_do (turn w) (λ more w1. more_turns more (λ w2. turns n turn w2) w1)

abbrev pub loop_of : Gives Bool → Gives ℕ
loop_of turn w = turns w.left turn w

-- a body, behind which there is another turn
abbrev pub and_again : Gives ℕ → Gives Bool
and_again body w = then_do (body w) (λ n w1. went true w1)

-- a condition takes a step
abbrev pub guarded_turn : Gives Operand → Gives ℕ → Gives Bool → Gives Bool
guarded_turn condition body other w = then_do (ticks 1 w) (λ n w1. then_do (condition w1) (λ x w2. chosen x (and_again body) other w2))

abbrev pub is_false : Operand → Gives Bool
is_false (single (values.Boolean true)) w = went false w
is_false (single (values.Boolean false)) w = went true w
is_false _ w = stuck w

abbrev pub until_turn : Gives ℕ → Gives Operand → Gives Bool
until_turn body condition w = then_do (body w) (λ n w1. then_do (ticks 1 w1) (λ m w2. then_do (condition w2) (λ x w3. is_false x w3)))

-- ---- FOR v := a TO b BY c is v := a; WHILE v <= b DO S; v := v + c END, with >= for c < 0

abbrev pub step_value : Option Value → ℤ
step_value (Some (values.Integer c)) = c
step_value _ = pos 1

abbrev pub step_is : Env → StepTree → ℤ
step_is v no_step = pos 1
step_is v (step_of word e) = step_value (constant_is v.own.source.stem v.scope e)

abbrev pub goes_on : ℤ → ℤ → ℤ → Bool
goes_on (pos c) x b = is_le (int_cmp x b)
goes_on (negsuc c) x b = is_ge (int_cmp x b)

abbrev pub go_while : ℤ → Operand → Operand → Gives Bool → Gives Bool
go_while c (single (values.Integer x)) (single (values.Integer b)) next w = if goes_on c x b then next w else went false w
go_while c _ _ next w = stuck w

abbrev pub or_overflow : At → ℕ → Option Value → Gives Bool
or_overflow at place (Some v) w = then_do (put place (v ∷ []) w) (λ n w1. went true w1)
or_overflow at place None w = trap traps.Overflow at w

abbrev pub stepped : At → ℤ → Spot → Operand → Gives Bool
stepped at c s (single (values.Integer x)) w = or_overflow at s.place (whole (x +ℤ c)) w
stepped at c s _ w = stuck w

abbrev pub count_turn : At → ℤ → Spot → Gives Operand → Gives ℕ → Gives Bool
count_turn at c s limit body w =
    then_do (ticks 1 w) (λ n w1. then_do (contents s w1) (λ x w2. then_do (limit w2) (λ b w3.
    go_while c x b (λ w4. then_do (body w4) (λ m w5. then_do (ticks 1 w5) (λ k w6. then_do (contents s w6) (λ y w7. stepped at c s y w7)))) w3)))

abbrev pub counted : At → At → ℤ → Gives Spot → Gives Operand → Gives Operand → Gives ℕ → Gives ℕ
counted at from_at c target from limit body w =
    then_do (ticks 1 w) (λ n w1. then_do (target w1) (λ s w2. then_do (from w2) (λ x w3. then_do (fitted integer_ty from_at x w3) (λ vs w4. then_do (put s.place vs w4) (λ m w5.
    then_do (ticks 1 w5) (λ k w6. loop_of (count_turn at c s limit body) w6))))))

-- ---- CASE

abbrev pub is_within : Operand → Option Interval → Bool
is_within (single (values.Integer x)) (Some (whole_interval a b)) = not (int_lt x a) && not (int_lt b x)
is_within (single (values.Char c)) (Some (char_interval a b)) = nat_le a c && nat_le c b
is_within _ _ = false

abbrev pub fits : Scopes → Operand → LabelsTree → Bool
fits s x ls = list_any (λ (l : Label). is_within x (interval_of (low_of s l) (high_of s l))) (label_list ls)

-- ---- the trees

abbrev mutual
  pub statements_do : Calls → Env → StatementsTree → Gives ℕ
  statements_do c v (statements_of s more) w = then_do (statement_does c v s w) (λ n w1. more_statements_do c v more w1)

  pub more_statements_do : Calls → Env → MoreStatementsTree → Gives ℕ
  more_statements_do c v no_more_statements w = went 0 w
  more_statements_do c v (more_statements semicolon s more) w = then_do (statement_does c v s w) (λ n w1. more_statements_do c v more w1)

  -- each but the empty one begins with a step; FOR has the steps of what it stands for
  pub statement_does : Calls → Env → StatementTree → Gives ℕ
  statement_does c v empty_statement w = went 0 w
  statement_does c v (assign_statement d becomes e) w = then_do (ticks 1 w) (λ n w1. assigned (place_in v (first_of_expr e)) (λ w2. designator_spot c v d w2) (λ w2. expr_does c v e w2) w1)
  statement_does c v (call_statement d) w = then_do (ticks 1 w) (λ n w1. called (λ w2. designator_does c v d w2) w1)
  statement_does c v (if_statement i) w = then_do (ticks 1 w) (λ n w1. if_does c v i w1)
  statement_does c v (case_statement k) w = then_do (ticks 1 w) (λ n w1. case_does c v k w1)
  statement_does c v (while_statement (while_of g rest end)) w = then_do (ticks 1 w) (λ n w1. loop_of (λ w2. while_turn c v g (λ w3. elsif_turns c v rest w3) w2) w1)
  statement_does c v (repeat_statement (repeat_of word b until e)) w = then_do (ticks 1 w) (λ n w1. loop_of (until_turn (λ w2. statements_do c v b w2) (λ w2. expr_does c v e w2)) w1)
  statement_does c v (for_statement (for_of word x becomes a to b step do_word body end)) w =
      counted (place_in v word) (place_in v (first_of_expr a)) (step_is v step) (λ w1. then_do (name_state v x.name w1) (λ s w2. spot_of s w2)) (λ w1. expr_does c v a w1) (λ w1. expr_does c v b w1) (λ w1. statements_do c v body w1) w

  pub if_does : Calls → Env → IfTree → Gives ℕ
  if_does c v (if_of g rest other end) w = guarded_does c v g (λ w1. elsifs_do c v rest (λ w2. else_does c v other w2) w1) w

  pub guarded_does : Calls → Env → GuardedTree → Gives ℕ → Gives ℕ
  guarded_does c v (guarded_of word e then_word b) other w = choice (λ w1. expr_does c v e w1) (λ w1. statements_do c v b w1) other w

  pub elsifs_do : Calls → Env → ElsifsTree → Gives ℕ → Gives ℕ
  elsifs_do c v no_elsifs other w = other w
  elsifs_do c v (more_elsifs g rest) other w = guarded_does c v g (λ w1. elsifs_do c v rest other w1) w

  pub else_does : Calls → Env → ElseTree → Gives ℕ
  else_does c v no_else w = went 0 w
  else_does c v (else_of word b) w = statements_do c v b w

  -- the first true arm of a WHILE, behind which all are tried again
  pub while_turn : Calls → Env → GuardedTree → Gives Bool → Gives Bool
  while_turn c v (guarded_of word e do_word b) other w = guarded_turn (λ w1. expr_does c v e w1) (λ w1. statements_do c v b w1) other w

  pub elsif_turns : Calls → Env → ElsifsTree → Gives Bool
  elsif_turns c v no_elsifs w = went false w
  elsif_turns c v (more_elsifs g rest) w = while_turn c v g (λ w1. elsif_turns c v rest w1) w

  pub case_does : Calls → Env → CaseTree → Gives ℕ
  case_does c v (case_of word e of_word a rest end) w = then_do (expr_does c v e w) (λ x w1. arm_does c v x a (λ w2. arms_do c v x rest (place_in v word) w2) w1)

  pub arm_does : Calls → Env → Operand → ArmTree → Gives ℕ → Gives ℕ
  arm_does c v x empty_arm other w = other w
  arm_does c v x (labelled_arm ls colon b) other w = if fits v.scope x ls then statements_do c v b w else other w

  pub arms_do : Calls → Env → Operand → MoreArmsTree → At → Gives ℕ
  arms_do c v x no_more_arms at w = trap traps.NoCase at w
  arms_do c v x (more_arms bar a rest) at w = arm_does c v x a (λ w1. arms_do c v x rest at w1) w

-- ---- calls

abbrev pub body_does : Calls → Env → Option BodyTree → Gives ℕ
body_does c v None w = went 0 w
body_does c v (Some b) w = statements_do c v b.statements w

-- a result is one value, and of type BYTE within its range
abbrev pub first_single : List Value → Gives Operand
first_single (x ∷ []) w = went (single x) w
first_single _ w = stuck w

abbrev pub result_of : At → Option TyTree → Operand → Gives Operand
result_of at (Some t) x w = then_do (fitted t at x w) (λ vs w1. first_single vs w1)
result_of at None x w = stuck w

abbrev pub return_does : Calls → Env → Option TyTree → Option ReturnTree → Gives Operand
return_does c v t None w = went nothing w
return_does c v t (Some r) w = then_do (expr_does c v r.value w) (λ x w1. result_of (place_in v (first_of_expr r.value)) t x w1)

abbrev pub most_live : ℕ
most_live = 4194304

-- the cells of a call, its arguments' among them, count from here on
abbrev pub entered : At → ℕ → List Entry → Gives ℕ
entered at mark es w =
    let own = length w.cells - mark + length (cells_from es) in
    if nat_lt most_live (w.live + own) then trap traps.Storage at w
    else went own (record { cells = w.cells ++ cells_from es; live = w.live + own; output = w.output; left = w.left })

abbrev pub left_behind : ℕ → ℕ → Operand → Gives Operand
left_behind mark own x w = went x (record { cells = take mark w.cells; live = w.live - own; output = w.output; left = w.left })

abbrev pub entries : Option (List Entry) → List Entry
entries None = []
entries (Some es) = es

abbrev pub bound_params : List Entry → List Spot → List Bound
bound_params (e ∷ es) (s ∷ ss) = record { name = e.name; spot = s } ∷ bound_params es ss
bound_params _ _ = []

-- inside of a procedure the parameters come first among its names
abbrev pub inside_of : List Linked → Linked → Found → List Spot → ℕ → Env
inside_of ms m f spots place =
    let s = inside_body m.source.stem f.before f.procedure in
    record { modules = ms; own = m; scope = s; locals = bound_params (entries s.locals) spots ++ variables_from place (drop (length spots) (entries s.locals)) }

abbrev pub procedure_does : Calls → Env → ProcedureTree → Option TyTree → Gives Operand
procedure_does c v p t w = then_do (ticks 1 w) (λ n w1. then_do (body_does c v p.body w1) (λ m w2. return_does c v t p.returns w2))

abbrev pub found_does : Calls → List Linked → At → ℕ → List Spot → Linked → Option Found → Gives Operand
found_does c ms at mark spots m None w = stuck w
found_does c ms at mark spots m (Some f) w =
    let v = inside_of ms m f spots (length w.cells) in
    then_do (entered at mark (drop (length spots) (entries v.scope.locals)) w) (λ own w1.
    then_do (procedure_does c v f.procedure (signature_of m.source.stem f.before f.procedure).result_type w1) (λ x w2. left_behind mark own x w2))

abbrev pub module_procedure : Calls → List Linked → List ℕ → At → ℕ → List Spot → Option Linked → Gives Operand
module_procedure c ms x at mark spots None w = stuck w
module_procedure c ms x at mark spots (Some m) w = found_does c ms at mark spots m (procedure_in ms x m) w

-- calls that go no deeper than this
abbrev pub calls : List Linked → ℕ → Calls
calls ms zero m x at mark spots w = trap traps.Depth at w
calls ms (suc d) m x at mark spots w = module_procedure (calls ms d) ms x at mark spots (linked_as m ms) w
