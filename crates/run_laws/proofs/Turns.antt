-- Each turn of a loop takes a step, so a loop has as many turns as it needs: with more of them it does the same.
use Rattle.std.proofs.Common.{◌≡◌, ℕ, zero, suc, ◌-◌, ◌≤◌, ◌⊎◌, inl, inr, Bool, true, false, List, ℤ, refl, sym, ap, ◌∙◌, subst, arith}
use Rattle.std.specs.Prelude.{nat_le, if◌then◌else◌}
use Rattle.oberon_tree.specs.Trees.{ExprTree, StatementsTree, statements_of, MoreStatementsTree, no_more_statements, more_statements, StatementTree, empty_statement, assign_statement, call_statement, if_statement, case_statement, while_statement, repeat_statement, for_statement, GuardedTree, guarded_of, ElsifsTree, while_of, repeat_of, for_of}
use Rattle.oberon_types.specs.declared.value.Value.{Value}
use Rattle.run_rules.specs.World.{World, out_of_steps, Ran, went, stopped, Gives, then_do, At, ticks}
use Rattle.run_rules.specs.Cells.{Spot, Operand, contents}
use Rattle.run_rules.specs.Linked.{Linked}
use Rattle.run_rules.specs.Expressions.{Env, Calls, expr_does}
use Rattle.run_rules.specs.Statements.{more_turns, turns, loop_of, and_again, is_false, until_turn, stepped, count_turn, statements_do, more_statements_do, statement_does, while_turn, elsif_turns, calls}
use Rattle.run_laws.proofs.Parts.{Pays, then_pays, contents_pay, chosen_within}
use Rattle.run_laws.proofs.Expressions.{expr_pays}
use Rattle.run_laws.proofs.Statements.{Settles, then_settles, step_pays, settled_pays, and_again_settles, is_false_pays, go_while_pays, stepped_pays, statements_settle, elsif_turns_settle}
use Rattle.run_laws.proofs.Runs.{calls_pay}

-- where there is another turn, fewer steps are left
abbrev Falls : World → Ran Bool → Type 0
Falls w (went true v) = suc v.left ≤ w.left
Falls w (went false v) = Unit {0}
Falls w (stopped e v) = Unit {0}

falls_by : (w v : World) (r : Ran Bool) → suc v.left ≤ w.left → Pays v r → Falls w r
falls_by w v (went true u) h p = omega (arith, h, p.left)
falls_by w v (went false u) h p = tt
falls_by w v (stopped e u) h p = tt

step_by : (w : World) (go : ℕ → Gives Bool) → ((x : ℕ) (v : World) → Pays v (go x v)) → (q : Bool) → nat_le 1 w.left ≡ q → Falls w (then_do (if q then went 1 (record { cells = w.cells; live = w.live; output = w.output; left = w.left - 1 }) else stopped out_of_steps (record { cells = w.cells; live = w.live; output = w.output; left = 0 })) go)
step_by w go h true e = falls_by w (record { cells = w.cells; live = w.live; output = w.output; left = w.left - 1 }) (go 1 (record { cells = w.cells; live = w.live; output = w.output; left = w.left - 1 })) (grind arith) (h 1 _)
step_by w go h false e = tt

step_falls : (w : World) (go : ℕ → Gives Bool) → ((x : ℕ) (v : World) → Pays v (go x v)) → Falls w (then_do (ticks 1 w) go)
step_falls w go h = step_by w go h (nat_le 1 w.left) refl

falls_behind : (w v : World) (r : Ran Bool) → v.left ≤ w.left → Falls v r → Falls w r
falls_behind w v (went true u) h p = omega (arith, h, p)
falls_behind w v (went false u) h p = tt
falls_behind w v (stopped e u) h p = tt

then_falls : (w : World) (r : Ran ℕ) (go : ℕ → Gives Bool) → Settles w r → ((x : ℕ) (v : World) → Falls v (go x v)) → Falls w (then_do r go)
then_falls w (went x v) go p h = falls_behind w v (go x v) p.left (h x v)
then_falls w (stopped e v) go p h = tt

-- ---- where no step is left

zero_left : (w : World) → w.left ≡ 0 → w ≡ record { cells = w.cells; live = w.live; output = w.output; left = 0 }
zero_left w e = ap (λ n. record { cells = w.cells; live = w.live; output = w.output; left = n }) e

step_ends : {A : Type 0} (cells : List Value) (live : ℕ) (output : List ℕ) (go : ℕ → Gives A) → then_do (ticks 1 (record { cells = cells; live = live; output = output; left = 0 })) go ≡ stopped out_of_steps (record { cells = cells; live = live; output = output; left = 0 })
step_ends cells live output go = refl

step_stops : {A : Type 0} (w : World) → w.left ≡ 0 → (go : ℕ → Gives A) → then_do (ticks 1 w) go ≡ stopped out_of_steps w
step_stops w e go = subst (λ (u : World). then_do (ticks 1 u) go ≡ stopped out_of_steps u) (sym (zero_left w e)) (step_ends w.cells w.live w.output go)

module _ (c : Calls) where
  statement_stops : (v : Env) (s : StatementTree) (w : World) → w.left ≡ 0 → (statement_does c v s w ≡ went 0 w) ⊎ (statement_does c v s w ≡ stopped out_of_steps w)
  statement_stops v empty_statement w e = inl refl
  statement_stops v (assign_statement d becomes x) w e = inr (step_stops w e _)
  statement_stops v (call_statement d) w e = inr (step_stops w e _)
  statement_stops v (if_statement i) w e = inr (step_stops w e _)
  statement_stops v (case_statement k) w e = inr (step_stops w e _)
  statement_stops v (while_statement (while_of g rest end)) w e = inr (step_stops w e _)
  statement_stops v (repeat_statement (repeat_of word b until x)) w e = inr (step_stops w e _)
  statement_stops v (for_statement (for_of word x becomes a to b step do_word body end)) w e = inr (step_stops w e _)

  both_stop : (w : World) (r : Ran ℕ) (go : ℕ → Gives ℕ) → (r ≡ went 0 w) ⊎ (r ≡ stopped out_of_steps w) → (go 0 w ≡ went 0 w) ⊎ (go 0 w ≡ stopped out_of_steps w) → (then_do r go ≡ went 0 w) ⊎ (then_do r go ≡ stopped out_of_steps w)
  both_stop w r go (inl i) (inl j) = inl (ap (λ (o : Ran ℕ). then_do o go) i ∙ j)
  both_stop w r go (inl i) (inr j) = inr (ap (λ (o : Ran ℕ). then_do o go) i ∙ j)
  both_stop w r go (inr i) h = inr (ap (λ (o : Ran ℕ). then_do o go) i)

  more_stop : (v : Env) (b : MoreStatementsTree) (w : World) → w.left ≡ 0 → (more_statements_do c v b w ≡ went 0 w) ⊎ (more_statements_do c v b w ≡ stopped out_of_steps w)
  more_stop v no_more_statements w e = inl refl
  more_stop v (more_statements semicolon s more) w e = both_stop w (statement_does c v s w) (λ n u. more_statements_do c v more u) (statement_stops v s w e) (more_stop v more w e)

  statements_stop : (v : Env) (b : StatementsTree) (w : World) → w.left ≡ 0 → (statements_do c v b w ≡ went 0 w) ⊎ (statements_do c v b w ≡ stopped out_of_steps w)
  statements_stop v (statements_of s more) w e = both_stop w (statement_does c v s w) (λ n u. more_statements_do c v more u) (statement_stops v s w e) (more_stop v more w e)

until_stops : (w : World) → w.left ≡ 0 → (body : Gives ℕ) (condition : Gives Operand) → (body w ≡ went 0 w) ⊎ (body w ≡ stopped out_of_steps w) → until_turn body condition w ≡ stopped out_of_steps w
until_stops w e body condition (inl i) = ap (λ (o : Ran ℕ). then_do o (λ n u. then_do (ticks 1 u) (λ m t. then_do (condition t) (λ x r. is_false x r)))) i ∙ step_stops w e _
until_stops w e body condition (inr i) = ap (λ (o : Ran ℕ). then_do o (λ n u. then_do (ticks 1 u) (λ m t. then_do (condition t) (λ x r. is_false x r)))) i

-- ---- enough turns are enough

module _ (turn : Gives Bool) (falls : (w : World) → Falls w (turn w)) (stops : (w : World) → w.left ≡ 0 → turn w ≡ stopped out_of_steps w) where
  same_behind : (m n : ℕ) (w : World) (r : Ran Bool) → Falls w r → w.left ≤ suc m → w.left ≤ suc n → ((v : World) → v.left ≤ m → v.left ≤ n → turns m turn v ≡ turns n turn v) → then_do r (λ more v. more_turns more (λ u. turns m turn u) v) ≡ then_do r (λ more v. more_turns more (λ u. turns n turn u) v)
  same_behind m n w (went true v) f h k same = same v (omega (arith, f, h)) (omega (arith, f, k))
  same_behind m n w (went false v) f h k same = refl
  same_behind m n w (stopped e v) f h k same = refl

  none_left : (n : ℕ) (w : World) → w.left ≤ 0 → turns (suc n) turn w ≡ stopped out_of_steps w
  none_left n w h = ap (λ (r : Ran Bool). then_do r (λ more v. more_turns more (λ u. turns n turn u) v)) (stops w (omega (arith, h)))

  enough : (m n : ℕ) (w : World) → w.left ≤ m → w.left ≤ n → turns m turn w ≡ turns n turn w
  enough zero zero w h k = refl
  enough zero (suc n) w h k = sym (none_left n w h)
  enough (suc m) zero w h k = none_left m w k
  enough (suc m) (suc n) w h k = same_behind m n w (turn w) (falls w) h k (λ v i j. enough m n v i j)

  pub enough_turns : (n : ℕ) (w : World) → w.left ≤ n → turns n turn w ≡ loop_of turn w
  enough_turns n w h = enough n w.left w h (omega arith)

-- ---- the three loops

module _ (ms : List Linked) (d : ℕ) (v : Env) where
  while_falls : (g : GuardedTree) (other : Gives Bool) → ((u : World) → Settles u (other u)) → (w : World) → Falls w (while_turn (calls ms d) v g other w)
  while_falls (guarded_of word e do_word b) other h w = step_falls w _ (λ n u. then_pays u (expr_does (calls ms d) v e u) _ (expr_pays (calls ms d) (calls_pay ms d) v e u) (λ x t. chosen_within 0 1 x (and_again (λ r. statements_do (calls ms d) v b r)) other t (settled_pays t _ (and_again_settles (λ r. statements_do (calls ms d) v b r) t (statements_settle (calls ms d) (calls_pay ms d) v b t))) (settled_pays t _ (h t))))

  while_stops : (g : GuardedTree) (other : Gives Bool) (w : World) → w.left ≡ 0 → while_turn (calls ms d) v g other w ≡ stopped out_of_steps w
  while_stops (guarded_of word e do_word b) other w i = step_stops w i _

  pub enough_while : (g : GuardedTree) (rest : ElsifsTree) (n : ℕ) (w : World) → w.left ≤ n → turns n (λ u. while_turn (calls ms d) v g (λ t. elsif_turns (calls ms d) v rest t) u) w ≡ loop_of (λ u. while_turn (calls ms d) v g (λ t. elsif_turns (calls ms d) v rest t) u) w
  enough_while g rest n w h = enough_turns (λ u. while_turn (calls ms d) v g (λ t. elsif_turns (calls ms d) v rest t) u) (while_falls g (λ t. elsif_turns (calls ms d) v rest t) (λ t. elsif_turns_settle (calls ms d) (calls_pay ms d) v rest t)) (while_stops g (λ t. elsif_turns (calls ms d) v rest t)) n w h

  pub enough_repeat : (b : StatementsTree) (e : ExprTree) (n : ℕ) (w : World) → w.left ≤ n → turns n (until_turn (λ u. statements_do (calls ms d) v b u) (λ u. expr_does (calls ms d) v e u)) w ≡ loop_of (until_turn (λ u. statements_do (calls ms d) v b u) (λ u. expr_does (calls ms d) v e u)) w
  enough_repeat b e n w h = enough_turns (until_turn (λ u. statements_do (calls ms d) v b u) (λ u. expr_does (calls ms d) v e u))
      (λ u. then_falls u (statements_do (calls ms d) v b u) _ (statements_settle (calls ms d) (calls_pay ms d) v b u) (λ x t. step_falls t _ (λ y r. then_pays r (expr_does (calls ms d) v e r) _ (expr_pays (calls ms d) (calls_pay ms d) v e r) (λ z q. is_false_pays z q))))
      (λ u i. until_stops u i (λ t. statements_do (calls ms d) v b t) (λ t. expr_does (calls ms d) v e t) (statements_stop (calls ms d) v b u i)) n w h

  pub enough_for : (at : At) (by : ℤ) (s : Spot) (limit : ExprTree) (b : StatementsTree) (n : ℕ) (w : World) → w.left ≤ n → turns n (count_turn at by s (λ u. expr_does (calls ms d) v limit u) (λ u. statements_do (calls ms d) v b u)) w ≡ loop_of (count_turn at by s (λ u. expr_does (calls ms d) v limit u) (λ u. statements_do (calls ms d) v b u)) w
  enough_for at by s limit b n w h = enough_turns (count_turn at by s (λ u. expr_does (calls ms d) v limit u) (λ u. statements_do (calls ms d) v b u))
      (λ u. step_falls u _ (λ y t. then_pays t (contents s t) _ (contents_pay s t) (λ x r. then_pays r (expr_does (calls ms d) v limit r) _ (expr_pays (calls ms d) (calls_pay ms d) v limit r) (λ z q.
      go_while_pays by x z (λ p. then_do (statements_do (calls ms d) v b p) (λ m p1. then_do (ticks 1 p1) (λ l p2. then_do (contents s p2) (λ j p3. stepped at by s j p3)))) q
      (settled_pays q _ (then_settles q (statements_do (calls ms d) v b q) _ (statements_settle (calls ms d) (calls_pay ms d) v b q) (λ m p. step_pays p _ (λ l o. then_pays o (contents s o) _ (contents_pay s o) (λ j k. stepped_pays at by s j k)))))))))
      (λ u i. step_stops u i _) n w h
