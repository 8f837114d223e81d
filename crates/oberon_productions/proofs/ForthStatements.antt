-- The machine takes statements whole.
use Rattle.std.specs.Prelude.{◌≡◌, ℕ, zero, suc, ◌<◌, ◌≤◌, true, false, eqb, List, [], ◌∷◌, ◌++◌, Option, Some, None, refl}
use Rattle.std.proofs.Common.{◌∙◌, arith}
use Rattle.ob_text.specs.declared.span.Span.{Span}
use Rattle.oberon_scan.specs.declared.token.Token.{Token}
use Rattle.oberon_scan.specs.declared.token.Word.{Word}
use Rattle.oberon_scan.specs.declared.token.Word.TheVariants as words
use Rattle.oberon_scan.specs.declared.token.Symbol.TheVariants as symbols
use Rattle.std.proofs.Common.{inl, inr}
use Rattle.std.proofs.lemmas.Bool.Decides.{eqb_tells}
use Rattle.oberon_tree.specs.declared.statement.LabelUpper.{LabelUpper}
use Rattle.oberon_tree.specs.declared.statement.LabelValue.{LabelValue}
use Rattle.oberon_tree.specs.declared.statement.LabelValue.TheVariants as values
use Rattle.oberon_tree.specs.declared.statement.NextLabel.{NextLabel}
use Rattle.oberon_tree.specs.Tokens.{symbol_token, word_token}
use Rattle.oberon_tree.specs.Trees.{designator_of, StepTree, no_step, step_of, StatementsTree, statements_of, MoreStatementsTree, no_more_statements, more_statements, StatementTree, empty_statement, assign_statement, call_statement, if_statement, case_statement, while_statement, repeat_statement, for_statement, IfTree, if_of, GuardedTree, guarded_of, ElsifsTree, no_elsifs, more_elsifs, ElseTree, no_else, else_of, CaseTree, case_of, ArmTree, empty_arm, labelled_arm, MoreArmsTree, no_more_arms, more_arms, WhileTree, while_of, RepeatTree, repeat_of, ForTree, for_of}
use Rattle.oberon_tree.specs.Print.{print_each, print_some, print_value, print_label_upper, print_next_label, print_step, print_expr, print_statements, print_more_statements, print_statement, print_if, print_elsifs, print_else, print_case, print_arm, print_more_arms, print_while, print_repeat, print_for}
use Rattle.oberon_tree.specs.Levels.{depth_of_step, depth_of_statements, depth_of_more_statements, depth_of_statement, depth_of_if, depth_of_guarded, depth_of_elsifs, depth_of_else, depth_of_case, depth_of_arm, depth_of_more_arms, depth_of_while, depth_of_repeat, depth_of_for}
use Rattle.oberon_productions.specs.Expected.{Expected}
use Rattle.oberon_productions.specs.Expected as want
use Rattle.oberon_productions.specs.Tests.{word_code, is_symbol, is_word, is_ident, is_literal, word_reach, next_is}
use Rattle.oberon_productions.proofs.Follows.{next_reach}
use Rattle.oberon_productions.specs.Machine.{expr_parts, label_parts, statements_parts, guarded_parts, feed, stops}
use Rattle.oberon_productions.proofs.Found.{no_symbol, no_word, no_ident}
use Rattle.oberon_productions.proofs.Steps.{taken, skip, skip_statement, skip_arm}
use Rattle.oberon_productions.proofs.ForthNames.{over_member}
use Rattle.oberon_productions.proofs.ForthExpressions.{over_expr, over_selectors}

-- ---- labels

pub over_value : (v : LabelValue) (s : List Expected) (rest : List Token) → next_is (is_symbol symbols.Period) rest ≡ false → stops (want.value ∷ s) (print_value v rest) ≡ stops s rest
unfolding stops feed
over_value (values.Integer n) s rest q = refl
over_value (values.Str t) s rest q = refl
over_value (values.Named n) s rest q = over_member n.member s rest q

pub over_label_upper : (o : Option LabelUpper) (s : List Expected) (rest : List Token) → next_reach rest < 5 → stops (want.some_label_upper ∷ s) (print_some print_label_upper o rest) ≡ stops s rest
unfolding stops feed
over_label_upper None s rest q = skip want.some_label_upper (is_symbol symbols.DotDot) (want.value ∷ []) s rest refl (λ k. refl) (no_symbol symbols.DotDot rest q)
over_label_upper (Some u) s rest q = over_value u.last s rest (no_symbol symbols.Period rest (omega arith))

label_upper_next : (o : Option LabelUpper) (rest : List Token) → next_reach rest < 5 → next_reach (print_some print_label_upper o rest) < 9
label_upper_next None rest h = omega arith
label_upper_next (Some u) rest h = omega arith

more_labels_next : (xs : List NextLabel) (rest : List Token) → next_reach rest < 4 → next_reach (print_each print_next_label xs rest) < 5
more_labels_next [] rest h = omega arith
more_labels_next (x ∷ xs) rest h = omega arith

pub over_more_labels : (xs : List NextLabel) (s : List Expected) (rest : List Token) → next_reach rest < 4 → stops (want.labels ∷ s) (print_each print_next_label xs rest) ≡ stops s rest
unfolding stops feed
over_more_labels [] s rest h = skip want.labels (is_symbol symbols.Comma) (label_parts ++ want.labels ∷ []) s rest refl (λ k. refl) (no_symbol symbols.Comma rest h)
over_more_labels (x ∷ xs) s rest h =
    over_value x.label.first (want.some_label_upper ∷ want.labels ∷ s) (print_some print_label_upper x.label.upper (print_each print_next_label xs rest)) (no_symbol symbols.Period (print_some print_label_upper x.label.upper (print_each print_next_label xs rest)) (label_upper_next x.label.upper (print_each print_next_label xs rest) (more_labels_next xs rest h))) ∙ over_label_upper x.label.upper (want.labels ∷ s) (print_each print_next_label xs rest) (more_labels_next xs rest h) ∙ over_more_labels xs s rest h

-- the first token of an arm
arm_value : (v : LabelValue) (d : ℕ) (s : List Expected) (rest : List Token) → next_is (is_symbol symbols.Period) rest ≡ false → stops (want.arm d ∷ s) (print_value v rest) ≡ stops (want.some_label_upper ∷ want.labels ∷ want.symbol symbols.Colon ∷ statements_parts d ++ s) rest
unfolding stops feed
arm_value (values.Integer n) d s rest q = refl
arm_value (values.Str t) d s rest q = refl
arm_value (values.Named n) d s rest q = over_member n.member (want.some_label_upper ∷ want.labels ∷ want.symbol symbols.Colon ∷ statements_parts d ++ s) rest q

pub over_step : (x : StepTree) (d : ℕ) (s : List Expected) (rest : List Token) → depth_of_step x ≤ d → next_is (is_word words.By) rest ≡ false → next_reach rest < 6 → stops (want.some_step d ∷ s) (print_step x rest) ≡ stops s rest
unfolding stops feed
over_step no_step d s rest h q r = skip (want.some_step d) (is_word words.By) (expr_parts d) s rest refl (λ k. refl) q
over_step (step_of word e) d s rest h q r = over_expr e d s rest h r

-- ---- a word that may be one or another

pub own_code : (n : ℕ) → eqb n n ≡ true
own_code n = elim (eqb_tells n n) [ inl h ↦ h.0 | inr h ↦ absurd (h.1 refl) ]

pub take_word : (w : Word) (span : Span) (s : List Expected) (ts : List Token) → stops (want.word w ∷ s) (word_token w span ∷ ts) ≡ stops s ts
take_word w span s ts = taken (want.word w) [] s (word_token w span) ts (rw (own_code (word_code w)) refl)

-- ---- what follows

more_statements_next : (x : MoreStatementsTree) (rest : List Token) → next_reach rest < 1 → next_reach (print_more_statements x rest) < 2
more_statements_next no_more_statements rest h = omega arith
more_statements_next (more_statements semicolon one more) rest h = omega arith

elsifs_next : (x : ElsifsTree) (w : Word) (rest : List Token) → next_reach rest < 1 → next_reach (print_elsifs w x rest) < 1
elsifs_next no_elsifs w rest h = omega arith
elsifs_next (more_elsifs (guarded_of word e span ss) more) w rest h = omega arith

else_next : (x : ElseTree) (last : Span) (rest : List Token) → next_reach (print_else x (word_token words.End last ∷ rest)) < 1
else_next no_else last rest = omega arith
else_next (else_of word ss) last rest = omega arith

else_no_elsif : (x : ElseTree) (last : Span) (rest : List Token) → next_is (is_word words.Elsif) (print_else x (word_token words.End last ∷ rest)) ≡ false
else_no_elsif no_else last rest = refl
else_no_elsif (else_of word ss) last rest = refl

step_next : (x : StepTree) (span : Span) (rest : List Token) → next_reach (print_step x (word_token words.Do span ∷ rest)) < 6
step_next no_step span rest = omega arith
step_next (step_of word e) span rest = omega arith

-- what no arm begins with
pub record Calm (ts : List Token) : Type 0 where
  pub literal : next_is is_literal ts ≡ false
  pub ident : next_is is_ident ts ≡ false
  pub low : next_reach ts < 1

more_arms_calm : (x : MoreArmsTree) (last : Span) (rest : List Token) → Calm (print_more_arms x (word_token words.End last ∷ rest))
more_arms_calm no_more_arms last rest = record { literal = refl; ident = refl; low = omega arith }
more_arms_calm (more_arms bar one more) last rest = record { literal = refl; ident = refl; low = omega arith }

-- an arm of IF or WHILE without its first word
abbrev pub print_tail : Word → GuardedTree → List Token → List Token
print_tail w (guarded_of word e span ss) rest = print_expr e (word_token w span ∷ print_statements ss rest)

-- ---- the trees

mutual
  unfolding stops feed

  pub over_statements : (x : StatementsTree) (d : ℕ) (s : List Expected) (rest : List Token) → depth_of_statements x ≤ d → next_reach rest < 1 → stops (statements_parts d ++ s) (print_statements x rest) ≡ stops s rest
  over_statements (statements_of first more) d s rest h q = over_statement first d (want.statements d ∷ s) (print_more_statements more rest) (omega arith) (more_statements_next more rest q) ∙ over_more_statements more d s rest (omega arith) q

  pub over_more_statements : (x : MoreStatementsTree) (d : ℕ) (s : List Expected) (rest : List Token) → depth_of_more_statements x ≤ d → next_reach rest < 1 → stops (want.statements d ∷ s) (print_more_statements x rest) ≡ stops s rest
  over_more_statements no_more_statements d s rest h q = skip (want.statements d) (is_symbol symbols.Semicolon) (statements_parts d) s rest refl (λ k. refl) (no_symbol symbols.Semicolon rest q)
  over_more_statements (more_statements semicolon one more) d s rest h q = over_statement one d (want.statements d ∷ s) (print_more_statements more rest) (omega arith) (more_statements_next more rest q) ∙ over_more_statements more d s rest (omega arith) q

  pub over_statement : (x : StatementTree) (d : ℕ) (s : List Expected) (rest : List Token) → depth_of_statement x ≤ d → next_reach rest < 2 → stops (want.statement d ∷ s) (print_statement x rest) ≡ stops s rest
  over_statement empty_statement d s rest h q = skip_statement d s rest (no_ident rest q) (no_word words.If rest q) (no_word words.Case rest q) (no_word words.While rest q) (no_word words.Repeat rest q) (no_word words.For rest q)
  over_statement (assign_statement (designator_of name more) becomes e) d s rest h q = over_selectors more d (want.some_assigned d ∷ s) (symbol_token symbols.Becomes becomes ∷ print_expr e rest) (omega arith) (omega arith) ∙ over_expr e d s rest (omega arith) (omega arith)
  over_statement (call_statement (designator_of name more)) d s rest h q = over_selectors more d (want.some_assigned d ∷ s) rest h (omega arith) ∙ skip (want.some_assigned d) (is_symbol symbols.Becomes) (expr_parts d) s rest refl (λ k. refl) (no_symbol symbols.Becomes rest (omega arith))
  over_statement (if_statement x) d s rest h q = over_if x d s rest h
  over_statement (case_statement x) d s rest h q = over_case x d s rest h
  over_statement (while_statement x) d s rest h q = over_while x d s rest h
  over_statement (repeat_statement x) d s rest h q = over_repeat x d s rest h q
  over_statement (for_statement x) d s rest h q = over_for x d s rest h

  -- behind the first word of an arm of IF or WHILE
  pub over_tail : (x : GuardedTree) (w : Word) (d : ℕ) (s : List Expected) (rest : List Token) → word_reach w < 6 → depth_of_guarded x ≤ d → next_reach rest < 1 → stops (guarded_parts w d ++ s) (print_tail w x rest) ≡ stops s rest
  over_tail (guarded_of word e span ss) w d s rest r h q = over_expr e d (want.word w ∷ statements_parts d ++ s) (word_token w span ∷ print_statements ss rest) (omega arith) r ∙ take_word w span (statements_parts d ++ s) (print_statements ss rest) ∙ over_statements ss d s rest (omega arith) q

  pub over_elsifs : (x : ElsifsTree) (w : Word) (d : ℕ) (s : List Expected) (rest : List Token) → word_reach w < 6 → depth_of_elsifs x ≤ d → next_is (is_word words.Elsif) rest ≡ false → next_reach rest < 1 → stops (want.elsifs w d ∷ s) (print_elsifs w x rest) ≡ stops s rest
  over_elsifs no_elsifs w d s rest r h q z = skip (want.elsifs w d) (is_word words.Elsif) (guarded_parts w d ++ want.elsifs w d ∷ []) s rest refl (λ k. refl) q
  over_elsifs (more_elsifs (guarded_of word e span ss) more) w d s rest r h q z = over_tail (guarded_of word e span ss) w d (want.elsifs w d ∷ s) (print_elsifs w more rest) r (omega arith) (elsifs_next more w rest z) ∙ over_elsifs more w d s rest r (omega arith) q z

  pub over_else : (x : ElseTree) (d : ℕ) (last : Span) (s : List Expected) (rest : List Token) → depth_of_else x ≤ d → stops (want.some_else d ∷ want.word words.End ∷ s) (print_else x (word_token words.End last ∷ rest)) ≡ stops s rest
  over_else no_else d last s rest h = refl
  over_else (else_of word ss) d last s rest h = over_statements ss d (want.word words.End ∷ s) (word_token words.End last ∷ rest) h (omega arith)

  pub over_if : (x : IfTree) (d : ℕ) (s : List Expected) (rest : List Token) → depth_of_if x ≤ d → stops (want.statement d ∷ s) (print_if x rest) ≡ stops s rest
  over_if (if_of (guarded_of word e span ss) more other last) zero s rest h = absurd (omega arith)
  over_if (if_of (guarded_of word e span ss) more other last) (suc d) s rest h =
      over_tail (guarded_of word e span ss) words.Then d (want.elsifs words.Then d ∷ want.some_else d ∷ want.word words.End ∷ s) (print_elsifs words.Then more (print_else other (word_token words.End last ∷ rest))) (omega arith) (omega arith) (elsifs_next more words.Then (print_else other (word_token words.End last ∷ rest)) (else_next other last rest)) ∙ over_elsifs more words.Then d (want.some_else d ∷ want.word words.End ∷ s) (print_else other (word_token words.End last ∷ rest)) (omega arith) (omega arith) (else_no_elsif other last rest) (else_next other last rest) ∙ over_else other d last s rest (omega arith)

  pub over_case : (x : CaseTree) (d : ℕ) (s : List Expected) (rest : List Token) → depth_of_case x ≤ d → stops (want.statement d ∷ s) (print_case x rest) ≡ stops s rest
  over_case (case_of word e of_word first more last) zero s rest h = absurd (omega arith)
  over_case (case_of word e of_word first more last) (suc d) s rest h =
      over_expr e d (want.word words.Of ∷ want.arm d ∷ want.arms d ∷ want.word words.End ∷ s) (word_token words.Of of_word ∷ print_arm first (print_more_arms more (word_token words.End last ∷ rest))) (omega arith) (omega arith) ∙ over_arm first d (want.arms d ∷ want.word words.End ∷ s) (print_more_arms more (word_token words.End last ∷ rest)) (omega arith) (more_arms_calm more last rest) ∙ over_more_arms more d last s rest (omega arith)

  pub over_arm : (x : ArmTree) (d : ℕ) (s : List Expected) (rest : List Token) → depth_of_arm x ≤ d → Calm rest → stops (want.arm d ∷ s) (print_arm x rest) ≡ stops s rest
  over_arm empty_arm d s rest h q = skip_arm d s rest q.literal q.ident
  over_arm (labelled_arm ls colon ss) d s rest h q =
      arm_value ls.first.first d s (print_some print_label_upper ls.first.upper (print_each print_next_label ls.rest (symbol_token symbols.Colon colon ∷ print_statements ss rest))) (no_symbol symbols.Period (print_some print_label_upper ls.first.upper (print_each print_next_label ls.rest (symbol_token symbols.Colon colon ∷ print_statements ss rest))) (label_upper_next ls.first.upper (print_each print_next_label ls.rest (symbol_token symbols.Colon colon ∷ print_statements ss rest)) (more_labels_next ls.rest (symbol_token symbols.Colon colon ∷ print_statements ss rest) (omega arith)))) ∙ over_label_upper ls.first.upper (want.labels ∷ want.symbol symbols.Colon ∷ statements_parts d ++ s) (print_each print_next_label ls.rest (symbol_token symbols.Colon colon ∷ print_statements ss rest)) (more_labels_next ls.rest (symbol_token symbols.Colon colon ∷ print_statements ss rest) (omega arith)) ∙ over_more_labels ls.rest (want.symbol symbols.Colon ∷ statements_parts d ++ s) (symbol_token symbols.Colon colon ∷ print_statements ss rest) (omega arith) ∙ over_statements ss d s rest h q.low

  pub over_more_arms : (x : MoreArmsTree) (d : ℕ) (last : Span) (s : List Expected) (rest : List Token) → depth_of_more_arms x ≤ d → stops (want.arms d ∷ want.word words.End ∷ s) (print_more_arms x (word_token words.End last ∷ rest)) ≡ stops s rest
  over_more_arms no_more_arms d last s rest h = refl
  over_more_arms (more_arms bar one more) d last s rest h = over_arm one d (want.arms d ∷ want.word words.End ∷ s) (print_more_arms more (word_token words.End last ∷ rest)) (omega arith) (more_arms_calm more last rest) ∙ over_more_arms more d last s rest (omega arith)

  pub over_while : (x : WhileTree) (d : ℕ) (s : List Expected) (rest : List Token) → depth_of_while x ≤ d → stops (want.statement d ∷ s) (print_while x rest) ≡ stops s rest
  over_while (while_of (guarded_of word e span ss) more last) zero s rest h = absurd (omega arith)
  over_while (while_of (guarded_of word e span ss) more last) (suc d) s rest h =
      over_tail (guarded_of word e span ss) words.Do d (want.elsifs words.Do d ∷ want.word words.End ∷ s) (print_elsifs words.Do more (word_token words.End last ∷ rest)) (omega arith) (omega arith) (elsifs_next more words.Do (word_token words.End last ∷ rest) (omega arith)) ∙ over_elsifs more words.Do d (want.word words.End ∷ s) (word_token words.End last ∷ rest) (omega arith) (omega arith) refl (omega arith)

  pub over_repeat : (x : RepeatTree) (d : ℕ) (s : List Expected) (rest : List Token) → depth_of_repeat x ≤ d → next_reach rest < 2 → stops (want.statement d ∷ s) (print_repeat x rest) ≡ stops s rest
  over_repeat (repeat_of word ss until e) zero s rest h q = absurd (omega arith)
  over_repeat (repeat_of word ss until e) (suc d) s rest h q = over_statements ss d (want.word words.Until ∷ expr_parts d ++ s) (word_token words.Until until ∷ print_expr e rest) (omega arith) (omega arith) ∙ over_expr e d s rest (omega arith) (omega arith)

  pub over_for : (x : ForTree) (d : ℕ) (s : List Expected) (rest : List Token) → depth_of_for x ≤ d → stops (want.statement d ∷ s) (print_for x rest) ≡ stops s rest
  over_for (for_of word v becomes e to_word limit step do_word ss last) zero s rest h = absurd (omega arith)
  over_for (for_of word v becomes e to_word limit step do_word ss last) (suc d) s rest h =
      over_expr e d (want.word words.To ∷ expr_parts d ++ want.some_step d ∷ want.word words.Do ∷ statements_parts d ++ want.word words.End ∷ s) (word_token words.To to_word ∷ print_expr limit (print_step step (word_token words.Do do_word ∷ print_statements ss (word_token words.End last ∷ rest)))) (omega arith) (omega arith) ∙ over_expr limit d (want.some_step d ∷ want.word words.Do ∷ statements_parts d ++ want.word words.End ∷ s) (print_step step (word_token words.Do do_word ∷ print_statements ss (word_token words.End last ∷ rest))) (omega arith) (step_next step do_word (print_statements ss (word_token words.End last ∷ rest))) ∙ over_step step d (want.word words.Do ∷ statements_parts d ++ want.word words.End ∷ s) (word_token words.Do do_word ∷ print_statements ss (word_token words.End last ∷ rest)) (omega arith) refl (omega arith) ∙ over_statements ss d (want.word words.End ∷ s) (word_token words.End last ∷ rest) (omega arith) (omega arith)
