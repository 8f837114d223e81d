-- Statements are read back in one way, before what doesn't go on with them.
use Rattle.std.specs.Prelude.{◌≡◌, ℕ, ◌<◌, Bool, true, cond, List, [], ◌∷◌, refl}
use Rattle.std.proofs.Common.{sym, ◌∙◌, ap, arith}
use Rattle.ob_text.specs.declared.span.Span.{Span}
use Rattle.oberon_scan.specs.declared.token.Token.{Token}
use Rattle.oberon_scan.specs.declared.token.TokenKind.{TokenKind}
use Rattle.oberon_scan.specs.declared.token.TokenKind.TheVariants as kinds
use Rattle.oberon_scan.specs.declared.token.Word.{Word}
use Rattle.oberon_scan.specs.declared.token.Word.TheVariants as words
use Rattle.oberon_scan.specs.declared.token.Symbol.TheVariants as symbols
use Rattle.oberon_tree.specs.declared.statement.LabelValue.{LabelValue}
use Rattle.oberon_tree.specs.declared.statement.LabelValue.TheVariants as values
use Rattle.oberon_tree.specs.Tokens.{symbol_token, word_token}
use Rattle.oberon_tree.specs.Trees.{LabelsTree, designator_of, StepTree, no_step, step_of, statements_of, MoreStatementsTree, no_more_statements, more_statements, StatementTree, empty_statement, assign_statement, call_statement, if_statement, case_statement, while_statement, repeat_statement, for_statement, if_of, GuardedTree, guarded_of, ElsifsTree, no_elsifs, more_elsifs, ElseTree, no_else, else_of, case_of, empty_arm, labelled_arm, MoreArmsTree, no_more_arms, more_arms, while_of, repeat_of, for_of}
use Rattle.oberon_tree.specs.Print.{print_value, print_labels, print_step, print_expr, print_statements, print_more_statements, print_statement, print_if, print_guarded, print_elsifs, print_else, print_case, print_arm, print_more_arms, print_while, print_repeat, print_for}
use Rattle.oberon_productions.specs.Tests.{is_word, is_ident, is_literal, reach, word_reach, next_is}
use Rattle.oberon_productions.proofs.Follows.{next_reach}
use Rattle.grammar_laws.proofs.One.{One, Under, Lacks, Any, begins, head_one, rest_one, span_one}
use Rattle.grammar_laws.proofs.Leaves.{next_code, ident_one}
use Rattle.grammar_laws.proofs.Names.{labels_one}
use Rattle.grammar_laws.proofs.Expressions.{expr_one, designator_one}

-- ---- what a statement begins with

abbrev statement_kind : TokenKind → ℕ
statement_kind (kinds.Ident x) = 1
statement_kind (kinds.Word words.If) = 2
statement_kind (kinds.Word words.Case) = 3
statement_kind (kinds.Word words.While) = 4
statement_kind (kinds.Word words.Repeat) = 5
statement_kind (kinds.Word words.For) = 6
statement_kind _ = 0

abbrev next_statement : List Token → ℕ
next_statement [] = 0
next_statement (t ∷ ts) = statement_kind t.kind

no_statement : (k : TokenKind) → reach k < 2 → statement_kind k ≡ 0
no_statement (kinds.Ident x) h = absurd (omega arith)
no_statement (kinds.Word words.If) h = absurd (omega arith)
no_statement (kinds.Word words.Case) h = absurd (omega arith)
no_statement (kinds.Word words.While) h = absurd (omega arith)
no_statement (kinds.Word words.Repeat) h = absurd (omega arith)
no_statement (kinds.Word words.For) h = absurd (omega arith)
no_statement _ h = refl

ended : (r : List Token) → Under 2 r → next_statement r ≡ 0
ended [] h = refl
ended (t ∷ ts) h = no_statement t.kind h

abbrev statement_code : StatementTree → ℕ
statement_code empty_statement = 0
statement_code (assign_statement d becomes e) = 1
statement_code (call_statement d) = 1
statement_code (if_statement x) = 2
statement_code (case_statement x) = 3
statement_code (while_statement x) = 4
statement_code (repeat_statement x) = 5
statement_code (for_statement x) = 6

statement_begins : (x : StatementTree) (r : List Token) → Under 2 r → next_statement (print_statement x r) ≡ statement_code x
statement_begins empty_statement r h = ended r h
statement_begins (assign_statement (designator_of name more) becomes e) r h = refl
statement_begins (call_statement (designator_of name more)) r h = refl
statement_begins (if_statement (if_of (guarded_of word e then_word ss) more other last)) r h = refl
statement_begins (case_statement (case_of word e of_word first more last)) r h = refl
statement_begins (while_statement (while_of (guarded_of word e do_word ss) more last)) r h = refl
statement_begins (repeat_statement (repeat_of word ss until e)) r h = refl
statement_begins (for_statement (for_of word v becomes e to_word limit step do_word ss last)) r h = refl

same_statement_code : (a b : StatementTree) (r s : List Token) → Under 2 r → Under 2 s → print_statement a r ≡ print_statement b s → statement_code a ≡ statement_code b
same_statement_code a b r s h k e = sym (statement_begins a r h) ∙ ap next_statement e ∙ statement_begins b s k

-- ---- what follows

more_statements_next : (x : MoreStatementsTree) (r : List Token) → Under 1 r → Under 2 (print_more_statements x r)
more_statements_next no_more_statements r h = omega arith
more_statements_next (more_statements semicolon one more) r h = omega arith

-- what ends the arms of IF or WHILE
record EndsArms (r : List Token) : Type 0 where
  other : Lacks (is_word words.Elsif) r
  low : Under 1 r

elsifs_next : (w : Word) (x : ElsifsTree) (r : List Token) → EndsArms r → Under 1 (print_elsifs w x r)
elsifs_next w no_elsifs r h = h.low
elsifs_next w (more_elsifs (guarded_of word e then_word ss) more) r h = omega arith

elsif_begins : (w : Word) (x : GuardedTree) (r : List Token) → next_is (is_word words.Elsif) (print_guarded words.Elsif w x r) ≡ true
elsif_begins w (guarded_of word e then_word ss) r = refl

else_ends : (x : ElseTree) (last : Span) (r : List Token) → EndsArms (print_else x (word_token words.End last ∷ r))
else_ends no_else last r = record { other = refl; low = omega arith }
else_ends (else_of word ss) last r = record { other = refl; low = omega arith }

end_ends : (last : Span) (r : List Token) → EndsArms (word_token words.End last ∷ r)
end_ends last r = record { other = refl; low = omega arith }

step_next : (x : StepTree) (span : Span) (r : List Token) → Under 6 (print_step x (word_token words.Do span ∷ r))
step_next no_step span r = omega arith
step_next (step_of word e) span r = omega arith

-- what begins a label
abbrev is_label : TokenKind → Bool
is_label k = cond (is_literal k) true (is_ident k)

-- what ends an arm of CASE
record EndsArm (r : List Token) : Type 0 where
  other : Lacks is_label r
  low : Under 1 r

arms_end : (x : MoreArmsTree) (last : Span) (r : List Token) → EndsArm (print_more_arms x (word_token words.End last ∷ r))
arms_end no_more_arms last r = record { other = refl; low = omega arith }
arms_end (more_arms bar one more) last r = record { other = refl; low = omega arith }

value_begins : (v : LabelValue) (r : List Token) → next_is is_label (print_value v r) ≡ true
value_begins (values.Integer n) r = refl
value_begins (values.Str t) r = refl
value_begins (values.Named q) r = refl

labels_begin : (ls : LabelsTree) (q r : List Token) → EndsArm r → ¬ (r ≡ print_labels ls q)
labels_begin ls q r h = begins is_label r (print_labels ls q) (value_begins ls.first.first _) h.other

-- ---- the trees

step_one : (x y : StepTree) (a b : Span) (r s : List Token) → print_step x (word_token words.Do a ∷ r) ≡ print_step y (word_token words.Do b ∷ s) → (x ≡ y) × (word_token words.Do a ∷ r ≡ word_token words.Do b ∷ s)
step_one no_step no_step a b r s e = (refl, e)
step_one no_step (step_of word y) a b r s e = absurd (begins (is_word words.By) (word_token words.Do a ∷ r) (print_step (step_of word y) (word_token words.Do b ∷ s)) refl refl e)
step_one (step_of word x) no_step a b r s e = absurd (begins (is_word words.By) (word_token words.Do b ∷ s) (print_step (step_of word x) (word_token words.Do a ∷ r)) refl refl (sym e))
step_one (step_of word x) (step_of word₂ y) a b r s e =
    let p = expr_one x y (word_token words.Do a ∷ r) (word_token words.Do b ∷ s) (omega arith) (omega arith) (rest_one e) in
    (λ i. step_of (span_one e i) (p.0 i), p.1)

mutual
  pub statements_one : One print_statements (Under 1)
  statements_one (statements_of a x) (statements_of b y) r s h k e =
      let p = statement_one a b (print_more_statements x r) (print_more_statements y s) (more_statements_next x r h) (more_statements_next y s k) e in
      let q = more_statements_one x y r s h k p.1 in
      (λ i. statements_of (p.0 i) (q.0 i), q.1)

  more_statements_one : One print_more_statements (Under 1)
  more_statements_one no_more_statements no_more_statements r s h k e = (refl, e)
  more_statements_one no_more_statements (more_statements span b y) r s h k e = absurd (omega (arith, ap next_reach e))
  more_statements_one (more_statements span a x) no_more_statements r s h k e = absurd (omega (arith, ap next_reach e))
  more_statements_one (more_statements span a x) (more_statements span₂ b y) r s h k e =
      let p = statement_one a b (print_more_statements x r) (print_more_statements y s) (more_statements_next x r h) (more_statements_next y s k) (rest_one e) in
      let q = more_statements_one x y r s h k p.1 in
      (λ i. more_statements (span_one e i) (p.0 i) (q.0 i), q.1)

  statement_one : One print_statement (Under 2)
  statement_one empty_statement empty_statement r s h k e = (refl, e)
  statement_one (assign_statement a becomes x) (assign_statement b becomes₂ y) r s h k e =
      let p = designator_one a b (symbol_token symbols.Becomes becomes ∷ print_expr x r) (symbol_token symbols.Becomes becomes₂ ∷ print_expr y s) (omega arith) (omega arith) e in
      let q = expr_one x y r s (omega arith) (omega arith) (rest_one p.1) in
      (λ i. assign_statement (p.0 i) (span_one p.1 i) (q.0 i), q.1)
  statement_one (assign_statement a becomes x) (call_statement b) r s h k e =
      let p = designator_one a b (symbol_token symbols.Becomes becomes ∷ print_expr x r) s (omega arith) (omega arith) e in
      absurd (omega (arith, ap next_reach p.1))
  statement_one (call_statement a) (assign_statement b becomes y) r s h k e =
      let p = designator_one a b r (symbol_token symbols.Becomes becomes ∷ print_expr y s) (omega arith) (omega arith) e in
      absurd (omega (arith, ap next_reach p.1))
  statement_one (call_statement a) (call_statement b) r s h k e =
      let p = designator_one a b r s (omega arith) (omega arith) e in
      (λ i. call_statement (p.0 i), p.1)
  statement_one (if_statement a) (if_statement b) r s h k e =
      let p = if_one a b r s tt tt e in
      (λ i. if_statement (p.0 i), p.1)
  statement_one (case_statement a) (case_statement b) r s h k e =
      let p = case_one a b r s tt tt e in
      (λ i. case_statement (p.0 i), p.1)
  statement_one (while_statement a) (while_statement b) r s h k e =
      let p = while_one a b r s tt tt e in
      (λ i. while_statement (p.0 i), p.1)
  statement_one (repeat_statement a) (repeat_statement b) r s h k e =
      let p = repeat_one a b r s h k e in
      (λ i. repeat_statement (p.0 i), p.1)
  statement_one (for_statement a) (for_statement b) r s h k e =
      let p = for_one a b r s tt tt e in
      (λ i. for_statement (p.0 i), p.1)
  statement_one a b r s h k e = absurd (omega (arith, same_statement_code a b r s h k e))

  guarded_one : (opener w : Word) → word_reach w < 6 → One (print_guarded opener w) (Under 1)
  guarded_one opener w l (guarded_of word x then_word a) (guarded_of word₂ y then₂ b) r s h k e =
      let p = expr_one x y (word_token w then_word ∷ print_statements a r) (word_token w then₂ ∷ print_statements b s) l l (rest_one e) in
      let q = statements_one a b r s h k (rest_one p.1) in
      (λ i. guarded_of (span_one e i) (p.0 i) (span_one p.1 i) (q.0 i), q.1)

  elsifs_one : (w : Word) → word_reach w < 6 → One (print_elsifs w) EndsArms
  elsifs_one w l no_elsifs no_elsifs r s h k e = (refl, e)
  elsifs_one w l no_elsifs (more_elsifs b y) r s h k e = absurd (begins (is_word words.Elsif) r (print_guarded words.Elsif w b (print_elsifs w y s)) (elsif_begins w b (print_elsifs w y s)) h.other e)
  elsifs_one w l (more_elsifs a x) no_elsifs r s h k e = absurd (begins (is_word words.Elsif) s (print_guarded words.Elsif w a (print_elsifs w x r)) (elsif_begins w a (print_elsifs w x r)) k.other (sym e))
  elsifs_one w l (more_elsifs a x) (more_elsifs b y) r s h k e =
      let p = guarded_one words.Elsif w l a b (print_elsifs w x r) (print_elsifs w y s) (elsifs_next w x r h) (elsifs_next w y s k) e in
      let q = elsifs_one w l x y r s h k p.1 in
      (λ i. more_elsifs (p.0 i) (q.0 i), q.1)

  else_one : (x y : ElseTree) (a b : Span) (r s : List Token) → print_else x (word_token words.End a ∷ r) ≡ print_else y (word_token words.End b ∷ s) → (x ≡ y) × (word_token words.End a ∷ r ≡ word_token words.End b ∷ s)
  else_one no_else no_else a b r s e = (refl, e)
  else_one no_else (else_of word y) a b r s e = absurd (begins (is_word words.Else) (word_token words.End a ∷ r) (print_else (else_of word y) (word_token words.End b ∷ s)) refl refl e)
  else_one (else_of word x) no_else a b r s e = absurd (begins (is_word words.Else) (word_token words.End b ∷ s) (print_else (else_of word x) (word_token words.End a ∷ r)) refl refl (sym e))
  else_one (else_of word x) (else_of word₂ y) a b r s e =
      let p = statements_one x y (word_token words.End a ∷ r) (word_token words.End b ∷ s) (omega arith) (omega arith) (rest_one e) in
      (λ i. else_of (span_one e i) (p.0 i), p.1)

  if_one : One print_if Any
  if_one (if_of a x c last) (if_of b y d last₂) r s h k e =
      let u : List Token = print_else c (word_token words.End last ∷ r) in
      let v : List Token = print_else d (word_token words.End last₂ ∷ s) in
      let p = guarded_one words.If words.Then (omega arith) a b (print_elsifs words.Then x u) (print_elsifs words.Then y v) (elsifs_next words.Then x u (else_ends c last r)) (elsifs_next words.Then y v (else_ends d last₂ s)) e in
      let q = elsifs_one words.Then (omega arith) x y u v (else_ends c last r) (else_ends d last₂ s) p.1 in
      let o = else_one c d last last₂ r s q.1 in
      (λ i. if_of (p.0 i) (q.0 i) (o.0 i) (span_one o.1 i), rest_one o.1)

  case_one : One print_case Any
  case_one (case_of word c of_word a x last) (case_of word₂ d of_word₂ b y last₂) r s h k e =
      let u : List Token = word_token words.End last ∷ r in
      let v : List Token = word_token words.End last₂ ∷ s in
      let o = expr_one c d (word_token words.Of of_word ∷ print_arm a (print_more_arms x u)) (word_token words.Of of_word₂ ∷ print_arm b (print_more_arms y v)) (omega arith) (omega arith) (rest_one e) in
      let p = arm_one a b (print_more_arms x u) (print_more_arms y v) (arms_end x last r) (arms_end y last₂ s) (rest_one o.1) in
      let q = more_arms_one x y last last₂ r s p.1 in
      (λ i. case_of (span_one e i) (o.0 i) (span_one o.1 i) (p.0 i) (q.0 i) (span_one q.1 i), rest_one q.1)

  arm_one : One print_arm EndsArm
  arm_one empty_arm empty_arm r s h k e = (refl, e)
  arm_one empty_arm (labelled_arm y colon b) r s h k e = absurd (labels_begin y (symbol_token symbols.Colon colon ∷ print_statements b s) r h e)
  arm_one (labelled_arm x colon a) empty_arm r s h k e = absurd (labels_begin x (symbol_token symbols.Colon colon ∷ print_statements a r) s k (sym e))
  arm_one (labelled_arm x colon a) (labelled_arm y colon₂ b) r s h k e =
      let p = labels_one x y (symbol_token symbols.Colon colon ∷ print_statements a r) (symbol_token symbols.Colon colon₂ ∷ print_statements b s) (omega arith) (omega arith) e in
      let q = statements_one a b r s h.low k.low (rest_one p.1) in
      (λ i. labelled_arm (p.0 i) (span_one p.1 i) (q.0 i), q.1)

  more_arms_one : (x y : MoreArmsTree) (last last₂ : Span) (r s : List Token) → print_more_arms x (word_token words.End last ∷ r) ≡ print_more_arms y (word_token words.End last₂ ∷ s) → (x ≡ y) × (word_token words.End last ∷ r ≡ word_token words.End last₂ ∷ s)
  more_arms_one no_more_arms no_more_arms last last₂ r s e = (refl, e)
  more_arms_one no_more_arms (more_arms bar b y) last last₂ r s e = absurd (omega (arith, ap next_code e))
  more_arms_one (more_arms bar a x) no_more_arms last last₂ r s e = absurd (omega (arith, ap next_code e))
  more_arms_one (more_arms bar a x) (more_arms bar₂ b y) last last₂ r s e =
      let p = arm_one a b (print_more_arms x (word_token words.End last ∷ r)) (print_more_arms y (word_token words.End last₂ ∷ s)) (arms_end x last r) (arms_end y last₂ s) (rest_one e) in
      let q = more_arms_one x y last last₂ r s p.1 in
      (λ i. more_arms (span_one e i) (p.0 i) (q.0 i), q.1)

  while_one : One print_while Any
  while_one (while_of a x last) (while_of b y last₂) r s h k e =
      let u : List Token = word_token words.End last ∷ r in
      let v : List Token = word_token words.End last₂ ∷ s in
      let p = guarded_one words.While words.Do (omega arith) a b (print_elsifs words.Do x u) (print_elsifs words.Do y v) (elsifs_next words.Do x u (end_ends last r)) (elsifs_next words.Do y v (end_ends last₂ s)) e in
      let q = elsifs_one words.Do (omega arith) x y u v (end_ends last r) (end_ends last₂ s) p.1 in
      (λ i. while_of (p.0 i) (q.0 i) (span_one q.1 i), rest_one q.1)

  repeat_one : One print_repeat (Under 2)
  repeat_one (repeat_of word a until x) (repeat_of word₂ b until₂ y) r s h k e =
      let p = statements_one a b (word_token words.Until until ∷ print_expr x r) (word_token words.Until until₂ ∷ print_expr y s) (omega arith) (omega arith) (rest_one e) in
      let q = expr_one x y r s (omega arith) (omega arith) (rest_one p.1) in
      (λ i. repeat_of (span_one e i) (p.0 i) (span_one p.1 i) (q.0 i), q.1)

  for_one : One print_for Any
  for_one (for_of word a becomes c to_word l x do_word t last) (for_of word₂ b becomes₂ d to_word₂ m y do_word₂ u last₂) r s h k e =
      let ends : List Token = print_statements t (word_token words.End last ∷ r) in
      let ends₂ : List Token = print_statements u (word_token words.End last₂ ∷ s) in
      let name = rest_one e in
      let from = rest_one name in
      let steps : List Token = print_step x (word_token words.Do do_word ∷ ends) in
      let steps₂ : List Token = print_step y (word_token words.Do do_word₂ ∷ ends₂) in
      let n = expr_one c d (word_token words.To to_word ∷ print_expr l steps) (word_token words.To to_word₂ ∷ print_expr m steps₂) (omega arith) (omega arith) (rest_one from) in
      let o = expr_one l m steps steps₂ (step_next x do_word ends) (step_next y do_word₂ ends₂) (rest_one n.1) in
      let p = step_one x y do_word do_word₂ ends ends₂ o.1 in
      let q = statements_one t u (word_token words.End last ∷ r) (word_token words.End last₂ ∷ s) (omega arith) (omega arith) (rest_one p.1) in
      (λ i. for_of (span_one e i) (ident_one a b (head_one name) i) (span_one from i) (n.0 i) (span_one n.1 i) (o.0 i) (p.0 i) (span_one p.1 i) (q.0 i) (span_one q.1 i), rest_one q.1)
