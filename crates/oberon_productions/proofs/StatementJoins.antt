-- Lists of the parts of statements with one more at their end, and moves of the machine at labels.
use Rattle.std.specs.Prelude.{◌≡◌, ℕ, max, false, List, [], ◌∷◌, ◌++◌, length, Some, refl}
use Rattle.std.proofs.Common.{◌∙◌, ap, arith}
use Rattle.ob_text.specs.declared.span.Span.{Span}
use Rattle.oberon_scan.specs.declared.token.Token.{Token}
use Rattle.oberon_scan.specs.declared.token.Word.{Word}
use Rattle.oberon_scan.specs.declared.token.Word.TheVariants as words
use Rattle.oberon_scan.specs.declared.token.Symbol.TheVariants as symbols
use Rattle.oberon_tree.specs.declared.expression.Expr.{Expr}
use Rattle.oberon_tree.specs.declared.statement.NextStatement.{NextStatement}
use Rattle.oberon_tree.specs.declared.statement.NextArm.{NextArm}
use Rattle.oberon_tree.specs.declared.statement.Guarded.{Guarded, roll-Guarded}
use Rattle.oberon_tree.specs.declared.statement.Statements.{Statements}
use Rattle.oberon_tree.specs.Tokens.{symbol_token, word_token}
use Rattle.oberon_tree.specs.Print.{print_expr, print_statements, print_statement, print_more_statements, print_guarded, print_elsifs, print_arm, print_more_arms}
use Rattle.oberon_tree.specs.Levels.{depth_of_expr, depth_of_statements, depth_of_statement, depth_of_more_statements, depth_of_guarded, depth_of_elsifs, depth_of_arm, depth_of_more_arms}
use Rattle.oberon_tree.specs.Memory.{expr_tree, statements_tree, statement_tree, more_statements_list, guarded_tree, elsifs_list, arm_tree, more_arms_list}
use Rattle.oberon_tree.proofs.StatementMemory.{guarded_made}
use Rattle.oberon_productions.specs.Expected.{Expected}
use Rattle.oberon_productions.specs.Expected as want
use Rattle.oberon_productions.specs.Tests.{is_literal, is_ident, next_is}
use Rattle.oberon_productions.specs.Machine.{statements_parts, stops}
use Rattle.oberon_productions.specs.declared.stop.Stop.{Stop}
use Rattle.oberon_productions.specs.declared.stop.Stop.TheVariants as stop
use Rattle.oberon_productions.specs.Reading.{Single, FirstValue, StopsValue}
use Rattle.oberon_productions.proofs.Descending.{by_memory}
use Rattle.oberon_productions.proofs.Steps.{taken, refused, lacked}

-- ---- labels

pub single_value : (s : List Expected) {given : List Token} {print : List Token → List Token} {rest : List Token} → Single is_literal given print rest → stops (want.value ∷ s) given ≡ stops s rest
single_value s {given} {print} {rest} q = ap (stops (want.value ∷ s)) q.whole ∙ taken want.value [] s q.token rest (rw q.holds refl)

pub single_arm : (d : ℕ) (s : List Expected) {given : List Token} {print : List Token → List Token} {rest : List Token} → Single is_literal given print rest → stops (want.arm d ∷ s) given ≡ stops (want.some_label_upper ∷ want.labels ∷ want.symbol symbols.Colon ∷ statements_parts d ++ s) rest
single_arm d s {given} {print} {rest} q = ap (stops (want.arm d ∷ s)) q.whole ∙ taken (want.arm d) (want.some_label_upper ∷ want.labels ∷ want.symbol symbols.Colon ∷ statements_parts d) s q.token rest (rw q.holds refl)

pub refuse_value : (s : List Expected) (given : List Token) → next_is is_literal given ≡ false → next_is is_ident given ≡ false → stops (want.value ∷ s) given ≡ Some (length given)
refuse_value s [] e f = lacked want.value s refl
refuse_value s (t ∷ ts) e f = refused want.value s t ts (rw (e, f) refl)

pub first_then : {given : List Token} {print : List Token → List Token} {rest all : List Token} → FirstValue given print rest → rest ≡ all → given ≡ print all
first_then {given} {print} {rest} {all} q e = q.spelled ∙ ap print e

pub value_memory : (given : List Token) (e : Stop) → e ≡ stop.NoMemory → StopsValue given e
value_memory given e h = record { value = by_memory (want.value ∷ []) given e h; arm = λ d. by_memory (want.arm d ∷ []) given e h }

-- ---- lists with one more item

pub more_statements_push : (xs : List NextStatement) (x : NextStatement) (rest : List Token) → print_more_statements (more_statements_list (xs ++ x ∷ [])) rest ≡ print_more_statements (more_statements_list xs) (symbol_token symbols.Semicolon x.semicolon ∷ print_statement (statement_tree x.statement) rest)
more_statements_push [] x rest = refl
more_statements_push (y ∷ ys) x rest = ap (λ (l : List Token). symbol_token symbols.Semicolon y.semicolon ∷ print_statement (statement_tree y.statement) l) (more_statements_push ys x rest)

pub more_statements_depth : (xs : List NextStatement) (x : NextStatement) → depth_of_more_statements (more_statements_list (xs ++ x ∷ [])) ≡ max (depth_of_more_statements (more_statements_list xs)) (depth_of_statement (statement_tree x.statement))
more_statements_depth [] x = omega arith
more_statements_depth (y ∷ ys) x = omega (arith, more_statements_depth ys x)

pub more_arms_push : (xs : List NextArm) (x : NextArm) (rest : List Token) → print_more_arms (more_arms_list (xs ++ x ∷ [])) rest ≡ print_more_arms (more_arms_list xs) (symbol_token symbols.Bar x.bar ∷ print_arm (arm_tree x.arm) rest)
more_arms_push [] x rest = refl
more_arms_push (y ∷ ys) x rest = ap (λ (l : List Token). symbol_token symbols.Bar y.bar ∷ print_arm (arm_tree y.arm) l) (more_arms_push ys x rest)

pub more_arms_depth : (xs : List NextArm) (x : NextArm) → depth_of_more_arms (more_arms_list (xs ++ x ∷ [])) ≡ max (depth_of_more_arms (more_arms_list xs)) (depth_of_arm (arm_tree x.arm))
more_arms_depth [] x = omega arith
more_arms_depth (y ∷ ys) x = omega (arith, more_arms_depth ys x)

guards_push : (w : Word) (xs : List Guarded) (x : Guarded) (rest : List Token) → print_elsifs w (elsifs_list (xs ++ x ∷ [])) rest ≡ print_elsifs w (elsifs_list xs) (print_guarded words.Elsif w (guarded_tree x) rest)
guards_push w [] x rest = refl
guards_push w (y ∷ ys) x rest = ap (print_guarded words.Elsif w (guarded_tree y)) (guards_push w ys x rest)

pub elsifs_push : (w : Word) (xs : List Guarded) (span : Span) (e : Expr) (joint : Span) (ss : Statements) (rest : List Token) → print_elsifs w (elsifs_list (xs ++ roll-Guarded (record { word = span; condition = e; body_word = joint; body = ss }) ∷ [])) rest ≡ print_elsifs w (elsifs_list xs) (word_token words.Elsif span ∷ print_expr (expr_tree e) (word_token w joint ∷ print_statements (statements_tree ss) rest))
elsifs_push w xs span e joint ss rest =
    guards_push w xs (roll-Guarded (record { word = span; condition = e; body_word = joint; body = ss })) rest ∙ ap (λ g. print_elsifs w (elsifs_list xs) (print_guarded words.Elsif w g rest)) (guarded_made span e joint ss)

guards_depth : (xs : List Guarded) (x : Guarded) → depth_of_elsifs (elsifs_list (xs ++ x ∷ [])) ≡ max (depth_of_elsifs (elsifs_list xs)) (depth_of_guarded (guarded_tree x))
guards_depth [] x = omega arith
guards_depth (y ∷ ys) x = omega (arith, guards_depth ys x)

pub elsifs_depth : (xs : List Guarded) (span : Span) (e : Expr) (joint : Span) (ss : Statements) → depth_of_elsifs (elsifs_list (xs ++ roll-Guarded (record { word = span; condition = e; body_word = joint; body = ss }) ∷ [])) ≡ max (depth_of_elsifs (elsifs_list xs)) (max (depth_of_expr (expr_tree e)) (depth_of_statements (statements_tree ss)))
elsifs_depth xs span e joint ss =
    guards_depth xs (roll-Guarded (record { word = span; condition = e; body_word = joint; body = ss })) ∙ ap (λ g. max (depth_of_elsifs (elsifs_list xs)) (depth_of_guarded g)) (guarded_made span e joint ss)
