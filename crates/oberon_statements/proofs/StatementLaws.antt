-- The loops over parts of statements in memory: one turn, and the end.
use Rattle.std.specs.Prelude.{◌≡◌, ℕ, ◌+◌, ◌<◌, ◌≤◌, not, List, [], length, drop, refl}
use Rattle.std.proofs.Common.{ap, sym, ◌∙◌, get_or}
use Rattle.std.proofs.lemmas.List.{at_drop_more, at_drop_all}
use Rattle.ob_text.specs.declared.code.Code.TheVariants as codes_of
use Rattle.oberon_tree.specs.declared.statement.Case.{Case, out-Case}
use Rattle.oberon_tree.specs.declared.statement.Guarded.{Guarded}
use Rattle.oberon_tree.specs.declared.statement.If.{If, out-If}
use Rattle.oberon_tree.specs.declared.statement.NextArm.{NextArm}
use Rattle.oberon_tree.specs.declared.statement.NextStatement.{NextStatement}
use Rattle.oberon_tree.specs.declared.statement.Statements.{Statements, out-Statements}
use Rattle.oberon_tree.specs.declared.statement.While.{While, out-While}
use Rattle.oberon_tree.specs.FirstSpans.{first_of_expr}
use Rattle.oberon_tree.specs.Memory.{expr_tree, statements_tree, more_statements_list, statement_tree, if_tree, guarded_tree, elsifs_list, else_option, case_tree, arm_tree, more_arms_list, while_tree}
use Rattle.oberon_tree.specs.Trees.{statements_of, more_statements, if_statement, if_of, case_statement, case_of, while_statement, while_of, MoreArmsTree, more_arms, more_elsifs}
use Rattle.oberon_tree.proofs.StatementMemory.{statements_out, if_out, case_out, while_out}
use Rattle.oberon_rules.specs.Scopes.{Scopes, Said, row}
use Rattle.oberon_rules.specs.Expressions.{expr_is, ty_of}
use Rattle.oberon_rules.specs.ExpressionRules.{value_says}
use Rattle.oberon_rules.specs.Statements.{CaseKind, Interval, case_kind, is_case_type, statements_say, more_statements_say, statement_says, guarded_says, elsifs_say, else_says, arm_says, arm_behind, arms_say}
use Rattle.oberon_infer.specs.declared.said.Said.{Said as OwnSaid}
use Rattle.oberon_infer.specs.Adds.{Goes, Adds}
use Rattle.oberon_infer.proofs.AddsLaws.{adds_then, adds_as, goes_on, goes_end}
use Rattle.oberon_statements.specs.declared.judged.CaseLabels.{CaseLabels}
use Rattle.oberon_statements.specs.Labels.{Knows, Judges}
use Rattle.oberon_statements.proofs.Left.{LeftArms}

module _ (me : List ℕ) (s : Scopes) where
  -- ---- statements behind one another

  statements_step : (xs : List NextStatement) (n : ℕ) (x : NextStatement) → n < length xs → x ≡ get_or xs n x → more_statements_list (drop n xs) ≡ more_statements x.semicolon (statement_tree x.statement) (more_statements_list (drop (n + 1) xs))
  statements_step xs n x h is = at_drop_more more_statements_list xs n x h ∙ ap (λ (y : NextStatement). more_statements y.semicolon (statement_tree y.statement) (more_statements_list (drop (n + 1) xs))) (sym is)

  pub statements_turn : (xs : List NextStatement) (n : ℕ) (x : NextStatement) {f : List Said → List Said} {a b c : List OwnSaid} → n < length xs → x ≡ get_or xs n x → Goes a b f (more_statements_say me s (more_statements_list (drop n xs))) → Adds b c (statement_says me s (statement_tree x.statement)) → Goes a c f (more_statements_say me s (more_statements_list (drop (n + 1) xs)))
  statements_turn xs n x h is g v = goes_on g v (λ rest. ap (λ t. more_statements_say me s t rest) (statements_step xs n x h is))

  pub statements_end : (t : Statements) (xs : List NextStatement) (n : ℕ) {a b c : List OwnSaid} → xs ≡ (out-Statements t).rest.items → length xs ≤ n → Adds a b (statement_says me s (statement_tree (out-Statements t).first)) → Goes b c (more_statements_say me s (more_statements_list xs)) (more_statements_say me s (more_statements_list (drop n xs))) → Adds a c (statements_say me s (statements_tree t))
  statements_end t xs n items h v g =
      adds_as (adds_then v (goes_end g (λ rest. ap (λ y. more_statements_say me s y rest) (at_drop_all more_statements_list xs n h)))) (λ rest.
      ap (λ ys. statements_say me s (statements_of (statement_tree (out-Statements t).first) (more_statements_list ys)) rest) items
      ∙ sym (ap (λ y. statements_say me s y rest) (statements_out t)))

  -- ---- conditions and what they guard

  elsifs_step : (xs : List Guarded) (n : ℕ) (x : Guarded) → n < length xs → x ≡ get_or xs n x → elsifs_list (drop n xs) ≡ more_elsifs (guarded_tree x) (elsifs_list (drop (n + 1) xs))
  elsifs_step xs n x h is = at_drop_more elsifs_list xs n x h ∙ ap (λ (y : Guarded). more_elsifs (guarded_tree y) (elsifs_list (drop (n + 1) xs))) (sym is)

  pub elsifs_turn : (xs : List Guarded) (n : ℕ) (x : Guarded) {f : List Said → List Said} {a b c : List OwnSaid} → n < length xs → x ≡ get_or xs n x → Goes a b f (elsifs_say me s (elsifs_list (drop n xs))) → Adds b c (guarded_says me s (guarded_tree x)) → Goes a c f (elsifs_say me s (elsifs_list (drop (n + 1) xs)))
  elsifs_turn xs n x h is g v = goes_on g v (λ rest. ap (λ t. elsifs_say me s t rest) (elsifs_step xs n x h is))

  pub elsifs_end : (xs : List Guarded) (n : ℕ) {a b : List OwnSaid} → length xs ≤ n → Goes a b (elsifs_say me s (elsifs_list xs)) (elsifs_say me s (elsifs_list (drop n xs))) → Adds a b (elsifs_say me s (elsifs_list xs))
  elsifs_end xs n h g = goes_end g (λ rest. ap (λ y. elsifs_say me s y rest) (at_drop_all elsifs_list xs n h))

  -- ---- arms behind one another

  pub arms_left : (k : CaseKind) (earlier : List Interval) (all : MoreArmsTree) (old : List OwnSaid) (c : CaseLabels) → Knows c k earlier → LeftArms me s k earlier all all old old c
  arms_left k earlier all old c known = record { now = earlier; knows = known; says = record { goes = λ rest. refl } }

  arms_step : (xs : List NextArm) (n : ℕ) (x : NextArm) → n < length xs → x ≡ get_or xs n x → more_arms_list (drop n xs) ≡ more_arms x.bar (arm_tree x.arm) (more_arms_list (drop (n + 1) xs))
  arms_step xs n x h is = at_drop_more more_arms_list xs n x h ∙ ap (λ (y : NextArm). more_arms y.bar (arm_tree y.arm) (more_arms_list (drop (n + 1) xs))) (sym is)

  pub arms_turn : (k : CaseKind) (earlier : List Interval) (all : MoreArmsTree) (xs : List NextArm) (n : ℕ) (x : NextArm) (c d : CaseLabels) {old mid new : List OwnSaid} → n < length xs → x ≡ get_or xs n x → (p : LeftArms me s k earlier all (more_arms_list (drop n xs)) old mid c) → Judges mid new d k (arm_says me s k p.now (arm_tree x.arm)) (arm_behind s k p.now (arm_tree x.arm)) → LeftArms me s k earlier all (more_arms_list (drop (n + 1) xs)) old new d
  arms_turn k earlier all xs n x c d h is p j = record {
    now = arm_behind s k p.now (arm_tree x.arm);
    knows = j.knows;
    says = goes_on p.says j.says (λ rest. ap (λ t. arms_say me s k p.now t rest) (arms_step xs n x h is));
  }

  pub arms_end : (k : CaseKind) (earlier : List Interval) (xs : List NextArm) (n : ℕ) (c : CaseLabels) {old new : List OwnSaid} → length xs ≤ n → LeftArms me s k earlier (more_arms_list xs) (more_arms_list (drop n xs)) old new c → Adds old new (arms_say me s k earlier (more_arms_list xs))
  arms_end k earlier xs n c h p = goes_end p.says (λ rest. ap (λ t. arms_say me s k p.now t rest) (at_drop_all more_arms_list xs n h))

  pub case_end : (t : Case) (xs : List NextArm) (n : ℕ) (l m r : CaseLabels) {a b c d : List OwnSaid} → xs ≡ (out-Case t).rest.items → length xs ≤ n
      → Knows l (case_kind (ty_of (expr_is me s (expr_tree (out-Case t).value)))) []
      → Adds a b (λ rest. value_says me s (expr_tree (out-Case t).value) (row (not (is_case_type (ty_of (expr_is me s (expr_tree (out-Case t).value))))) (first_of_expr (expr_tree (out-Case t).value)) codes_of.BadOperand rest))
      → ((k : CaseKind) (earlier : List Interval) → Knows l k earlier → Judges b c m k (arm_says me s k earlier (arm_tree (out-Case t).first)) (arm_behind s k earlier (arm_tree (out-Case t).first)))
      → ((k : CaseKind) (earlier : List Interval) → Knows m k earlier → LeftArms me s k earlier (more_arms_list xs) (more_arms_list (drop n xs)) c d r)
      → Adds a d (statement_says me s (case_statement (case_tree t)))
  case_end t xs n l m r items h known v first left =
      let k = case_kind (ty_of (expr_is me s (expr_tree (out-Case t).value))) in
      let j = first k [] known in
      adds_as (adds_then (adds_then v j.says) (arms_end k (arm_behind s k [] (arm_tree (out-Case t).first)) xs n r h (left k (arm_behind s k [] (arm_tree (out-Case t).first)) j.knows))) (λ rest.
      ap (λ ys. statement_says me s (case_statement (case_of (out-Case t).word (expr_tree (out-Case t).value) (out-Case t).of (arm_tree (out-Case t).first) (more_arms_list ys) (out-Case t).end)) rest) items
      ∙ sym (ap (λ y. statement_says me s (case_statement y) rest) (case_out t)))

  -- ---- single statements

  pub if_says : (x : If) (xs : List Guarded) (rest : List Said) → xs ≡ (out-If x).rest.items → guarded_says me s (guarded_tree (out-If x).first) (elsifs_say me s (elsifs_list xs) (else_says me s (else_option (out-If x).otherwise) rest)) ≡ statement_says me s (if_statement (if_tree x)) rest
  if_says x xs rest items =
      ap (λ ys. statement_says me s (if_statement (if_of (guarded_tree (out-If x).first) (elsifs_list ys) (else_option (out-If x).otherwise) (out-If x).end)) rest) items
      ∙ sym (ap (λ y. statement_says me s (if_statement y) rest) (if_out x))

  pub while_says : (x : While) (xs : List Guarded) (rest : List Said) → xs ≡ (out-While x).rest.items → guarded_says me s (guarded_tree (out-While x).first) (elsifs_say me s (elsifs_list xs) rest) ≡ statement_says me s (while_statement (while_tree x)) rest
  while_says x xs rest items =
      ap (λ ys. statement_says me s (while_statement (while_of (guarded_tree (out-While x).first) (elsifs_list ys) (out-While x).end)) rest) items
      ∙ sym (ap (λ y. statement_says me s (while_statement y) rest) (while_out x))
