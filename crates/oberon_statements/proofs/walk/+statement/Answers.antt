use Rattle.std.specs.Prelude.{refl}
use Rattle.std.proofs.Common.{ap, sym, ◌∙◌, subst}
use Rattle.std.proofs.lemmas.Result.{on_ok_weaker}
use Rattle.oberon_tree.specs.declared.statement.Arm.{Arm}
use Rattle.oberon_tree.specs.declared.statement.Assignment.{Assignment}
use Rattle.oberon_tree.specs.declared.statement.Case.{Case}
use Rattle.oberon_tree.specs.declared.statement.ElsePart.{out-ElsePart}
use Rattle.oberon_tree.specs.declared.statement.For.{For, out-For}
use Rattle.oberon_tree.specs.declared.statement.Guarded.{out-Guarded}
use Rattle.oberon_tree.specs.declared.statement.If.{If, out-If}
use Rattle.oberon_tree.specs.declared.statement.Repeat.{Repeat, out-Repeat}
use Rattle.oberon_tree.specs.declared.statement.Statement.{Statement}
use Rattle.oberon_tree.specs.declared.statement.While.{While}
use Rattle.oberon_tree.specs.Memory.{expr_tree, designator_tree, statements_tree, statement_tree, if_tree, guarded_tree, elsifs_list, else_option, case_tree, arm_tree, while_tree, repeat_tree, for_tree}
use Rattle.oberon_tree.specs.Trees.{assign_statement, call_statement, if_statement, case_statement, while_statement, repeat_statement, for_statement}
use Rattle.oberon_tree.proofs.StatementMemory.{guarded_out, else_out, repeat_out, for_out}
use Rattle.oberon_rules.specs.Statements.{statements_say, statement_says, guarded_says, elsifs_say, else_says, condition_says, arm_says, arm_behind}
use Rattle.oberon_infer.specs.Memory.{plain_scopes}
use Rattle.oberon_infer.proofs.AddsLaws.{adds_none, adds_then, adds_as, adds_only, adds_last}
use Rattle.oberon_statements.specs.Labels.{Knows}
use Rattle.oberon_statements.proofs.StatementLaws.{statements_turn, statements_end, elsifs_turn, elsifs_end, arms_left, arms_turn, case_end, if_says, while_says}
use Rattle.oberon_statements.proofs.walk.+statement.Goals as goal

-- ---- statements behind one another

pub statements-loop-next-init : goal.statements-loop-next-init
statements-loop-next-init t c = record { goes = λ rest. refl }

pub statements-loop-next-preserved : goal.statements-loop-next-preserved
statements-loop-next-preserved t c =
    statements_turn c.args.me.now (plain_scopes c.args.scopes.now) c.deref-next-items.result.now c.loop-next.next-index c.next-item.result
    c.loop-next-test.true c.next-item.is c.loop-next.invariant c.in_ok-statement-2.ensures

pub statements-returns : goal.statements-returns
statements-returns t c =
    statements_end c.args.me.now (plain_scopes c.args.scopes.now) c.args.body.now c.deref-next-items.result.now c.loop-next.next-index
    c.deref-next-items.ensures.value c.loop-next-test.false c.in_ok-statement.ensures c.loop-next.invariant

-- ---- one statement

pub statement-returns-in-Empty : goal.statement-returns-in-Empty
statement-returns-in-Empty t c =
    let me = c.args.me.now in
    let s = plain_scopes c.args.scopes.now in
    adds_as (adds_none c.args.said.now.items) (λ rest. sym (ap (λ (g : Statement). statement_says me s (statement_tree g) rest) c.in-Empty.is))

pub statement-returns-in-Assignment : goal.statement-returns-in-Assignment
statement-returns-in-Assignment t c =
    let me = c.args.me.now in
    let s = plain_scopes c.args.scopes.now in
    let a = c.deref.result.now in
    adds_only c.assignment.result c.args.said.now.items c.assignment.new.said.items (statement_says me s (assign_statement (designator_tree a.designator) a.becomes (expr_tree a.value))) (statement_says me s (statement_tree c.args.given.now)) c.assignment.ensures (λ rest.
    ap (λ (b : Assignment). statement_says me s (assign_statement (designator_tree b.designator) b.becomes (expr_tree b.value)) rest) c.deref.ensures
    ∙ sym (ap (λ (g : Statement). statement_says me s (statement_tree g) rest) c.in-Assignment.is))

pub statement-returns-in-Call : goal.statement-returns-in-Call
statement-returns-in-Call t c =
    let me = c.args.me.now in
    let s = plain_scopes c.args.scopes.now in
    adds_only c.call.result c.args.said.now.items c.call.new.said.items (statement_says me s (call_statement (designator_tree c.in-Call.designator))) (statement_says me s (statement_tree c.args.given.now)) c.call.ensures (λ rest.
    sym (ap (λ (g : Statement). statement_says me s (statement_tree g) rest) c.in-Call.is))

pub statement-returns-in-If : goal.statement-returns-in-If
statement-returns-in-If t c =
    let me = c.args.me.now in
    let s = plain_scopes c.args.scopes.now in
    adds_only c.choice.result c.args.said.now.items c.choice.new.said.items (statement_says me s (if_statement (if_tree c.deref-in-If.result.now))) (statement_says me s (statement_tree c.args.given.now)) c.choice.ensures (λ rest.
    ap (λ (x : If). statement_says me s (if_statement (if_tree x)) rest) c.deref-in-If.ensures
    ∙ sym (ap (λ (g : Statement). statement_says me s (statement_tree g) rest) c.in-If.is))

pub statement-returns-in-Case : goal.statement-returns-in-Case
statement-returns-in-Case t c =
    let me = c.args.me.now in
    let s = plain_scopes c.args.scopes.now in
    adds_only c.case.result c.args.said.now.items c.case.new.said.items (statement_says me s (case_statement (case_tree c.deref-in-Case.result.now))) (statement_says me s (statement_tree c.args.given.now)) c.case.ensures (λ rest.
    ap (λ (x : Case). statement_says me s (case_statement (case_tree x)) rest) c.deref-in-Case.ensures
    ∙ sym (ap (λ (g : Statement). statement_says me s (statement_tree g) rest) c.in-Case.is))

pub statement-returns-in-While : goal.statement-returns-in-While
statement-returns-in-While t c =
    let me = c.args.me.now in
    let s = plain_scopes c.args.scopes.now in
    adds_only c.loops.result c.args.said.now.items c.loops.new.said.items (statement_says me s (while_statement (while_tree c.deref-in-While.result.now))) (statement_says me s (statement_tree c.args.given.now)) c.loops.ensures (λ rest.
    ap (λ (x : While). statement_says me s (while_statement (while_tree x)) rest) c.deref-in-While.ensures
    ∙ sym (ap (λ (g : Statement). statement_says me s (statement_tree g) rest) c.in-While.is))

pub statement-returns-in-Repeat : goal.statement-returns-in-Repeat
statement-returns-in-Repeat t c =
    let me = c.args.me.now in
    let s = plain_scopes c.args.scopes.now in
    adds_only c.repeat.result c.args.said.now.items c.repeat.new.said.items (statement_says me s (repeat_statement (repeat_tree c.deref-in-Repeat.result.now))) (statement_says me s (statement_tree c.args.given.now)) c.repeat.ensures (λ rest.
    ap (λ (x : Repeat). statement_says me s (repeat_statement (repeat_tree x)) rest) c.deref-in-Repeat.ensures
    ∙ sym (ap (λ (g : Statement). statement_says me s (statement_tree g) rest) c.in-Repeat.is))

pub statement-returns-in-For : goal.statement-returns-in-For
statement-returns-in-For t c =
    let me = c.args.me.now in
    let s = plain_scopes c.args.scopes.now in
    adds_only c.count.result c.args.said.now.items c.count.new.said.items (statement_says me s (for_statement (for_tree c.deref-in-For.result.now))) (statement_says me s (statement_tree c.args.given.now)) c.count.ensures (λ rest.
    ap (λ (x : For). statement_says me s (for_statement (for_tree x)) rest) c.deref-in-For.ensures
    ∙ sym (ap (λ (g : Statement). statement_says me s (statement_tree g) rest) c.in-For.is))

-- ---- conditions and what they guard

pub choice-returns : goal.choice-returns
choice-returns t c =
    let me = c.args.me.now in
    let s = plain_scopes c.args.scopes.now in
    let x = c.args.given.now in
    adds_last c.otherwise.result c.otherwise.new.said.items (else_says me s (else_option (out-If x).otherwise)) (statement_says me s (if_statement (if_tree x)))
    (adds_then c.in_ok-guarded.ensures c.in_ok-elsifs.ensures) c.otherwise.ensures (λ rest. if_says me s x c.as_slice.result.now rest c.as_slice.ensures.value)

pub loops-returns : goal.loops-returns
loops-returns t c =
    let me = c.args.me.now in
    let s = plain_scopes c.args.scopes.now in
    let x = c.args.given.now in
    adds_last c.elsifs.result c.elsifs.new.said.items (elsifs_say me s (elsifs_list c.as_slice.result.now)) (statement_says me s (while_statement (while_tree x)))
    c.in_ok-guarded.ensures c.elsifs.ensures (λ rest. while_says me s x c.as_slice.result.now rest c.as_slice.ensures.value)

pub elsifs-loop-next-init : goal.elsifs-loop-next-init
elsifs-loop-next-init t c = record { goes = λ rest. refl }

pub elsifs-loop-next-preserved : goal.elsifs-loop-next-preserved
elsifs-loop-next-preserved t c =
    elsifs_turn c.args.me.now (plain_scopes c.args.scopes.now) c.args.rest.now c.loop-next.next-index c.next-item.result
    c.loop-next-test.true c.next-item.is c.loop-next.invariant c.in_ok-guarded.ensures

pub elsifs-returns : goal.elsifs-returns
elsifs-returns t c =
    elsifs_end c.args.me.now (plain_scopes c.args.scopes.now) c.args.rest.now c.loop-next.next-index c.loop-next-test.false c.loop-next.invariant

pub guarded-returns : goal.guarded-returns
guarded-returns t c =
    let me = c.args.me.now in
    let s = plain_scopes c.args.scopes.now in
    let x = c.args.given.now in
    adds_last c.statements.result c.statements.new.said.items (statements_say me s (statements_tree (out-Guarded x).body)) (guarded_says me s (guarded_tree x))
    c.in_ok-condition.ensures c.statements.ensures (λ rest. sym (ap (λ y. guarded_says me s y rest) (guarded_out x)))

pub otherwise-returns-in-Some : goal.otherwise-returns-in-Some
otherwise-returns-in-Some t c =
    let me = c.args.me.now in
    let s = plain_scopes c.args.scopes.now in
    let x = c.in-Some.part in
    adds_only c.statements.result c.args.said.now.items c.statements.new.said.items (statements_say me s (statements_tree (out-ElsePart x).body)) (else_says me s (else_option c.args.given.now)) c.statements.ensures (λ rest.
    sym (ap (λ o. else_says me s (else_option o) rest) c.in-Some.is ∙ ap (λ y. else_says me s y rest) (else_out x)))

pub otherwise-returns-in-None : goal.otherwise-returns-in-None
otherwise-returns-in-None t c =
    let me = c.args.me.now in
    let s = plain_scopes c.args.scopes.now in
    adds_as (adds_none c.args.said.now.items) (λ rest. sym (ap (λ o. else_says me s (else_option o) rest) c.in-None.is))

-- ---- CASE

pub case-loop-next-init : goal.case-loop-next-init
case-loop-next-init t c = λ k earlier known. arms_left _ _ k earlier _ _ _ known

pub case-loop-next-preserved : goal.case-loop-next-preserved
case-loop-next-preserved t c = λ k earlier known.
    let me = c.args.me.now in
    let s = plain_scopes c.args.scopes.now in
    let p = c.loop-next.invariant k earlier known in
    arms_turn me s k earlier _ _ c.loop-next.next-index c.next-item.result _ _ c.loop-next-test.true c.next-item.is p (c.in_ok-arm-2.ensures k p.now p.knows)

pub case-returns : goal.case-returns
case-returns t c =
    case_end c.args.me.now (plain_scopes c.args.scopes.now) c.args.given.now c.deref-next-items.result.now c.loop-next.next-index _ _ _
    c.deref-next-items.ensures.value c.loop-next-test.false c.in_ok-labels.ensures.knows c.in_ok-labels.ensures.says c.in_ok-arm.ensures c.loop-next.invariant

pub arm-returns-in-Empty : goal.arm-returns-in-Empty
arm-returns-in-Empty t c = λ k earlier known.
    let me = c.args.me.now in
    let s = plain_scopes c.args.scopes.now in
    record {
      says = adds_as (adds_none c.args.said.now.items) (λ rest. sym (ap (λ (a : Arm). arm_says me s k earlier (arm_tree a) rest) c.in-Empty.is));
      knows = subst (Knows c.args.labels.now k) (sym (ap (λ (a : Arm). arm_behind s k earlier (arm_tree a)) c.in-Empty.is)) known;
    }

pub arm-returns-in_ok-judge_labels-in-Labelled :
    goal.arm-returns-in_ok-judge_labels-in-Labelled
arm-returns-in_ok-judge_labels-in-Labelled t c =
    let me = c.args.me.now in
    let s = plain_scopes c.args.scopes.now in
    on_ok_weaker c.statements.result (λ said k earlier known.
    let j = c.in_ok-judge_labels-in-Labelled.ensures k earlier known in
    record {
      says = adds_as (adds_then j.says said) (λ rest. sym (ap (λ (a : Arm). arm_says me s k earlier (arm_tree a) rest) c.in-Labelled.is));
      knows = subst (Knows c.judge_labels.new.labels k) (sym (ap (λ (a : Arm). arm_behind s k earlier (arm_tree a)) c.in-Labelled.is)) j.knows;
    }) c.statements.ensures

-- ---- REPEAT and FOR

pub repeat-returns : goal.repeat-returns
repeat-returns t c =
    let me = c.args.me.now in
    let s = plain_scopes c.args.scopes.now in
    let x = c.args.given.now in
    adds_last c.condition.result c.condition.new.said.items (condition_says me s (expr_tree (out-Repeat x).condition)) (statement_says me s (repeat_statement (repeat_tree x)))
    c.in_ok-statements.ensures c.condition.ensures (λ rest. sym (ap (λ y. statement_says me s (repeat_statement y) rest) (repeat_out x)))

pub count-returns : goal.count-returns
count-returns t c =
    let me = c.args.me.now in
    let s = plain_scopes c.args.scopes.now in
    let x = c.args.given.now in
    adds_last c.statements.result c.statements.new.said.items (statements_say me s (statements_tree (out-For x).body)) (statement_says me s (for_statement (for_tree x)))
    (adds_then (adds_then (adds_then c.in_ok-control.ensures c.in_ok-bound.ensures) c.in_ok-bound-2.ensures) c.in_ok-step.ensures) c.statements.ensures (λ rest.
    sym (ap (λ y. statement_says me s (for_statement y) rest) (for_out x)))
