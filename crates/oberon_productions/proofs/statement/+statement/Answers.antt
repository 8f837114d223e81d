use Rattle.std.proofs.Common.{suc, length, refl, sym, arith, subst, ◌∷◌, ◌++◌, ◌∙◌, []}
use Rattle.oberon_productions.specs.Machine.{expr_parts, statements_parts, guarded_parts}
use Rattle.oberon_productions.specs.Tests.{is_word, is_symbol}
use Rattle.oberon_productions.specs.Reading.{StopsAt}
use Rattle.oberon_productions.proofs.Descending.{halts, via, after_word, entered, fewer, exits, onto, behind, after_some}
use Rattle.oberon_productions.proofs.Steps.{skip, skip_arm, skip_statement}
use Rattle.oberon_productions.proofs.Joins.{no_level}
use Rattle.oberon_productions.proofs.StatementJoins.{first_then, more_statements_push, more_statements_depth, more_arms_push, more_arms_depth, elsifs_push, elsifs_depth}
use Rattle.oberon_tree.specs.Tokens.{word_token}
use Rattle.oberon_tree.proofs.StatementMemory.{statements_made, if_made, guarded_made, else_made, case_made, while_made, repeat_made, for_made}
use Rattle.oberon_productions.specs.Expected as want
use Rattle.oberon_scan.specs.declared.token.Symbol.TheVariants as symbols
use Rattle.oberon_scan.specs.declared.token.Word.TheVariants as words
use Rattle.oberon_productions.proofs.statement.+statement.Goals as goal

pub more_statements-returns-in_err-statement : goal.more_statements-returns-in_err-statement
more_statements-returns-in_err-statement t c =
    exits _ _ c.from_residual.result c.in_err-statement.field-0.0 c.from_residual.ensures.1
    (via (want.statement c.args.levels ∷ []) ((want.statements c.args.levels) ∷ []) _ c.args.given.now _ (λ s. ((want.statements c.args.levels) ∷ s)) (λ s. c.loop-semicolon.invariant.moves s ∙ entered (want.statements c.args.levels) (statements_parts c.args.levels ++ []) s _ _ _ c.in-Some.ensures.some refl) c.in_err-statement.ensures)

pub more_statements-loop-semicolon-preserved : goal.more_statements-loop-semicolon-preserved
more_statements-loop-semicolon-preserved t c =
    rw c.in_ok-push.ensures.items (record {
      spelled = after_some c.loop-semicolon.invariant (onto c.in-Some.ensures.some (behind c.in_ok-statement.ensures refl)) ∙ sym (more_statements_push c.loop-semicolon.items.items _ c.in_ok-statement.after.now);
      moves = λ s. c.loop-semicolon.invariant.moves s ∙ entered (want.statements c.args.levels) (statements_parts c.args.levels ++ []) s _ _ _ c.in-Some.ensures.some refl ∙ c.in_ok-statement.ensures.moves ((want.statements c.args.levels) ∷ s);
      within = rw (more_statements_depth c.loop-semicolon.items.items _) omega (arith, c.loop-semicolon.invariant.within, c.in_ok-statement.ensures.within);
      shorter = omega (arith, c.loop-semicolon.invariant.shorter, fewer c.in-Some.ensures.some, c.in_ok-statement.ensures.shorter);
    })

pub more_statements-returns : goal.more_statements-returns
more_statements-returns t c =
    rw c.fitting.ensures (record {
      spelled = c.loop-semicolon.invariant.spelled;
      moves = λ s. c.loop-semicolon.invariant.moves s ∙ skip (want.statements c.args.levels) (is_symbol symbols.Semicolon) (statements_parts c.args.levels ++ []) s c.loop-semicolon.rest.now refl (λ k. refl) c.in_default.ensures.none;
      within = c.loop-semicolon.invariant.within;
      shorter = c.loop-semicolon.invariant.shorter;
    })

pub statement-returns-in_err-inner : goal.statement-returns-in_err-inner
statement-returns-in_err-inner t c =
    let z = c.in_err-inner.ensures in
    exits _ _ c.from_residual-in_err-inner.result c.in_err-inner.field-0.0 c.from_residual-in_err-inner.ensures.1
    (subst (λ e. StopsAt ((want.statement c.args.levels) ∷ []) c.args.given.now e) (sym z.1) (halts ((want.statement c.args.levels) ∷ []) c.args.given.now (length c.args.given.now) (λ s. no_level (want.statement c.args.levels) s _ c.args.given.now _ c.in-Some-word.ensures.some (rw z.0 refl))))

pub statement-returns-in_err-inner-2 : goal.statement-returns-in_err-inner-2
statement-returns-in_err-inner-2 t c =
    let z = c.in_err-inner-2.ensures in
    exits _ _ c.from_residual-in_err-inner-2.result c.in_err-inner-2.field-0.0 c.from_residual-in_err-inner-2.ensures.1
    (subst (λ e. StopsAt ((want.statement c.args.levels) ∷ []) c.args.given.now e) (sym z.1) (halts ((want.statement c.args.levels) ∷ []) c.args.given.now (length c.args.given.now) (λ s. no_level (want.statement c.args.levels) s _ c.args.given.now _ c.in-Some-word-2.ensures.some (rw z.0 refl))))

pub statement-returns-in_err-inner-3 : goal.statement-returns-in_err-inner-3
statement-returns-in_err-inner-3 t c =
    let z = c.in_err-inner-3.ensures in
    exits _ _ c.from_residual-in_err-inner-3.result c.in_err-inner-3.field-0.0 c.from_residual-in_err-inner-3.ensures.1
    (subst (λ e. StopsAt ((want.statement c.args.levels) ∷ []) c.args.given.now e) (sym z.1) (halts ((want.statement c.args.levels) ∷ []) c.args.given.now (length c.args.given.now) (λ s. no_level (want.statement c.args.levels) s _ c.args.given.now _ c.in-Some-word-3.ensures.some (rw z.0 refl))))

pub statement-returns-in_err-inner-4 : goal.statement-returns-in_err-inner-4
statement-returns-in_err-inner-4 t c =
    let z = c.in_err-inner-4.ensures in
    exits _ _ c.from_residual-in_err-inner-4.result c.in_err-inner-4.field-0.0 c.from_residual-in_err-inner-4.ensures.1
    (subst (λ e. StopsAt ((want.statement c.args.levels) ∷ []) c.args.given.now e) (sym z.1) (halts ((want.statement c.args.levels) ∷ []) c.args.given.now (length c.args.given.now) (λ s. no_level (want.statement c.args.levels) s _ c.args.given.now _ c.in-Some-word-4.ensures.some (rw z.0 refl))))

pub statement-returns-in_err-inner-5 : goal.statement-returns-in_err-inner-5
statement-returns-in_err-inner-5 t c =
    let z = c.in_err-inner-5.ensures in
    exits _ _ c.from_residual-in_err-inner-5.result c.in_err-inner-5.field-0.0 c.from_residual-in_err-inner-5.ensures.1
    (subst (λ e. StopsAt ((want.statement c.args.levels) ∷ []) c.args.given.now e) (sym z.1) (halts ((want.statement c.args.levels) ∷ []) c.args.given.now (length c.args.given.now) (λ s. no_level (want.statement c.args.levels) s _ c.args.given.now _ c.in-Some-word-5.ensures.some (rw z.0 refl))))

pub statement-returns : goal.statement-returns
statement-returns t c =
    let i = rw c.in_default.is at c.in_ok-name.ensures in
    record {
      spelled = refl;
      moves = λ s. skip_statement c.args.levels s c.args.given.now i c.in_default-word.ensures.none c.in_default-word-2.ensures.none c.in_default-word-3.ensures.none c.in_default-word-4.ensures.none c.in_default-word-5.ensures.none;
      within = omega arith;
      shorter = omega arith;
    }

pub elsifs-returns-in_err-parts : goal.elsifs-returns-in_err-parts
elsifs-returns-in_err-parts t c =
    exits _ _ c.from_residual.result c.in_err-parts.field-0.0 c.from_residual.ensures.1
    (via (guarded_parts c.args.joint c.args.levels ++ []) ((want.elsifs c.args.joint c.args.levels) ∷ []) _ c.args.given.now _ (λ s. ((want.elsifs c.args.joint c.args.levels) ∷ s)) (λ s. c.loop-span.invariant.moves s ∙ entered (want.elsifs c.args.joint c.args.levels) (guarded_parts c.args.joint c.args.levels ++ (want.elsifs c.args.joint c.args.levels ∷ [])) s _ _ _ c.in-Some.ensures.some refl) c.in_err-parts.ensures)

pub elsifs-loop-span-preserved : goal.elsifs-loop-span-preserved
elsifs-loop-span-preserved t c =
    rw c.in_ok-push.ensures.items (record {
      spelled = after_some c.loop-span.invariant (onto c.in-Some.ensures.some (behind c.in_ok-parts.ensures refl)) ∙ sym (elsifs_push c.args.joint c.loop-span.items.items _ _ _ _ c.in_ok-parts.after.now);
      moves = λ s. c.loop-span.invariant.moves s ∙ entered (want.elsifs c.args.joint c.args.levels) (guarded_parts c.args.joint c.args.levels ++ (want.elsifs c.args.joint c.args.levels ∷ [])) s _ _ _ c.in-Some.ensures.some refl ∙ c.in_ok-parts.ensures.moves ((want.elsifs c.args.joint c.args.levels) ∷ s);
      within = rw (elsifs_depth c.loop-span.items.items _ _ _ _) omega (arith, c.loop-span.invariant.within, c.in_ok-parts.ensures.within);
      shorter = omega (arith, c.loop-span.invariant.shorter, fewer c.in-Some.ensures.some, c.in_ok-parts.ensures.shorter);
    })

pub elsifs-returns : goal.elsifs-returns
elsifs-returns t c =
    rw c.fitting.ensures (record {
      spelled = c.loop-span.invariant.spelled;
      moves = λ s. c.loop-span.invariant.moves s ∙ skip (want.elsifs c.args.joint c.args.levels) (is_word words.Elsif) (guarded_parts c.args.joint c.args.levels ++ (want.elsifs c.args.joint c.args.levels ∷ [])) s c.loop-span.rest.now refl (λ k. refl) c.in_default.ensures.none;
      within = c.loop-span.invariant.within;
      shorter = c.loop-span.invariant.shorter;
    })

pub otherwise-returns-in_default : goal.otherwise-returns-in_default
otherwise-returns-in_default t c =
    record {
      spelled = refl;
      moves = λ s. skip (want.some_else c.args.levels) (is_word words.Else) (statements_parts c.args.levels) s c.args.given.now refl (λ k. refl) c.in_default.ensures.none;
      within = omega arith;
      shorter = omega arith;
    }

pub otherwise-returns-in_err-body : goal.otherwise-returns-in_err-body
otherwise-returns-in_err-body t c =
    exits _ _ c.from_residual.result c.in_err-body.field-0.0 c.from_residual.ensures.1
    (via (statements_parts c.args.levels ++ []) ((want.some_else c.args.levels) ∷ []) _ c.args.given.now _ (λ s. s) (λ s. entered (want.some_else c.args.levels) (statements_parts c.args.levels ++ []) s _ _ _ c.in-Some.ensures.some refl) c.in_err-body.ensures)

pub otherwise-returns : goal.otherwise-returns
otherwise-returns t c =
    rw (else_made _ _) (record {
      spelled = onto c.in-Some.ensures.some (behind c.in_ok-body.ensures refl);
      moves = λ s. entered (want.some_else c.args.levels) (statements_parts c.args.levels ++ []) s _ _ _ c.in-Some.ensures.some refl ∙ c.in_ok-body.ensures.moves s;
      within = omega (arith, c.in_ok-body.ensures.within);
      shorter = omega (arith, fewer c.in-Some.ensures.some, c.in_ok-body.ensures.shorter);
    })

pub more_arms-returns-in_err-arm : goal.more_arms-returns-in_err-arm
more_arms-returns-in_err-arm t c =
    exits _ _ c.from_residual.result c.in_err-arm.field-0.0 c.from_residual.ensures.1
    (via (want.arm c.args.levels ∷ []) ((want.arms c.args.levels) ∷ []) _ c.args.given.now _ (λ s. ((want.arms c.args.levels) ∷ s)) (λ s. c.loop-bar.invariant.moves s ∙ entered (want.arms c.args.levels) (want.arm c.args.levels ∷ (want.arms c.args.levels ∷ [])) s _ _ _ c.in-Some.ensures.some refl) c.in_err-arm.ensures)

pub more_arms-loop-bar-preserved : goal.more_arms-loop-bar-preserved
more_arms-loop-bar-preserved t c =
    rw c.in_ok-push.ensures.items (record {
      spelled = after_some c.loop-bar.invariant (onto c.in-Some.ensures.some (behind c.in_ok-arm.ensures refl)) ∙ sym (more_arms_push c.loop-bar.items.items _ c.in_ok-arm.after.now);
      moves = λ s. c.loop-bar.invariant.moves s ∙ entered (want.arms c.args.levels) (want.arm c.args.levels ∷ (want.arms c.args.levels ∷ [])) s _ _ _ c.in-Some.ensures.some refl ∙ c.in_ok-arm.ensures.moves ((want.arms c.args.levels) ∷ s);
      within = rw (more_arms_depth c.loop-bar.items.items _) omega (arith, c.loop-bar.invariant.within, c.in_ok-arm.ensures.within);
      shorter = omega (arith, c.loop-bar.invariant.shorter, fewer c.in-Some.ensures.some, c.in_ok-arm.ensures.shorter);
    })

pub more_arms-returns : goal.more_arms-returns
more_arms-returns t c =
    rw c.fitting.ensures (record {
      spelled = c.loop-bar.invariant.spelled;
      moves = λ s. c.loop-bar.invariant.moves s ∙ skip (want.arms c.args.levels) (is_symbol symbols.Bar) (want.arm c.args.levels ∷ (want.arms c.args.levels ∷ [])) s c.loop-bar.rest.now refl (λ k. refl) c.in_default.ensures.none;
      within = c.loop-bar.invariant.within;
      shorter = c.loop-bar.invariant.shorter;
    })

pub statements-returns-in_err-first : goal.statements-returns-in_err-first
statements-returns-in_err-first t c =
    exits _ _ c.from_residual.result c.in_err-first.field-0.0 c.from_residual.ensures.1
    (via (want.statement c.args.levels ∷ []) (statements_parts c.args.levels) _ (c.args.given.now) _ (λ s. want.statements c.args.levels ∷ s) (λ s. refl) c.in_err-first.ensures)

pub statements-returns-in_err-next : goal.statements-returns-in_err-next
statements-returns-in_err-next t c =
    exits _ _ c.from_residual-in_err-next.result c.in_err-next.field-0.0 c.from_residual-in_err-next.ensures.1
    (via (want.statements c.args.levels ∷ []) (statements_parts c.args.levels) _ (c.args.given.now) _ (λ s. s) (λ s. c.in_ok-first.ensures.moves (want.statements c.args.levels ∷ s)) (rw c.in_err-next.ensures at c.more_statements.ensures))

pub statements-returns : goal.statements-returns
statements-returns t c =
    let n = rw c.in_ok-next.ensures.0 at c.more_statements.ensures in
    rw (c.in_ok-next.ensures.1, statements_made _ _) (record {
      spelled = behind c.in_ok-first.ensures (behind n refl);
      moves = λ s. c.in_ok-first.ensures.moves (want.statements c.args.levels ∷ s) ∙ n.moves s;
      within = omega (arith, c.in_ok-first.ensures.within, n.within);
      shorter = omega (arith, c.in_ok-first.ensures.shorter, n.shorter);
    })

pub guarded-returns-in_err-condition : goal.guarded-returns-in_err-condition
guarded-returns-in_err-condition t c =
    exits _ _ c.from_residual.result c.in_err-condition.field-0.0 c.from_residual.ensures.1
    (via (expr_parts c.args.levels) (guarded_parts c.args.joint c.args.levels) _ (c.args.given.now) _ (λ s. want.word c.args.joint ∷ statements_parts c.args.levels ++ s) (λ s. refl) c.in_err-condition.ensures)

pub guarded-returns-in_err-span : goal.guarded-returns-in_err-span
guarded-returns-in_err-span t c =
    exits _ _ c.from_residual-in_err-span.result c.in_err-span.field-0.0 c.from_residual-in_err-span.ensures.1
    (via (want.word c.args.joint ∷ []) (guarded_parts c.args.joint c.args.levels) _ (c.args.given.now) _ (λ s. statements_parts c.args.levels ++ s) (λ s. c.in_ok-condition.ensures.moves (want.word c.args.joint ∷ statements_parts c.args.levels ++ s)) (rw c.in_err-span.ensures at c.need_word.ensures))

pub guarded-returns-in_err-body : goal.guarded-returns-in_err-body
guarded-returns-in_err-body t c =
    let w = rw c.in_ok-span.ensures.0 at c.need_word.ensures in
    exits _ _ c.from_residual-in_err-body.result c.in_err-body.field-0.0 c.from_residual-in_err-body.ensures.1
    (via (statements_parts c.args.levels) (guarded_parts c.args.joint c.args.levels) _ (c.args.given.now) _ (λ s. s) (λ s. c.in_ok-condition.ensures.moves (want.word c.args.joint ∷ statements_parts c.args.levels ++ s) ∙ after_word c.args.joint (statements_parts c.args.levels ++ s) w) (rw c.in_err-body.ensures at c.statements.ensures))

pub guarded-returns : goal.guarded-returns
guarded-returns t c =
    let w = rw c.in_ok-span.ensures.0 at c.need_word.ensures in
    let b = rw c.in_ok-body.ensures.0 at c.statements.ensures in
    rw (c.in_ok-body.ensures.1, c.in_ok-span.ensures.1) (record {
      spelled = behind c.in_ok-condition.ensures (onto w (behind b refl));
      moves = λ s. c.in_ok-condition.ensures.moves (want.word c.args.joint ∷ statements_parts c.args.levels ++ s) ∙ after_word c.args.joint (statements_parts c.args.levels ++ s) w ∙ b.moves s;
      within = omega (arith, c.in_ok-condition.ensures.within, b.within);
      shorter = omega (arith, c.in_ok-condition.ensures.shorter, fewer w, b.shorter);
    })

pub branches-returns-in_err-first : goal.branches-returns-in_err-first
branches-returns-in_err-first t c =
    exits _ _ c.from_residual.result c.in_err-first.field-0.0 c.from_residual.ensures.1
    (via (guarded_parts c.args.joint c.args.levels) (guarded_parts c.args.joint c.args.levels ++ want.elsifs c.args.joint c.args.levels ∷ []) _ (c.args.given.now) _ (λ s. want.elsifs c.args.joint c.args.levels ∷ s) (λ s. refl) c.in_err-first.ensures)

pub branches-returns-in_err-next : goal.branches-returns-in_err-next
branches-returns-in_err-next t c =
    exits _ _ c.from_residual-in_err-next.result c.in_err-next.field-0.0 c.from_residual-in_err-next.ensures.1
    (via (want.elsifs c.args.joint c.args.levels ∷ []) (guarded_parts c.args.joint c.args.levels ++ want.elsifs c.args.joint c.args.levels ∷ []) _ (c.args.given.now) _ (λ s. s) (λ s. c.in_ok-first.ensures.moves (want.elsifs c.args.joint c.args.levels ∷ s)) (rw c.in_err-next.ensures at c.elsifs.ensures))

pub branches-returns : goal.branches-returns
branches-returns t c =
    let n = rw c.in_ok-next.ensures.0 at c.elsifs.ensures in
    rw (c.in_ok-next.ensures.1) (record {
      spelled = behind c.in_ok-first.ensures (behind n refl);
      moves = λ s. c.in_ok-first.ensures.moves (want.elsifs c.args.joint c.args.levels ∷ s) ∙ n.moves s;
      within = omega (arith, c.in_ok-first.ensures.within, n.within);
      shorter = omega (arith, c.in_ok-first.ensures.shorter, n.shorter);
    })

pub conditional-returns-in_err-parts : goal.conditional-returns-in_err-parts
conditional-returns-in_err-parts t c =
    exits _ _ c.from_residual.result c.in_err-parts.field-0.0 c.from_residual.ensures.1
    (via (guarded_parts words.Then c.args.levels ++ want.elsifs words.Then c.args.levels ∷ []) (want.statement (suc c.args.levels) ∷ []) _ (word_token words.If c.args.span ∷ c.args.given.now) _ (λ s. want.some_else c.args.levels ∷ want.word words.End ∷ s) (λ s. entered (want.statement (suc c.args.levels)) (guarded_parts words.Then c.args.levels ++ want.elsifs words.Then c.args.levels ∷ want.some_else c.args.levels ∷ want.word words.End ∷ []) s _ _ _ refl refl) c.in_err-parts.ensures)

pub conditional-returns-in_err-other : goal.conditional-returns-in_err-other
conditional-returns-in_err-other t c =
    exits _ _ c.from_residual-in_err-other.result c.in_err-other.field-0.0 c.from_residual-in_err-other.ensures.1
    (via (want.some_else c.args.levels ∷ []) (want.statement (suc c.args.levels) ∷ []) _ (word_token words.If c.args.span ∷ c.args.given.now) _ (λ s. want.word words.End ∷ s) (λ s. entered (want.statement (suc c.args.levels)) (guarded_parts words.Then c.args.levels ++ want.elsifs words.Then c.args.levels ∷ want.some_else c.args.levels ∷ want.word words.End ∷ []) s _ _ _ refl refl ∙ c.in_ok-parts.ensures.moves (want.some_else c.args.levels ∷ want.word words.End ∷ s)) (rw c.in_err-other.ensures at c.otherwise.ensures))

pub conditional-returns-in_err-end : goal.conditional-returns-in_err-end
conditional-returns-in_err-end t c =
    let o = rw c.in_ok-other.ensures.0 at c.otherwise.ensures in
    exits _ _ c.from_residual-in_err-end.result c.in_err-end.field-0.0 c.from_residual-in_err-end.ensures.1
    (via (want.word words.End ∷ []) (want.statement (suc c.args.levels) ∷ []) _ (word_token words.If c.args.span ∷ c.args.given.now) _ (λ s. s) (λ s. entered (want.statement (suc c.args.levels)) (guarded_parts words.Then c.args.levels ++ want.elsifs words.Then c.args.levels ∷ want.some_else c.args.levels ∷ want.word words.End ∷ []) s _ _ _ refl refl ∙ c.in_ok-parts.ensures.moves (want.some_else c.args.levels ∷ want.word words.End ∷ s) ∙ o.moves (want.word words.End ∷ s)) (rw c.in_err-end.ensures at c.need_word.ensures))

pub conditional-returns : goal.conditional-returns
conditional-returns t c =
    let o = rw c.in_ok-other.ensures.0 at c.otherwise.ensures in
    let w = rw c.in_ok-end.ensures.0 at c.need_word.ensures in
    rw (c.in_ok-boxed.ensures.ok, c.in_ok-end.ensures.1, c.in_ok-other.ensures.1, if_made _ _ _ _, guarded_made _ _ _ _) (record {
      spelled = onto refl (behind c.in_ok-parts.ensures (behind o (onto w refl)));
      moves = λ s. entered (want.statement (suc c.args.levels)) (guarded_parts words.Then c.args.levels ++ want.elsifs words.Then c.args.levels ∷ want.some_else c.args.levels ∷ want.word words.End ∷ []) s _ _ _ refl refl ∙ c.in_ok-parts.ensures.moves (want.some_else c.args.levels ∷ want.word words.End ∷ s) ∙ o.moves (want.word words.End ∷ s) ∙ after_word words.End s w;
      within = omega (arith, c.in_ok-parts.ensures.within, o.within);
      shorter = omega (arith, c.in_ok-parts.ensures.shorter, o.shorter, fewer w);
    })

pub choice-returns-in_err-value : goal.choice-returns-in_err-value
choice-returns-in_err-value t c =
    exits _ _ c.from_residual.result c.in_err-value.field-0.0 c.from_residual.ensures.1
    (via (expr_parts c.args.levels) (want.statement (suc c.args.levels) ∷ []) _ (word_token words.Case c.args.span ∷ c.args.given.now) _ (λ s. want.word words.Of ∷ want.arm c.args.levels ∷ want.arms c.args.levels ∷ want.word words.End ∷ s) (λ s. entered (want.statement (suc c.args.levels)) (expr_parts c.args.levels ++ want.word words.Of ∷ want.arm c.args.levels ∷ want.arms c.args.levels ∷ want.word words.End ∷ []) s _ _ _ refl refl) c.in_err-value.ensures)

pub choice-returns-in_err-arms : goal.choice-returns-in_err-arms
choice-returns-in_err-arms t c =
    exits _ _ c.from_residual-in_err-arms.result c.in_err-arms.field-0.0 c.from_residual-in_err-arms.ensures.1
    (via (want.word words.Of ∷ want.arm c.args.levels ∷ want.arms c.args.levels ∷ want.word words.End ∷ []) (want.statement (suc c.args.levels) ∷ []) _ (word_token words.Case c.args.span ∷ c.args.given.now) _ (λ s. s) (λ s. entered (want.statement (suc c.args.levels)) (expr_parts c.args.levels ++ want.word words.Of ∷ want.arm c.args.levels ∷ want.arms c.args.levels ∷ want.word words.End ∷ []) s _ _ _ refl refl ∙ c.in_ok-value.ensures.moves (want.word words.Of ∷ want.arm c.args.levels ∷ want.arms c.args.levels ∷ want.word words.End ∷ s)) (rw c.in_err-arms.ensures at c.arms.ensures))

pub choice-returns : goal.choice-returns
choice-returns t c =
    let a = rw c.in_ok-arms.ensures.0 at c.arms.ensures in
    rw (c.in_ok-boxed.ensures.ok, c.in_ok-arms.ensures.1, case_made _ _ _ _ _ _) (record {
      spelled = onto refl (behind c.in_ok-value.ensures (behind a refl));
      moves = λ s. entered (want.statement (suc c.args.levels)) (expr_parts c.args.levels ++ want.word words.Of ∷ want.arm c.args.levels ∷ want.arms c.args.levels ∷ want.word words.End ∷ []) s _ _ _ refl refl ∙ c.in_ok-value.ensures.moves (want.word words.Of ∷ want.arm c.args.levels ∷ want.arms c.args.levels ∷ want.word words.End ∷ s) ∙ a.moves s;
      within = omega (arith, c.in_ok-value.ensures.within, a.within);
      shorter = omega (arith, c.in_ok-value.ensures.shorter, a.shorter);
    })

pub arms-returns-in_err-of : goal.arms-returns-in_err-of
arms-returns-in_err-of t c =
    exits _ _ c.from_residual.result c.in_err-of.field-0.0 c.from_residual.ensures.1
    (via (want.word words.Of ∷ []) (want.word words.Of ∷ want.arm c.args.levels ∷ want.arms c.args.levels ∷ want.word words.End ∷ []) _ (c.args.given.now) _ (λ s. want.arm c.args.levels ∷ want.arms c.args.levels ∷ want.word words.End ∷ s) (λ s. refl) c.in_err-of.ensures)

pub arms-returns-in_err-first : goal.arms-returns-in_err-first
arms-returns-in_err-first t c =
    exits _ _ c.from_residual-in_err-first.result c.in_err-first.field-0.0 c.from_residual-in_err-first.ensures.1
    (via (want.arm c.args.levels ∷ []) (want.word words.Of ∷ want.arm c.args.levels ∷ want.arms c.args.levels ∷ want.word words.End ∷ []) _ (c.args.given.now) _ (λ s. want.arms c.args.levels ∷ want.word words.End ∷ s) (λ s. after_word words.Of (want.arm c.args.levels ∷ want.arms c.args.levels ∷ want.word words.End ∷ s) c.in_ok-of.ensures) c.in_err-first.ensures)

pub arms-returns-in_err-next : goal.arms-returns-in_err-next
arms-returns-in_err-next t c =
    exits _ _ c.from_residual-in_err-next.result c.in_err-next.field-0.0 c.from_residual-in_err-next.ensures.1
    (via (want.arms c.args.levels ∷ []) (want.word words.Of ∷ want.arm c.args.levels ∷ want.arms c.args.levels ∷ want.word words.End ∷ []) _ (c.args.given.now) _ (λ s. want.word words.End ∷ s) (λ s. after_word words.Of (want.arm c.args.levels ∷ want.arms c.args.levels ∷ want.word words.End ∷ s) c.in_ok-of.ensures ∙ c.in_ok-first.ensures.moves (want.arms c.args.levels ∷ want.word words.End ∷ s)) (rw c.in_err-next.ensures at c.more_arms.ensures))

pub arms-returns-in_err-end : goal.arms-returns-in_err-end
arms-returns-in_err-end t c =
    let n = rw c.in_ok-next.ensures.0 at c.more_arms.ensures in
    exits _ _ c.from_residual-in_err-end.result c.in_err-end.field-0.0 c.from_residual-in_err-end.ensures.1
    (via (want.word words.End ∷ []) (want.word words.Of ∷ want.arm c.args.levels ∷ want.arms c.args.levels ∷ want.word words.End ∷ []) _ (c.args.given.now) _ (λ s. s) (λ s. after_word words.Of (want.arm c.args.levels ∷ want.arms c.args.levels ∷ want.word words.End ∷ s) c.in_ok-of.ensures ∙ c.in_ok-first.ensures.moves (want.arms c.args.levels ∷ want.word words.End ∷ s) ∙ n.moves (want.word words.End ∷ s)) (rw c.in_err-end.ensures at c.need_word-2.ensures))

pub arms-returns : goal.arms-returns
arms-returns t c =
    let n = rw c.in_ok-next.ensures.0 at c.more_arms.ensures in
    let w = rw c.in_ok-end.ensures.0 at c.need_word-2.ensures in
    rw (c.in_ok-end.ensures.1, c.in_ok-next.ensures.1) (record {
      spelled = onto c.in_ok-of.ensures (behind c.in_ok-first.ensures (behind n (onto w refl)));
      moves = λ s. after_word words.Of (want.arm c.args.levels ∷ want.arms c.args.levels ∷ want.word words.End ∷ s) c.in_ok-of.ensures ∙ c.in_ok-first.ensures.moves (want.arms c.args.levels ∷ want.word words.End ∷ s) ∙ n.moves (want.word words.End ∷ s) ∙ after_word words.End s w;
      within = omega (arith, c.in_ok-first.ensures.within, n.within);
      shorter = omega (arith, fewer c.in_ok-of.ensures, c.in_ok-first.ensures.shorter, n.shorter, fewer w);
    })

pub arm-returns-in_default : goal.arm-returns-in_default
arm-returns-in_default t c =
    let h = rw c.in_default.is at c.in_ok-first.ensures in
    record {
      spelled = refl;
      moves = λ s. skip_arm c.args.levels s c.args.given.now h.0 h.1;
      within = omega arith;
      shorter = omega arith;
    }

pub arm-returns-in_err-first : goal.arm-returns-in_err-first
arm-returns-in_err-first t c =
    exits _ _ c.from_residual.result c.in_err-first.field-0.0 c.from_residual.ensures.1 (c.in_err-first.ensures.arm c.args.levels)

pub arm-returns-in_err-labels : goal.arm-returns-in_err-labels
arm-returns-in_err-labels t c =
    let h = rw c.in-Some.is at c.in_ok-first.ensures in
    exits _ _ c.from_residual-in_err-labels.result c.in_err-labels.field-0.0 c.from_residual-in_err-labels.ensures.1
    (via (want.some_label_upper ∷ want.labels ∷ want.symbol symbols.Colon ∷ []) (want.arm c.args.levels ∷ []) _ (c.args.given.now) _ (λ s. statements_parts c.args.levels ++ s) (λ s. h.enters c.args.levels s) c.in_err-labels.ensures)

pub arm-returns-in_err-body : goal.arm-returns-in_err-body
arm-returns-in_err-body t c =
    let h = rw c.in-Some.is at c.in_ok-first.ensures in
    exits _ _ c.from_residual-in_err-body.result c.in_err-body.field-0.0 c.from_residual-in_err-body.ensures.1
    (via (statements_parts c.args.levels) (want.arm c.args.levels ∷ []) _ (c.args.given.now) _ (λ s. s) (λ s. h.enters c.args.levels s ∙ c.in_ok-labels.ensures.0.moves (statements_parts c.args.levels ++ s)) (rw c.in_err-body.ensures at c.statements.ensures))

pub arm-returns : goal.arm-returns
arm-returns t c =
    let h = rw c.in-Some.is at c.in_ok-first.ensures in
    let b = rw c.in_ok-body.ensures.0 at c.statements.ensures in
    rw (c.in_ok-body.ensures.1, c.in_ok-labels.ensures.1) (record {
      spelled = first_then h (behind c.in_ok-labels.ensures.0 (behind b refl));
      moves = λ s. h.enters c.args.levels s ∙ c.in_ok-labels.ensures.0.moves (statements_parts c.args.levels ++ s) ∙ b.moves s;
      within = omega (arith, c.in_ok-labels.ensures.0.within, b.within);
      shorter = omega (arith, h.shorter, c.in_ok-labels.ensures.0.shorter, b.shorter);
    })

pub repetition-returns-in_err-parts : goal.repetition-returns-in_err-parts
repetition-returns-in_err-parts t c =
    exits _ _ c.from_residual.result c.in_err-parts.field-0.0 c.from_residual.ensures.1
    (via (guarded_parts words.Do c.args.levels ++ want.elsifs words.Do c.args.levels ∷ []) (want.statement (suc c.args.levels) ∷ []) _ (word_token words.While c.args.span ∷ c.args.given.now) _ (λ s. want.word words.End ∷ s) (λ s. entered (want.statement (suc c.args.levels)) (guarded_parts words.Do c.args.levels ++ want.elsifs words.Do c.args.levels ∷ want.word words.End ∷ []) s _ _ _ refl refl) c.in_err-parts.ensures)

pub repetition-returns-in_err-end : goal.repetition-returns-in_err-end
repetition-returns-in_err-end t c =
    exits _ _ c.from_residual-in_err-end.result c.in_err-end.field-0.0 c.from_residual-in_err-end.ensures.1
    (via (want.word words.End ∷ []) (want.statement (suc c.args.levels) ∷ []) _ (word_token words.While c.args.span ∷ c.args.given.now) _ (λ s. s) (λ s. entered (want.statement (suc c.args.levels)) (guarded_parts words.Do c.args.levels ++ want.elsifs words.Do c.args.levels ∷ want.word words.End ∷ []) s _ _ _ refl refl ∙ c.in_ok-parts.ensures.moves (want.word words.End ∷ s)) (rw c.in_err-end.ensures at c.need_word.ensures))

pub repetition-returns : goal.repetition-returns
repetition-returns t c =
    let w = rw c.in_ok-end.ensures.0 at c.need_word.ensures in
    rw (c.in_ok-boxed.ensures.ok, c.in_ok-end.ensures.1, while_made _ _ _, guarded_made _ _ _ _) (record {
      spelled = onto refl (behind c.in_ok-parts.ensures (onto w refl));
      moves = λ s. entered (want.statement (suc c.args.levels)) (guarded_parts words.Do c.args.levels ++ want.elsifs words.Do c.args.levels ∷ want.word words.End ∷ []) s _ _ _ refl refl ∙ c.in_ok-parts.ensures.moves (want.word words.End ∷ s) ∙ after_word words.End s w;
      within = omega (arith, c.in_ok-parts.ensures.within);
      shorter = omega (arith, c.in_ok-parts.ensures.shorter, fewer w);
    })

pub repeat-returns-in_err-body : goal.repeat-returns-in_err-body
repeat-returns-in_err-body t c =
    exits _ _ c.from_residual.result c.in_err-body.field-0.0 c.from_residual.ensures.1
    (via (statements_parts c.args.levels) (want.statement (suc c.args.levels) ∷ []) _ (word_token words.Repeat c.args.span ∷ c.args.given.now) _ (λ s. want.word words.Until ∷ expr_parts c.args.levels ++ s) (λ s. entered (want.statement (suc c.args.levels)) (statements_parts c.args.levels ++ want.word words.Until ∷ expr_parts c.args.levels) s _ _ _ refl refl) c.in_err-body.ensures)

pub repeat-returns-in_err-until : goal.repeat-returns-in_err-until
repeat-returns-in_err-until t c =
    exits _ _ c.from_residual-in_err-until.result c.in_err-until.field-0.0 c.from_residual-in_err-until.ensures.1
    (via (want.word words.Until ∷ []) (want.statement (suc c.args.levels) ∷ []) _ (word_token words.Repeat c.args.span ∷ c.args.given.now) _ (λ s. expr_parts c.args.levels ++ s) (λ s. entered (want.statement (suc c.args.levels)) (statements_parts c.args.levels ++ want.word words.Until ∷ expr_parts c.args.levels) s _ _ _ refl refl ∙ c.in_ok-body.ensures.moves (want.word words.Until ∷ expr_parts c.args.levels ++ s)) (rw c.in_err-until.ensures at c.need_word.ensures))

pub repeat-returns-in_err-condition : goal.repeat-returns-in_err-condition
repeat-returns-in_err-condition t c =
    let w = rw c.in_ok-until.ensures.0 at c.need_word.ensures in
    exits _ _ c.from_residual-in_err-condition.result c.in_err-condition.field-0.0 c.from_residual-in_err-condition.ensures.1
    (via (expr_parts c.args.levels) (want.statement (suc c.args.levels) ∷ []) _ (word_token words.Repeat c.args.span ∷ c.args.given.now) _ (λ s. s) (λ s. entered (want.statement (suc c.args.levels)) (statements_parts c.args.levels ++ want.word words.Until ∷ expr_parts c.args.levels) s _ _ _ refl refl ∙ c.in_ok-body.ensures.moves (want.word words.Until ∷ expr_parts c.args.levels ++ s) ∙ after_word words.Until (expr_parts c.args.levels ++ s) w) (rw c.in_err-condition.ensures at c.expr.ensures))

pub repeat-returns : goal.repeat-returns
repeat-returns t c =
    let w = rw c.in_ok-until.ensures.0 at c.need_word.ensures in
    let e = rw c.in_ok-condition.ensures.0 at c.expr.ensures in
    rw (c.in_ok-boxed.ensures.ok, c.in_ok-condition.ensures.1, c.in_ok-until.ensures.1, repeat_made _ _ _ _) (record {
      spelled = onto refl (behind c.in_ok-body.ensures (onto w (behind e refl)));
      moves = λ s. entered (want.statement (suc c.args.levels)) (statements_parts c.args.levels ++ want.word words.Until ∷ expr_parts c.args.levels) s _ _ _ refl refl ∙ c.in_ok-body.ensures.moves (want.word words.Until ∷ expr_parts c.args.levels ++ s) ∙ after_word words.Until (expr_parts c.args.levels ++ s) w ∙ e.moves s;
      within = omega (arith, c.in_ok-body.ensures.within, e.within);
      shorter = omega (arith, c.in_ok-body.ensures.shorter, fewer w, e.shorter);
    })

pub counted-returns-in_err-start : goal.counted-returns-in_err-start
counted-returns-in_err-start t c =
    exits _ _ c.from_residual.result c.in_err-start.field-0.0 c.from_residual.ensures.1
    (via (want.ident ∷ want.symbol symbols.Becomes ∷ expr_parts c.args.levels) (want.statement (suc c.args.levels) ∷ []) _ (word_token words.For c.args.span ∷ c.args.given.now) _ (λ s. want.word words.To ∷ expr_parts c.args.levels ++ want.some_step c.args.levels ∷ want.word words.Do ∷ statements_parts c.args.levels ++ want.word words.End ∷ s) (λ s. entered (want.statement (suc c.args.levels)) (want.ident ∷ want.symbol symbols.Becomes ∷ expr_parts c.args.levels ++ want.word words.To ∷ expr_parts c.args.levels ++ want.some_step c.args.levels ∷ want.word words.Do ∷ statements_parts c.args.levels ++ want.word words.End ∷ []) s _ _ _ refl refl) c.in_err-start.ensures)

pub counted-returns-in_err-limits : goal.counted-returns-in_err-limits
counted-returns-in_err-limits t c =
    exits _ _ c.from_residual-in_err-limits.result c.in_err-limits.field-0.0 c.from_residual-in_err-limits.ensures.1
    (via (want.word words.To ∷ expr_parts c.args.levels ++ want.some_step c.args.levels ∷ []) (want.statement (suc c.args.levels) ∷ []) _ (word_token words.For c.args.span ∷ c.args.given.now) _ (λ s. want.word words.Do ∷ statements_parts c.args.levels ++ want.word words.End ∷ s) (λ s. entered (want.statement (suc c.args.levels)) (want.ident ∷ want.symbol symbols.Becomes ∷ expr_parts c.args.levels ++ want.word words.To ∷ expr_parts c.args.levels ++ want.some_step c.args.levels ∷ want.word words.Do ∷ statements_parts c.args.levels ++ want.word words.End ∷ []) s _ _ _ refl refl ∙ c.in_ok-start.ensures.moves (want.word words.To ∷ expr_parts c.args.levels ++ want.some_step c.args.levels ∷ want.word words.Do ∷ statements_parts c.args.levels ++ want.word words.End ∷ s)) (rw c.in_err-limits.ensures at c.limits.ensures))

pub counted-returns-in_err-parts : goal.counted-returns-in_err-parts
counted-returns-in_err-parts t c =
    let l = rw c.in_ok-limits.ensures.0 at c.limits.ensures in
    exits _ _ c.from_residual-in_err-parts.result c.in_err-parts.field-0.0 c.from_residual-in_err-parts.ensures.1
    (via (want.word words.Do ∷ statements_parts c.args.levels ++ want.word words.End ∷ []) (want.statement (suc c.args.levels) ∷ []) _ (word_token words.For c.args.span ∷ c.args.given.now) _ (λ s. s) (λ s. entered (want.statement (suc c.args.levels)) (want.ident ∷ want.symbol symbols.Becomes ∷ expr_parts c.args.levels ++ want.word words.To ∷ expr_parts c.args.levels ++ want.some_step c.args.levels ∷ want.word words.Do ∷ statements_parts c.args.levels ++ want.word words.End ∷ []) s _ _ _ refl refl ∙ c.in_ok-start.ensures.moves (want.word words.To ∷ expr_parts c.args.levels ++ want.some_step c.args.levels ∷ want.word words.Do ∷ statements_parts c.args.levels ++ want.word words.End ∷ s) ∙ l.moves (want.word words.Do ∷ statements_parts c.args.levels ++ want.word words.End ∷ s)) (rw c.in_err-parts.ensures at c.counted_body.ensures))

pub counted-returns : goal.counted-returns
counted-returns t c =
    let l = rw c.in_ok-limits.ensures.0 at c.limits.ensures in
    let b = rw c.in_ok-parts.ensures.0 at c.counted_body.ensures in
    rw (c.in_ok-boxed.ensures.ok, c.in_ok-parts.ensures.1, c.in_ok-limits.ensures.1, for_made _ _ _ _ _ _ _ _ _ _) (record {
      spelled = onto refl (behind c.in_ok-start.ensures (behind l (behind b refl)));
      moves = λ s. entered (want.statement (suc c.args.levels)) (want.ident ∷ want.symbol symbols.Becomes ∷ expr_parts c.args.levels ++ want.word words.To ∷ expr_parts c.args.levels ++ want.some_step c.args.levels ∷ want.word words.Do ∷ statements_parts c.args.levels ++ want.word words.End ∷ []) s _ _ _ refl refl ∙ c.in_ok-start.ensures.moves (want.word words.To ∷ expr_parts c.args.levels ++ want.some_step c.args.levels ∷ want.word words.Do ∷ statements_parts c.args.levels ++ want.word words.End ∷ s) ∙ l.moves (want.word words.Do ∷ statements_parts c.args.levels ++ want.word words.End ∷ s) ∙ b.moves s;
      within = omega (arith, c.in_ok-start.ensures.within, l.within, b.within);
      shorter = omega (arith, c.in_ok-start.ensures.shorter, l.shorter, b.shorter);
    })

pub counted_body-returns-in_err-word : goal.counted_body-returns-in_err-word
counted_body-returns-in_err-word t c =
    exits _ _ c.from_residual.result c.in_err-word.field-0.0 c.from_residual.ensures.1
    (via (want.word words.Do ∷ []) (want.word words.Do ∷ statements_parts c.args.levels ++ want.word words.End ∷ []) _ (c.args.given.now) _ (λ s. statements_parts c.args.levels ++ want.word words.End ∷ s) (λ s. refl) c.in_err-word.ensures)

pub counted_body-returns-in_err-body : goal.counted_body-returns-in_err-body
counted_body-returns-in_err-body t c =
    exits _ _ c.from_residual-in_err-body.result c.in_err-body.field-0.0 c.from_residual-in_err-body.ensures.1
    (via (statements_parts c.args.levels) (want.word words.Do ∷ statements_parts c.args.levels ++ want.word words.End ∷ []) _ (c.args.given.now) _ (λ s. want.word words.End ∷ s) (λ s. after_word words.Do (statements_parts c.args.levels ++ want.word words.End ∷ s) c.in_ok-word.ensures) c.in_err-body.ensures)

pub counted_body-returns-in_err-end : goal.counted_body-returns-in_err-end
counted_body-returns-in_err-end t c =
    exits _ _ c.from_residual-in_err-end.result c.in_err-end.field-0.0 c.from_residual-in_err-end.ensures.1
    (via (want.word words.End ∷ []) (want.word words.Do ∷ statements_parts c.args.levels ++ want.word words.End ∷ []) _ (c.args.given.now) _ (λ s. s) (λ s. after_word words.Do (statements_parts c.args.levels ++ want.word words.End ∷ s) c.in_ok-word.ensures ∙ c.in_ok-body.ensures.moves (want.word words.End ∷ s)) (rw c.in_err-end.ensures at c.need_word-2.ensures))

pub counted_body-returns : goal.counted_body-returns
counted_body-returns t c =
    let w = rw c.in_ok-end.ensures.0 at c.need_word-2.ensures in
    rw (c.in_ok-end.ensures.1) (record {
      spelled = onto c.in_ok-word.ensures (behind c.in_ok-body.ensures (onto w refl));
      moves = λ s. after_word words.Do (statements_parts c.args.levels ++ want.word words.End ∷ s) c.in_ok-word.ensures ∙ c.in_ok-body.ensures.moves (want.word words.End ∷ s) ∙ after_word words.End s w;
      within = omega (arith, c.in_ok-body.ensures.within);
      shorter = omega (arith, fewer c.in_ok-word.ensures, c.in_ok-body.ensures.shorter, fewer w);
    })

pub statements-statement-requires : goal.statements-statement-requires
statements-statement-requires t c = omega arith

pub statements-more_statements-requires : goal.statements-more_statements-requires
statements-more_statements-requires t c = omega (arith, c.in_ok-first.ensures.shorter)

pub more_statements-statement-requires : goal.more_statements-statement-requires
more_statements-statement-requires t c = omega (arith, c.loop-semicolon.invariant.shorter, fewer c.in-Some.ensures.some)

pub statement-conditional-requires : goal.statement-conditional-requires
statement-conditional-requires t c = omega (arith, fewer c.in-Some-word.ensures.some)

pub statement-choice-requires : goal.statement-choice-requires
statement-choice-requires t c = omega (arith, fewer c.in-Some-word-2.ensures.some)

pub statement-repetition-requires : goal.statement-repetition-requires
statement-repetition-requires t c = omega (arith, fewer c.in-Some-word-3.ensures.some)

pub statement-repeat-requires : goal.statement-repeat-requires
statement-repeat-requires t c = omega (arith, fewer c.in-Some-word-4.ensures.some)

pub statement-counted-requires : goal.statement-counted-requires
statement-counted-requires t c = omega (arith, fewer c.in-Some-word-5.ensures.some)

pub guarded-statements-requires : goal.guarded-statements-requires
guarded-statements-requires t c = let h = rw c.in_ok-span.ensures.0 at c.need_word.ensures in omega (arith, c.in_ok-condition.ensures.shorter, fewer h)

pub elsifs-guarded-requires : goal.elsifs-guarded-requires
elsifs-guarded-requires t c = omega (arith, c.loop-span.invariant.shorter, fewer c.in-Some.ensures.some)

pub branches-guarded-requires : goal.branches-guarded-requires
branches-guarded-requires t c = omega arith

pub branches-elsifs-requires : goal.branches-elsifs-requires
branches-elsifs-requires t c = omega (arith, c.in_ok-first.ensures.shorter)

pub otherwise-statements-requires : goal.otherwise-statements-requires
otherwise-statements-requires t c = omega (arith, fewer c.in-Some.ensures.some)

pub conditional-branches-requires : goal.conditional-branches-requires
conditional-branches-requires t c = omega arith

pub conditional-otherwise-requires : goal.conditional-otherwise-requires
conditional-otherwise-requires t c = omega (arith, c.in_ok-parts.ensures.shorter)

pub choice-arms-requires : goal.choice-arms-requires
choice-arms-requires t c = omega (arith, c.in_ok-value.ensures.shorter)

pub arms-arm-requires : goal.arms-arm-requires
arms-arm-requires t c = omega (arith, fewer c.in_ok-of.ensures)

pub arms-more_arms-requires : goal.arms-more_arms-requires
arms-more_arms-requires t c = omega (arith, fewer c.in_ok-of.ensures, c.in_ok-first.ensures.shorter)

pub arm-statements-requires : goal.arm-statements-requires
arm-statements-requires t c = let h = rw c.in-Some.is at c.in_ok-first.ensures in omega (arith, h.shorter, c.in_ok-labels.ensures.0.shorter)

pub more_arms-arm-requires : goal.more_arms-arm-requires
more_arms-arm-requires t c = omega (arith, c.loop-bar.invariant.shorter, fewer c.in-Some.ensures.some)

pub repetition-branches-requires : goal.repetition-branches-requires
repetition-branches-requires t c = omega arith

pub repeat-statements-requires : goal.repeat-statements-requires
repeat-statements-requires t c = omega arith

pub counted-counted_body-requires : goal.counted-counted_body-requires
counted-counted_body-requires t c = let h = rw c.in_ok-limits.ensures.0 at c.limits.ensures in omega (arith, c.in_ok-start.ensures.shorter, h.shorter)

pub counted_body-statements-requires : goal.counted_body-statements-requires
counted_body-statements-requires t c = omega (arith, fewer c.in_ok-word.ensures)

pub more_statements-loop-semicolon-smaller : goal.more_statements-loop-semicolon-smaller
more_statements-loop-semicolon-smaller t c = omega (arith, fewer c.in-Some.ensures.some, c.in_ok-statement.ensures.shorter)

pub elsifs-loop-span-smaller : goal.elsifs-loop-span-smaller
elsifs-loop-span-smaller t c = omega (arith, fewer c.in-Some.ensures.some, c.in_ok-parts.ensures.shorter)

pub more_arms-loop-bar-smaller : goal.more_arms-loop-bar-smaller
more_arms-loop-bar-smaller t c = omega (arith, fewer c.in-Some.ensures.some, c.in_ok-arm.ensures.shorter)
