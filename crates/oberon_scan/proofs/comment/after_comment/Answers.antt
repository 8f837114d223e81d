use Rattle.std.proofs.Common.{◌∙◌, subst, sym}
use Rattle.oberon_scan.specs.Comments.{Closes}
use Rattle.oberon_scan.proofs.Nesting.{opens_more, closes_one, closes_last, passes_one, stays_open}
use Rattle.oberon_scan.proofs.comment.after_comment.Goals as goal

pub loop-at-preserved-in-Opens : goal.loop-at-preserved-in-Opens
loop-at-preserved-in-Opens c =
    opens_more c.args.body.now c.loop-at.at c.loop-at.depth c.loop-at-test.true (sym c.mark_of.ensures ∙ c.in-Opens.is) c.loop-at.invariant

pub returns-in-Closes-clause-closed : goal.returns-in-Closes-clause-closed
returns-in-Closes-clause-closed c =
    subst (Closes 1 c.args.body.now) (sym c.split_at.ensures.back)
    (closes_last c.args.body.now c.loop-at.at c.loop-at.depth c.loop-at-test.true (sym c.mark_of.ensures ∙ c.in-Closes.is) c.if-depth-eq1.true c.loop-at.invariant)

pub loop-at-preserved-in-Closes-2 : goal.loop-at-preserved-in-Closes-2
loop-at-preserved-in-Closes-2 c =
    closes_one c.args.body.now c.loop-at.at c.loop-at.depth c.loop-at-test.true (sym c.mark_of.ensures ∙ c.in-Closes.is) c.if-depth-eq1.false c.loop-at.invariant

pub loop-at-preserved : goal.loop-at-preserved
loop-at-preserved c =
    passes_one c.args.body.now c.loop-at.at c.loop-at.depth c.loop-at-test.true (sym c.mark_of.ensures ∙ c.in-Neither.is) c.loop-at.invariant

pub returns-clause-open : goal.returns-clause-open
returns-clause-open c =
    stays_open c.args.body.now c.loop-at.at c.loop-at.depth c.loop-at-test.false c.loop-at.invariant
