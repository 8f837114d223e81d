use Rattle.std.proofs.Common.{ℕ, List}
use Rattle.session_answers.proofs.Lists.{made_more, hold_more}
use Rattle.bsp_records.specs.Results.{HasSourceTexts}
use Rattle.bsp_records.specs.ShortAnswers.{IsShortSource}
use Rattle.session_law.specs.Questions.{source_at}
use Rattle.session_answers.proofs.sources.sources_of.Goals as goal

pub loop-path-preserved : goal.loop-path-preserved
loop-path-preserved c =
    let xs : List (List ℕ) = c.args.paths.now in
    let i = c.loop-path.path-index in
    let ys = c.loop-path.sources.items in
    let y = c.in_ok-source_at.field-0 in
    let pushed = c.in_ok-push.ensures.items in
    record {
      are = made_more (source_at c.args.workspace.now) xs i c.path-item.result ys c.push.new.self.items y c.loop-path-test.true c.path-item.is c.in_ok-source_at.ensures.is c.loop-path.invariant.are pushed;
      texts = hold_more HasSourceTexts ys c.push.new.self.items y c.loop-path.invariant.texts c.in_ok-source_at.ensures.texts pushed;
      short = hold_more IsShortSource ys c.push.new.self.items y c.loop-path.invariant.short c.in_ok-source_at.ensures.short pushed;
    }
