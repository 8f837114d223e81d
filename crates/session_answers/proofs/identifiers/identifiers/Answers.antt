use Rattle.std.proofs.Common.{◌≡◌, ℕ, List, get_or}
use Rattle.std.proofs.lemmas.List.{get_or_default}
use Rattle.session_answers.proofs.Lists.{made_more, hold_more}
use Rattle.bsp_records.specs.Params.{IsTarget}
use Rattle.bsp_records.specs.ShortAnswers.{IsShortIdentifier}
use Rattle.session_law.specs.Questions.{identifier_at}
use Rattle.session_answers.proofs.identifiers.identifiers.Goals as goal

pub loop-target-preserved : goal.loop-target-preserved
loop-target-preserved c =
    let xs : List ℕ = c.args.targets.now in
    let i = c.loop-target.target-index in
    let x = get_or xs i 0 in
    let at : x ≡ get_or xs i x = get_or_default xs i 0 x c.loop-target-test.true in
    let ys = c.loop-target.ids.items in
    let y = c.in_ok-identifier.field-0 in
    let pushed = c.in_ok-push.ensures.items in
    record {
      are = made_more (identifier_at c.args.workspace.now) xs i x ys c.push.new.self.items y c.loop-target-test.true at c.in_ok-identifier.ensures.is c.loop-target.invariant.are pushed;
      texts = hold_more IsTarget ys c.push.new.self.items y c.loop-target.invariant.texts c.in_ok-identifier.ensures.texts pushed;
      short = hold_more IsShortIdentifier ys c.push.new.self.items y c.loop-target.invariant.short c.in_ok-identifier.ensures.short pushed;
    }
