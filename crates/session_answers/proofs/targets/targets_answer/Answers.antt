use Rattle.std.proofs.Common.{◌≡◌, ◌<◌, ◌≤◌, List, length, get_or, map, ap, sym, subst, ◌∙◌, arith}
use Rattle.std.specs.List.{All, flat_map}
use Rattle.std.proofs.lemmas.List.{length-map, take_all}
use Rattle.bsp_records.specs.Results.{HasBuildTargetTexts}
use Rattle.bsp_records.specs.ShortAnswers.{IsShortTarget}
use Rattle.bsp_records.specs.declared.results.BuildTarget.{BuildTarget}
use Rattle.session_law.specs.Questions.{described}
use Rattle.session_answers.proofs.Lists.{made_more, hold_more}
use Rattle.session_answers.proofs.Told.{dependencies_told}
use Rattle.session_answers.proofs.targets.targets_answer.Goals as goal
use Rattle.target_graph.specs.declared.target.Target.{Target}

pub loop-target-preserved : goal.loop-target-preserved
loop-target-preserved c =
    let xs : List Target = c.args.workspace.now.targets in
    let i = c.loop-target.target-index in
    let size : length c.targets-target-items.result.now ≡ length xs = ap (λ (ts : List Target). length ts) c.targets-target-items.ensures.targets in
    let h : i < length xs = subst (λ n. i < n) size c.loop-target-test.true in
    let x = c.target-item.result in
    let at : x ≡ get_or xs i x = c.target-item.is ∙ ap (λ (ts : List Target). get_or ts i x) c.targets-target-items.ensures.targets in
    let ys = c.loop-target.targets.items in
    let y = c.in_ok-described.field-0 in
    let pushed = c.in_ok-push.ensures.items in
    record {
      are = made_more (described c.args.workspace.now) xs i x ys c.push.new.self.items y h at c.in_ok-described.ensures.is c.loop-target.invariant.are pushed;
      texts = hold_more HasBuildTargetTexts ys c.push.new.self.items y c.loop-target.invariant.texts c.in_ok-described.ensures.texts pushed;
      short = hold_more IsShortTarget ys c.push.new.self.items y c.loop-target.invariant.short c.in_ok-described.ensures.short pushed;
    }

pub returns-clause-short : goal.returns-clause-short
returns-clause-short c =
    let space = c.args.workspace.now in
    let xs : List Target = space.targets in
    let ts = c.targets-target-items.ensures.targets in
    let size : length c.targets-target-items.result.now ≡ length xs = ap (λ (ys : List Target). length ys) ts in
    let passed : length xs ≤ c.loop-target.target-index = omega (arith, size, c.loop-target-test.false) in
    let all : c.from_vec-targets.result ≡ map (described space) xs =
    c.from_vec-targets.ensures ∙ (c.loop-target.invariant.are ∙ ap (map (described space)) (take_all c.loop-target.target-index xs passed)) in
    let told : length c.from_vec-targets.result ≡ length xs = ap (λ (ys : List BuildTarget). length ys) all ∙ length-map xs (described space) in
    let few = c.targets-target-items.ensures.few in
    let dependencies = ap (λ (ys : List BuildTarget). length (flat_map (λ (t : BuildTarget). t.dependencies) ys)) all ∙ dependencies_told space xs in
    let few_dependencies : length (flat_map (λ (t : Target). t.dependencies) xs) ≤ 1024 =
    subst (λ (ys : List Target). length (flat_map (λ (t : Target). t.dependencies) ys) ≤ 1024) ts c.targets-target-items.ensures.few_dependencies in
    c.write_build_targets_result.ensures.short
    (record {
      count = omega (arith, told, few, size);
      targets = subst (All IsShortTarget) (sym c.from_vec-targets.ensures) c.loop-target.invariant.short;
      dependency_count = omega (arith, dependencies, few_dependencies);
    })
