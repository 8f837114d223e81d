use Rattle.std.proofs.Common.{◌≡◌, ◌<◌, ◌≤◌, ℕ, List, length, get_or, map, eqb, ap, sym, subst, ◌∙◌, arith}
use Rattle.std.specs.List.{All, flat_map}
use Rattle.std.proofs.lemmas.List.{get_or_default, length-map, take_all}
use Rattle.session_answers.proofs.Lists.{made_more, hold_more}
use Rattle.bsp_records.specs.Results.{HasSourcesTexts}
use Rattle.bsp_records.specs.ShortAnswers.{IsShortSourcesItem}
use Rattle.bsp_records.specs.declared.results.SourcesItem.{SourcesItem}
use Rattle.session_answers.proofs.Once.{all_once}
use Rattle.session_answers.proofs.Told.{few_items, few_documents}
use Rattle.ob_text.specs.Once.{each_once}
use Rattle.session_law.specs.Questions.{sources_at}
use Rattle.target_graph.specs.declared.target.Target.{Target}
use Rattle.session_answers.proofs.sources.sources_answer.Goals as goal

pub loop-target-preserved : goal.loop-target-preserved
loop-target-preserved c =
    let xs : List ℕ = c.deref-target-items.result.now in
    let i = c.loop-target.target-index in
    let x = get_or xs i 0 in
    let at : x ≡ get_or xs i x = get_or_default xs i 0 x c.loop-target-test.true in
    let ys = c.loop-target.items.items in
    let y = c.in_ok-sources_at.field-0 in
    let pushed = c.in_ok-push.ensures.items in
    record {
      are = made_more (sources_at c.args.workspace.now) xs i x ys c.push.new.self.items y c.loop-target-test.true at c.in_ok-sources_at.ensures.is c.loop-target.invariant.are pushed;
      texts = hold_more HasSourcesTexts ys c.push.new.self.items y c.loop-target.invariant.texts c.in_ok-sources_at.ensures.texts pushed;
      short = hold_more IsShortSourcesItem ys c.push.new.self.items y c.loop-target.invariant.short c.in_ok-sources_at.ensures.short pushed;
    }

pub sources_at-requires-clause-within : goal.sources_at-requires-clause-within
sources_at-requires-clause-within c =
    let n = length c.args.workspace.now.targets in
    let are : c.deref-target-items.result.now ≡ each_once eqb c.args.asked.now = c.deref-target-items.ensures.value ∙ c.in_ok-once.ensures in
    subst (All (λ t. t < n)) (sym are) (all_once (λ t. t < n) c.args.asked.now c.requires) c.loop-target.target-index 0 c.loop-target-test.true

pub write_sources_result-requires : goal.write_sources_result-requires
write_sources_result-requires c = subst (All HasSourcesTexts) (sym c.from_vec-items.ensures) c.loop-target.invariant.texts

pub returns-clause-short : goal.returns-clause-short
returns-clause-short c =
    let space = c.args.workspace.now in
    let asked = c.args.asked.now in
    let once : c.deref-target-items.result.now ≡ each_once eqb asked = c.deref-target-items.ensures.value ∙ c.in_ok-once.ensures in
    let all : c.from_vec-items.result ≡ map (sources_at space) (each_once eqb asked) =
    c.from_vec-items.ensures
    ∙ (c.loop-target.invariant.are
    ∙ (ap (map (sources_at space)) (take_all c.loop-target.target-index c.deref-target-items.result.now c.loop-target-test.false) ∙ ap (map (sources_at space)) once)) in
    let ts = c.targets-all.ensures.targets in
    let size = ap (λ (xs : List Target). length xs) ts in
    let told = ap (λ (xs : List SourcesItem). length xs) all ∙ length-map (each_once eqb asked) (sources_at space) in
    let fewer = few_items space asked c.requires in
    let few = c.targets-all.ensures.few in
    let few_modules : length (flat_map (λ (t : Target). t.modules) space.targets) ≤ 1024 =
    subst (λ (xs : List Target). length (flat_map (λ (t : Target). t.modules) xs) ≤ 1024) ts c.targets-all.ensures.few_modules in
    c.write_sources_result.ensures.short
    (record {
      count = omega (arith, told, fewer, few, size);
      items = subst (All IsShortSourcesItem) (sym c.from_vec-items.ensures) c.loop-target.invariant.short;
      source_count = subst (λ (xs : List SourcesItem). length (flat_map (λ (i : SourcesItem). i.sources) xs) ≤ 1024) (sym all) (few_documents space asked 1024 c.requires few_modules);
    })
