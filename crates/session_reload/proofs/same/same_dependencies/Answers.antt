use Rattle.std.proofs.Common.{◌<◌, map, length, below_more, sym, ◌∙◌, arith}
use Rattle.target_graph.specs.Workspace.{name_at}
use Rattle.session_reload.proofs.ChangeLaws.{named_at, other_texts, same_by_names, texts_at}
use Rattle.session_reload.proofs.same.same_dependencies.Goals as goal

pub loop-index-init : goal.loop-index-init
loop-index-init c = λ k h. absurd (omega arith)

pub returns-then-ne : goal.returns-then-ne
returns-then-ne c =
    let i = c.loop-index.index in
    let a = c.args.a.now in
    let b = c.args.b.now in
    let within : i < length b = omega (arith, c.loop-index-test.true, c.if-a-b.false) in
    other_texts (map (name_at c.args.old.now) a) (map (name_at c.args.new.now) b) i
    (λ same. named_at c.args.old.now c.args.new.now a b i c.index-old-a.result c.index-new-b.result c.loop-index-test.true within
    (c.requires.a i 0 c.loop-index-test.true) (c.requires.b i 0 within) c.index-old-a.is c.index-new-b.is (sym c.ne.ensures ∙ c.if-ne.true) same)

pub loop-index-preserved : goal.loop-index-preserved
loop-index-preserved c =
    let i = c.loop-index.index in
    let a = c.args.a.now in
    let b = c.args.b.now in
    let within : i < length b = omega (arith, c.loop-index-test.true, c.if-a-b.false) in
    below_more _ _ c.loop-index.invariant
    (texts_at c.args.old.now c.args.new.now a b i c.index-old-a.result c.index-new-b.result c.loop-index-test.true within
    (c.requires.a i 0 c.loop-index-test.true) (c.requires.b i 0 within) c.index-old-a.is c.index-new-b.is (sym c.ne.ensures ∙ c.if-ne.false))

pub returns : goal.returns
returns c =
    sym (same_by_names (name_at c.args.old.now) (name_at c.args.new.now) c.args.a.now c.args.b.now c.if-a-b.false
    (λ k h. c.loop-index.invariant k (omega (arith, c.loop-index-test.false))))
