use Rattle.std.proofs.Common.{◌≡◌, ◌+◌, ◌++◌, ℕ, List, drop, suc, ap, sym, ◌∙◌, add-one}
use Rattle.std.proofs.lemmas.List.{append-nil, append_assoc, at_drop_more, at_drop_all}
use Rattle.target_graph.specs.declared.target.Pair.{Pair}
use Rattle.target_graph.specs.declared.target.Target.{Target}
use Rattle.target_graph.specs.Workspace.{pairs_at, pairs_from, pairs_of}
use Rattle.target_graph.proofs.pairs.pairs_of.Goals as goal

pub loop-index-preserved : goal.loop-index-preserved
loop-index-preserved c =
    let targets = c.args.targets.now in
    let n = c.loop-index.index in
    let target = c.index-targets-index.result in
    let rest = drop (n + 1) targets in
    let step : pairs_from n (drop n targets) ≡ pairs_at n target.modules ++ pairs_from (n + 1) rest =
    at_drop_more (pairs_from n) targets n target c.loop-index-test.true
    ∙ (ap (λ (t : Target). pairs_at n t.modules ++ pairs_from (suc n) rest) (sym c.index-targets-index.is)
    ∙ ap (λ m. pairs_at n target.modules ++ pairs_from m rest) (sym (add-one n))) in
    let modules = c.as_slice.ensures ∙ ap (λ (x : Target). x.modules) (sym c.index-targets-index.is) in
    ap (λ (ps : List Pair). ps ++ pairs_from (n + 1) rest) (c.in_ok-add_pairs.ensures ∙ ap (λ (ms : List (List ℕ)). c.loop-index.pairs.items ++ pairs_at n ms) modules)
    ∙ (append_assoc c.loop-index.pairs.items (pairs_at n target.modules) (pairs_from (n + 1) rest)
    ∙ (ap (λ (ps : List Pair). c.loop-index.pairs.items ++ ps) (sym step) ∙ c.loop-index.invariant))

pub returns : goal.returns
unfolding pairs_of
returns c =
    sym (append-nil c.loop-index.pairs.items)
    ∙ (ap (λ (ps : List Pair). c.loop-index.pairs.items ++ ps) (sym (at_drop_all (pairs_from c.loop-index.index) c.args.targets.now c.loop-index.index c.loop-index-test.false))
    ∙ c.loop-index.invariant)
