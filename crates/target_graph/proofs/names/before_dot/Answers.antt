use Rattle.std.proofs.Common.{eqb, ap, ◌∙◌, sym, take, tests, rules}
use Rattle.std.proofs.lemmas.Iterator.{YieldsList-from_slice}
use Rattle.std.proofs.lemmas.Iterator.Search.{position_from_yields_List}
use Rattle.target_graph.proofs.Indices.{some_index, no_place}
use Rattle.target_graph.proofs.names.before_dot.Goals as goal

pub returns-in-Some : goal.returns-in-Some
returns-in-Some c =
    let p = position_from_yields_List (λ byte. eqb byte 46) _ _ c.position.result c.position.ensures.ran (YieldsList-from_slice c.args.text.now c.iter.ensures.rest) (λ x b q k. search (rules, tests)) in
    c.split_at.ensures.front ∙ ap (λ i. take i c.args.text.now) (some_index _ _ _ (sym p ∙ c.in-Some.is))

pub returns-in-None : goal.returns-in-None
returns-in-None c =
    let p = position_from_yields_List (λ byte. eqb byte 46) _ _ c.position.result c.position.ensures.ran (YieldsList-from_slice c.args.text.now c.iter.ensures.rest) (λ x b q k. search (rules, tests)) in
    no_place _ c.args.text.now (sym p ∙ c.in-None.is)
