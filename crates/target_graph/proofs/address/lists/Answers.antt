use Rattle.std.proofs.Common.{◌+◌, ◌||◌, ℕ, List, drop, option_copied, ap, sym, ◌∙◌}
use Rattle.std.specs.List.{list_any}
use Rattle.std.proofs.lemmas.List.{at_drop_more, at_drop_all}
use Rattle.target_graph.specs.Listers.{is_one}
use Rattle.target_graph.proofs.address.lists.Goals as goal

pub returns-then-is_one : goal.returns-then-is_one
returns-then-is_one c =
    let test = is_one (option_copied c.args.own) (option_copied c.args.other) in
    let n = c.loop-path.path-index in
    let path = c.path-item.result in
    let more = list_any test (drop (n + 1) c.args.modules.now) in
    sym (c.loop-path.invariant
    ∙ (at_drop_more (list_any test) c.args.modules.now n path c.loop-path-test.true
    ∙ (ap (λ (p : List ℕ). test p || more) (sym c.path-item.is)
    ∙ ap (λ b. b || more) (sym (c.is_one.ensures ∙ ap test c.as_slice.ensures) ∙ c.if-is_one.true))))

pub loop-path-preserved : goal.loop-path-preserved
loop-path-preserved c =
    let test = is_one (option_copied c.args.own) (option_copied c.args.other) in
    let n = c.loop-path.path-index in
    let path = c.path-item.result in
    let more = list_any test (drop (n + 1) c.args.modules.now) in
    c.loop-path.invariant
    ∙ (at_drop_more (list_any test) c.args.modules.now n path c.loop-path-test.true
    ∙ (ap (λ (p : List ℕ). test p || more) (sym c.path-item.is)
    ∙ ap (λ b. b || more) (sym (c.is_one.ensures ∙ ap test c.as_slice.ensures) ∙ c.if-is_one.false)))

pub returns : goal.returns
returns c =
    let test = is_one (option_copied c.args.own) (option_copied c.args.other) in
    sym (c.loop-path.invariant ∙ at_drop_all (list_any test) c.args.modules.now c.loop-path.path-index c.loop-path-test.false)
