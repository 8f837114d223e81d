use Rattle.std.proofs.Common.{◌≡◌, ◌<◌, ◌++◌, ◌∷◌, [], ℕ, List, Vec, Global, length, get_or, take, map, set, ap, sym, subst, ◌∙◌, arith}
use Rattle.std.proofs.lemmas.List.{take_all, take_more, map-set, length-take-le}
use Rattle.target_graph.specs.Closures.{lists}
use Rattle.target_graph.specs.Stems.{AreGroups}
use Rattle.target_graph.proofs.InMemory.{lists_size, list_at}
use Rattle.target_graph.proofs.Groups.{groups_none, groups_more}
use Rattle.target_graph.proofs.stems.groups.Goals as goal

pub loop-index-init : goal.loop-index-init
loop-index-init c = subst (AreGroups [] c.args.width) (sym c.in_ok-groups.ensures) (groups_none c.args.width)

pub loop-index-preserved : goal.loop-index-preserved
loop-index-preserved c =
    let numbers = c.args.numbers.now in
    let i = c.loop-index.index in
    let n = get_or numbers i 0 in
    let items = λ (v : Vec ℕ Global). v.items in
    let old = lists c.loop-index.groups in
    let wide : n < c.args.width = c.requires.within i 0 c.loop-index-test.true in
    let there : n < length c.loop-index.groups.items = omega (arith, c.loop-index.invariant.size, lists_size c.loop-index.groups.items) in
    let group : c.index_mut.result.now.items ≡ get_or old n [] =
    sym (list_at c.loop-index.groups.items n c.index_mut.result.now there c.index_mut.ensures.value) in
    let last : length (take i numbers) ≡ i = length-take-le i numbers c.loop-index.auto.index-end in
    let pushed : c.push.new.self.items ≡ get_or old n [] ++ length (take i numbers) ∷ [] =
    c.in_ok-push.ensures.items ∙ (ap (λ (xs : List ℕ). xs ++ i ∷ []) group ∙ ap (λ k. get_or old n [] ++ k ∷ []) (sym last)) in
    subst (λ (ns : List ℕ). AreGroups ns c.args.width (map items (set c.loop-index.groups.items n c.push.new.self))) (sym (take_more numbers i 0 c.loop-index-test.true))
    (subst (AreGroups (take i numbers ++ n ∷ []) c.args.width) (sym (map-set items c.loop-index.groups.items n c.push.new.self ∙ ap (set old n) pushed))
    (groups_more (take i numbers) c.args.width old n c.loop-index.invariant wide))

pub returns : goal.returns
returns c =
    subst (λ (ns : List ℕ). AreGroups ns c.args.width (lists c.loop-index.groups)) (take_all c.loop-index.index c.args.numbers.now c.loop-index-test.false) c.loop-index.invariant
