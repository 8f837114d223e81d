use Rattle.std.proofs.Common.{◌≡◌, ◌+◌, ◌++◌, ◌∷◌, [], List, ℕ, All, Contains, map, take, ap, sym, subst, ◌∙◌}
use Rattle.std.proofs.lemmas.List.{map_more, take_more, take_all}
use Rattle.std.proofs.lemmas.List.Elements.{All-push}
use Rattle.target_graph.specs.declared.fault.FaultKind.TheVariants as kinds
use Rattle.target_graph.specs.Faults.{index_of, IsFirstUnknown, IsAbout}
use Rattle.target_graph.proofs.Listed.{no_unknown, unknown_at}
use Rattle.target_graph.proofs.Steps.{found}
use Rattle.target_graph.proofs.listing.indices_of.Goals as goal

pub returns-in-None : goal.returns-in-None
returns-in-None c =
    let keys = c.args.names.now.keys in
    let wanted = c.args.wanted.now in
    let name = c.name-item.result in
    found c.refusal.result kinds.UnknownDependency (IsFirstUnknown keys wanted) _ name
    (subst (λ (xs : List ℕ). IsAbout c.refusal.result kinds.UnknownDependency xs) c.as_slice.ensures c.refusal.ensures)
    (unknown_at keys wanted c.loop-name.name-index name c.loop-name-test.true c.name-item.is c.loop-name.invariant.1 c.in-None.ensures.none)

pub loop-name-preserved : goal.loop-name-preserved
loop-name-preserved c =
    let i = c.loop-name.name-index in
    let keys = c.args.names.now.keys in
    let wanted = c.args.wanted.now in
    let name = c.name-item.result in
    let more : take (i + 1) wanted ≡ take i wanted ++ name ∷ [] =
    take_more wanted i name c.loop-name-test.true ∙ ap (λ (x : List ℕ). take i wanted ++ x ∷ []) (sym c.name-item.is) in (
      c.in_ok-push-in-Some.ensures.items
          ∙ (ap (λ (xs : List ℕ). xs ++ c.in-Some.index ∷ []) c.loop-name.invariant.0
          ∙ (ap (λ (p : ℕ). map (index_of keys) (take i wanted) ++ p ∷ []) (c.in-Some.ensures.some.0 ∙ ap (index_of keys) c.name-item.is)
          ∙ sym (map_more (index_of keys) wanted i name c.loop-name-test.true))),
      subst (λ (xs : List (List ℕ)). All (Contains keys) xs) (sym more) (All-push (Contains keys) (take i wanted) name c.loop-name.invariant.1 c.in-Some.ensures.some.1),
    )

pub returns : goal.returns
returns c =
    let keys = c.args.names.now.keys in
    let wanted = c.args.wanted.now in
    let all = take_all c.loop-name.name-index wanted c.loop-name-test.false in
    let known = subst (λ (xs : List (List ℕ)). All (Contains keys) xs) all c.loop-name.invariant.1 in
    ((c.from_vec.ensures ∙ (c.loop-name.invariant.0 ∙ ap (map (index_of keys)) all), known), λ name. no_unknown keys wanted name known)
