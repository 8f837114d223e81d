use Rattle.std.proofs.Common.{◌≡◌, ◌+◌, ◌++◌, ◌∷◌, [], ℕ, List, take, sym, ap, ◌∙◌, arith}
use Rattle.std.proofs.lemmas.List.{take_all, take_more}
use Rattle.build_sources.proofs.documents.copies_of.Goals as goal

pub loop-name-preserved : goal.loop-name-preserved
loop-name-preserved c =
    let names : List (List ℕ) = c.args.names.now in
    let i = c.loop-name.name-index in
    let name : List ℕ = c.name-item.result in
    let more : take (i + 1) names ≡ take i names ++ name ∷ [] =
    take_more names i name c.loop-name-test.true ∙ ap (λ (x : List ℕ). take i names ++ x ∷ []) (sym c.name-item.is) in
    let copy : List ℕ = c.in_ok-copy.field-0 in
    let old : List (List ℕ) = c.loop-name.copies.items in
    let new : List (List ℕ) = c.push.new.self.items in
    let pushed : new ≡ old ++ copy ∷ [] = c.in_ok-push.ensures.items in
    let same : copy ≡ name = c.in_ok-copy.ensures in
    pushed ∙ ap (λ (ns : List (List ℕ)). ns ++ copy ∷ []) c.loop-name.invariant ∙ ap (λ (n : List ℕ). take i names ++ n ∷ []) same ∙ sym more

pub returns : goal.returns
returns c = c.loop-name.invariant ∙ take_all c.loop-name.name-index c.args.names.now (omega (arith, c.loop-name-test.false))
