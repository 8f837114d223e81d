use Rattle.std.proofs.Common.{◌≡◌, ◌++◌, ◌∷◌, [], ℕ, true, false, not, Vec, List, Some, filter, nat_eq, map, ap, sym, ◌∙◌}
use Rattle.std.specs.List.{slice_get}
use Rattle.std.specs.declared.alloc.Global.{Global}
use Rattle.std.proofs.lemmas.List.{take_all}
use Rattle.indexmap.specs.IndexSet.{contains}
use Rattle.session_build.specs.Cleaning.{is_of}
use Rattle.session_build.proofs.IndexLaws.{fails, passes}
use Rattle.target_graph.specs.declared.target.Pair.{Pair}
use Rattle.session_build.proofs.cleaning.others_of.Goals as goal
use Rattle.session_build.proofs.cleaning.others_of.Goals.{then-not-contains+in_ok-push, else-not-contains}

pub loop-index-init : goal.loop-index-init
loop-index-init c = ap (map (slice_get c.args.pairs.now)) c.new-others.ensures.items

pub loop-index-preserved : goal.loop-index-preserved
loop-index-preserved c =
    let i = c.loop-index.index in
    let h = c.loop-index-test.true in
    let pairs : List Pair = c.args.pairs.now in
    let targets : List ℕ = c.args.targets.now in
    let pair : Pair = c.index-pairs-index.result in
    let is = c.index-pairs-index.is in
    let others : List ℕ = c.if-not-contains.others.items in
    let among : c.contains.result ≡ is_of targets pair =
    c.contains.ensures ∙ (ap (λ (p : Pair). contains nat_eq c.in_ok-targets.targets p.target) (sym is) ∙ c.in_ok-targets.ensures pair.target) in
    elim c.if-not-contains.branch [
      | then-not-contains+in_ok-push w ↦
          let e : is_of targets pair ≡ false = sym among ∙ w.if-not-contains.true in
          let grown : others ≡ c.loop-index.others.items ++ i ∷ [] = ap (λ (v : Vec ℕ Global). v.items) w.others-is ∙ w.in_ok-push.ensures.items in
          passes (λ (p : Pair). not (is_of targets p)) pairs i pair h is c.loop-index.others.items (ap not e) c.loop-index.invariant others grown
      | else-not-contains w ↦
          let e : is_of targets pair ≡ true = sym among ∙ w.if-not-contains.false in
          let stays : others ≡ c.loop-index.others.items = ap (λ (v : Vec ℕ Global). v.items) w.others-is in
          ap (map (slice_get pairs)) stays ∙ fails (λ (p : Pair). not (is_of targets p)) pairs i pair h is c.loop-index.others.items (ap not e) c.loop-index.invariant
    ]

pub returns : goal.returns
returns c =
    c.loop-index.invariant
    ∙ ap (λ (ps : List Pair). map Some (filter (λ (p : Pair). not (is_of c.args.targets.now p)) ps)) (take_all c.loop-index.index c.args.pairs.now c.loop-index-test.false)
