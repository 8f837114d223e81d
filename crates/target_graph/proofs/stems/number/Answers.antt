use Rattle.std.proofs.Common.{◌≡◌, ◌+◌, ◌++◌, ◌∷◌, [], ℕ, List, length, take, ap, sym, subst, ◌∙◌, arith}
use Rattle.std.proofs.lemmas.List.{map_more, take_all}
use Rattle.target_graph.specs.declared.target.Pair.{Pair}
use Rattle.target_graph.specs.Names.{stem}
use Rattle.target_graph.specs.Workspace.{stems_of}
use Rattle.target_graph.specs.Stems.{IsNumbered, IsNumbering}
use Rattle.target_graph.proofs.Numbers.{number_none, number_more}
use Rattle.target_graph.proofs.stems.number.Goals as goal

pub loop-pair-init : goal.loop-pair-init
loop-pair-init c = (
  subst (λ (keys : List (List ℕ)). IsNumbering [] keys c.new-numbers.result.items) (sym c.requires.empty)
      (subst (λ (ns : List ℕ). IsNumbering [] [] ns) (sym c.new-numbers.ensures.items) number_none),
  (let k = ap (λ (keys : List (List ℕ)). length keys) c.requires.empty in omega arith),
)

pub number_of-requires : goal.number_of-requires
number_of-requires c = omega (arith, c.loop-pair.invariant.1, c.requires.few, c.loop-pair-test.true)

pub loop-pair-preserved : goal.loop-pair-preserved
loop-pair-preserved c =
    let i = c.loop-pair.pair-index in
    let pairs = c.args.pairs.now in
    let pair = c.pair-item.result in
    let name : c.in_ok-name.name ≡ stem pair.path = (let x = c.in_ok-name.ensures in let y = c.stem.ensures in let z = c.as_slice.ensures in cc) in
    let next = subst (λ (xs : List ℕ). IsNumbered c.loop-pair.stems.keys c.number_of.new.stems.keys xs c.in_ok-number_of.field-0) name c.in_ok-number_of.ensures in
    let more : stems_of (take (i + 1) pairs) ≡ stems_of (take i pairs) ++ stem pair.path ∷ [] =
    map_more (λ (p : Pair). stem p.path) pairs i pair c.loop-pair-test.true ∙ ap (λ (p : Pair). stems_of (take i pairs) ++ stem p.path ∷ []) (sym c.pair-item.is) in (
      subst (λ (texts : List (List ℕ)). IsNumbering texts c.number_of.new.stems.keys c.push.new.self.items) (sym more)
          (subst (λ (ns : List ℕ). IsNumbering (stems_of (take i pairs) ++ stem pair.path ∷ []) c.number_of.new.stems.keys ns) (sym c.in_ok-push.ensures.items)
          (number_more (stems_of (take i pairs)) c.loop-pair.stems.keys c.number_of.new.stems.keys c.loop-pair.numbers.items (stem pair.path) c.in_ok-number_of.field-0 c.loop-pair.invariant.0 next)),
      omega (arith, c.loop-pair.invariant.1, next.few),
    )

pub returns : goal.returns
returns c =
    subst (λ (ps : List Pair). IsNumbering (stems_of ps) c.loop-pair.stems.keys c.loop-pair.numbers.items) (take_all c.loop-pair.pair-index c.args.pairs.now c.loop-pair-test.false) c.loop-pair.invariant.0
