use Rattle.std.proofs.Common.{◌≡◌, ◌+◌, ◌∷◌, ◌++◌, [], ℕ, List, None, Some, take, refl, ap, sym, subst, ◌∙◌, arith}
use Rattle.std.specs.Prelude.{if◌then◌else◌}
use Rattle.std.specs.Borrow.{Bor}
use Rattle.std.specs.Option.{option_or}
use Rattle.std.proofs.lemmas.List.{take_more, take_all}
use Rattle.target_graph.specs.declared.target.Target.{Target}
use Rattle.reload_rules.specs.Changes.{with_name}
use Rattle.session_reload.specs.Sides.{same_name, side_at}
use Rattle.session_reload.specs.declared.sides.Side.{Side}
use Rattle.session_reload.proofs.NameLaws.{with_more, with_none}
use Rattle.session_reload.proofs.SideLaws.{HasSides, are_sides, no_sides, put_more}
use Rattle.session_reload.proofs.sides.sides_of.Goals as goal

pub loop-target-init : goal.loop-target-init
loop-target-init c = (
  subst (λ (es : List (Bor (List ℕ) × Side)). HasSides [] [] es) (sym c.new-sides.ensures.empty) no_sides,
  c.new-sides.ensures.ordered,
  (let k = c.new-sides.ensures.len in omega arith),
)

pub loop-target-preserved : goal.loop-target-preserved
loop-target-preserved c =
    let i = c.loop-target.target-index in
    let old = c.args.old.now in
    let target = c.target-item.result in
    let name = c.as_slice.result.now in
    let more : take (i + 1) old ≡ take i old ++ target ∷ [] =
    take_more old i target c.loop-target-test.true ∙ ap (λ (t : Target). take i old ++ t ∷ []) (sym c.target-item.is) in
    let old_more = λ (q : List ℕ). (let e : with_name q (take (i + 1) old) ≡ option_or (with_name q (take i old)) (if same_name name q then Some target else None) =
    ap (with_name q) more ∙ (with_more (take i old) target q
    ∙ ap (λ (n : List ℕ). option_or (with_name q (take i old)) (if same_name n q then Some target else None)) (sym c.as_slice.ensures)) in e) in (
      put_more (take i old) [] (take (i + 1) old) [] name _ (side_at c.loop-target.sides.entries) (side_at c.put.new.sides.entries)
          old_more (λ q. with_none [] q (same_name name q)) refl c.in_ok-put.ensures.sides c.loop-target.invariant.0,
      c.in_ok-put.ensures.ordered,
      omega (arith, c.in_ok-put.ensures.few, c.loop-target.invariant.2),
    )

pub loop-target-2-init : goal.loop-target-2-init
loop-target-2-init c =
    let all = take_all c.loop-target.target-index c.args.old.now c.loop-target-test.false in (
      subst (λ (ts : List Target). HasSides ts [] c.loop-target.sides.entries) all c.loop-target.invariant.0,
      c.loop-target.invariant.1,
      (let h = c.loop-target.invariant.2 in let e = c.loop-target.auto.target-index-end in omega arith),
    )

pub loop-target-2-preserved : goal.loop-target-2-preserved
loop-target-2-preserved c =
    let i = c.loop-target-2.target-index in
    let old = c.args.old.now in
    let new = c.args.new.now in
    let target = c.target-item-in-loop-target-2.result in
    let name = c.as_slice-in-loop-target-2.result.now in
    let more : take (i + 1) new ≡ take i new ++ target ∷ [] =
    take_more new i target c.loop-target-2-test.true ∙ ap (λ (t : Target). take i new ++ t ∷ []) (sym c.target-item-in-loop-target-2.is) in
    let new_more = λ (q : List ℕ). (let e : with_name q (take (i + 1) new) ≡ option_or (with_name q (take i new)) (if same_name name q then Some target else None) =
    ap (with_name q) more ∙ (with_more (take i new) target q
    ∙ ap (λ (n : List ℕ). option_or (with_name q (take i new)) (if same_name n q then Some target else None)) (sym c.as_slice-in-loop-target-2.ensures)) in e) in (
      put_more old (take i new) old (take (i + 1) new) name _ (side_at c.loop-target-2.sides.entries) (side_at c.put-in-loop-target-2.new.sides.entries)
          (λ q. with_none old q (same_name name q)) new_more refl c.in_ok-put-2.ensures.sides c.loop-target-2.invariant.0,
      c.in_ok-put-2.ensures.ordered,
      omega (arith, c.in_ok-put-2.ensures.few, c.loop-target-2.invariant.2),
    )

pub returns-clause-sides : goal.returns-clause-sides
returns-clause-sides c =
    let all = take_all c.loop-target-2.target-index c.args.new.now c.loop-target-2-test.false in
    are_sides c.args.old.now c.args.new.now c.loop-target-2.sides.entries
    (subst (λ (ts : List Target). HasSides c.args.old.now ts c.loop-target-2.sides.entries) all c.loop-target-2.invariant.0)
    c.loop-target-2.invariant.1

pub returns-clause-few : goal.returns-clause-few
returns-clause-few c = omega (arith, c.loop-target-2.invariant.2, c.loop-target-2.auto.target-index-end)
