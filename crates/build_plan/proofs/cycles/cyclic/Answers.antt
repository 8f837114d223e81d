use Rattle.std.proofs.Common.{List, Bool, sym, subst, ap, ◌∙◌, arith, replicate, false}
use Rattle.build_plan.specs.Cycles.{IsKnown}
use Rattle.build_plan.proofs.CycleLaws.{known_first, known_last, decided_more}
use Rattle.build_plan.proofs.cycles.cyclic.Goals as goal

pub loop-place-init : goal.loop-place-init
loop-place-init c = record {
  known = subst (λ (xs : List Bool). IsKnown c.args.links.now c.args.undecided.items xs)
      (sym (c.in_ok-cyclic.ensures ∙ ap (λ n. replicate n false) c.len.ensures.len)) (known_first c.args.links.now c.args.undecided.items c.requires);
  decided = λ k h. absurd (omega arith);
}

pub loop-place-preserved : goal.loop-place-preserved
loop-place-preserved c = record {
  known = c.in_ok-decide.ensures.known;
  decided = decided_more c.loop-place.undecided.items c.decide.new.undecided.items c.loop-place.place c.loop-place.invariant.decided
      c.in_ok-decide.ensures.others c.in_ok-decide.ensures.decided;
}

pub returns : goal.returns
returns c =
    known_last c.args.links.now c.loop-place.undecided.items c.loop-place.cyclic.items c.loop-place.place (omega (arith, c.len-place-end.ensures.len))
    c.loop-place.invariant.known c.loop-place.invariant.decided
