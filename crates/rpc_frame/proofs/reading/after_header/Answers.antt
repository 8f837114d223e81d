use Rattle.std.proofs.Common.{◌<◌, [], ◌∷◌, ◌++◌, inl, inr, sym, subst, arith}
use Rattle.std.proofs.lemmas.Bool.{cases_lt}
use Rattle.rpc_frame.specs.Limits.{header_limit}
use Rattle.rpc_frame.specs.declared.reading.Step.{Step}
use Rattle.rpc_frame.specs.Partial.{Makes}
use Rattle.rpc_frame.proofs.PartLaws.{header_goes_on, header_opens, header_whole}
use Rattle.rpc_frame.proofs.reading.after_header.Goals as goal

pub returns-in-On-clause-makes : goal.returns-in-On-clause-makes
returns-in-On-clause-makes c = λ offset part at r.
    let inside : c.args.came < header_limit = omega (arith, c.requires.limit, c.if-full.false) in
    header_goes_on c.args.came c.args.head c.in-On.head part c.args.byte r inside (sym c.in-On.ensures.next)

pub returns-in-Closed-clause-makes : goal.returns-in-Closed-clause-makes
returns-in-Closed-clause-makes c = λ offset part at r.
    let inside : c.args.came < header_limit = omega (arith, c.requires.limit, c.if-full.false) in
    let size = c.in-Closed.size in
    let whole = part ++ c.args.byte ∷ [] in
    elim (cases_lt 0 size) [
      | inl some ↦ subst (λ (s : Step). Makes offset s whole) (sym (c.opened.ensures.some some))
          (header_opens c.args.came c.args.head size part c.args.byte r inside (sym c.in-Closed.ensures.next) some)
      | inr none ↦ subst (λ (s : Step). Makes offset s whole) (sym (c.opened.ensures.empty (omega (arith, none))))
          (header_whole c.args.came c.args.head size part c.args.byte r inside (sym c.in-Closed.ensures.next) (omega (arith, none)))
    ]
