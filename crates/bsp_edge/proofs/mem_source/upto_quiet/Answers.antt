use Rattle.std.proofs.Common.{◌<◌, ℕ, ap, arith, length}
use Rattle.std.proofs.lemmas.List.{get_or_default}
use Rattle.bsp_edge.proofs.PollLaws.{passes_none}
use Rattle.bsp_edge.proofs.mem_source.upto_quiet.Goals as goal

pub returns-clause-quiet : goal.returns-clause-quiet
returns-clause-quiet c =
    let quiet = c.args.quiet.now in
    let next = c.quiet_passed-next.result in
    let inside : next < length quiet = omega arith in
    let ahead = c.quiet_passed-next.ensures.ahead next (0, 0) (omega arith) inside in
    passes_none quiet c.args.offset next c.upto.result c.requires c.quiet_passed-next.ensures.passed
    (λ d. omega (arith, ahead, ap (λ (stop : ℕ × ℕ). stop.0) (get_or_default quiet next d (0, 0) inside)))
