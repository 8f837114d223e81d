use Rattle.std.proofs.Common.{◌≡◌, List, ℕ, Bool, true, false, length, replicate, sym, subst, ap, ◌∙◌}
use Rattle.build_plan.specs.Lists.{written}
use Rattle.build_plan.specs.Cycles.{LeavesCycles}
use Rattle.build_plan.proofs.PlanLaws.{left}
use Rattle.build_plan.proofs.peel.unfinished.Goals as goal

pub returns : goal.returns
returns c =
    let front = c.args.front.now in
    let count : c.len.result ≡ length front.rows = c.len.ensures.len ∙ ap (λ (rows : List (List ℕ)). length rows) c.links.ensures in
    let marks : c.in_ok-marks.marks.items ≡ replicate (length front.rows) true = c.in_ok-marks.ensures ∙ ap (λ n. replicate n true) count in
    subst (LeavesCycles front.rows)
    (sym (c.write_marks.ensures ∙ (ap (λ (bs : List Bool). written bs c.finished.result.now false) marks ∙ ap (λ (xs : List ℕ). written (replicate (length front.rows) true) xs false) c.finished.ensures.finished)))
    (left front.rows front.finished c.requires)
