use Rattle.std.proofs.Common.{◌≡◌, ◌-◌, ◌<◌, eqb, not, false, length, get_or, ap, ◌∙◌, arith, drop, eq-eqb}
use Rattle.std.specs.List.{suffix_len}
use Rattle.std.proofs.lemmas.List.Sums.{suffix_len_is}
use Rattle.target_graph.proofs.names.last_segment.Goals as goal
use Rattle.target_graph.proofs.names.last_segment.Goals.{then-back-test+else-path-start-ne47, else-back-test}

pub returns : goal.returns
returns c =
    let path = c.args.path.now in
    let start = c.back.start in
    let stops : (0 < start → not (eqb (get_or path (start - 1) 0) 47) ≡ false) =
    elim c.back-test.branch [ then-back-test+else-path-start-ne47 w ↦ λ h. (let q = w.if-path-start-ne47.false in ap not (eq-eqb (get_or path (start - 1) 0) 47 q)) | else-back-test w ↦ λ h. absurd (omega arith) ] in
    let n : suffix_len (λ byte. not (eqb byte 47)) path ≡ length path - start =
    suffix_len_is (λ byte. not (eqb byte 47)) path start 0 c.back.invariant.0 (λ k a b. ap not (c.back.invariant.1 k a b)) stops in
    c.split_at.ensures.back ∙ ap (λ i. drop i path) (omega arith)
