use Rattle.std.proofs.Common.{◌≡◌, ◌≤◌, ◌+◌, ◌-◌, ◌&&◌, false, length, take, drop, get_or, refl, sym, ap, subst, ◌∙◌, arith}
use Rattle.std.specs.List.{list_all}
use Rattle.std.proofs.lemmas.Bool.{ne_eqb}
use Rattle.target_graph.specs.Names.{is_name_byte, is_segment, segments}
use Rattle.target_graph.proofs.Segments.{Sweeps, at_slash, at_other, at_end, last_plain, sweeps_on, sweeps_behind, segment_is}
use Rattle.target_graph.proofs.names.has_segments.Goals as goal
use Rattle.target_graph.proofs.names.has_segments.Goals.{then-byte-ne47-via-then-byte-ne47, then-byte-ne47-via-else-byte-ne47+then-not-leads_on, then-not-is_name_byte+else-byte-ne47+else-not-leads_on, else-not-is_name_byte}

pub returns-then-byte-ne47 : goal.returns-then-byte-ne47
returns-then-byte-ne47 c =
    let path = c.args.path.now in
    let start = c.sweep.start in
    let at = c.sweep.at in
    let other : is_name_byte (get_or path at 0) ≡ false = sym c.is_name_byte.ensures ∙ c.if-not-is_name_byte.true in
    elim c.then-byte-ne47.branch [
      | then-byte-ne47-via-then-byte-ne47 w ↦ sym (at_other path start at c.sweep.invariant _ c.sweep-test.true refl (ne_eqb _ _ w.if-byte-ne47.true) other)
      | then-byte-ne47-via-else-byte-ne47+then-not-leads_on w ↦
          let one = segment_is (take (at - start) (drop start path)) _ c.sweep.invariant.plain w.leads_on.ensures in
          sym (at_slash path start at c.sweep.invariant c.sweep-test.true w.if-byte-ne47.false
          ∙ ap (λ b. b && list_all is_segment (segments (drop (at + 1) path))) (one ∙ w.if-not-leads_on.true))
    ]

pub sweep-preserved : goal.sweep-preserved
sweep-preserved c =
    let path = c.args.path.now in
    let start = c.sweep.start in
    let at = c.sweep.at in
    elim c.if-not-is_name_byte.branch [
      | then-not-is_name_byte+else-byte-ne47+else-not-leads_on w ↦
          let one = segment_is (take (at - start) (drop start path)) _ c.sweep.invariant.plain w.leads_on.ensures in
          subst (λ n. Sweeps path n (at + 1)) (sym w.start-is) (sweeps_behind path start at c.sweep.invariant c.sweep-test.true w.if-byte-ne47.false (one ∙ w.if-not-leads_on.false))
      | else-not-is_name_byte w ↦ subst (λ n. Sweeps path n (at + 1)) (sym w.start-is) (sweeps_on path start at c.sweep.invariant c.sweep-test.true (sym c.is_name_byte.ensures ∙ w.if-not-is_name_byte.false))
    ]

pub returns : goal.returns
returns c =
    let path = c.args.path.now in
    let l : length path ≤ c.sweep.at = omega (arith, c.sweep-test.false) in
    sym (at_end path c.sweep.start c.sweep.at c.sweep.invariant l
    ∙ segment_is (take (length path - c.sweep.start) (drop c.sweep.start path)) _ (last_plain path c.sweep.start c.sweep.at c.sweep.invariant l) c.leads_on-2.ensures)
