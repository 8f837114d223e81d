use Rattle.std.proofs.Common.{◌≡◌, ◌+◌, ◌≤◌, ℕ, List, length, length-append, lit≤, arith, option_copied, ap, sym, subst, ◌∙◌}
use Rattle.std.specs.List.{list_any}
use Rattle.target_graph.specs.declared.target.Target.{Target}
use Rattle.target_graph.specs.Listers.{is_one}
use Rattle.target_graph.proofs.ListerLaws.{AreListersTo, listers_none, lister_at, listers_more, listers_less, listers_all}
use Rattle.target_graph.proofs.address.listing.Goals as goal
use Rattle.target_graph.proofs.address.listing.Goals.{then-lists+in_ok-push, else-lists}

pub loop-index-init : goal.loop-index-init
loop-index-init c =
    record {
      are = subst (λ (ps : List ℕ). AreListersTo c.args.targets.now (option_copied c.args.own) (option_copied c.args.other) 0 ps) (sym c.new-indices.ensures.items)
          (listers_none c.args.targets.now (option_copied c.args.own) (option_copied c.args.other));
      few = subst (λ (ps : List ℕ). length ps ≤ 0) (sym c.new-indices.ensures.items) (lit≤ tt);
    }

pub loop-index-preserved : goal.loop-index-preserved
loop-index-preserved c =
    let targets = c.args.targets.now in
    let own = option_copied c.args.own in
    let other = option_copied c.args.other in
    let at = c.loop-index.index in
    let target = c.index-targets-index.result in
    let told : c.lists.result ≡ list_any (is_one own other) target.modules =
    c.lists.ensures ∙ ap (list_any (is_one own other)) (c.as_slice.ensures ∙ ap (λ (t : Target). t.modules) (sym c.index-targets-index.is)) in
    elim c.if-lists.branch [
      | then-lists+in_ok-push w ↦
          rw w.indices-is
          (record {
            are = subst (λ (ps : List ℕ). AreListersTo targets own other (at + 1) ps) (sym w.in_ok-push.ensures.items)
                (listers_more targets own other at c.loop-index.indices.items c.loop-index.invariant.are
                (lister_at targets own other at target c.loop-index-test.true c.index-targets-index.is (sym told ∙ w.if-lists.true)));
            few = (let before = c.loop-index.invariant.few in let more = ap (λ (ps : List ℕ). length ps) w.in_ok-push.ensures.items ∙ length-append c.loop-index.indices.items _ in omega arith);
          })
      | else-lists w ↦
          rw w.indices-is
          (record {
            are = listers_less targets own other at c.loop-index.indices.items target c.loop-index-test.true c.index-targets-index.is c.loop-index.invariant.are (sym told ∙ w.if-lists.false);
            few = (let before = c.loop-index.invariant.few in omega arith);
          })
    ]

pub returns : goal.returns
returns c =
    record {
      listers = listers_all c.args.targets.now (option_copied c.args.own) (option_copied c.args.other) c.loop-index.index c.loop-index.indices.items c.loop-index-test.false c.loop-index.invariant.are;
      few = (let before = c.loop-index.invariant.few in let within = c.loop-index.auto.index-end in omega arith);
    }
