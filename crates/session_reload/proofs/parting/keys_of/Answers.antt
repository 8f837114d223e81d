use Rattle.std.proofs.Common.{◌&&◌, ◌||◌, ℕ, List, ap, sym, subst, ◌∙◌}
use Rattle.std.specs.List.{list_any}
use Rattle.std.specs.Str.{bytes_eq}
use Rattle.std.proofs.lemmas.List.{take_all}
use Rattle.target_graph.specs.declared.target.Target.{Target}
use Rattle.session_reload.specs.Keys.{AreKeys, has_key}
use Rattle.session_reload.specs.declared.parting.Key.{Key}
use Rattle.session_reload.proofs.PairLaws.{any_more}
use Rattle.session_reload.proofs.parting.keys_of.Goals as goal

pub loop-target-init : goal.loop-target-init
loop-target-init c = λ name path. ap (λ (ks : List Key). has_key ks name path) c.new-keys.ensures.empty

pub loop-target-preserved : goal.loop-target-preserved
loop-target-preserved c = λ name path.
    let i = c.loop-target.target-index in
    let targets = c.args.targets.now in
    let target = c.target-item.result in
    c.in_ok-add_keys.ensures name path
    ∙ (ap (λ (n : List ℕ). has_key c.loop-target.keys.keys name path || (bytes_eq name n && list_any (bytes_eq path) c.as_slice-in-loop-target.result.now)) c.as_slice.ensures
    ∙ (ap (λ (ms : List (List ℕ)). has_key c.loop-target.keys.keys name path || (bytes_eq name target.name && list_any (bytes_eq path) ms)) c.as_slice-in-loop-target.ensures
    ∙ (ap (λ b. b || (bytes_eq name target.name && list_any (bytes_eq path) target.modules)) (c.loop-target.invariant name path)
    ∙ sym (any_more (λ (t : Target). bytes_eq name t.name && list_any (bytes_eq path) t.modules) targets i target c.loop-target-test.true c.target-item.is))))

pub returns : goal.returns
returns c = subst (λ (ts : List Target). AreKeys c.loop-target.keys.keys ts) (take_all c.loop-target.target-index c.args.targets.now c.loop-target-test.false) c.loop-target.invariant
