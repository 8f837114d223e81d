use Rattle.std.proofs.Common.{◌&&◌, ◌||◌, ℕ, List, take, ap, sym, ◌∙◌}
use Rattle.std.specs.List.{list_any}
use Rattle.std.specs.Str.{bytes_eq}
use Rattle.std.proofs.lemmas.List.{take_all}
use Rattle.session_reload.specs.Keys.{has_key}
use Rattle.session_reload.specs.declared.parting.Key.{Key}
use Rattle.session_reload.proofs.PairLaws.{and_false, any_more, key_more, or_and}
use Rattle.session_reload.proofs.parting.add_keys.Goals as goal

pub loop-module-init : goal.loop-module-init
loop-module-init c = λ name path. sym (and_false (has_key c.args.keys.now.keys name path) (bytes_eq name c.args.target.now))

pub loop-module-preserved : goal.loop-module-preserved
loop-module-preserved c = λ name path.
    let i = c.loop-module.module-index in
    let keys = c.loop-module.keys.keys in
    let old = c.args.keys.now.keys in
    let target = c.args.target.now in
    let modules = c.args.modules.now in
    let module' = c.module-item.result in
    let key : Key = record { target = c.args.target; path = c.as_slice-path.result } in
    key_more keys c.insert.new.self.keys key c.in_ok-insert.ensures.keys name path
    ∙ (ap (λ (p : List ℕ). has_key keys name path || (bytes_eq name target && bytes_eq path p)) c.as_slice-path.ensures
    ∙ (ap (λ b. b || (bytes_eq name target && bytes_eq path module')) (c.loop-module.invariant name path)
    ∙ (or_and (has_key old name path) (bytes_eq name target) (list_any (bytes_eq path) (take i modules)) (bytes_eq path module')
    ∙ ap (λ b. has_key old name path || (bytes_eq name target && b)) (sym (any_more (bytes_eq path) modules i module' c.loop-module-test.true c.module-item.is)))))

pub returns : goal.returns
returns c = λ name path.
    c.loop-module.invariant name path
    ∙ ap (λ ms. has_key c.args.keys.now.keys name path || (bytes_eq name c.args.target.now && list_any (bytes_eq path) ms)) (take_all c.loop-module.module-index c.args.modules.now c.loop-module-test.false)
