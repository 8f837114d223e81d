use Rattle.std.proofs.Common.{◌≡◌, ◌<◌, List, length, true, ap, sym, subst, ◌∙◌, arith}
use Rattle.std.proofs.lemmas.Result.{IfOk-weaker}
use Rattle.target_graph.specs.declared.target.Target.{Target}
use Rattle.target_graph.specs.Address.{target_address}
use Rattle.target_graph.specs.Names.{is_name}
use Rattle.target_graph.specs.Workspace.{Space, name_at}
use Rattle.target_graph.proofs.Ids.{name_here}
use Rattle.target_graph.proofs.workspace.Workspace.target_id.Goals as goal

pub id_of_name-requires : goal.id_of_name-requires
id_of_name-requires c =
    let ts = ap (λ (s : Space). length s.targets) c.self.view_is in
    let h : c.args.target < length c.self.inside.targets.items = omega (arith, c.requires, ts) in
    subst (λ (t : Target). is_name t.name ≡ true) (sym c.index.ensures) (c.self.invariant.sound.valid c.args.target c.index.result.now h).0

pub returns : goal.returns
returns c =
    let space = c.args.self.now in
    let ts : c.self.inside.targets.items ≡ space.targets = ap (λ (s : Space). s.targets) c.self.view_is in
    let size : length c.self.inside.targets.items ≡ length space.targets = ap (λ (xs : List Target). length xs) ts in
    let h : c.args.target < length c.self.inside.targets.items = omega (arith, c.requires, size) in
    let name = name_here c.self.inside.targets.items c.args.target c.index.result.now h c.index.ensures ∙ ap (λ (xs : List Target). name_at xs c.args.target) ts in
    IfOk-weaker c.id_of_name.result _ _ (λ id e. e ∙ ap (target_address space.root) name) c.id_of_name.ensures
