use Rattle.std.proofs.Common.{◌≡◌, ◌++◌, codes, ap, sym, subst, ◌∙◌}
use Rattle.bsp_address.specs.Address.{IsAddress}
use Rattle.target_graph.specs.Address.{target_address}
use Rattle.target_graph.specs.Root.{IsRoot}
use Rattle.target_graph.specs.Workspace.{Space}
use Rattle.target_graph.proofs.PlainLaws.{plain_id}
use Rattle.target_graph.proofs.workspace.Workspace.id_of_name.Goals as goal

-- what is joined is the target's id
is_joined : (c : goal.In_ok-id) → c.in_ok-id.id ≡ target_address c.args.self.now.root c.args.name.now
unfolding target_address
is_joined c =
    let space = c.args.self.now in
    let root : c.as_slice.result.now ≡ space.root = c.as_slice.ensures.text ∙ ap (λ (s : Space). s.root) c.self.view_is in
    c.in_ok-id.ensures ∙ (ap (λ r. (r ++ codes "?id=") ++ c.as_slice-2.result.now) root ∙ ap (λ n. (space.root ++ codes "?id=") ++ n) c.as_slice-2.ensures)

pub new-requires : goal.new-requires
new-requires c =
    let space = c.args.self.now in
    let is_root : IsRoot space.root = subst IsRoot (ap (λ (s : Space). s.root) c.self.view_is) c.as_slice.ensures.root in
    subst IsAddress (sym (is_joined c)) (plain_id space.root c.args.name.now is_root c.requires)

pub returns : goal.returns
returns c = c.new.ensures ∙ is_joined c.before
