use Rattle.std.proofs.Common.{◌≡◌, ◌++◌, ap, sym, subst, ◌∙◌}
use Rattle.std.proofs.lemmas.List.{append-nil}
use Rattle.bsp_address.specs.Address.{IsAddress}
use Rattle.target_graph.specs.Address.{document_address}
use Rattle.target_graph.specs.Root.{IsRoot}
use Rattle.target_graph.specs.Workspace.{Space}
use Rattle.target_graph.proofs.PlainLaws.{plain_document}
use Rattle.target_graph.proofs.workspace.Workspace.address_of_path.Goals as goal

-- what is joined is the document's address
is_joined : (c : goal.In_ok-address) → c.in_ok-address.address ≡ document_address c.args.self.now.root c.args.path.now
is_joined c =
    let space = c.args.self.now in
    let root : c.as_slice.result.now ≡ space.root = c.as_slice.ensures.text ∙ ap (λ (s : Space). s.root) c.self.view_is in
    c.in_ok-address.ensures ∙ (ap (λ x. x ++ c.as_slice-2.result.now) (append-nil c.as_slice.result.now ∙ root) ∙ ap (λ x. space.root ++ x) c.as_slice-2.ensures)

pub new-requires : goal.new-requires
new-requires c =
    let space = c.args.self.now in
    let is_root : IsRoot space.root = subst IsRoot (ap (λ (s : Space). s.root) c.self.view_is) c.as_slice.ensures.root in
    subst IsAddress (sym (is_joined c)) (plain_document space.root c.args.path.now is_root c.requires)

pub returns : goal.returns
returns c = c.new.ensures ∙ is_joined c.before
