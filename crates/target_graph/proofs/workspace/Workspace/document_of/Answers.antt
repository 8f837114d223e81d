use Rattle.std.proofs.Common.{◌≡◌, List, get_or, true, ap, sym, subst, ◌∙◌}
use Rattle.std.proofs.lemmas.Result.{IfOk-weaker}
use Rattle.target_graph.specs.declared.target.Pair.{Pair}
use Rattle.target_graph.specs.Address.{document_address}
use Rattle.target_graph.specs.Names.{is_path}
use Rattle.target_graph.specs.Workspace.{Space, pairs_of, path_at, AreValid}
use Rattle.target_graph.proofs.Ids.{path_here}
use Rattle.target_graph.proofs.PairLaws.{path_valid}
use Rattle.target_graph.proofs.workspace.Workspace.document_of.Goals as goal

-- the path of the pair is the one at its index
path_is : (c : goal.After-index) → c.index.result.now.path ≡ path_at c.args.self.now.targets c.args.pair
path_is c =
    let targets = c.args.self.now.targets in
    let ps : c.self.inside.pairs.items ≡ pairs_of targets = c.self.invariant.pairs ∙ ap pairs_of (ap (λ (s : Space). s.targets) c.self.view_is) in
    path_here targets c.args.pair c.index.result.now c.requires (c.index.ensures ∙ ap (λ (xs : List Pair). get_or xs c.args.pair c.index.result.now) ps)

pub address_of_path-requires : goal.address_of_path-requires
address_of_path-requires c =
    let targets = c.args.self.now.targets in
    let valid : AreValid targets = subst AreValid (ap (λ (s : Space). s.targets) c.self.view_is) c.self.invariant.sound.valid in
    subst (λ path. is_path path ≡ true) (sym (path_is c)) (path_valid targets c.args.pair c.index.result.now c.requires valid)

pub returns : goal.returns
returns c =
    IfOk-weaker c.address_of_path.result _ _ (λ text e. e ∙ ap (document_address c.args.self.now.root) (path_is c.before)) c.address_of_path.ensures
