use Rattle.std.proofs.Common.{◌≡◌, sym, ◌∙◌, subst}
use Rattle.target_graph.specs.Names.{stem, IsModuleName}
use Rattle.target_graph.proofs.ModuleNames.{path_name}
use Rattle.target_graph.proofs.Results.{if_ok_then}
use Rattle.target_graph.proofs.names.stem_of.Goals as goal

pub returns-clause-name : goal.returns-clause-name
returns-clause-name c =
    let whole : c.stem.result.now ≡ stem c.args.path.now = cc in
    if_ok_then c.new.result (λ name. name ≡ c.stem.result.now) IsModuleName c.new.ensures
    (λ name same. subst IsModuleName (sym (same ∙ whole)) (path_name c.args.path.now c.requires))
