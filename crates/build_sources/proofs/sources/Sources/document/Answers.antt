use Rattle.std.proofs.Common.{ℕ, List, sym, subst}
use Rattle.std.proofs.lemmas.Option.{get_or_from_slice_get}
use Rattle.build_rules.specs.World.{handed_at}
use Rattle.target_graph.specs.Workspace.{pairs_of}
use Rattle.target_graph.proofs.Ids.{path_here}
use Rattle.build_sources.specs.Documents.{IsDocument}
use Rattle.build_sources.specs.Sources.{world}
use Rattle.build_sources.proofs.sources.Sources.document.Goals as goal

pub returns : goal.returns
returns c =
    let w = world c.args.self.now in
    let pair = c.pair.result.now in
    subst (λ (path : List ℕ). IsDocument (handed_at w.entries path) c.of.result.now)
    (path_here w.targets c.args.index pair c.requires.within (sym (get_or_from_slice_get (pairs_of w.targets) c.args.index pair pair c.pair.ensures.there))) c.of.ensures
