use Rattle.std.proofs.Common.{◌≡◌, ℕ, List, [], sym, ap, ◌∙◌}
use Rattle.std.proofs.lemmas.List.{get_or-map}
use Rattle.std.proofs.lemmas.Option.{get_or_from_slice_get}
use Rattle.std.proofs.lemmas.Result.{IfOk-weaker}
use Rattle.target_graph.specs.Names.{stem}
use Rattle.target_graph.specs.Workspace.{pairs_of, stem_at}
use Rattle.target_graph.specs.declared.target.Pair.{Pair}
use Rattle.build_sources.proofs.sources.Sources.stem.Goals as goal

pub returns : goal.returns
returns c =
    let targets = c.args.self.now.workspace.value.targets in
    let pairs = pairs_of targets in
    let pair = c.pair.result.now in
    IfOk-weaker c.stem_of.result (λ (name : List ℕ). name ≡ stem pair.path) (λ (name : List ℕ). name ≡ stem_at targets c.args.index)
    (λ name is. is ∙ ap (λ (x : Pair). stem x.path) (sym (get_or_from_slice_get pairs c.args.index pair pair c.pair.ensures.there)) ∙ sym (get_or-map (λ (x : Pair). stem x.path) pairs c.args.index pair [] c.requires))
    c.stem_of.ensures.stem
