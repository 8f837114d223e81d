use Rattle.std.proofs.Common.{◌≡◌, List, Some, length, get_or, ap, ◌∙◌, refl}
use Rattle.std.specs.List.{slice_get}
use Rattle.std.proofs.lemmas.Option.{slice_get_read}
use Rattle.build_messages.proofs.DocumentLaws.{document_here}
use Rattle.target_graph.specs.Workspace.{pairs_of}
use Rattle.target_graph.specs.declared.target.Pair.{Pair}
use Rattle.build_messages.proofs.documents.document_of_pair.Goals as goal

pub returns : goal.returns
returns c =
    let space = c.args.workspace.now in
    let pairs : List Pair = pairs_of space.targets in
    let pair : Pair = c.index-pairs-pair.result in
    let there : slice_get pairs c.args.pair ≡ Some pair = slice_get_read pairs (length pairs) c.args.pair pair refl c.requires
    (c.index-pairs-pair.is ∙ ap (λ (ps : List Pair). get_or ps c.args.pair pair) c.pairs.ensures.pairs) in
    document_here space c.args.pair pair c.in_ok-path.path c.in_ok-document.document c.in_ok-target.target there c.in_ok-path.ensures c.in_ok-document.ensures c.in_ok-target.ensures
