use Rattle.std.proofs.Common.{◌≡◌, is_some, Some, get_or, ap, sym, ◌∙◌}
use Rattle.std.specs.List.{position}
use Rattle.std.specs.Str.{bytes_eq}
use Rattle.std.proofs.lemmas.Bool.{false≢true}
use Rattle.std.proofs.lemmas.List.Quantifiers.{position-Some}
use Rattle.std.proofs.lemmas.Slice.Eq.{bytes_eq-Decides}
use Rattle.target_graph.proofs.Listed.{listed_any}
use Rattle.target_graph.proofs.Indices.{some_index}
use Rattle.target_graph.proofs.listing.index_of.Goals as goal

pub returns-in-Some-clause-some : goal.returns-in-Some-clause-some
returns-in-Some-clause-some c =
    let keys = c.args.names.now.keys in
    let name = c.args.name.now in
    let index = c.in-Some.index in
    let p : position (bytes_eq name) keys ≡ Some index = sym c.get_index_of.ensures.index ∙ c.in-Some.is in
    let at = position-Some (bytes_eq name) keys index name p in
    (some_index _ _ index p, (index, at.0, sym ((bytes_eq-Decides name (get_or keys index name)).0 at.1)))

pub returns-in-None-clause-none : goal.returns-in-None-clause-none
returns-in-None-clause-none c = λ listed.
    false≢true (sym (ap is_some c.in-None.is) ∙ (c.get_index_of.ensures.found ∙ listed_any c.args.names.now.keys c.args.name.now listed))
