use Rattle.std.proofs.Common.{◌≡◌, List, length, Some, refl, sym, ap, subst, ◌∙◌}
use Rattle.std.specs.List.{AllPairs, slice_get}
use Rattle.std.proofs.lemmas.Option.{slice_get_read}
use Rattle.check_cache.specs.Pairs.{key_of}
use Rattle.session_build.proofs.StoringLaws.{one_stored}
use Rattle.target_graph.specs.Workspace.{pairs_of}
use Rattle.target_graph.specs.declared.target.Pair.{Pair}
use Rattle.target_graph.specs.declared.target.Target.{Target}
use Rattle.target_graph.proofs.Distinct.{AreApart}
use Rattle.session_build.proofs.storing.store_one.Goals as goal

pub returns : goal.returns
returns c =
    let space = c.args.workspace.now in
    let own : Pair = c.in-Some.own.now in
    let there : slice_get (pairs_of space.targets) c.args.it.pair ≡ Some own =
    ap (λ (ps : List Pair). slice_get ps c.args.it.pair) (sym c.pairs.ensures.pairs) ∙ slice_get_read c.pairs.result.now (length c.pairs.result.now) c.args.it.pair own refl c.in-Some.ensures.lookup.3.0 c.in-Some.ensures.lookup.1 in
    one_stored space (subst (λ (ps : List Pair). AllPairs (AreApart space) ps) c.pairs.ensures.pairs c.pairs.ensures.distinct) c.args.it c.in_ok-key.key own c.args.cache.now c.store.new.self there
    (c.in_ok-key.ensures ∙ ap (λ (ts : List Target). key_of ts own) c.targets.ensures.targets) c.in_ok-store.ensures.first c.in_ok-store.ensures.other
