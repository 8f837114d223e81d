use Rattle.std.proofs.Common.{◌≡◌, ◌≤◌, ◌||◌, List, None, Option, Some, length, refl, sym, ap, ◌∙◌}
use Rattle.std.specs.List.{slice_get}
use Rattle.std.proofs.lemmas.Option.{slice_get_past, slice_get_read}
use Rattle.check_cache.specs.Pairs.{is_among, key_of, same_pair}
use Rattle.check_cache.specs.declared.pair.PairKey.{PairKey}
use Rattle.session_build.specs.Cleaning.{has_key}
use Rattle.session_build.proofs.IndexLaws.{key_added, none_added}
use Rattle.target_graph.specs.Workspace.{pairs_of}
use Rattle.target_graph.specs.declared.target.Pair.{Pair}
use Rattle.target_graph.specs.declared.target.Target.{Target}
use Rattle.session_build.proofs.cleaning.add_key.Goals as goal

pub returns-in_default : goal.returns-in_default
returns-in_default c =
    let targets = c.args.workspace.now.targets in
    let keys = c.args.keys.now.keys in
    let lookup = c.in_default.ensures.lookup in
    let past : length c.pairs.result.now ≤ c.args.index = assumption lookup in
    let none : slice_get (pairs_of targets) c.args.index ≡ None =
    ap (λ (ps : List Pair). slice_get ps c.args.index) (sym c.pairs.ensures.pairs) ∙ slice_get_past c.pairs.result.now c.args.index past in
    none_added targets (slice_get (pairs_of targets) c.args.index) keys (λ q. ap (has_key targets q) none)

pub returns : goal.returns
returns c = λ q.
    let targets = c.args.workspace.now.targets in
    let keys : List PairKey = c.args.keys.now.keys in
    let own : Pair = c.in-Some.pair.now in
    let there : slice_get (pairs_of targets) c.args.index ≡ Some own =
    ap (λ (ps : List Pair). slice_get ps c.args.index) (sym c.pairs.ensures.pairs) ∙ slice_get_read c.pairs.result.now (length c.pairs.result.now) c.args.index own refl c.in-Some.ensures.lookup.3.0 c.in-Some.ensures.lookup.1 in
    let key_is : c.in_ok-key.key ≡ key_of targets own = c.in_ok-key.ensures ∙ ap (λ (ts : List Target). key_of ts own) c.targets.ensures.targets in
    key_added keys c.insert.new.self.keys c.in_ok-key.key c.in_ok-insert.ensures.keys q
    ∙ (ap (λ (k : PairKey). is_among keys q || same_pair q k) key_is ∙ ap (λ (o : Option Pair). is_among keys q || has_key targets q o) (sym there))
