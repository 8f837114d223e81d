use Rattle.std.proofs.Common.{is_some, ap, sym, ◌∙◌, arith}
use Rattle.std.proofs.lemmas.Bool.{false≢true}
use Rattle.target_graph.specs.Workspace.{Space, pairs_of}
use Rattle.session_build.proofs.SettingLaws.{listed_any, number_at, pair_there, target_listed}
use Rattle.session_build.proofs.setting.Setting.target_of.Goals as goal

pub overflow_add-result : goal.overflow_add-result
overflow_add-result c = omega (arith, c.in-Some.ensures.within, c.len-count.ensures.len, c.len-count.ensures.small)

pub unreachable-requires : goal.unreachable-requires
unreachable-requires c =
    let at = c.args.self.now in
    let target = c.index-pairs-pair.result in
    let pairs = c.pairs.ensures.pairs ∙ ap (λ (s : Space). pairs_of s.targets) c.deref-space.ensures in
    let there = pair_there at c.requires.setting c.args.pair c.requires.among c.pairs.result.now target pairs c.index-pairs-pair.is in
    let listed = target_listed at c.requires.setting c.args.pair c.requires.among target there in
    let among = listed_any at.targets.keys target.target listed.0 listed.1 listed.2 in
    let found = c.get_index_of.ensures.found in
    false≢true (ap is_some (sym c.in-None.is) ∙ (rw (sym c.index-pairs-pair.is) at found ∙ among))

pub returns : goal.returns
returns c =
    let at = c.args.self.now in
    let target = c.index-pairs-pair.result in
    let pairs = c.pairs.ensures.pairs ∙ ap (λ (s : Space). pairs_of s.targets) c.deref-space.ensures in
    let there = pair_there at c.requires.setting c.args.pair c.requires.among c.pairs.result.now target pairs c.index-pairs-pair.is in
    let found = sym c.get_index_of.ensures.index ∙ c.in-Some.is in
    number_at at c.requires.setting c.args.pair c.requires.among target c.in-Some.before there (rw (sym c.index-pairs-pair.is) at found)
