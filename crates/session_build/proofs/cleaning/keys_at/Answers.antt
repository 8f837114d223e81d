use Rattle.std.proofs.Common.{ℕ, List, ap, subst}
use Rattle.std.proofs.lemmas.List.{take_all}
use Rattle.check_cache.specs.Pairs.{is_among}
use Rattle.check_cache.specs.declared.pair.PairKey.{PairKey}
use Rattle.session_build.specs.Cleaning.{AreKeysAt}
use Rattle.session_build.proofs.IndexLaws.{keys_more}
use Rattle.session_build.proofs.cleaning.keys_at.Goals as goal

pub loop-index-init : goal.loop-index-init
loop-index-init c = λ key. ap (λ (ks : List PairKey). is_among ks key) c.new-keys.ensures.empty

pub loop-index-preserved : goal.loop-index-preserved
loop-index-preserved c =
    keys_more c.args.workspace.now.targets c.args.pairs.now c.loop-index.index-index c.loop-index.keys.keys c.add_key.new.keys.keys c.loop-index-test.true
    c.loop-index.invariant c.in_ok-add_key.ensures

pub returns : goal.returns
returns c =
    subst (λ (is : List ℕ). AreKeysAt c.args.workspace.now.targets is c.loop-index.keys.keys) (take_all c.loop-index.index-index c.args.pairs.now c.loop-index-test.false) c.loop-index.invariant
