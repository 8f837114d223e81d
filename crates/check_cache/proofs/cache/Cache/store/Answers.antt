use Rattle.std.proofs.Common.{◌∙◌, Some, sym, arith}
use Rattle.indexmap.specs.IndexMap.{Updates}
use Rattle.check_cache.specs.contracts.pair.PairKeyPartialEq.TheImpl.{eq-value}
use Rattle.check_cache.proofs.StoreLaws.{on_ok, moved_other, kept_other}
use Rattle.check_cache.proofs.cache.Cache.store.Goals as goal

pub returns-in-Some-clause-other : goal.returns-in-Some-clause-other
returns-in-Some-clause-other c =
    let mid = c.reserve.new.self in
    let new = c.insert-in-Some.new.self in
    let told = on_ok {P = Updates eq-value.it mid new c.in_ok-again.again (Some c.in-Some.earlier)} c.insert-in-Some.result (c.insert-in-Some.ensures.succeeds (omega (arith, c.in_ok-reserve.ensures.ok))) c.insert-in-Some.ensures.updates in
    moved_other c.args.self.now.first c.args.self.now.other mid new c.args.pair.now c.in_ok-own.own c.in_ok-again.again c.in-Some.earlier c.in_ok-own.ensures c.in_ok-again.ensures
    (sym c.in_ok-earlier.ensures.old ∙ c.in-Some.is) c.reserve.ensures.entries told.0

pub returns-in-None-clause-other : goal.returns-in-None-clause-other
returns-in-None-clause-other c =
    kept_other c.args.self.now.first c.args.self.now.other c.reserve.new.self c.args.pair.now c.in_ok-own.own c.in_ok-own.ensures
    (sym c.in_ok-earlier.ensures.old ∙ c.in-None.is) c.reserve.ensures.entries
