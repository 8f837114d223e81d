use Rattle.std.proofs.Common.{ap, ◌∙◌, inl, inr, true}
use Rattle.std.proofs.lemmas.Result.{on_ok_weaker}
use Rattle.session_core.proofs.Draining.{is_some_head}
use Rattle.session_core.proofs.SettledHead.{settles_head}
use Rattle.session_core.specs.State.{Rest, rest_of}
use Rattle.session_core.proofs.Bare.{bare_on, bare_same}
use Rattle.session_core.specs.declared.session.Core.{Core}
use Rattle.session_core.proofs.session.Core.settle_head.Goals as goal

pub returns-in-Some-clause-ok : goal.returns-in-Some-clause-ok
returns-in-Some-clause-ok c =
    on_ok_weaker c.cancel_build.result
    (λ ok. settles_head c.args.self.now c.take_marked_build.new.self c.cancel_build.new.self c.in-Some.id c.in-Some.build c.in-Some.origin c.in-Some.ensures.some.0 c.in-Some.ensures.some.1
    c.cancel_build.ensures.head c.cancel_build.ensures.queue ok)
    c.cancel_build.ensures.ok

pub returns-in-Some-clause-rest : goal.returns-in-Some-clause-rest
returns-in-Some-clause-rest c =
    on_ok_weaker c.cancel_build.result (λ is. inr (is_some_head c.args.self.now.head _ c.in-Some.ensures.some.0.is, is ∙ ap (λ (r : Rest). record r { drains = true }) (ap rest_of c.in-Some.ensures.some.1))) c.cancel_build.ensures.rest

pub returns-in-None-clause-rest : goal.returns-in-None-clause-rest
returns-in-None-clause-rest c = inl (ap rest_of c.in-None.ensures.none.1)

pub returns-in-Some-clause-bare : goal.returns-in-Some-clause-bare
returns-in-Some-clause-bare c =
    let taken = c.take_marked_build.new.self in
    on_ok_weaker c.cancel_build.result
    (λ bare. bare_on c.args.self.now taken c.cancel_build.new.self (bare_same c.args.self.now taken (ap (λ (core : Core). core.out) c.in-Some.ensures.some.1)) bare)
    c.cancel_build.ensures.bare

pub returns-in-None-clause-bare : goal.returns-in-None-clause-bare
returns-in-None-clause-bare c = bare_same c.args.self.now c.take_marked_build.new.self (ap (λ (core : Core). core.out) c.in-None.ensures.none.1)
