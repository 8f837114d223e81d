use Rattle.std.proofs.lemmas.Result.{on_ok_weaker}
use Rattle.session_core.proofs.Bare.{bare_quiet}
use Rattle.session_core.proofs.Calls.{back_fresh, none_awaited, stands_behind}
use Rattle.session_core.proofs.Giving.{settled_noting}
use Rattle.session_core.specs.State.{handed_of, rest_of}
use Rattle.session_law.specs.Order.{hand}
use Rattle.session_core.proofs.session.Core.snapshot.Goals as goal

pub returns-clause-stands : goal.returns-clause-stands
returns-clause-stands c alive order stands =
    stands_behind c.args.self.now c.take_hand-acted.new.self (hand (handed_of c.args.got)) c.take_hand-acted.result c.is_err-self.result c.is_err-self.ensures.value c.take_hand-acted.ensures.ok c.take_hand-acted.ensures.lost
    (λ past whole rests. rests) alive order stands

pub returns-clause-settled : goal.returns-clause-settled
returns-clause-settled c = on_ok_weaker c.take_hand-acted.result (settled_noting (rest_of c.take_hand-acted.new.self) c.is_err-self.result) c.take_hand-acted.ensures.settled

pub returns-clause-bare : goal.returns-clause-bare
returns-clause-bare c = on_ok_weaker c.take_hand-acted.result (bare_quiet c.args.self.now c.take_hand-acted.new.self c.requires.quiet) c.take_hand-acted.ensures.bare

pub returns-clause-back : goal.returns-clause-back
returns-clause-back c =
    on_ok_weaker c.take_hand-acted.result (back_fresh (rest_of c.args.self.now) (record (rest_of c.take_hand-acted.new.self) { dead = c.is_err-self.result }) c.take_hand-acted.ensures.given) c.take_hand-acted.ensures.starts

pub returns-clause-awaits : goal.returns-clause-awaits
returns-clause-awaits c =
    on_ok_weaker c.take_hand-acted.result (none_awaited (rest_of c.args.self.now) (record (rest_of c.take_hand-acted.new.self) { dead = c.is_err-self.result }) c.take_hand-acted.ensures.given) c.take_hand-acted.ensures.starts
