use Rattle.session_core.proofs.Handed.{hand_lost}
use Rattle.session_core.proofs.Settling.{on_err_any}
use Rattle.session_core.specs.State.{handed_of}
use Rattle.session_core.proofs.Bare.{bare_after}
use Rattle.std.proofs.Common.{◌∷◌, refl}
use Rattle.std.proofs.lemmas.Result.{on_err_weaker}
use Rattle.session_law.specs.Order.{hand}
use Rattle.session_core.proofs.session.Core.take_hand.Goals as goal

pub returns-then-self-clause-lost : goal.returns-then-self-clause-lost
returns-then-self-clause-lost c =
    hand_lost c.args.self.now c.args.self.now (handed_of c.args.got) c.requires.wanted.paths c.requires.settled c.requires.quiet c.requires.wanted.wanted c.requires.wanted.held refl

pub returns-in_err-act_on_hand-clause-lost : goal.returns-in_err-act_on_hand-clause-lost
returns-in_err-act_on_hand-clause-lost c =
    on_err_any c.from_residual.result
    (hand_lost c.args.self.now c.act_on_hand.new.self (handed_of c.args.got) c.requires.wanted.paths c.requires.settled c.requires.quiet c.requires.wanted.wanted c.requires.wanted.held c.in_err-act_on_hand.ensures.err)

pub returns-clause-bare : goal.returns-clause-bare
returns-clause-bare c = bare_after c.args.self.now c.act_on_hand.new.self c.take_up_next.new.self c.take_up_next.result c.in_ok-act_on_hand.ensures.bare c.take_up_next.ensures.bare

pub returns-clause-lost : goal.returns-clause-lost
returns-clause-lost c =
    on_err_weaker c.take_up_next.result (λ loses order whole. loses (hand (handed_of c.args.got) ∷ order) (c.in_ok-act_on_hand.ensures.ok order whole)) c.take_up_next.ensures.lost
