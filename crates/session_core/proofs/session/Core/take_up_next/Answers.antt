use Rattle.std.proofs.Common.{◌≡◌, ◌<◌, ◌∷◌, inl, List, All, refl, subst, arith, ◌∙◌}
use Rattle.std.proofs.lemmas.List.Elements.{All-head}
use Rattle.session_core.proofs.Draining.{stays_taken_up}
use Rattle.session_core.proofs.Settling.{on_err_any}
use Rattle.session_core.proofs.Resting.{asking_taken, beside_on, goes_on, less_taken, some_begun, sound_taken, stays_taken}
use Rattle.session_core.proofs.TakingUp.{carries_on, carries_one, head_none, loses_on, loses_one}
use Rattle.session_core.specs.Moving.{HasWaitingTexts}
use Rattle.session_core.specs.Settled.{left_to_do}
use Rattle.session_core.specs.State.{rest_of}
use Rattle.session_verdicts.specs.declared.verdicts.Queued.{Queued}
use Rattle.session_queue.specs.declared.waiting.Waiting.{Waiting}
use Rattle.session_core.proofs.session.Core.take_up_next.Goals as goal

pub waiting-init : goal.waiting-init
waiting-init c = record {
  carries = λ order whole. whole;
  sound = c.requires.sound;
  asking = c.requires.asking;
  stays = inl refl;
  build = inl refl;
  drains = refl;
  no_more = omega arith;
  bare = record { is = λ bare. bare; one = λ one. one };
  beside = record { taken = refl; status = refl; workspace = refl; closed = refl; dead = refl; jobs = record { jobs = refl; given = refl } };
}

pub take_up-requires-clause-named : goal.take_up-requires-clause-named
take_up-requires-clause-named c =
    (All-head HasWaitingTexts c.in-Some.waiting c.take_first.new.self (subst (λ (q : List (Waiting Queued)). All HasWaitingTexts q) c.in-Some.ensures.first c.waiting.invariant.sound.texts)).named

pub take_up-requires-clause-texts : goal.take_up-requires-clause-texts
take_up-requires-clause-texts c =
    (All-head HasWaitingTexts c.in-Some.waiting c.take_first.new.self (subst (λ (q : List (Waiting Queued)). All HasWaitingTexts q) c.in-Some.ensures.first c.waiting.invariant.sound.texts)).texts

pub take_up-requires-clause-begun : goal.take_up-requires-clause-begun
take_up-requires-clause-begun c =
    some_begun c.waiting.self.workspace c.waiting.self.head c.waiting.self.queue c.take_first.new.self c.in-Some.waiting c.waiting.invariant.sound.begun c.in-Some.ensures.first

pub take_up-requires-clause-none : goal.take_up-requires-clause-none
take_up-requires-clause-none c = head_none c.waiting.self.head c.waiting-test.ensures

pub waiting-preserved : goal.waiting-preserved
waiting-preserved c =
    let x = c.waiting.self in
    let y = c.take_up.new.self in
    let queue = c.take_first.new.self in
    let waiting = c.in-Some.waiting in
    let was : x.queue ≡ waiting ∷ queue = c.in-Some.ensures.first in
    let nobody = head_none x.head c.waiting-test.ensures in
    let it = c.waiting.invariant in
    let did = c.in_ok-take_up.ensures in
    let less : left_to_do (rest_of y) < left_to_do (rest_of x) = less_taken (rest_of x) (rest_of y) waiting queue it.sound nobody was did.rest in
    record {
      carries = carries_on c.args.self.now x y it.carries (carries_one x y waiting queue was nobody (goes_on x it.sound) did.queue did.ok);
      sound = sound_taken (rest_of x) (rest_of y) waiting queue it.sound nobody was did.rest;
      asking = asking_taken (rest_of x) (rest_of y) waiting queue it.sound nobody was did.rest;
      stays = stays_taken (rest_of x) (rest_of y) waiting queue it.sound nobody was c.args.self.now.head did.rest;
      build = stays_taken_up c.args.self.now.head x.head y.head it.build nobody;
      drains = did.drains ∙ it.drains;
      no_more = omega (arith, it.no_more, less);
      bare = record { is = λ bare. did.bare.is (it.bare.is bare); one = λ one. did.bare.one (it.bare.one one) };
      beside = beside_on c.args.self.now (record x { queue = queue }) y
          (record {
            taken = it.beside.taken;
            status = it.beside.status;
            workspace = it.beside.workspace;
            closed = it.beside.closed;
            dead = it.beside.dead;
            jobs = record { jobs = it.beside.jobs.jobs; given = it.beside.jobs.given };
          })
          did.beside;
    }

pub returns-in_err-take_up-clause-lost : goal.returns-in_err-take_up-clause-lost
returns-in_err-take_up-clause-lost c =
    let x = c.waiting.self in
    on_err_any c.from_residual.result
    (loses_on c.args.self.now x c.take_up.new.self c.waiting.invariant.carries
    (loses_one x c.take_up.new.self c.in-Some.waiting c.take_first.new.self c.in-Some.ensures.first (head_none x.head c.waiting-test.ensures) (goes_on x c.waiting.invariant.sound) c.in_err-take_up.ensures.queue
    c.in_err-take_up.ensures.err))

pub returns-in_default-clause-bare : goal.returns-in_default-clause-bare
returns-in_default-clause-bare c = record { is = c.waiting.invariant.bare.is; one = c.waiting.invariant.bare.one }

pub returns-clause-bare : goal.returns-clause-bare
returns-clause-bare c = record { is = c.waiting.invariant.bare.is; one = c.waiting.invariant.bare.one }
