use Rattle.std.proofs.Common.{ap, ◌∙◌, refl, sym}
use Rattle.session_core.proofs.Settling.{on_err_any, settles_idle, settles_lost, settles_on, settles_one, settles_same, takes_it, texts_idle, texts_same, texts_split, unmarked_idle}
use Rattle.session_core.proofs.Needing.{needs_on, needs_same}
use Rattle.session_core.specs.declared.session.Core.{Core}
use Rattle.session_queue.proofs.CallerLaws.{kept_stays, none_marked}
use Rattle.session_queue.specs.Waiting.{kept_of}
use Rattle.session_core.proofs.session.Core.settle_waiting.Goals as goal

pub marked-init : goal.marked-init
marked-init c = record {
  settles = settles_same c.args.self.now;
  texts = c.requires.texts;
  leaves = refl;
  beside = record { head = refl; needs = needs_same c.args.self.now; taken = refl; status = refl; workspace = refl; dead = refl; kept = refl; shown = refl; closed = refl };
  bare = record { is = λ bare. bare; one = λ one. one };
  notices = λ order. refl;
}

pub answer_cancelled-requires-clause-named : goal.answer_cancelled-requires-clause-named
answer_cancelled-requires-clause-named c =
    let queue = c.marked.self.queue in
    let takes = takes_it queue c.take_marked.new.self c.take_marked.result c.in-Some.waiting c.take_marked.ensures.first c.in-Some.is c.take_marked.ensures.apart c.in-Some.ensures.others in
    (texts_split queue c.take_marked.new.self c.in-Some.waiting takes c.marked.invariant.texts).0.named

pub answer_cancelled-requires-clause-texts : goal.answer_cancelled-requires-clause-texts
answer_cancelled-requires-clause-texts c =
    let queue = c.marked.self.queue in
    let takes = takes_it queue c.take_marked.new.self c.take_marked.result c.in-Some.waiting c.take_marked.ensures.first c.in-Some.is c.take_marked.ensures.apart c.in-Some.ensures.others in
    (texts_split queue c.take_marked.new.self c.in-Some.waiting takes c.marked.invariant.texts).0.texts

pub marked-preserved : goal.marked-preserved
marked-preserved c =
    let x = c.marked.self in
    let y = c.answer_cancelled.new.self in
    let same = c.answer_cancelled.ensures.same in
    let queue = ap (λ (core : Core). core.queue) same in
    let takes = takes_it x.queue c.take_marked.new.self c.take_marked.result c.in-Some.waiting c.take_marked.ensures.first c.in-Some.is c.take_marked.ensures.apart c.in-Some.ensures.others in
    let before = c.marked.invariant.beside in
    record {
      settles = settles_on c.args.self.now x y c.marked.invariant.settles
          (settles_one x y c.take_marked.new.self c.in-Some.waiting takes queue c.in_ok-answer_cancelled.ensures.ok);
      texts = texts_same (record x { queue = c.take_marked.new.self }) y queue (texts_split x.queue c.take_marked.new.self c.in-Some.waiting takes c.marked.invariant.texts).1;
      leaves = ap kept_of queue ∙ (kept_stays x.queue c.take_marked.new.self c.in-Some.waiting takes ∙ c.marked.invariant.leaves);
      beside = record {
        head = ap (λ (core : Core). core.head) same ∙ before.head;
        needs = needs_on x y c.args.self.now (record { tree = ap (λ (core : Core). core.tree) same; drains = ap (λ (core : Core). core.drains) same; jobs = record { jobs = ap (λ (core : Core). core.jobs) same; given = ap (λ (core : Core). core.given) same } }) before.needs;
        taken = ap (λ (core : Core). core.taken) same ∙ before.taken;
        status = ap (λ (core : Core). core.status) same ∙ before.status;
        workspace = ap (λ (core : Core). core.workspace) same ∙ before.workspace;
        dead = ap (λ (core : Core). core.dead) same ∙ before.dead;
        kept = ap (λ (core : Core). core.kept) same ∙ before.kept;
        shown = ap (λ (core : Core). core.shown) same ∙ before.shown;
        closed = ap (λ (core : Core). core.closed) same ∙ before.closed;
      };
      bare = record {
        is = λ bare. c.in_ok-answer_cancelled.ensures.bare.is (c.marked.invariant.bare.is bare);
        one = λ one. c.in_ok-answer_cancelled.ensures.bare.one (c.marked.invariant.bare.one one);
      };
      notices = λ order. c.in_ok-answer_cancelled.ensures.notices order ∙ c.marked.invariant.notices order;
    }

pub returns-in_err-answer_cancelled-clause-lost : goal.returns-in_err-answer_cancelled-clause-lost
returns-in_err-answer_cancelled-clause-lost c =
    on_err_any c.from_residual.result (settles_lost c.args.self.now c.marked.self c.answer_cancelled.new.self c.marked.invariant.settles c.in_err-answer_cancelled.ensures.err)

pub returns-clause-ok : goal.returns-clause-ok
returns-clause-ok c = settles_idle c.args.self.now c.marked.self c.take_marked.new.self c.in_default.ensures.none c.marked.invariant.settles

pub returns-clause-unmarked : goal.returns-clause-unmarked
returns-clause-unmarked c = unmarked_idle c.marked.self c.take_marked.new.self c.in_default.ensures.none (sym c.in_default.ensures.first)

pub returns-clause-texts : goal.returns-clause-texts
returns-clause-texts c = texts_idle c.marked.self c.take_marked.new.self c.in_default.ensures.none c.marked.invariant.texts

pub returns-clause-leaves : goal.returns-clause-leaves
returns-clause-leaves c =
    c.in_default.ensures.none ∙ (sym (none_marked c.marked.self.queue (sym c.in_default.ensures.first)).1 ∙ c.marked.invariant.leaves)

pub returns-clause-bare : goal.returns-clause-bare
returns-clause-bare c = record { is = c.marked.invariant.bare.is; one = c.marked.invariant.bare.one }
