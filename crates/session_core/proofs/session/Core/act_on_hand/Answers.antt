use Rattle.std.proofs.Common.{◌≡◌, ◌∷◌, Option, Some, None, ap, refl, subst, sym, ◌∙◌}
use Rattle.std.specs.Prelude.{is_some}
use Rattle.std.proofs.lemmas.Result.{on_ok_weaker}
use Rattle.target_graph.specs.Workspace.{Space}
use Rattle.session_core.proofs.Begun.{begins_hand}
use Rattle.session_core.proofs.Handed.{Answers, answers_hand, asking_here, opened, owed_asking, owed_building, owed_rereading, refuses_hand, runs, wants_building}
use Rattle.session_core.proofs.Reloaded.{fresh_hand, reloaded_rest}
use Rattle.session_core.proofs.Resting.{goes_on, opened_sound, reloaded_sound}
use Rattle.session_core.specs.Building.{BeginsBy}
use Rattle.session_core.specs.Opening.{Opens}
use Rattle.session_core.specs.Reloading.{Reloads}
use Rattle.session_core.specs.Settled.{HeadPlanFits, HeadWants, IsInForce, IsPlannedIn, PhaseWants, PlanFits}
use Rattle.session_core.specs.Standing.{HeadRests}
use Rattle.session_core.specs.State.{handed_of}
use Rattle.session_core.specs.declared.head.Head.{Head}
use Rattle.session_core.specs.declared.head.Phase.{Phase}
use Rattle.session_core.specs.declared.session.Core.{Core}
use Rattle.session_law.specs.Methods.{asking, building, rereading}
use Rattle.session_law.specs.Order.{hand}
use Rattle.session_verdicts.specs.Plans.{build_in}
use Rattle.session_law.specs.Requests.{handed_over}
use Rattle.session_core.proofs.Bare.{bare_call}
use Rattle.session_core.proofs.session.Core.act_on_hand.Goals as goal

pub returns-in-Opening-clause-ok : goal.returns-in-Opening-clause-ok
returns-in-Opening-clause-ok c =
    let old = c.args.self.now in
    let head = c.in-Some.head in
    let root = c.in-Opening.root in
    let handed = handed_of c.args.got in
    let paths = c.requires.wanted.paths in
    let is : old.head ≡ Some head = sym c.take.ensures.value ∙ c.in-Some.is in
    let goes = (goes_on old c.requires.settled.sound).waiting in
    let wanted : PhaseWants head.phase paths = subst (λ (h : Option Head). HeadWants h paths) is c.requires.wanted.wanted in
    on_ok_weaker c.open.result
    (λ opens. answers_hand old c.open.new.self head is c.requires.quiet goes handed paths c.requires.wanted.held (asking root) tt
    (subst (λ (p : Phase). PhaseWants p paths) c.in-Opening.is wanted) (owed_asking old head root c.in-Opening.is)
    (λ order whole. subst (λ (h : Option Head). Opens (record old { head = h }) c.open.new.self head.id root handed) c.take.ensures.after opens (opened old c.open.new.self head is c.requires.quiet goes handed paths c.requires.wanted.held (asking root) tt (subst (λ (p : Phase). PhaseWants p paths) c.in-Opening.is wanted) (owed_asking old head root c.in-Opening.is)) head.number refl
    (runs old c.open.new.self head is c.requires.quiet goes handed paths c.requires.wanted.held (asking root) tt (subst (λ (p : Phase). PhaseWants p paths) c.in-Opening.is wanted) (owed_asking old head root c.in-Opening.is))
    (asking_here old head root is c.in-Opening.is order whole) (hand handed ∷ order))
    (c.open.ensures.beside.head ∙ c.take.ensures.after) c.open.ensures.beside.queue)
    c.open.ensures.ok

pub returns-in-Opening-clause-sound : goal.returns-in-Opening-clause-sound
returns-in-Opening-clause-sound c =
    let old = c.args.self.now in
    Rattle.session_core.proofs.Settling.on_ok_any c.open.result
    (opened_sound old c.open.new.self c.requires.settled.sound c.requires.needs.tree
    (subst (λ (h : Option Head). Rattle.session_core.specs.Moving.Beside (record old { head = h }) c.open.new.self) c.take.ensures.after c.open.ensures.beside) c.open.ensures.force)

pub returns-in-None-clause-ok : goal.returns-in-None-clause-ok
returns-in-None-clause-ok c =
    let old = c.args.self.now in
    let new = c.refuse_first.new.self in
    let head = c.in-Some.head in
    let plan = c.in-Planned.planned in
    let handed = handed_of c.args.got in
    let paths = c.requires.wanted.paths in
    let is : old.head ≡ Some head = sym c.take.ensures.value ∙ c.in-Some.is in
    let goes = (goes_on old c.requires.settled.sound).waiting in
    let wanted : PhaseWants head.phase paths = subst (λ (h : Option Head). HeadWants h paths) is c.requires.wanted.wanted in
    let planned : IsPlannedIn old.workspace plan =
    subst (λ (p : Phase). PlanFits old.workspace p) c.in-Planned.is (subst (λ (h : Option Head). HeadPlanFits old.workspace h) is c.requires.settled.sound.plan) in
    let nothing : handed ≡ None = ap handed_of c.in-None.is in
    on_ok_weaker c.refuse_first.result
    (λ answers. answers_hand old new head is c.requires.quiet goes handed paths c.requires.wanted.held (building (build_in planned.space plan)) tt
    (wants_building old head plan c.in-Planned.is planned.space planned.in_force paths planned.within wanted) (owed_building old head plan c.in-Planned.is planned.space planned.in_force)
    (λ order whole. refuses_hand old new head (building (build_in planned.space plan)) handed (ap (λ h. handed_over h (building (build_in planned.space plan))) nothing) refl goes
    (λ o number v. subst (λ (h : Option Head). Answers (record old { head = h }) new head.id o number v) c.take.ensures.after (answers o number v)) (hand handed ∷ order))
    (ap (λ (core : Core). core.head) c.refuse_first.ensures.same ∙ c.take.ensures.after) (ap (λ (core : Core). core.queue) c.refuse_first.ensures.same))
    c.refuse_first.ensures.ok

pub returns-in-Some-got-clause-ok : goal.returns-in-Some-got-clause-ok
returns-in-Some-got-clause-ok c =
    let old = c.args.self.now in
    let new = c.begin.new.self in
    let head = c.in-Some.head in
    let plan = c.in-Planned.planned in
    let handed = handed_of c.args.got in
    let paths = c.requires.wanted.paths in
    let is : old.head ≡ Some head = sym c.take.ensures.value ∙ c.in-Some.is in
    let goes = (goes_on old c.requires.settled.sound).waiting in
    let wanted : PhaseWants head.phase paths = subst (λ (h : Option Head). HeadWants h paths) is c.requires.wanted.wanted in
    let planned : IsPlannedIn old.workspace plan =
    subst (λ (p : Phase). PlanFits old.workspace p) c.in-Planned.is (subst (λ (h : Option Head). HeadPlanFits old.workspace h) is c.requires.settled.sound.plan) in
    on_ok_weaker c.begin.result
    (λ begins. begins_hand old new head is c.requires.quiet goes handed paths c.requires.wanted.held plan c.in-Planned.is planned wanted c.in-Some-got.snapshot.entries (ap handed_of c.in-Some-got.is)
    (subst (λ (h : Option Head). BeginsBy (record old { head = h }) new head.id head.number plan c.in-Some-got.snapshot.entries) c.take.ensures.after begins)
    (subst (λ (h : Option Head). HeadRests h) is c.requires.settled.sound.rests).0)
    c.begin.ensures.ok

pub returns-in-Opening-clause-bare : goal.returns-in-Opening-clause-bare
returns-in-Opening-clause-bare c = bare_call c.args.self.now (record c.args.self.now { head = c.take.new.self }) c.open.new.self c.open.result refl c.open.ensures.bare

pub returns-in-None-clause-bare : goal.returns-in-None-clause-bare
returns-in-None-clause-bare c = bare_call c.args.self.now (record c.args.self.now { head = c.take.new.self }) c.refuse_first.new.self c.refuse_first.result refl c.refuse_first.ensures.bare

pub returns-in-Some-got-clause-bare : goal.returns-in-Some-got-clause-bare
returns-in-Some-got-clause-bare c = bare_call c.args.self.now (record c.args.self.now { head = c.take.new.self }) c.begin.new.self c.begin.result refl c.begin.ensures.bare

pub reload-requires-clause-begun : goal.reload-requires-clause-begun
reload-requires-clause-begun c =
    let old = c.args.self.now in
    let is : old.head ≡ Some c.in-Some.head = sym c.take.ensures.value ∙ c.in-Some.is in
    let force : IsInForce old.workspace =
    subst (λ (p : Phase). PlanFits old.workspace p) c.in-Rereading.is (subst (λ (h : Option Head). HeadPlanFits old.workspace h) is c.requires.settled.sound.plan) in
    ap (λ (o : Option Space). is_some o) force.is

pub returns-in-Rereading-clause-ok : goal.returns-in-Rereading-clause-ok
returns-in-Rereading-clause-ok c =
    let old = c.args.self.now in
    let new = c.reload.new.self in
    let head = c.in-Some.head in
    let handed = handed_of c.args.got in
    let paths = c.requires.wanted.paths in
    let is : old.head ≡ Some head = sym c.take.ensures.value ∙ c.in-Some.is in
    let goes = (goes_on old c.requires.settled.sound).waiting in
    let wanted : PhaseWants head.phase paths = subst (λ (h : Option Head). HeadWants h paths) is c.requires.wanted.wanted in
    let force : IsInForce old.workspace =
    subst (λ (p : Phase). PlanFits old.workspace p) c.in-Rereading.is (subst (λ (h : Option Head). HeadPlanFits old.workspace h) is c.requires.settled.sound.plan) in
    on_ok_weaker c.reload.result
    (λ reloads. answers_hand old new head is c.requires.quiet goes handed paths c.requires.wanted.held (rereading force.space) tt
    (subst (λ (p : Phase). PhaseWants p paths) c.in-Rereading.is wanted) (owed_rereading old head c.in-Rereading.is force.space force.is)
    (λ order whole. subst (λ (h : Option Head). Reloads (record old { head = h }) new head.id handed) c.take.ensures.after reloads
    (opened old new head is c.requires.quiet goes handed paths c.requires.wanted.held (rereading force.space) tt (subst (λ (p : Phase). PhaseWants p paths) c.in-Rereading.is wanted) (owed_rereading old head c.in-Rereading.is force.space force.is))
    head.number force.space (hand handed ∷ order) force.is refl
    (runs old new head is c.requires.quiet goes handed paths c.requires.wanted.held (rereading force.space) tt (subst (λ (p : Phase). PhaseWants p paths) c.in-Rereading.is wanted) (owed_rereading old head c.in-Rereading.is force.space force.is))
    (fresh_hand old handed c.requires.quiet order whole))
    (ap (λ (core : Core). core.head) c.reload.ensures.same ∙ c.take.ensures.after) (ap (λ (core : Core). core.queue) c.reload.ensures.same))
    c.reload.ensures.ok

pub returns-in-Rereading-clause-sound : goal.returns-in-Rereading-clause-sound
returns-in-Rereading-clause-sound c =
    let old = c.args.self.now in
    on_ok_weaker c.reload.result
    (reloaded_sound old c.reload.new.self c.requires.settled.sound c.requires.needs.tree
    (reloaded_rest old c.take.new.self c.reload.new.self c.take.ensures.after c.reload.ensures.same))
    c.reload.ensures.force

pub returns-in-Rereading-clause-bare : goal.returns-in-Rereading-clause-bare
returns-in-Rereading-clause-bare c = bare_call c.args.self.now (record c.args.self.now { head = c.take.new.self }) c.reload.new.self c.reload.result refl c.reload.ensures.bare
