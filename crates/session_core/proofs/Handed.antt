-- The tree answered for the request at the head: it is answered, or its build begins.
use Rattle.std.proofs.Common.{◌≡◌, ℕ, List, [], ◌∷◌, map, All, Option, Some, None, refl, ap, sym, ◌∙◌, subst}
use Rattle.std.specs.Prelude.{IfSome, unwrap_or}
use Rattle.std.proofs.lemmas.List.Elements.{All-nil}
use Rattle.ob_text.specs.Held.{Entries}
use Rattle.rpc_peer.specs.declared.message.Id.{Id}
use Rattle.build_messages.specs.Outgoing.{outgoing_said}
use Rattle.build_messages.specs.declared.outgoing.Outgoing.{Outgoing}
use Rattle.session_core.specs.Acting.{Acts, ActsInVain}
use Rattle.session_verdicts.specs.Judging.{Fits, IsPlanIn}
use Rattle.session_core.specs.Moving.{IsOwedFirst, IsUnmarked, RunsOn, with_first}
use Rattle.session_verdicts.specs.Plans.{Plan, build_in}
use Rattle.session_core.proofs.Resting.{goes_on}
use Rattle.session_core.specs.Settled.{HeadPlanFits, HeadWants, IsSettled, PhaseWants, PlanFits}
use Rattle.session_core.specs.Standing.{HeadFits, IsPlanned, IsRereading, IsQuiet, MidOf, Moves, PhaseFits, Recalls, Whole}
use Rattle.session_core.specs.State.{asked_of, plain_of, rest_of, said_out, waiting_of}
use Rattle.session_core.specs.declared.head.Head.{Head}
use Rattle.session_core.specs.declared.head.Phase.{Phase}
use Rattle.session_core.specs.declared.head.Phase.TheVariants as phases
use Rattle.session_core.specs.declared.session.Core.{Core}
use Rattle.session_verdicts.specs.declared.verdicts.Answer.TheVariants as answers
use Rattle.session_verdicts.specs.declared.verdicts.Queued.{Queued}
use Rattle.session_verdicts.specs.declared.verdicts.Reason.TheVariants as reasons
use Rattle.session_law.proofs.MidLaws.{mid_handed}
use Rattle.session_law.proofs.TakeLaws.{MayAsk}
use Rattle.session_law.specs.Lawful.{AreHeld, EachAllowed}
use Rattle.session_law.specs.Methods.{Verdict, asking, building, rereading, unreadable}
use Rattle.session_law.specs.Open.{First, Mid, Open, none, owing}
use Rattle.session_law.specs.Order.{Event, hand, onto}
use Rattle.session_law.specs.Past.{Now, after}
use Rattle.session_law.specs.Requests.{Wants, handed_over}
use Rattle.session_queue.specs.declared.waiting.Waiting.{Waiting}
use Rattle.target_graph.specs.Workspace.{Space}

module _ (old new : Core) (head : Head) (is : old.head ≡ Some head) (quiet : IsQuiet old) (goes : All IsUnmarked (waiting_of old))
    (handed : Option Entries) (paths : List (List ℕ)) (held : IfSome handed (AreHeld paths)) where
  -- the core without its head
  abbrev pub taken_out : Core
  taken_out = record old { head = None }

  abbrev pub onto_is : (later : List Event) → onto (said_out old) later ≡ later
  onto_is later = ap (λ (items : List Outgoing). onto (map outgoing_said items) later) quiet

  module _ (v : Verdict) (asks : MayAsk v) (wants : Wants v paths) (owed : (now : Now) (first : First) → PhaseFits old head head.phase now first → first ≡ owing head.id head.number v) where
    abbrev pub opened : Open
    opened = record { first = owing head.id head.number (handed_over handed v); waiting = waiting_of old; last = []; nulls = [] }

    first_is : (order : List Event) (whole : Whole old [] [] order) → whole.first ≡ owing head.id head.number v
    first_is order whole =
        owed (after (onto (said_out old) order)) whole.first (subst (λ (h : Option Head). HeadFits old h (after (onto (said_out old) order)) whole.first) is whole.fits).1

    mid_opened : (order : List Event) → Whole old [] [] order → Mid (plain_of old) (Recalls old) opened (hand handed ∷ order)
    mid_opened order whole =
        mid_handed (plain_of old) (Recalls old) (with_first old whole.first [] []) order (subst (Mid (plain_of old) (Recalls old) (with_first old whole.first [] [])) (onto_is order) whole.mid)
        head.id head.number v (first_is order whole) refl refl handed paths wants held asks

    pub runs : RunsOn opened
    runs = record { one = tt; first = tt; waiting = goes; last = All-nil IsUnmarked }

    -- it is answered
    pub answers_hand : ((order : List Event) → Whole old [] [] order → MidOf taken_out opened (hand handed ∷ order) → MidOf new (record opened { first = none }) (hand handed ∷ order)) → new.head ≡ None → new.queue ≡ old.queue → Acts old new (hand handed)
    answers_hand moves gone queue order whole =
        record {
          first = none;
          fits = subst (λ (h : Option Head). HeadFits new h (after (onto (said_out new) (hand handed ∷ order))) none) (sym gone) refl;
          mid =
              subst (λ (q : List (Waiting Queued)). MidOf new (record { first = none; waiting = map asked_of q; last = []; nulls = [] }) (hand handed ∷ order)) (sym queue)
              (moves order whole (subst (Mid (plain_of old) (Recalls old) opened) (sym (onto_is (hand handed ∷ order))) (mid_opened order whole)));
        }

    -- where nothing is written nothing is lost
    pub lost_hand : new.out.items ≡ old.out.items → ActsInVain old new (hand handed)
    lost_hand same order whole =
        subst (λ (items : List Outgoing). EachAllowed (onto (map outgoing_said items) (hand handed ∷ order))) (sym (same ∙ quiet)) (mid_opened order whole).each

-- what a head that asks for its root is owed, and a build that waits for its documents
pub owed_asking : (old : Core) (head : Head) (root : List ℕ) → head.phase ≡ phases.Opening root → (now : Now) (first : First) → PhaseFits old head head.phase now first → first ≡ owing head.id head.number (asking root)
owed_asking old head root phase now first fits = (subst (λ (p : Phase). PhaseFits old head p now first) phase fits).0

pub asking_here : (old : Core) (head : Head) (root : List ℕ) → old.head ≡ Some head → head.phase ≡ phases.Opening root → (order : List Event) → Whole old [] [] order → old.workspace ≡ None
asking_here old head root is phase order whole =
    let fits = (subst (λ (h : Option Head). HeadFits old h (after (onto (said_out old) order)) whole.first) is whole.fits).1 in
    (subst (λ (p : Phase). PhaseFits old head p (after (onto (said_out old) order)) whole.first) phase fits).1

pub some_same : {x y : Space} → Some x ≡ Some y → x ≡ y
some_same {x} {y} same = ap (λ (o : Option Space). unwrap_or o x) same

module _ (old : Core) (head : Head) (plan : Plan) (phase : head.phase ≡ phases.Planned plan) (space : Space) (in_force : old.workspace ≡ Some space) where
  pub owed_building : (now : Now) (first : First) → PhaseFits old head head.phase now first → first ≡ owing head.id head.number (building (build_in space plan))
  owed_building now first fits =
      let it : IsPlanned old.workspace head plan first = subst (λ (p : Phase). PhaseFits old head p now first) phase fits in
      it.is ∙ ap (λ s. owing head.id head.number (building (build_in s plan))) (some_same (sym it.in_force ∙ in_force))

  pub wants_building : (paths : List (List ℕ)) → IsPlanIn space plan → PhaseWants head.phase paths → Wants (building (build_in space plan)) paths
  wants_building paths within wanted =
      record { documents = plan.documents; of_build = within.documents; are = subst (λ (p : Phase). PhaseWants p paths) phase wanted }

-- what a reload that waits for the workspace file is owed
pub owed_rereading : (old : Core) (head : Head) → head.phase ≡ phases.Rereading → (space : Space) → old.workspace ≡ Some space → (now : Now) (first : First) → PhaseFits old head head.phase now first
    → first ≡ owing head.id head.number (rereading space)
owed_rereading old head phase space in_force now first fits =
    let it : IsRereading old.workspace head first = subst (λ (p : Phase). PhaseFits old head p now first) phase fits in
    it.is ∙ ap (λ s. owing head.id head.number (rereading s)) (some_same (sym it.in_force ∙ in_force))

-- the tree failed, and the request at the head is refused
abbrev pub Answers : Core → Core → Id → Open → ℕ → Verdict → Type 0
Answers old new id o number v =
    o.first ≡ owing id number v → RunsOn o → IsOwedFirst old.workspace v → Fits v (answers.Refused reasons.InternalError) → Moves old new o (record o { first = none })

pub refuses_hand : (old new : Core) (head : Head) (v : Verdict) (handed : Option Entries) → handed_over handed v ≡ handed_over None v → handed_over None v ≡ unreadable → All IsUnmarked (waiting_of old)
    → ((o : Open) (number : ℕ) (w : Verdict) → Answers (record old { head = None }) new head.id o number w)
    → Moves (record old { head = None }) new (record { first = owing head.id head.number (handed_over handed v); waiting = waiting_of old; last = []; nulls = [] })
    (record { first = none; waiting = waiting_of old; last = []; nulls = [] })
refuses_hand old new head v handed nothing refused goes answers_it =
    subst (λ w. Moves (record old { head = None }) new (record { first = owing head.id head.number w; waiting = waiting_of old; last = []; nulls = [] }) (record { first = none; waiting = waiting_of old; last = []; nulls = [] }))
    (sym (nothing ∙ refused))
    (answers_it (record { first = owing head.id head.number unreadable; waiting = waiting_of old; last = []; nulls = [] }) head.number unreadable refl
    (record { one = tt; first = tt; waiting = goes; last = All-nil IsUnmarked }) tt (refl, refl))

-- where nothing is written behind the hand nothing is lost, whichever request is at the head
pub hand_lost : (old new : Core) (handed : Option Entries) (paths : List (List ℕ)) → IsSettled (rest_of old) → IsQuiet old → HeadWants old.head paths → IfSome handed (AreHeld paths) → new.out.items ≡ old.out.items
    → ActsInVain old new (hand handed)
hand_lost old new handed paths settled quiet wanted held same = by old.head refl wanted settled.sound.plan
  where
    goes : All IsUnmarked (waiting_of old)
    goes = (goes_on old settled.sound).waiting

    of_phase : (head : Head) → old.head ≡ Some head → (phase : Phase) → head.phase ≡ phase → PhaseWants phase paths → PlanFits old.workspace phase → ActsInVain old new (hand handed)
    of_phase head is (phases.Opening root) phase wants plan = lost_hand old new head is quiet goes handed paths held (asking root) tt wants (owed_asking old head root phase) same
    of_phase head is phases.Rereading phase wants plan =
        lost_hand old new head is quiet goes handed paths held (rereading plan.space) tt wants (owed_rereading old head phase plan.space plan.is) same
    of_phase head is (phases.Planned planned) phase wants plan =
        lost_hand old new head is quiet goes handed paths held (building (build_in plan.space planned)) tt (record { documents = planned.documents; of_build = plan.within.documents; are = wants })
        (owed_building old head planned phase plan.space plan.in_force) same
    of_phase head is (phases.Built b origin) phase wants plan = absurd wants

    by : (head : Option Head) → old.head ≡ head → HeadWants head paths → HeadPlanFits old.workspace head → ActsInVain old new (hand handed)
    by None is wants plan = absurd wants
    by (Some head) is wants plan = of_phase head is head.phase refl wants plan
