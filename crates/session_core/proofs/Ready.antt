-- A core that has written and settled all is given an event: what it keeps is marked, and stands for the order with the event.
use Rattle.std.proofs.Common.{◌≡◌, ◌≢◌, ◌++◌, ◌||◌, ◌&&◌, ℤ, List, [], ◌∷◌, map, Bool, true, false, All, Option, Some, None, refl, ap, sym, ◌∙◌, subst}
use Rattle.std.proofs.lemmas.List.Elements.{All-cons, All-head, All-nil, All-tail}
use Rattle.rpc_peer.specs.declared.message.Id.{Id}
use Rattle.rpc_peer.specs.Said.{Said}
use Rattle.session_build.specs.AtWork.{IsAtWork}
use Rattle.build_messages.specs.Outgoing.{outgoing_said}
use Rattle.build_messages.specs.declared.outgoing.Outgoing.{Outgoing}
use Rattle.session_core.proofs.Moving.{says_null}
use Rattle.session_core.proofs.Settling.{fits_on, runs_first, up_first}
use Rattle.session_core.specs.Acting.{ActsInVain}
use Rattle.session_verdicts.specs.Judging.{answer_unread}
use Rattle.session_core.specs.Marking.{marked, marked_head}
use Rattle.session_core.specs.Moving.{HasWaitingTexts, IsUnmarked, KeepsNotices, LosesAll, RunsOn, SettlesAll, with_first}
use Rattle.session_law.specs.IsFramed.{IsFramed}
use Rattle.session_law.specs.Lawful.{EachAllowed}
use Rattle.session_core.specs.Standing.{GoesOn, HeadFits, HeadGoesOn, IsUpHead, MidOf, PhaseFits, Recalls, Whole, IsQuiet}
use Rattle.session_core.specs.State.{asked_of, plain_of, said_out, waiting_of}
use Rattle.session_core.specs.Taking.{WaitsBehind}
use Rattle.session_core.specs.declared.head.Head.{Head}
use Rattle.session_core.specs.declared.head.Phase.{Phase}
use Rattle.session_core.specs.declared.head.Phase.TheVariants as phases
use Rattle.session_core.specs.declared.session.Core.{Core}
use Rattle.session_verdicts.specs.declared.verdicts.Queued.{Queued}
use Rattle.session_law.proofs.TakeLaws as law
use Rattle.session_law.proofs.MidLaws.{Rests, mid_ended}
use Rattle.session_law.specs.Course.{Course, Given, Stage, begins, checked, known, starts}
use Rattle.session_law.specs.Open.{First, IsUp, Mid, Open, working}
use Rattle.session_law.specs.Order.{Event, ends, onto}
use Rattle.session_law.specs.Past.{Now, after, end_status, nulls_for_end}
use Rattle.session_law.specs.Requests.{Asked, marked_where}
use Rattle.session_law.specs.declared.InputEnd.{InputEnd}
use Rattle.session_queue.specs.Waiting as queues
use Rattle.session_queue.specs.declared.waiting.Waiting.{Waiting}
use Rattle.task_stream.specs.Showing.{shows}

-- It wrote what it owed at once, it needs nothing of the tree, and no request is to be cancelled.
pub record IsReady (core : Core) : Type 0 where
  pub up : IsUpHead core.head
  pub goes_on : GoesOn core
  pub behind : WaitsBehind core.head core.queue
  pub running : core.status ≡ None
  pub quiet : IsQuiet core

-- ---- a build that began told something

abbrev IsFull : {A : Type 0} → List A → Type 0
IsFull [] = ⊥
IsFull (first ∷ others) = Unit {0}

append_some : {A : Type 0} (front back : List A) → front ≢ [] → front ++ back ≢ []
append_some [] back some nothing = some refl
append_some (first ∷ front) back some nothing = subst IsFull nothing tt

pub told_some : (g : Given) (s : Stage) (messages : List Said) → Course g s messages → messages ≢ []
told_some g s messages starts nothing = subst IsFull nothing tt
told_some g s messages (known {messages = before} finding own course next is settles) nothing = append_some before own (told_some g _ before course) nothing
told_some g s messages (begins {messages = before} document i course next due task) nothing = append_some before _ (told_some g _ before course) nothing
told_some g s messages (checked {messages = before} finding j i own course nobody runs task settles) nothing = append_some before _ (told_some g _ before course) nothing

-- ---- marks

and_true : (b : Bool) → (b && true) ≡ b
and_true true = refl
and_true false = refl

abbrev pub marks : (Id → Bool) → Asked → Bool
marks by asked = by asked.id

pub waiting_marked : (by : Id → Bool) (queue : List (Waiting Queued)) → map asked_of (queues.marked_where (λ waiting. by waiting.id) queue) ≡ marked_where (marks by) (map asked_of queue)
waiting_marked by [] = refl
waiting_marked by (waiting ∷ queue) =
    λ i. record (asked_of waiting) { cancelled = waiting.cancelled || sym (and_true (by waiting.id)) i } ∷ waiting_marked by queue i

pub texts_marked : (by : Id → Bool) (queue : List (Waiting Queued)) → All HasWaitingTexts queue → All HasWaitingTexts (queues.marked_where (λ waiting. by waiting.id) queue)
texts_marked by [] all = All-nil HasWaitingTexts
texts_marked by (waiting ∷ queue) all =
    let one = All-head HasWaitingTexts waiting queue all in
    All-cons HasWaitingTexts (queues.marked_if (by waiting.id) waiting) (queues.marked_where (λ waiting. by waiting.id) queue) (record { named = one.named; texts = one.texts })
    (texts_marked by queue (All-tail HasWaitingTexts waiting queue all))

-- what is at the head, marked
module _ (old new : Core) (by : Id → Bool) (before later : Now) (first : First) (space : new.workspace ≡ old.workspace) (kept : new.kept ≡ old.kept) (shown : new.shown ≡ old.shown)
    (notices : later.notices ≡ before.notices) where
  phase_marked : (head : Head) (phase : Phase) → IsUpHead (Some (record head { phase = phase })) → PhaseFits old head phase before first
      → PhaseFits new (record head { cancelled = head.cancelled || by head.id }) phase later (law.marked_head (marks by) first)
  phase_marked head (phases.Opening root) up fits = absurd up
  phase_marked head phases.Rereading up fits = absurd up
  phase_marked head (phases.Planned plan) up fits = absurd up
  phase_marked head (phases.Built b origin) up fits =
      record {
        given = fits.given;
        id_is = fits.id_is;
        space_is = space ∙ fits.space_is;
        origin_is = fits.origin_is;
        is = ap (law.marked_head (marks by)) fits.is ∙ (λ i. working fits.given (head.cancelled || by (fits.id_is i)));
        at_work = subst (λ n. IsAtWork fits.given b n new.kept.keys (shows new.shown)) (sym notices)
            (subst (λ k. IsAtWork fits.given b before.notices k.keys (shows new.shown)) (sym kept)
            (subst (λ s. IsAtWork fits.given b before.notices old.kept.keys (shows s)) (sym shown) fits.at_work));
      }

  pub fits_marked : (head : Option Head) → IsUpHead head → HeadFits old head before first → HeadFits new (marked_head by head) later (law.marked_head (marks by) first)
  fits_marked None up fits = ap (law.marked_head (marks by)) fits
  fits_marked (Some head) up fits = (fits.0, phase_marked head head.phase up fits.1)

-- ---- ready for an event

module _ (core : Core) (order : List Event) (ready : IsReady core) (whole : Whole core [] [] order) where
  abbrev pub open_now : Open
  open_now = record { first = whole.first; waiting = waiting_of core; last = []; nulls = [] }

  pub onto_is : (later : List Event) → onto (said_out core) later ≡ later
  onto_is later = ap (λ (items : List Outgoing). onto (map outgoing_said items) later) ready.quiet

  pub mid : Mid (plain_of core) (Recalls core) open_now order
  mid = subst (Mid (plain_of core) (Recalls core) open_now) (onto_is order) whole.mid

  pub fits : HeadFits core core.head (after order) whole.first
  fits = subst (λ past. HeadFits core core.head (after past) whole.first) (onto_is order) whole.fits

  by_phase : (head : Head) (phase : Phase) → IsUpHead (Some (record head { phase = phase })) → PhaseFits core head phase (after order) whole.first → (head.cancelled ≡ false)
      → IsUp whole.first × (Rattle.session_law.proofs.OpenLaws.GoesOn whole.first × (law.HasStarted whole.first (after order) × law.WaitsBehind whole.first (waiting_of core)))
  by_phase head (phases.Opening root) up it go = absurd up
  by_phase head phases.Rereading up it go = absurd up
  by_phase head (phases.Planned plan) up it go = absurd up
  by_phase head (phases.Built b origin) up working_is go =
      subst (λ first. IsUp first × (Rattle.session_law.proofs.OpenLaws.GoesOn first × (law.HasStarted first (after order) × law.WaitsBehind first (waiting_of core)))) (sym working_is.is)
      (tt, (go, (told_some working_is.given working_is.at_work.going.stage (after order).notices working_is.at_work.going.on.course, tt)))

  by_head : (head : Option Head) → IsUpHead head → HeadFits core head (after order) whole.first → HeadGoesOn head → WaitsBehind head core.queue
      → IsUp whole.first × (Rattle.session_law.proofs.OpenLaws.GoesOn whole.first × (law.HasStarted whole.first (after order) × law.WaitsBehind whole.first (waiting_of core)))
  by_head None up fits go behind =
      subst (λ first. IsUp first × (Rattle.session_law.proofs.OpenLaws.GoesOn first × (law.HasStarted first (after order) × law.WaitsBehind first (waiting_of core)))) (sym fits)
      (tt, (tt, (tt, ap (map asked_of) behind)))
  by_head (Some head) up fits go behind = by_phase head head.phase up fits.1 go

  pub rests : Rests (plain_of core) (Recalls core) open_now order mid
  rests =
      let all = by_head core.head ready.up fits ready.goes_on.head ready.behind in
      record {
        up = all.0;
        go = record { one = tt; first = all.1.0; waiting = ready.goes_on.waiting; last = All-nil IsUnmarked };
        last = refl;
        nulls = refl;
        started = all.1.1.0;
        behind = all.1.1.1;
        goes_on = ready.running;
      }

  -- the input ends
  pub whole_ended : (how : InputEnd) → Whole (record (marked (λ id. true) core) { status = Some (end_status how) }) [] (nulls_for_end how) (ends how ∷ order)
  whole_ended how =
      let new : Core = record (marked (λ id. true) core) { status = Some (end_status how) } in
      let past : onto (said_out core) (ends how ∷ order) ≡ ends how ∷ order = onto_is (ends how ∷ order) in
      record {
        first = law.marked_head law.all_marks whole.first;
        fits =
            subst (λ p. HeadFits new new.head (after p) (law.marked_head law.all_marks whole.first)) (sym past)
            (fits_marked core new (λ id. true) (after order) (after (ends how ∷ order)) whole.first refl refl refl refl core.head ready.up fits);
        mid =
            subst (λ p. Mid (plain_of new) (Recalls new) (record { first = law.marked_head law.all_marks whole.first; waiting = waiting_of new; last = []; nulls = nulls_for_end how }) p) (sym past)
            (subst (λ w. Mid (plain_of new) (Recalls new) (record { first = law.marked_head law.all_marks whole.first; waiting = w; last = []; nulls = nulls_for_end how }) (ends how ∷ order))
            (sym (waiting_marked (λ id. true) core.queue))
            (mid_ended (plain_of core) (Recalls core) open_now order mid rests how));
      }

  pub end_each : (how : InputEnd) → EachAllowed (onto (said_out core) (ends how ∷ order))
  end_each how = (whole_ended how).mid.each

-- ---- a code that is owed with the id null is written

module _ (old new : Core) (code : ℤ) (said : said_out new ≡ said_out old ++ answer_unread code ∷ []) (same : new ≡ record old { out = new.out }) (framed : IsFramed (answer_unread code))
    (notices : KeepsNotices old new) (up : IsUpHead old.head) (goes : GoesOn old) where
  pub null_whole : (later : List ℤ) (order : List Event) → Whole old [] (code ∷ later) order → Whole new [] later order
  null_whole later order whole =
      let before : Now = after (onto (said_out old) order) in
      let past : Now = after (onto (said_out new) order) in
      let o : Open = with_first old whole.first [] (code ∷ later) in
      let runs : RunsOn o = record { one = up_first old old.head before whole.first up whole.fits; first = runs_first old old.head before whole.first up goes.head whole.fits; waiting = goes.waiting; last = All-nil IsUnmarked } in
      let head : new.head ≡ old.head = ap (λ (core : Core). core.head) same in
      let queue : new.queue ≡ old.queue = ap (λ (core : Core). core.queue) same in
      record {
        first = whole.first;
        fits =
            subst (λ (h : Option Head). HeadFits new h past whole.first) (sym head)
            (fits_on old new old.head before past whole.first (ap (λ (core : Core). core.workspace) same) (ap (λ (core : Core). core.kept) same) (ap (λ (core : Core). core.shown) same) (notices order) whole.fits);
        mid =
            subst (λ (q : List (Waiting Queued)). MidOf new (record { first = whole.first; waiting = map asked_of q; last = []; nulls = later }) order) (sym queue)
            (says_null old new code said same framed o later refl runs order whole.mid);
      }

-- ---- the end of the input, whole

module _ (old settled : Core) (how : InputEnd) (ready : IsReady old) (settles : SettlesAll (record (marked (λ id. true) old) { status = Some (end_status how) }) settled) where
  pub ended : (order : List Event) → Whole old [] [] order → Whole settled [] (nulls_for_end how) (ends how ∷ order)
  ended order whole = settles [] (nulls_for_end how) (ends how ∷ order) (whole_ended old order ready whole how)

pub end_lost : (old new : Core) (how : InputEnd) → IsReady old → LosesAll (record (marked (λ id. true) old) { status = Some (end_status how) }) new → ActsInVain old new (ends how)
end_lost old new how ready loses order whole = loses [] (nulls_for_end how) (ends how ∷ order) (whole_ended old order ready whole how)

pub lost_behind : (new : Core) (nulls : List ℤ) (order : List Event) → Whole new [] nulls order → EachAllowed (onto (said_out new) order)
lost_behind new nulls order whole = whole.mid.each
