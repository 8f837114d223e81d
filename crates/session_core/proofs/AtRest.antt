-- What follows for an order that a core stands for which has nothing left to write.
use Rattle.std.proofs.Common.{◌≡◌, ◌≢◌, ◌++◌, ℕ, List, [], ◌∷◌, map, false, Option, Some, None, IfSome, option_to_list, refl, ap, sym, ◌∙◌, subst}
use Rattle.std.proofs.lemmas.List.Elements.{All-map, All-nil}
use Rattle.rpc_peer.specs.Said.{Said}
use Rattle.build_messages.specs.Outgoing.{outgoing_said}
use Rattle.build_messages.specs.declared.outgoing.Outgoing.{Outgoing}
use Rattle.session_law.specs.IsFramed.{IsFramed}
use Rattle.session_build.proofs.RestLaws.{awaits_check}
use Rattle.session_core.proofs.EndMarks.{ended_marked, marked_none}
use Rattle.session_core.specs.Settled.{IsSettled}
use Rattle.session_core.specs.Standing.{HeadFits, HeadGoesOn, IsAlive, IsQuiet, IsUpHead, IsUpPhase, PhaseFits, Recalls, StandsFor, Whole, status_of}
use Rattle.session_core.specs.State.{asked_of, plain_of, rest_of, said_out, waiting_of}
use Rattle.session_core.specs.Taking.{WaitsBehind as WaitsBehindHead}
use Rattle.session_core.specs.declared.head.Head.{Head}
use Rattle.session_core.specs.declared.head.Phase.{Phase}
use Rattle.session_core.specs.declared.head.Phase.TheVariants as phases
use Rattle.session_core.specs.declared.session.Core.{Core}
use Rattle.session_verdicts.specs.declared.verdicts.Queued.{Queued}
use Rattle.session_law.proofs.OpenLaws.{GoOn, GoesOn, unmarked}
use Rattle.session_law.proofs.RequestLaws.{IsUnmarked}
use Rattle.session_law.proofs.AwaitLaws.{FirstAwaits, head_awaits}
use Rattle.session_law.proofs.TakeLaws.{HasStarted, WaitsBehind, caught_up}
use Rattle.session_law.specs.AnswersAll.{IsSettled as AnswersAll}
use Rattle.session_law.specs.AnswersAtOnce.{IsCaughtUp}
use Rattle.session_law.specs.EachRests.{EachRests, HeadAwaits, IsAtRest}
use Rattle.session_law.specs.Course.{Course, Given, Stage, starts, known, begins, checked}
use Rattle.session_law.specs.Lawful.{EachAllowed, Lawful}
use Rattle.session_law.specs.Open.{First, IsFirst, IsUp, Mid, none, Open}
use Rattle.session_law.specs.Order.{Event, onto, write}
use Rattle.session_law.specs.Past.{Now, after, status_after}
use Rattle.session_law.specs.Open.{Plain}
use Rattle.session_law.specs.Requests.{Asked}
use Rattle.session_queue.specs.declared.waiting.Waiting.{Waiting}
use Rattle.task_stream.specs.Showing.{shows}

-- what is open where this is at the head, and nothing is answered now
abbrev pub open_with : Core → First → Open
open_with core first = record { first = first; waiting = waiting_of core; last = []; nulls = [] }

-- what is allowed with more messages written is allowed before them
before : (messages : List Said) (order : List Event) → EachAllowed (onto messages order) → EachAllowed order
before [] order each = each
before (m ∷ messages) order each = (before messages (write m ∷ order) each).1

-- an order that a core stands for is lawful
pub stood_lawful : (core : Core) (order : List Event) → StandsFor core order → Lawful order
stood_lawful core order stands = record { each = before (said_out core) order stands.each }

-- a message that is the next to be written is framed
pub first_framed : (core : Core) (got : Option Outgoing) (rest : List Outgoing) (order : List Event) → core.out.items ≡ option_to_list got ++ rest → StandsFor core order
    → IfSome got (λ m. IsFramed (outgoing_said m))
first_framed core None rest order first stands = tt
first_framed core (Some m) rest order first stands =
    let each = subst (λ (items : List Outgoing). EachAllowed (onto (map outgoing_said items) order)) first stands.each in
    (before (map outgoing_said rest) (write (outgoing_said m) ∷ order) each).0.framed

-- ---- what is open

-- what a core that found memory so far keeps is what is open
record IsWhole (core : Core) (order : List Event) : Type 0 where
  first : First
  fits : HeadFits core core.head (after order) first
  mid : Mid (plain_of core) (Recalls core) (open_with core first) order

is_whole : (core : Core) (order : List Event) → IsQuiet core → IsAlive core → StandsFor core order → IsWhole core order
is_whole core order quiet alive stands =
    let whole = stands.whole alive in
    let said : said_out core ≡ [] = ap (map outgoing_said) quiet in
    record {
      first = whole.first;
      fits = subst (λ messages. HeadFits core core.head (after (onto messages order)) whole.first) said whole.fits;
      mid = subst (λ messages. Mid (plain_of core) (Recalls core) (open_with core whole.first) (onto messages order)) said whole.mid;
    }

-- the head is none where the core has none
first_none : (core : Core) (head : Option Head) (now : Now) (first : First) → head ≡ None → HeadFits core head now first → first ≡ none
first_none core None now first is fits = fits
first_none core (Some head) now first is fits = absurd cc

none_waits : (head : Option Head) (queue : List (Waiting Queued)) → head ≡ None → WaitsBehindHead head queue → queue ≡ []
none_waits None queue is behind = behind
none_waits (Some head) queue is behind = absurd cc

-- no request is open in an order of a core that is idle
pub nothing_open : (core : Core) (order : List Event) → IsQuiet core → IsAlive core → IsSettled (rest_of core) → core.head ≡ None → StandsFor core order → (after order).requests ≡ []
nothing_open core order quiet alive settled idle stands =
    let whole = is_whole core order quiet alive stands in
    let is = whole.mid.open_is in
    let first = first_none core core.head (after order) whole.first idle whole.fits in
    let head : is.head ≡ [] = subst (λ f. IsFirst f (after order) is.head) first is.first_is in
    let waiting : waiting_of core ≡ [] = ap (map asked_of) (none_waits core.head core.queue idle settled.behind) in
    is.requests_are ∙ (ap (λ h. h ++ (waiting_of core ++ [])) head ∙ ap (λ w. w ++ []) waiting)

-- ---- what is owed at once is answered

more_some : {X : Type 0} (xs ys : List X) → xs ≢ [] → xs ++ ys ≢ []
more_some [] ys some = λ nothing. some refl
more_some (x ∷ xs) ys some = λ nothing. absurd cc

starts_some : (g : Given) (stage : Stage) (messages : List Said) → Course g stage messages → messages ≢ []
starts_some g stage messages starts = λ nothing. absurd cc
starts_some g stage messages (known finding own course next there settles) = λ nothing. more_some _ own (starts_some g _ _ course) nothing
starts_some g stage messages (begins document i course next due task) = λ nothing. more_some _ (_ ∷ []) (starts_some g _ _ course) nothing
starts_some g stage messages (checked finding j i own course nobody runs task settles) = λ nothing. more_some _ (_ ∷ own) (starts_some g _ _ course) nothing

phase_up : (core : Core) (head : Head) (phase : Phase) (now : Now) (first : First) → PhaseFits core head phase now first → IsUpPhase phase → IsUp first × HasStarted first now
phase_up core head (phases.Opening root) now first fits up = absurd up
phase_up core head phases.Rereading now first fits up = absurd up
phase_up core head (phases.Planned plan) now first fits up = absurd up
phase_up core head (phases.Built b origin) now first fits up =
    let work = fits.at_work in
    subst (λ f. IsUp f × HasStarted f now) (sym fits.is) (tt, starts_some fits.given work.going.stage now.notices work.going.on.course)

-- the head told that it starts
head_up : (core : Core) (head : Option Head) (now : Now) (first : First) → HeadFits core head now first → IsUpHead head → IsUp first × HasStarted first now
head_up core None now first fits up = subst (λ f. IsUp f × HasStarted f now) (sym fits) (tt, tt)
head_up core (Some head) now first fits up = phase_up core head head.phase now first fits.1 up

phase_goes : (core : Core) (head : Head) (phase : Phase) (now : Now) (first : First) → PhaseFits core head phase now first → head.cancelled ≡ false → GoesOn first
phase_goes core head (phases.Opening root) now first fits goes = subst GoesOn (sym fits.0) tt
phase_goes core head phases.Rereading now first fits goes = subst GoesOn (sym fits.is) tt
phase_goes core head (phases.Planned plan) now first fits goes = subst GoesOn (sym fits.is) tt
phase_goes core head (phases.Built b origin) now first fits goes = subst GoesOn (sym fits.is) goes

head_goes : (core : Core) (head : Option Head) (now : Now) (first : First) → HeadFits core head now first → HeadGoesOn head → GoesOn first
head_goes core None now first fits goes = subst GoesOn (sym fits) tt
head_goes core (Some head) now first fits goes = phase_goes core head head.phase now first fits.1 goes

phase_behind : (core : Core) (head : Head) (phase : Phase) (now : Now) (first : First) (waiting : List Asked) → PhaseFits core head phase now first → WaitsBehind first waiting
phase_behind core head (phases.Opening root) now first waiting fits = subst (λ f. WaitsBehind f waiting) (sym fits.0) tt
phase_behind core head phases.Rereading now first waiting fits = subst (λ f. WaitsBehind f waiting) (sym fits.is) tt
phase_behind core head (phases.Planned plan) now first waiting fits = subst (λ f. WaitsBehind f waiting) (sym fits.is) tt
phase_behind core head (phases.Built b origin) now first waiting fits = subst (λ f. WaitsBehind f waiting) (sym fits.is) tt

head_behind : (core : Core) (head : Option Head) (queue : List (Waiting Queued)) (now : Now) (first : First) → HeadFits core head now first → WaitsBehindHead head queue → WaitsBehind first (map asked_of queue)
head_behind core None queue now first fits behind = subst (λ f. WaitsBehind f (map asked_of queue)) (sym fits) (ap (map asked_of) behind)
head_behind core (Some head) queue now first fits behind = phase_behind core head head.phase now first (map asked_of queue) fits.1

go_on : (core : Core) (order : List Event) (whole : IsWhole core order) → IsSettled (rest_of core) → GoOn (open_with core whole.first)
go_on core order whole settled =
    record {
      one = tt;
      first = head_goes core core.head (after order) whole.first whole.fits settled.sound.goes_on;
      waiting = All-map IsUnmarked asked_of core.queue settled.sound.waiting;
      last = All-nil IsUnmarked;
    }

-- what is owed at once is answered in an order of a core that waits for no tree
is_caught_up : (core : Core) (order : List Event) → IsQuiet core → IsAlive core → IsSettled (rest_of core) → IsUpHead core.head → StandsFor core order → IsCaughtUp (after order)
is_caught_up core order quiet alive settled up stands =
    let whole = is_whole core order quiet alive stands in
    let ready = head_up core core.head (after order) whole.first whole.fits up in
    caught_up (open_with core whole.first) (after order) whole.mid.open_is ready.0 (go_on core order whole settled) refl refl ready.1
    (head_behind core core.head core.queue (after order) whole.first whole.fits settled.behind)

-- ---- the build at the head waits for a check

phase_awaits : (core : Core) (head : Head) (phase : Phase) (now : Now) (first : First) → PhaseFits core head phase now first → IsUpPhase phase → FirstAwaits first now
phase_awaits core head (phases.Opening root) now first fits up = absurd up
phase_awaits core head phases.Rereading now first fits up = absurd up
phase_awaits core head (phases.Planned plan) now first fits up = absurd up
phase_awaits core head (phases.Built b origin) now first fits up =
    subst (λ f. FirstAwaits f now) (sym fits.is) (awaits_check fits.given b now.notices core.kept.keys (shows core.shown) fits.at_work)

first_awaits : (core : Core) (head : Option Head) (now : Now) (first : First) → HeadFits core head now first → IsUpHead head → FirstAwaits first now
first_awaits core None now first fits up = subst (λ f. FirstAwaits f now) (sym fits) tt
first_awaits core (Some head) now first fits up = phase_awaits core head head.phase now first fits.1 up

whole_awaits : (core : Core) (order : List Event) → IsQuiet core → IsUpHead core.head → WaitsBehindHead core.head core.queue → Whole core [] [] order → HeadAwaits (after order).requests (after order)
whole_awaits core order quiet up behind whole =
    let said : said_out core ≡ [] = ap (map outgoing_said) quiet in
    let fits : HeadFits core core.head (after order) whole.first = subst (λ messages. HeadFits core core.head (after (onto messages order)) whole.first) said whole.fits in
    let mid : Mid (plain_of core) (Recalls core) (open_with core whole.first) order =
    subst (λ messages. Mid (plain_of core) (Recalls core) (open_with core whole.first) (onto messages order)) said whole.mid in
    head_awaits (open_with core whole.first) (after order) mid.open_is refl (first_awaits core core.head (after order) whole.first fits up)
    (head_behind core core.head core.queue (after order) whole.first fits behind)

-- so it rests as a body is taken, or the input is found to have ended
pub rests_behind : (core : Core) → IsQuiet core → IsUpHead core.head → WaitsBehindHead core.head core.queue → (order : List Event) → Whole core [] [] order → EachRests order
    → HeadAwaits (after order).requests (after order) × EachRests order
rests_behind core quiet up behind order whole rests = (whole_awaits core order quiet up behind whole, rests)

pub is_at_rest : (core : Core) (order : List Event) → IsQuiet core → IsAlive core → IsSettled (rest_of core) → IsUpHead core.head → StandsFor core order → IsAtRest (after order)
is_at_rest core order quiet alive settled up stands =
    record {
      caught_up = is_caught_up core order quiet alive settled up stands;
      awaits = whole_awaits core order quiet up settled.behind (stands.whole alive);
    }

-- ---- the end of a session

-- the order has the status that the core has
pub status_is : (core : Core) (order : List Event) → IsQuiet core → IsAlive core → StandsFor core order → status_after order ≡ status_of core
status_is core order quiet alive stands =
    let whole = is_whole core order quiet alive stands in
    ap (λ (plain : Plain). plain.status) whole.mid.plain_is

-- nothing is owed in an order of a core that ended
pub ended_settled : (core : Core) (order : List Event) (status : ℕ) → IsQuiet core → IsAlive core → IsSettled (rest_of core) → status_of core ≡ Some status → StandsFor core order → AnswersAll order
ended_settled core order status quiet alive settled over stands =
    let whole = is_whole core order quiet alive stands in
    let is = whole.mid.open_is in
    let marked = ended_marked order status whole.mid.each (status_is core order quiet alive stands ∙ over) in
    record {
      requests = marked_none (after order).requests marked (unmarked (open_with core whole.first) (after order) is (go_on core order whole settled));
      nulls = is.nulls_are;
    }
