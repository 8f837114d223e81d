-- A request is taken: its id is open, or it gets what it is owed at once, or it waits.
use Rattle.std.proofs.Common.{◌≡◌, ◌++◌, ◌||◌, ℕ, ℤ, suc, List, [], ◌∷◌, map, Bool, true, false, cond, Option, Some, None, Result, Ok, Err, refl, ap, sym, ◌∙◌, subst, true≢false, append-nil}
use Rattle.std.specs.Prelude.{is_some}
use Rattle.std.proofs.Math.Bool.{or-false}
use Rattle.std.proofs.lemmas.List.Elements.{All-cons, All-nil}
use Rattle.rpc_peer.specs.Meaning.{invalid_request, meaning}
use Rattle.rpc_peer.specs.OpenIds.{same_id}
use Rattle.rpc_peer.specs.Said.{Said, failure, request, result, said}
use Rattle.rpc_peer.specs.declared.message.ErrorObject.{ErrorObject}
use Rattle.rpc_peer.specs.declared.message.Message.TheVariants as messages
use Rattle.serde_json.specs.View.{view}
use Rattle.serde_json.specs.declared.value.Value.{Value}
use Rattle.rpc_peer.specs.declared.message.Id.{Id}
use Rattle.serde_json.specs.Data.{Data}
use Rattle.session_core.proofs.Ready.{fits, mid, null_whole, open_now, IsReady}
use Rattle.session_core.proofs.Settling.{fits_on, runs_first, up_first}
use Rattle.session_core.proofs.Taken.{counted, taken_each, whole_again, whole_failure, whole_nothing, whole_request, whole_result}
use Rattle.session_core.specs.Acting.{ActsOn, ActsOnInVain, LosesAs, ServesAs, WaitsAsLast, WaitsInVain, is_head, is_open_in}
use Rattle.session_verdicts.specs.Judging.{Fits, answer_unread, closes}
use Rattle.session_core.specs.Marking.{marked, marked_head}
use Rattle.session_core.specs.Moving.{IsAtOnce, IsUnmarked, KeepsNotices, RunsOn, with_first}
use Rattle.session_core.specs.Settled.{HasBegun, IsSettled}
use Rattle.session_core.specs.Standing.{GoesOn, HeadFits, IsQuiet, IsUpHead, IsUpPhase, Moves, PhaseFits, Whole}
use Rattle.session_core.specs.State.{asked_of, rest_of, said_out}
use Rattle.session_core.proofs.Resting.{goes_on}
use Rattle.session_core.specs.declared.head.Head.{Head}
use Rattle.session_core.specs.declared.head.Phase.{Phase}
use Rattle.session_core.specs.declared.head.Phase.TheVariants as phases
use Rattle.session_core.specs.declared.session.Core.{Core}
use Rattle.session_verdicts.specs.declared.verdicts.Answer.{Answer}
use Rattle.session_verdicts.specs.declared.verdicts.Answer.TheVariants as answers
use Rattle.session_verdicts.specs.declared.verdicts.Queued.{Queued}
use Rattle.build_messages.specs.Outgoing.{outgoing_said}
use Rattle.build_messages.specs.declared.outgoing.Outgoing.{Outgoing}
use Rattle.session_law.specs.IsFramed.{IsFramed}
use Rattle.session_law.specs.Lawful.{EachAllowed}
use Rattle.bsp_records.specs.Requests.{method_named, request_in}
use Rattle.bsp_records.specs.declared.requests.Method.{Method}
use Rattle.bsp_records.specs.declared.requests.Method.TheVariants as methods
use Rattle.bsp_records.specs.declared.requests.Request.{Request}
use Rattle.bsp_records.specs.declared.requests.Request.TheVariants as requests
use Rattle.target_graph.specs.Address.{root_at}
use Rattle.session_law.specs.Methods.{Found, Verdict, all_found, answering, asked_in, asking, building, built, cleaning, closing, found_from, is_initialize, known_in, opening, queued, reloading, rereading, read_in, refusal, rooted, served_in, sourced, too_late, unknown_at, verdict, verdict_for}
use Rattle.session_law.specs.Open.{Open, asking_for, none, working_on}
use Rattle.session_law.specs.Order.{Event, onto, take}
use Rattle.session_law.specs.Past.{Now, after, exit_status}
use Rattle.session_law.specs.Requests.{Asked, is_closing, is_open, owed_to}
use Rattle.session_queue.specs.Waiting as queues
use Rattle.session_queue.specs.declared.waiting.Waiting.{Waiting}
use Rattle.target_graph.specs.Workspace.{Space}

-- what is settled and needs no tree is ready for an event
pub ready : (core : Core) → IsSettled (rest_of core) → IsUpHead core.head → core.status ≡ None → IsQuiet core → IsReady core
ready core settled up running quiet = record { up = up; goes_on = goes_on core settled.sound; behind = settled.behind; running = running; quiet = quiet }

-- ---- the requests that are open are the head and those that wait

waits_open : (id : Id) (queue : List (Waiting Queued)) → is_open id (map asked_of queue) ≡ queues.is_open id queue
waits_open id [] = refl
waits_open id (waiting ∷ queue) = by (same_id id waiting.id) (waits_open id queue)
  where
    by : (b : Bool) → is_open id (map asked_of queue) ≡ queues.is_open id queue → is_some (cond b (Some (asked_of waiting).verdict) (owed_to id (map asked_of queue))) ≡ (b || queues.is_open id queue)
    by true others = refl
    by false others = others

head_open : (id : Id) (asked : Asked) (waiting : List Asked) → is_open id (asked ∷ waiting) ≡ (same_id id asked.id || is_open id waiting)
head_open id asked waiting = by (same_id id asked.id)
  where
    by : (b : Bool) → is_some (cond b (Some asked.verdict) (owed_to id waiting)) ≡ (b || is_open id waiting)
    by true = refl
    by false = refl

module _ (core : Core) (order : List Event) (rests : IsReady core) (whole : Whole core [] [] order) where
  abbrev now : Now
  now = after order

  abbrev o : Open
  o = open_now core order rests whole

  waits_are : o.waiting ++ o.last ≡ map asked_of core.queue
  waits_are = append-nil (map asked_of core.queue)

  abbrev is : Rattle.session_law.specs.Open.IsOpen o now
  is = (mid core order rests whole).open_is

  pub open_is : (id : Id) → is_open id now.requests ≡ is_open_in id core
  open_is id = ap (is_open id) (is.requests_are ∙ ap (λ ws. is.head ++ ws) waits_are) ∙ by core.head rests.up (fits core order rests whole)
    where
      of_phase : (head : Head) (phase : Phase) → IsUpPhase phase → PhaseFits core head phase now whole.first → is_open id (is.head ++ map asked_of core.queue) ≡ (same_id id head.id || queues.is_open id core.queue)
      of_phase head (phases.Opening root) up it = absurd up
      of_phase head phases.Rereading up it = absurd up
      of_phase head (phases.Planned plan) up it = absurd up
      of_phase head (phases.Built b origin) up it =
          let first : is.head ≡ working_on it.given head.cancelled ∷ [] = (subst (λ f. Rattle.session_law.specs.Open.IsFirst f now is.head) it.is is.first_is).0 in
          ap (λ rs. is_open id (rs ++ map asked_of core.queue)) first
          ∙ (head_open id (working_on it.given head.cancelled) (map asked_of core.queue)
          ∙ ((λ i. same_id id (it.id_is i) || is_open id (map asked_of core.queue)) ∙ ap (λ b. same_id id head.id || b) (waits_open id core.queue)))

      by : (head : Option Head) → IsUpHead head → HeadFits core head now whole.first → is_open id (is.head ++ map asked_of core.queue) ≡ (is_head id head || queues.is_open id core.queue)
      by None up it =
          let first : is.head ≡ [] = subst (λ f. Rattle.session_law.specs.Open.IsFirst f now is.head) it is.first_is in
          ap (λ rs. is_open id (rs ++ map asked_of core.queue)) first ∙ waits_open id core.queue
      by (Some head) up it = of_phase head head.phase up it.1

-- ---- none is marked

pub no_mark : (core : Core) → marked (λ other. false) core ≡ core
no_mark core = λ i. record core { head = of_head core.head i; queue = of_queue core.queue i }
  where
    of_head : (head : Option Head) → marked_head (λ other. false) head ≡ head
    of_head None = refl
    of_head (Some head) = λ i. Some (record head { cancelled = or-false head.cancelled i })

    of_queue : (queue : List (Waiting Queued)) → queues.marked_where (λ waiting. false) queue ≡ queue
    of_queue [] = refl
    of_queue (waiting ∷ queue) = λ i. record waiting { cancelled = or-false waiting.cancelled i } ∷ of_queue queue i

pub serves_unclosing : (old new : Core) (id : Id) (number : ℕ) (v : Verdict) → is_closing v ≡ false → WaitsAsLast old new id number v → ServesAs old new id number v
serves_unclosing old new id number v other waits order whole =
    waits order (subst (λ core. Whole core (asking_for id number v ∷ []) [] order) (ap (λ b. marked (λ id. b) old) other ∙ no_mark old) whole)

pub loses_unclosing : (old new : Core) (id : Id) (number : ℕ) (v : Verdict) → is_closing v ≡ false → WaitsInVain old new id number v → LosesAs old new id number v
loses_unclosing old new id number v other waits order whole =
    waits order (subst (λ core. Whole core (asking_for id number v ∷ []) [] order) (ap (λ b. marked (λ id. b) old) other ∙ no_mark old) whole)

pub fits_closes : (v : Verdict) (answer : Answer) → Fits v answer → is_closing v ≡ closes answer
fits_closes (answering space question) (answers.Result value) it = refl
fits_closes closing answers.Closing it = refl
fits_closes (opening root file) (answers.Opening space) it = refl
fits_closes (opening root file) (answers.Refused reason) it = refl
fits_closes (reloading space file) (answers.Refused reason) it = refl
fits_closes (refusal code text) (answers.Refused reason) it = refl
fits_closes (answering space question) (answers.Opening space') it = absurd it
fits_closes (answering space question) answers.Closing it = absurd it
fits_closes (answering space question) (answers.Refused reason) it = absurd it
fits_closes closing (answers.Result value) it = absurd it
fits_closes closing (answers.Opening space) it = absurd it
fits_closes closing (answers.Refused reason) it = absurd it
fits_closes (opening root file) (answers.Result value) it = absurd it
fits_closes (opening root file) answers.Closing it = absurd it
fits_closes (refusal code text) (answers.Result value) it = absurd it
fits_closes (refusal code text) (answers.Opening space) it = absurd it
fits_closes (refusal code text) answers.Closing it = absurd it
fits_closes (asking root) answer it = absurd it
fits_closes (queued call) answer it = absurd it
fits_closes (building build) answer it = absurd it
fits_closes (built build entries) answer it = absurd it
fits_closes (reloading space file) (answers.Result value) it = absurd it
fits_closes (reloading space file) (answers.Opening next) it = absurd it
fits_closes (reloading space file) answers.Closing it = absurd it
fits_closes (rereading space) answer it = absurd it
fits_closes (cleaning space targets) answer it = absurd it

pub or_no : (a b : Bool) → (a || b) ≡ false → b ≡ false
or_no true b is = absurd (true≢false is)
or_no false b is = is

-- ---- what a request is owed at its take: at once, for the workspace file, or in the queue

abbrev IsTaken : Verdict → Type 0
IsTaken (answering space question) = Unit {0}
IsTaken closing = Unit {0}
IsTaken (refusal code text) = Unit {0}
IsTaken (asking root) = Unit {0}
IsTaken (queued call) = Unit {0}
IsTaken (opening root file) = ⊥
IsTaken (building build) = ⊥
IsTaken (built build entries) = ⊥
IsTaken (rereading space) = ⊥
IsTaken (reloading space file) = ⊥
IsTaken (cleaning space targets) = ⊥

taken_if : (b : Bool) (x y : Verdict) → IsTaken x → IsTaken y → IsTaken (cond b x y)
taken_if true x y one other = one
taken_if false x y one other = other

taken_root : (root : Option (List ℕ)) → IsTaken (rooted root)
taken_root None = tt
taken_root (Some root) = tt

taken_sources : (space : Space) (found : Found) → IsTaken (sourced space found)
taken_sources space (all_found targets) = tt
taken_sources space (unknown_at index) = tt

taken_asked : (force : Option Space) (asks : Request) → IsTaken (asked_in force asks)
taken_asked None (requests.Initialize p) = taken_root (root_at p.root_uri)
taken_asked None requests.Shutdown = tt
taken_asked None requests.BuildTargets = tt
taken_asked None requests.Reload = tt
taken_asked None (requests.Sources p) = tt
taken_asked None (requests.InverseSources p) = tt
taken_asked None (requests.Compile p) = tt
taken_asked None (requests.CleanCache p) = tt
taken_asked (Some space) (requests.Initialize p) = tt
taken_asked (Some space) requests.Shutdown = tt
taken_asked (Some space) requests.BuildTargets = tt
taken_asked (Some space) requests.Reload = tt
taken_asked (Some space) (requests.Sources p) = taken_sources space (found_from space 0 p.targets)
taken_asked (Some space) (requests.InverseSources p) = tt
taken_asked (Some space) (requests.Compile p) = tt
taken_asked (Some space) (requests.CleanCache p) = tt

taken_read : (force : Option Space) (read : Result Request (List ℕ)) → IsTaken (read_in force read)
taken_read force (Err path) = tt
taken_read force (Ok asks) = taken_asked force asks

taken_known : (space : Space) (method : Option Method) (params : Option Data) → IsTaken (known_in space method params)
taken_known space None params = tt
taken_known space (Some method) params = taken_read (Some space) (request_in method params)

taken_served : (force : Option Space) (method : Option Method) (params : Option Data) (closed : Bool) → IsTaken (served_in force method params closed)
taken_served None method params closed = tt
taken_served (Some space) method params closed = taken_if closed too_late (known_in space method params) tt (taken_known space method params)

taken_verdict : (method : Option Method) (params : Option Data) (force : Option Space) (closed : Bool) → IsTaken (verdict_for method params force closed)
taken_verdict method params force closed =
    taken_if (is_initialize method) (cond (is_some force) too_late (read_in None (request_in methods.Initialize params))) (served_in force method params closed)
    (taken_if (is_some force) too_late (read_in None (request_in methods.Initialize params)) tt (taken_read None (request_in methods.Initialize params)))
    (taken_served force method params closed)

taken_once : (v : Verdict) (answer : Answer) → IsTaken v → Fits v answer → IsAtOnce v
taken_once (answering space question) answer taken fit = tt
taken_once closing answer taken fit = tt
taken_once (refusal code text) answer taken fit = tt
taken_once (asking root) answer taken fit = absurd fit
taken_once (queued call) answer taken fit = absurd fit
taken_once (opening root file) answer taken fit = absurd taken
taken_once (building build) answer taken fit = absurd taken
taken_once (built build entries) answer taken fit = absurd taken
taken_once (rereading space) answer taken fit = absurd taken
taken_once (reloading space file) answer taken fit = absurd taken
taken_once (cleaning space targets) answer taken fit = absurd taken

-- what has an answer is owed it at once
pub at_once : (name : List ℕ) (params : Option Data) (force : Option Space) (closed : Bool) (answer : Answer) → Fits (verdict name params force closed) answer → IsAtOnce (verdict name params force closed)
at_once name params force closed answer fit = taken_once (verdict name params force closed) answer (taken_verdict (method_named name) params force closed) fit

pub is_shutdown : (v : Verdict) (answer : Answer) → Fits v answer → closes answer ≡ true → v ≡ closing
is_shutdown v answer fit so = by v (fits_closes v answer fit ∙ so)
  where
    by : (v : Verdict) → is_closing v ≡ true → v ≡ closing
    by closing so = refl
    by (answering space question) so = absurd (true≢false (sym so))
    by (refusal code text) so = absurd (true≢false (sym so))
    by (asking root) so = absurd (true≢false (sym so))
    by (opening root file) so = absurd (true≢false (sym so))
    by (queued call) so = absurd (true≢false (sym so))
    by (building build) so = absurd (true≢false (sym so))
    by (built build entries) so = absurd (true≢false (sym so))
    by (rereading space) so = absurd (true≢false (sym so))
    by (reloading space file) so = absurd (true≢false (sym so))
    by (cleaning space targets) so = absurd (true≢false (sym so))

-- where nothing is written nothing is lost
pub lost_behind : (old new : Core) → new.out.items ≡ old.out.items → (nulls : List ℤ) (last : List Asked) (order : List Event) → Whole old last nulls order → EachAllowed (onto (said_out new) order)
lost_behind old new same nulls last order whole =
    subst (λ (items : List Outgoing). EachAllowed (onto (map outgoing_said items) order)) (sym same) whole.mid.each

-- ---- the request that was taken last is answered

module _ (old new : Core) (same : new ≡ record old { out = new.out; closed = new.closed }) (notices : KeepsNotices old new) (up : IsUpHead old.head) (goes : GoesOn old) (id : Id) (number : ℕ) (v : Verdict)
    (moves : (o : Open) → o.last ≡ asking_for id number v ∷ [] → RunsOn o → IsAtOnce v → Moves old new o (record o { last = [] })) where
  pub answered_whole : IsAtOnce v → (order : List Event) → Whole old (asking_for id number v ∷ []) [] order → Whole new [] [] order
  answered_whole at_once order whole =
      let before : Now = after (onto (said_out old) order) in
      let past : Now = after (onto (said_out new) order) in
      let o : Open = with_first old whole.first (asking_for id number v ∷ []) [] in
      let runs : RunsOn o = record {
        one = up_first old old.head before whole.first up whole.fits;
        first = runs_first old old.head before whole.first up goes.head whole.fits;
        waiting = goes.waiting;
        last = All-cons IsUnmarked (asking_for id number v) [] refl (All-nil IsUnmarked);
      } in
      record {
        first = whole.first;
        fits =
            subst (λ (h : Option Head). HeadFits new h past whole.first) (sym (ap (λ (core : Core). core.head) same))
            (fits_on old new old.head before past whole.first (ap (λ (core : Core). core.workspace) same) (ap (λ (core : Core). core.kept) same) (ap (λ (core : Core). core.shown) same) (notices order) whole.fits);
        mid =
            subst (λ (q : List (Waiting Queued)). Rattle.session_core.specs.Standing.MidOf new (record { first = whole.first; waiting = map asked_of q; last = []; nulls = [] }) order)
            (sym (ap (λ (core : Core). core.queue) same)) (moves o refl runs at_once order whole.mid);
      }

-- an answer that closes no session
module _ (old new : Core) (same : new ≡ record old { out = new.out; closed = new.closed }) (notices : KeepsNotices old new) (up : IsUpHead old.head) (goes : GoesOn old) (id : Id) (answer : Answer)
    (other : closes answer ≡ false) where
  pub serves_answered : ((o : Open) (number : ℕ) (v : Verdict) → o.last ≡ asking_for id number v ∷ [] → RunsOn o → IsAtOnce v → Fits v answer → Moves old new o (record o { last = [] }))
      → (number : ℕ) (v : Verdict) → IsAtOnce v → Fits v answer → ServesAs old new id number v
  serves_answered answers number v at_once fit =
      serves_unclosing old new id number v (fits_closes v answer fit ∙ other)
      (answered_whole old new same notices up goes id number v (λ o last runs once. answers o number v last runs once fit) at_once)

pub loses_answered : (old new : Core) (id : Id) (answer : Answer) → closes answer ≡ false → new.out.items ≡ old.out.items
    → (number : ℕ) (v : Verdict) → IsAtOnce v → Fits v answer → LosesAs old new id number v
loses_answered old new id answer other same number v at_once fit =
    loses_unclosing old new id number v (fits_closes v answer fit ∙ other) (λ order whole. lost_behind old new same [] (asking_for id number v ∷ []) order whole)

-- ---- by what a body means

module _ (old : Core) (rests : IsReady old) (number : ℕ) (is : number ≡ suc old.taken) where
  abbrev pub numbered : Core
  numbered = record old { taken = number }

  pub counted_is : (body : List ℕ) (meant : Result Said ℤ) → meaning body ≡ meant → exit_status meant old.closed ≡ None → counted body old ≡ numbered
  counted_is body meant means runs =
      λ i. record old { taken = sym is i; status = (ap (λ m. exit_status m old.closed) means ∙ runs ∙ sym rests.running) i }

  pub serves_again : (new : Core) (id : Id) (method : List ℕ) (params : Option Data) → is_open_in id old ≡ true
      → said_out new ≡ said_out numbered ++ answer_unread invalid_request ∷ [] → new ≡ record numbered { out = new.out } → IsFramed (answer_unread invalid_request) → KeepsNotices numbered new
      → ActsOn old new (Ok (request id method params))
  serves_again new id method params there said same framed notices body means order whole =
      null_whole numbered new invalid_request said same framed notices rests.up (record { head = rests.goes_on.head; waiting = rests.goes_on.waiting }) [] (take body ∷ order)
      (subst (λ core. Whole core [] (invalid_request ∷ []) (take body ∷ order)) (counted_is body _ means refl)
      (whole_again old order rests whole body id method params means (open_is old order rests whole id ∙ there)))

  -- a body that is no message
  pub refuses : (new : Core) (code : ℤ) → said_out new ≡ said_out numbered ++ answer_unread code ∷ [] → new ≡ record numbered { out = new.out } → IsFramed (answer_unread code) → KeepsNotices numbered new
      → ActsOn old new (Err code)
  refuses new code said same framed notices body means order whole =
      null_whole numbered new code said same framed notices rests.up (record { head = rests.goes_on.head; waiting = rests.goes_on.waiting }) [] (take body ∷ order)
      (subst (λ core. Whole core [] (code ∷ []) (take body ∷ order)) (counted_is body _ means refl) (whole_nothing old order rests whole body code means))

  -- a response
  pub heard_result : (id : Option Id) (value : Data) → ActsOn old numbered (Ok (result id value))
  heard_result id value body means order whole =
      subst (λ core. Whole core [] [] (take body ∷ order)) (counted_is body _ means refl) (whole_result old order rests whole body id value means)

  pub heard_failure : (id : Option Id) (code : ℤ) (text : List ℕ) → ActsOn old numbered (Ok (failure id code text))
  heard_failure id code text body means order whole =
      subst (λ core. Whole core [] [] (take body ∷ order)) (counted_is body _ means refl) (whole_failure old order rests whole body id code text means)

  pub heard : (id : Option Id) (answer : Result Value ErrorObject) → ActsOn old numbered (Ok (said (messages.Response id answer)))
  heard id (Ok value) = heard_result id (view value)
  heard id (Err fault) = heard_failure id fault.code fault.message

  module _ (new : Core) (id : Id) (method : List ℕ) (params : Option Data) (away : is_open_in id old ≡ false) (v : Verdict) (judged : verdict method params old.workspace old.closed ≡ v) where
    asked_whole : (body : List ℕ) → meaning body ≡ Ok (request id method params) → (order : List Event) → Whole old [] [] order
        → Whole (marked (λ other. is_closing v) numbered) (asking_for id number v ∷ []) [] (take body ∷ order)
    asked_whole body means order whole =
        subst (λ n. Whole (marked (λ other. is_closing v) numbered) (asking_for id n v ∷ []) [] (take body ∷ order)) (sym is)
        (subst (λ core. Whole (marked (λ other. is_closing v) core) (asking_for id (suc old.taken) v ∷ []) [] (take body ∷ order)) (counted_is body _ means refl)
        (whole_request old order rests whole body id method params means (open_is old order rests whole id ∙ away) v judged))

    pub serves : ServesAs numbered new id number v → ActsOn old new (Ok (request id method params))
    serves does body means order whole = does (take body ∷ order) (asked_whole body means order whole)

    pub loses : LosesAs numbered new id number v → ActsOnInVain old new (Ok (request id method params))
    loses does body means order whole = does (take body ∷ order) (asked_whole body means order whole)

  -- where nothing is written nothing is lost
  pub lost_numbered : (new : Core) (meant : Result Said ℤ) → new.out.items ≡ old.out.items → ActsOnInVain old new meant
  lost_numbered new meant same body means order whole =
      subst (λ (items : List Outgoing). EachAllowed (onto (map outgoing_said items) (take body ∷ order))) (sym same)
      (taken_each old order rests whole body)

-- ---- an initialize comes where nothing is open

pub nobody_first : (force : Option Space) (head : Option Head) (queue : List (Waiting Queued)) → HasBegun force head queue → force ≡ None → IsUpHead head → (head ≡ None) × (queue ≡ [])
nobody_first (Some space) head queue begun none_there up = absurd (cc)
nobody_first None None queue begun none_there up = (refl, begun.1)
nobody_first None (Some head) queue begun none_there up = absurd (by head.phase begun.0 up)
  where
    by : (phase : Phase) → Rattle.session_core.specs.Settled.IsOpeningPhase phase → IsUpPhase phase → ⊥
    by (phases.Opening root) first up = up
    by phases.Rereading first up = first
    by (phases.Planned plan) first up = first
    by (phases.Built b origin) first up = first
