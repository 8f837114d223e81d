-- A core writes one message: what was so in the middle of a step is so behind it.
use Rattle.std.proofs.Common.{◌≡◌, ◌++◌, ◌||◌, ℕ, ℤ, List, [], ◌∷◌, Bool, true, false, All, Some, None, refl, ap, sym, ◌∙◌, subst, append-nil}
use Rattle.rpc_peer.specs.declared.message.Id.{Id}
use Rattle.rpc_peer.specs.Said.{Said, IsId, result}
use Rattle.serde_json.specs.Data.{null}
use Rattle.serde_json.specs.View.{view}
use Rattle.ob_text.specs.declared.held.Held.{Held}
use Rattle.session_build.specs.Remembering.{Remembers}
use Rattle.session_build.specs.declared.kept.Kept.{Kept}
use Rattle.session_verdicts.proofs.Framing.{answer_to, framed_answer, framed_cancelled, framed_refused_cancelled}
use Rattle.session_build.proofs.RememberLaws.{remembers_none}
use Rattle.session_verdicts.specs.Judging.{Fits, HasQueuedTexts, IsSaid, answer_unread, queued_call, reason_code, reason_text}
use Rattle.session_core.specs.Moving.{BesideHead, HeadRunsOn, IsAtOnce, IsOwedFirst, IsUnmarked, RunsOn}
use Rattle.session_core.specs.Standing.{Moves, Recalls, RemembersIn}
use Rattle.session_core.specs.State.{plain_of, said_out}
use Rattle.session_core.specs.declared.session.Core.{Core}
use Rattle.session_verdicts.specs.declared.verdicts.Answer.{Answer}
use Rattle.session_verdicts.specs.declared.verdicts.Answer.TheVariants as answers
use Rattle.session_verdicts.specs.declared.verdicts.Queued.{Queued}
use Rattle.session_verdicts.specs.declared.verdicts.Queued.TheVariants as calls
use Rattle.session_law.proofs.MidLaws.{mid_cancelled, mid_first_answered, mid_first_refused, mid_last_answered, mid_last_refused, mid_null}
use Rattle.session_law.proofs.OpenLaws.{GoOn}
use Rattle.session_law.specs.Builds.{cancelled_said}
use Rattle.session_law.specs.CancelsForCause.{call_cancelled, refused_cancelled}
use Rattle.session_law.specs.History.{Told}
use Rattle.session_law.specs.IsFramed.{IsFramed}
use Rattle.session_law.specs.Methods.{Call, Verdict, asking, opening, queued, building, built, rereading, reloading, cleaning, answering, closing, refusal, initialize_result, to_build, to_reload, to_clean}
use Rattle.session_law.specs.Open.{First, Mid, Open, Plain, none, owing, working, asking_for}
use Rattle.session_law.specs.Order.{Event, onto, write}
use Rattle.session_law.specs.Past.{after, notice_in}
use Rattle.session_law.specs.Reloading.{space_in}
use Rattle.session_law.specs.Requests.{Asked}
use Rattle.target_graph.specs.Faults.{Accepted, file_targets}
use Rattle.target_graph.specs.Workspace.{Space}
use Rattle.task_stream.specs.Showing.{shows}

pub onto-push : (messages : List Said) (m : Said) (order : List Event) → onto (messages ++ m ∷ []) order ≡ write m ∷ onto messages order
onto-push [] m order = refl
onto-push (first ∷ messages) m order = onto-push messages m (write first ∷ order)

-- one message more
pub wrote_one : (p q : Plain) (R Q : List Told → Type 0) (o o' : Open) (before after : List Said) (m : Said) → after ≡ before ++ m ∷ []
    → ((order : List Event) → Mid p R o order → Mid q Q o' (write m ∷ order)) → (order : List Event) → Mid p R o (onto before order) → Mid q Q o' (onto after order)
wrote_one p q R Q o o' before after m is step order mid =
    subst (Mid q Q o') (sym (ap (λ ms. onto ms order) is ∙ onto-push before m order)) (step (onto before order) mid)

-- a response is no notification
pub notices_said : (before after_it : List Said) (m : Said) → notice_in m ≡ [] → after_it ≡ before ++ m ∷ [] → (order : List Event)
    → (after (onto after_it order)).notices ≡ (after (onto before order)).notices
notices_said before after_it m silent is order =
    ap (λ past. (after past).notices) (ap (λ ms. onto ms order) is ∙ onto-push before m order)
    ∙ (ap (λ n. (after (onto before order)).notices ++ n) silent ∙ append-nil (after (onto before order)).notices)

goes_first : (first : First) → HeadRunsOn first → Rattle.session_law.proofs.OpenLaws.GoesOn first
goes_first none goes = tt
goes_first (owing id number v) goes = tt
goes_first (working g marked) goes = goes

pub goes : (o : Open) → RunsOn o → GoOn o
goes o runs = record { one = runs.one; first = goes_first o.first runs.first; waiting = runs.waiting; last = runs.last }

same_or : (b : Bool) → (b || false) ≡ b
same_or true = refl
same_or false = refl

true_or : (b : Bool) → (b || true) ≡ true
true_or true = refl
true_or false = refl

-- ---- the request that was taken last

-- what the session is once a request was given this answer
abbrev pub plain_with : Plain → Answer → Plain
plain_with p (answers.Result value) = p
plain_with p (answers.Opening space) = record p { force = Some space }
plain_with p answers.Closing = record p { closed = true }
plain_with p (answers.Refused reason) = p

pub last_answered : (p : Plain) (R : List Told → Type 0) (o : Open) (id : Id) (number : ℕ) (v : Verdict) (answer : Answer) → IsId id → IsSaid answer
    → o.last ≡ asking_for id number v ∷ [] → RunsOn o → IsAtOnce v → Fits v answer → (order : List Event) → Mid p R o order
    → Mid (plain_with p answer) R (record o { last = [] }) (write (answer_to id answer) ∷ order)
last_answered p R o id number (answering space question) (answers.Result value) named short last runs at_once fits order mid =
    subst (λ c. Mid (record p { closed = c }) R (record o { last = [] }) (write (result (Some id) (view value)) ∷ order)) (same_or p.closed)
    (mid_last_answered p R o order mid id number (answering space question) last (goes o runs) refl refl (view value) fits (framed_answer id (answers.Result value) named short) (p.closed || false) refl (λ builds. refl) refl)
last_answered p R o id number closing answers.Closing named short last runs at_once fits order mid =
    mid_last_answered p R o order mid id number closing last (goes o runs) refl refl null refl (framed_answer id answers.Closing named short) true refl (λ builds. refl) (true_or p.closed)
last_answered p R o id number (refusal code text) (answers.Refused reason) named short last runs at_once fits order mid =
    mid_last_refused p R o order mid id number (refusal code text) last (goes o runs) refl refl (reason_code reason) (reason_text reason) fits (framed_answer id (answers.Refused reason) named short)
last_answered p R o id number (answering space question) (answers.Opening space') named short last runs at_once fits order mid = absurd fits
last_answered p R o id number (answering space question) answers.Closing named short last runs at_once fits order mid = absurd fits
last_answered p R o id number (answering space question) (answers.Refused reason) named short last runs at_once fits order mid = absurd fits
last_answered p R o id number closing (answers.Result value) named short last runs at_once fits order mid = absurd fits
last_answered p R o id number closing (answers.Opening space) named short last runs at_once fits order mid = absurd fits
last_answered p R o id number closing (answers.Refused reason) named short last runs at_once fits order mid = absurd fits
last_answered p R o id number (refusal code text) (answers.Result value) named short last runs at_once fits order mid = absurd fits
last_answered p R o id number (refusal code text) (answers.Opening space) named short last runs at_once fits order mid = absurd fits
last_answered p R o id number (refusal code text) answers.Closing named short last runs at_once fits order mid = absurd fits
last_answered p R o id number (asking root) answer named short last runs at_once fits order mid = absurd at_once
last_answered p R o id number (opening root file) answer named short last runs at_once fits order mid = absurd at_once
last_answered p R o id number (queued call) answer named short last runs at_once fits order mid = absurd at_once
last_answered p R o id number (building build) answer named short last runs at_once fits order mid = absurd at_once
last_answered p R o id number (built build entries) answer named short last runs at_once fits order mid = absurd at_once
last_answered p R o id number (rereading space) answer named short last runs at_once fits order mid = absurd at_once
last_answered p R o id number (reloading space file) answer named short last runs at_once fits order mid = absurd at_once
last_answered p R o id number (cleaning space targets) answer named short last runs at_once fits order mid = absurd at_once

-- ---- the request at the head

-- the workspace that was accepted is the one that the file describes
pub space_is : (root : List ℕ) (file : Held) (space : Space) → Accepted file root space → Some (space_in root file) ≡ Some space
space_is root file space accepted =
    ap (λ r. Some (record { root = r; targets = file_targets file })) (sym accepted.at_root) ∙ ap (λ ts. Some (record { root = space.root; targets = ts })) (sym accepted.all_targets)

pub first_opened : (p : Plain) (R Q : List Told → Type 0) (o : Open) (id : Id) (number : ℕ) (root : List ℕ) (file : Held) (space : Space) → IsId id
    → o.first ≡ owing id number (opening root file) → RunsOn o → Accepted file root space → ((builds : List Told) → R builds → Q builds) → (order : List Event) → Mid p R o order
    → Mid (record p { force = Some space }) Q (record o { first = none }) (write (result (Some id) initialize_result) ∷ order)
first_opened p R Q o id number root file space named first runs accepted remembers order mid =
    subst (λ f. Mid (record p { force = f }) Q (record o { first = none }) (write (result (Some id) initialize_result) ∷ order)) (space_is root file space accepted)
    (mid_first_answered p R o order mid id number (opening root file) first (goes o runs) initialize_result refl (record { space = space; accepted = accepted }, refl)
    (framed_answer id (answers.Opening space) named tt) refl Q (λ before. remembers _ before))

-- as a session opens no build was answered, and no check is kept
opens : (space : Space) (kept : Kept) (builds : List Told) → RemembersIn None kept builds → RemembersIn (Some space) kept builds
opens space kept builds nothing = subst (λ bs. Remembers space bs kept) (sym nothing.0) (remembers_none space kept nothing.1)

pub first_answered : (p : Plain) (kept : Kept) (o : Open) (id : Id) (number : ℕ) (v : Verdict) (answer : Answer) → IsId id → IsSaid answer
    → o.first ≡ owing id number v → RunsOn o → IsOwedFirst p.force v → Fits v answer → (order : List Event) → Mid p (RemembersIn p.force kept) o order
    → Mid (plain_with p answer) (RemembersIn (plain_with p answer).force kept) (record o { first = none }) (write (answer_to id answer) ∷ order)
first_answered p kept o id number (opening root file) (answers.Opening space) named short first runs owed fits order mid =
    first_opened p (RemembersIn p.force kept) (RemembersIn (Some space) kept) o id number root file space named first runs fits
    (λ builds nothing. opens space kept builds (subst (λ f. RemembersIn f kept builds) owed nothing)) order mid
first_answered p kept o id number (opening root file) (answers.Refused reason) named short first runs owed fits order mid =
    mid_first_refused p (RemembersIn p.force kept) o order mid id number (opening root file) first (goes o runs) (reason_code reason) (reason_text reason) fits
    (framed_answer id (answers.Refused reason) named short)
first_answered p kept o id number (refusal code text) (answers.Refused reason) named short first runs owed fits order mid =
    mid_first_refused p (RemembersIn p.force kept) o order mid id number (refusal code text) first (goes o runs) (reason_code reason) (reason_text reason) fits
    (framed_answer id (answers.Refused reason) named short)
first_answered p kept o id number (reloading space file) (answers.Refused reason) named short first runs owed fits order mid =
    mid_first_refused p (RemembersIn p.force kept) o order mid id number (reloading space file) first (goes o runs) (reason_code reason) (reason_text reason) fits
    (framed_answer id (answers.Refused reason) named short)
first_answered p kept o id number (reloading space file) (answers.Result value) named short first runs owed fits order mid = absurd fits
first_answered p kept o id number (reloading space file) (answers.Opening next) named short first runs owed fits order mid = absurd fits
first_answered p kept o id number (reloading space file) answers.Closing named short first runs owed fits order mid = absurd fits
first_answered p kept o id number (rereading space) answer named short first runs owed fits order mid = absurd owed
first_answered p kept o id number (cleaning space targets) answer named short first runs owed fits order mid = absurd owed
first_answered p kept o id number (opening root file) (answers.Result value) named short first runs owed fits order mid = absurd fits
first_answered p kept o id number (opening root file) answers.Closing named short first runs owed fits order mid = absurd fits
first_answered p kept o id number (refusal code text) (answers.Result value) named short first runs owed fits order mid = absurd fits
first_answered p kept o id number (refusal code text) (answers.Opening space) named short first runs owed fits order mid = absurd fits
first_answered p kept o id number (refusal code text) answers.Closing named short first runs owed fits order mid = absurd fits
first_answered p kept o id number (answering space question) answer named short first runs owed fits order mid = absurd owed
first_answered p kept o id number closing answer named short first runs owed fits order mid = absurd owed
first_answered p kept o id number (asking root) answer named short first runs owed fits order mid = absurd owed
first_answered p kept o id number (queued call) answer named short first runs owed fits order mid = absurd owed
first_answered p kept o id number (building build) answer named short first runs owed fits order mid = absurd owed
first_answered p kept o id number (built build entries) answer named short first runs owed fits order mid = absurd owed

-- ---- in the words of a core

-- what is kept is of the same builds
pub recalls_same : (old new : Core) → new.workspace ≡ old.workspace → new.kept ≡ old.kept → Recalls old ≡ Recalls new
recalls_same old new workspace kept = λ i builds. RemembersIn (sym workspace i) (sym kept i) builds

module _ (old new : Core) (id : Id) (answer given : Answer) (is : answer ≡ given) (m : Said) (m_is : m ≡ answer_to id given) (said : said_out new ≡ said_out old ++ m ∷ [])
    (plain : plain_of new ≡ plain_with (plain_of old) given) (named : IsId id) (short : IsSaid answer) where
  said_so : said_out new ≡ said_out old ++ answer_to id given ∷ []
  said_so = said ∙ ap (λ x. said_out old ++ x ∷ []) m_is

  pub says_last : new.workspace ≡ old.workspace → new.kept ≡ old.kept → (o : Open) (number : ℕ) (v : Verdict) → o.last ≡ asking_for id number v ∷ [] → RunsOn o
      → IsAtOnce v → Fits v answer → Moves old new o (record o { last = [] })
  says_last workspace kept o number v last runs at_once fits order mid =
      subst (λ (q : Plain). Mid q (Recalls new) (record o { last = [] }) (onto (said_out new) order)) (sym plain)
      (subst (λ R. Mid (plain_with (plain_of old) given) R (record o { last = [] }) (onto (said_out new) order)) (recalls_same old new workspace kept)
      (wrote_one (plain_of old) (plain_with (plain_of old) given) (Recalls old) (Recalls old) o (record o { last = [] }) (said_out old) (said_out new) (answer_to id given) said_so
      (last_answered (plain_of old) (Recalls old) o id number v given named (subst IsSaid is short) last runs at_once (subst (Fits v) is fits)) order mid))

  pub says_first : new.kept ≡ old.kept → (o : Open) (number : ℕ) (v : Verdict) → o.first ≡ owing id number v → RunsOn o
      → IsOwedFirst old.workspace v → Fits v answer → Moves old new o (record o { first = none })
  says_first kept o number v first runs owed fits order mid =
      subst (λ (q : Plain). Mid q (Recalls new) (record o { first = none }) (onto (said_out new) order)) (sym plain)
      (subst (λ (k : Kept). Mid (plain_with (plain_of old) given) (λ builds. RemembersIn new.workspace k builds) (record o { first = none }) (onto (said_out new) order)) (sym kept)
      (subst (λ f. Mid (plain_with (plain_of old) given) (λ builds. RemembersIn f old.kept builds) (record o { first = none }) (onto (said_out new) order)) (sym (ap (λ (q : Plain). q.force) plain))
      (wrote_one (plain_of old) (plain_with (plain_of old) given) (Recalls old) (λ builds. RemembersIn (plain_with (plain_of old) given).force old.kept builds) o (record o { first = none })
      (said_out old) (said_out new) (answer_to id given) said_so
      (first_answered (plain_of old) old.kept o id number v given named (subst IsSaid is short) first runs owed (subst (Fits v) is fits)) order mid)))

-- ---- a code that is owed with the id null

pub says_null : (old new : Core) (code : ℤ) → said_out new ≡ said_out old ++ answer_unread code ∷ [] → new ≡ record old { out = new.out } → IsFramed (answer_unread code)
    → (o : Open) (later : List ℤ) → o.nulls ≡ code ∷ later → RunsOn o → Moves old new o (record o { nulls = later })
says_null old new code said same framed o later nulls runs order mid =
    subst (λ (core : Core). Mid (plain_of core) (Recalls core) (record o { nulls = later }) (onto (said_out new) order)) (sym same)
    (wrote_one (plain_of old) (plain_of old) (Recalls old) (Recalls old) o (record o { nulls = later }) (said_out old) (said_out new) (answer_unread code) said
    (λ past before. mid_null (plain_of old) (Recalls old) o past before code later (goes o runs) nulls framed) order mid)

-- ---- a request that waits is cancelled

pub call_silent : (id : Id) (call : Call) → notice_in (call_cancelled id call) ≡ []
unfolding cancelled_said refused_cancelled
call_silent id (to_build targets origin) = refl
call_silent id to_reload = refl
call_silent id (to_clean targets) = refl

-- its answer fits a frame
pub framed_call : (id : Id) (call : Queued) → IsId id → HasQueuedTexts call → IsFramed (call_cancelled id (queued_call call))
framed_call id (calls.Build params) named texts = framed_cancelled id params.origin_id named texts.origin_id
framed_call id calls.Reload named texts = framed_refused_cancelled id named
framed_call id (calls.Clean params) named texts = framed_refused_cancelled id named

pub says_cancelled : (old new : Core) (asked : Asked) (call : Call) → asked.verdict ≡ queued call
    → said_out new ≡ said_out old ++ call_cancelled asked.id call ∷ [] → new ≡ record old { out = new.out } → IsFramed (call_cancelled asked.id call)
    → (o : Open) (ws rest : List Asked) → o.waiting ≡ ws ++ asked ∷ rest → HeadRunsOn o.first → All IsUnmarked ws → asked.cancelled ≡ true
    → Moves old new o (record o { waiting = ws ++ rest })
says_cancelled old new asked call waits_for said same framed o ws rest waits goes_on before mark order mid =
    subst (λ (core : Core). Mid (plain_of core) (Recalls core) (record o { waiting = ws ++ rest }) (onto (said_out new) order)) (sym same)
    (wrote_one (plain_of old) (plain_of old) (Recalls old) (Recalls old) o (record o { waiting = ws ++ rest }) (said_out old) (said_out new) (call_cancelled asked.id call) said
    (λ past now. mid_cancelled (plain_of old) (Recalls old) o past now ws rest asked waits call waits_for (goes_first o.first goes_on) before mark framed) order mid)

-- ---- what a session is beside what is open

pub plain_same : (old new : Core) → BesideHead old new → new.shown ≡ old.shown → plain_of new ≡ plain_of old
plain_same old new beside shown =
    (λ i. record { force = beside.workspace i; closed = beside.closed i; table = shows (shown i); taken = beside.taken i; status = beside.status i })
