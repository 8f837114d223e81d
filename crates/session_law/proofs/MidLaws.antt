-- Steps of a session, one response, hand or run of notifications after another: what was so in the middle of one is so behind.
use Rattle.std.proofs.Common.{◌≡◌, ◌++◌, ◌||◌, ℕ, ℤ, suc, List, [], ◌∷◌, Bool, true, false, All, Option, Some, None, refl, ap, sym, ◌∙◌, subst}
use Rattle.std.specs.Prelude.{IfSome}
use Rattle.std.specs.List.{list_any}
use Rattle.bsp_records.specs.Results.{compile_result_data}
use Rattle.bsp_records.specs.Table.{Table}
use Rattle.bsp_records.specs.declared.results.StatusCode.TheVariants as statuses
use Rattle.ob_text.specs.Held.{Entries}
use Rattle.rpc_peer.specs.declared.message.Id.{Id}
use Rattle.rpc_peer.specs.Said.{Said, result, failure}
use Rattle.serde_json.specs.Data.{Data, null}
use Rattle.target_graph.specs.Workspace.{Space}
use Rattle.session_law.proofs.MoveLaws.{answered_null, answers_first, answers_last, answers_null, builds_first, builds_last, builds_waiting, cancelled_waiting, cancels_waiting, failure_first, failure_last, granted_first, last_granted, nothing_granted, owes, refuses_first, refuses_last, result_first, result_last}
use Rattle.session_law.proofs.OpenLaws.{GoOn, GoesOn, comes_first, comes_up, waits_behind}
use Rattle.session_law.proofs.RequestLaws.{IsUnmarked}
use Rattle.session_law.proofs.TakeLaws.{HasStarted, MayAsk, WaitsBehind, all_marks, caught_up, handed_owing, handed_working, marked_head, may_hand, took_end}
use Rattle.session_law.proofs.WorkLaws.{answered, build_answers, build_cancelled, build_cancels, build_tells, builds_answered, first_so, granted_answered, build_answer}
use Rattle.session_law.proofs.WriteLaws.{is_built, is_telling, untelling}
use Rattle.session_law.proofs.WrittenLaws.{IsNotice, PublishesOf, StartsAnew, noticed}
use Rattle.session_law.specs.Builds.{Shows, build_said, build_status, cancelled_said, has_error, table_behind}
use Rattle.session_law.specs.Cancelling.{IsCancelledBy}
use Rattle.session_law.specs.CancelsForCause.{call_cancelled, refused_cancelled}
use Rattle.session_law.specs.Course.{AreGiven, Given, HasEnded, Tells}
use Rattle.session_law.specs.History.{Told}
use Rattle.session_law.specs.IsFramed.{IsFramed}
use Rattle.session_law.specs.Lawful.{AreHeld, EachAllowed, WriteAllowed}
use Rattle.session_law.specs.Methods.{Build, Call, Verdict, queued, building, due_in, null_message, to_build, to_reload, to_clean}
use Rattle.session_law.specs.Open.{IsOpen, IsUp, Mid, Open, Plain, none, owing, working, asking_for, plain_now}
use Rattle.session_law.specs.Order.{Event, ends, hand, onto, take, write}
use Rattle.session_law.specs.Past.{Now, after, by_event, cleaned_by, closes, end_status, exit_status, force_by, nulls_for_end}
use Rattle.session_law.specs.RefusesExactly.{IsGranted, IsRefused}
use Rattle.session_law.specs.Requests.{Asked, Wants, handed_over, marked_where}
use Rattle.session_law.specs.ShowsOldOrNew.{ShowsEither}
use Rattle.session_law.specs.AnswersAtOnce.{IsCaughtUp}
use Rattle.session_law.specs.declared.InputEnd.{InputEnd}
use Rattle.rpc_peer.specs.Meaning.{meaning}

or_false : (b : Bool) → (b || false) ≡ b
or_false true = refl
or_false false = refl

or_true : (b : Bool) → (b || true) ≡ true
or_true true = refl
or_true false = refl

module _ (p : Plain) (R : List Told → Type 0) (o : Open) (order : List Event) (mid : Mid p R o order) where
  abbrev now : Now
  now = after order

  force_is : now.force ≡ p.force
  force_is = ap (λ (q : Plain). q.force) mid.plain_is

  -- ---- taken up

  pub mid_up : (asked : Asked) (rest : List Asked) → o.first ≡ none → o.waiting ≡ asked ∷ rest → asked.cancelled ≡ false
      → Mid p R (record o { first = owing asked.id asked.number (due_in p.force asked.verdict); waiting = rest }) order
  mid_up asked rest first waiting goes =
      record {
        each = mid.each;
        plain_is = mid.plain_is;
        open_is =
            subst (λ f. IsOpen (record o { first = owing asked.id asked.number (due_in f asked.verdict); waiting = rest }) now) force_is
            (comes_up o now asked rest mid.open_is first waiting goes);
        builds_are = mid.builds_are;
      }

  pub mid_first : (id : Id) (number : ℕ) (v : Verdict) → o.first ≡ none → o.waiting ≡ [] → o.last ≡ asking_for id number v ∷ []
      → Mid p R (record o { first = owing id number (due_in p.force v); last = [] }) order
  mid_first id number v first waiting last =
      record {
        each = mid.each;
        plain_is = mid.plain_is;
        open_is =
            subst (λ f. IsOpen (record o { first = owing id number (due_in f v); last = [] }) now) force_is
            (comes_first o now id number v mid.open_is first waiting last);
        builds_are = mid.builds_are;
      }

  pub mid_behind : (id : Id) (number : ℕ) (call : Call) → o.last ≡ asking_for id number (queued call) ∷ []
      → Mid p R (record o { waiting = o.waiting ++ asking_for id number (queued call) ∷ []; last = [] }) order
  mid_behind id number call last =
      record { each = mid.each; plain_is = mid.plain_is; open_is = waits_behind o now id number call mid.open_is last; builds_are = mid.builds_are }

  -- ---- the request that was taken last is answered

  module _ (id : Id) (number : ℕ) (v : Verdict) (last : o.last ≡ asking_for id number v ∷ []) (go : GoOn o) (at_once : due_in p.force v ≡ v) (other : is_telling v ≡ false) where
    once_now : due_in now.force v ≡ v
    once_now = ap (λ f. due_in f v) force_is ∙ at_once

    pub mid_last_refused : (code : ℤ) (text : List ℕ) → IsRefused (Some v) code text → IsFramed (failure (Some id) code text)
        → Mid p R (record o { last = [] }) (write (failure (Some id) code text) ∷ order)
    mid_last_refused code text refused framed =
        record {
          each = (refuses_last o now mid.open_is id number v last go once_now other code text refused framed, mid.each);
          plain_is = (λ i. record (plain_now now) { closed = or_false now.closed i }) ∙ mid.plain_is;
          open_is = failure_last o now mid.open_is id number v last code text;
          builds_are = mid.builds_are;
        }

    -- a result that grants no workspace and cleans nothing
    pub mid_last_answered : (value : Data) → IsGranted (Some v) value → IsFramed (result (Some id) value) → (closed : Bool) → force_by (Some v) p.force ≡ p.force
        → ((builds : List Told) → cleaned_by (Some v) builds ≡ builds)
        → (p.closed || closes (Some v)) ≡ closed → Mid (record p { closed = closed }) R (record o { last = [] }) (write (result (Some id) value) ∷ order)
    mid_last_answered value granted framed closed force cleans closes_so =
        let whole = last_granted o now mid.open_is id number v last value once_now in
        let same : force_by (Some v) now.force ≡ now.force = subst (λ f. force_by (Some v) f ≡ f) (sym force_is) force in
        record {
          each = (answers_last o now mid.open_is id number v last go once_now other value granted framed, mid.each);
          plain_is =
              (λ i. record (plain_now now) { force = force_by (whole i) now.force; closed = now.closed || closes (whole i) })
              ∙ ((λ i. record (plain_now now) { force = same i; closed = now.closed || closes (Some v) })
              ∙ ((λ i. record (mid.plain_is i) { closed = (mid.plain_is i).closed || closes (Some v) })
              ∙ (λ i. record p { closed = closes_so i })));
          open_is = result_last o now mid.open_is id number v last value once_now other same (cleans now.builds);
          builds_are = subst R (sym (builds_last o now mid.open_is id number v last value once_now other (cleans now.builds))) mid.builds_are;
        }

  -- ---- a code is answered with the id null

  pub mid_null : (code : ℤ) (later : List ℤ) → GoOn o → o.nulls ≡ code ∷ later → IsFramed (failure None code (null_message code))
      → Mid p R (record o { nulls = later }) (write (failure None code (null_message code)) ∷ order)
  mid_null code later go nulls framed =
      record {
        each = (answers_null o now mid.open_is code later go nulls framed, mid.each);
        plain_is = (λ i. record (plain_now now) { closed = or_false now.closed i }) ∙ mid.plain_is;
        open_is = answered_null o now mid.open_is code later nulls;
        builds_are = mid.builds_are;
      }

  -- ---- the request at the head is answered

  module _ (id : Id) (number : ℕ) (v : Verdict) (first : o.first ≡ owing id number v) (go : GoOn o) where
    pub mid_first_refused : (code : ℤ) (text : List ℕ) → IsRefused (Some v) code text → IsFramed (failure (Some id) code text)
        → Mid p R (record o { first = none }) (write (failure (Some id) code text) ∷ order)
    mid_first_refused code text refused framed =
        record {
          each = (refuses_first o now mid.open_is id number v first go code text refused framed, mid.each);
          plain_is = (λ i. record (plain_now now) { closed = or_false now.closed i }) ∙ mid.plain_is;
          open_is = failure_first o now mid.open_is id number v first code text;
          builds_are = mid.builds_are;
        }

    -- what it is owed is granted, and takes effect
    pub mid_granted : (value : Data) → WriteAllowed now (result (Some id) value) → is_built v ≡ false → closes (Some v) ≡ false
        → (Q : List Told → Type 0) → (R now.builds → Q (cleaned_by (Some v) now.builds))
        → Mid (record p { force = force_by (Some v) p.force }) Q (record o { first = none }) (write (result (Some id) value) ∷ order)
    mid_granted value allowed other runs_on Q remembers =
        let whole = granted_first o now mid.open_is id number v first value in
        record {
          each = (allowed, mid.each);
          plain_is =
              (λ i. record (plain_now now) { force = force_by (whole i) now.force; closed = now.closed || closes (whole i) })
              ∙ ((λ i. record (plain_now now) { force = force_by (Some v) now.force; closed = now.closed || runs_on i })
              ∙ ((λ i. record (plain_now now) { force = force_by (Some v) now.force; closed = or_false now.closed i })
              ∙ (λ i. record (mid.plain_is i) { force = force_by (Some v) (mid.plain_is i).force })));
          open_is = result_first o now mid.open_is id number v first value;
          builds_are = subst Q (sym (builds_first o now mid.open_is id number v first other value)) (remembers mid.builds_are);
        }

    -- where it tells nothing before
    pub mid_first_answered : (value : Data) → is_telling v ≡ false → IsGranted (Some v) value → IsFramed (result (Some id) value) → closes (Some v) ≡ false
        → (Q : List Told → Type 0) → (R now.builds → Q (cleaned_by (Some v) now.builds))
        → Mid (record p { force = force_by (Some v) p.force }) Q (record o { first = none }) (write (result (Some id) value) ∷ order)
    mid_first_answered value other granted framed runs_on Q remembers =
        mid_granted value (answers_first o now mid.open_is id number v first go value other granted framed) (untelling v other) runs_on Q remembers

  -- ---- a request that waits is cancelled

  cancelled_plain : (ws rest : List Asked) (asked : Asked) → o.waiting ≡ ws ++ asked ∷ rest → (call : Call) → asked.verdict ≡ queued call
      → plain_now (by_event (write (call_cancelled asked.id call)) now) ≡ plain_now now
  unfolding cancelled_said refused_cancelled
  cancelled_plain ws rest asked waits (to_build targets origin) call_is =
      let nothing = nothing_granted o now mid.open_is ws rest asked waits targets origin call_is (compile_result_data (record { origin_id = origin; status_code = statuses.Cancelled })) in
      (λ i. record (plain_now now) { force = nothing.force now.force i; closed = now.closed || nothing.closed i })
      ∙ (λ i. record (plain_now now) { closed = or_false now.closed i })
  cancelled_plain ws rest asked waits to_reload call_is = (λ i. record (plain_now now) { closed = or_false now.closed i })
  cancelled_plain ws rest asked waits (to_clean targets) call_is = (λ i. record (plain_now now) { closed = or_false now.closed i })

  cancelled_builds : (ws rest : List Asked) (asked : Asked) → o.waiting ≡ ws ++ asked ∷ rest → (call : Call) → asked.verdict ≡ queued call
      → (by_event (write (call_cancelled asked.id call)) now).builds ≡ now.builds
  unfolding cancelled_said refused_cancelled
  cancelled_builds ws rest asked waits (to_build targets origin) call_is =
      builds_waiting o now mid.open_is ws rest asked waits targets origin call_is (compile_result_data (record { origin_id = origin; status_code = statuses.Cancelled }))
  cancelled_builds ws rest asked waits to_reload call_is = refl
  cancelled_builds ws rest asked waits (to_clean targets) call_is = refl

  pub mid_cancelled : (ws rest : List Asked) (asked : Asked) → o.waiting ≡ ws ++ asked ∷ rest → (call : Call) → asked.verdict ≡ queued call
      → GoesOn o.first → All IsUnmarked ws → asked.cancelled ≡ true → IsFramed (call_cancelled asked.id call)
      → Mid p R (record o { waiting = ws ++ rest }) (write (call_cancelled asked.id call) ∷ order)
  mid_cancelled ws rest asked waits call call_is goes before mark framed =
      record {
        each = (cancels_waiting o now mid.open_is ws rest asked waits goes before mark call call_is framed, mid.each);
        plain_is = cancelled_plain ws rest asked waits call call_is ∙ mid.plain_is;
        open_is = cancelled_waiting o now mid.open_is ws rest asked waits call call_is;
        builds_are = subst R (sym (cancelled_builds ws rest asked waits call call_is)) mid.builds_are;
      }

  -- ---- the active build

  answered_plain : (g : Given) (marked : Bool) → o.first ≡ working g marked → (value : Data) → plain_now (by_event (write (result (Some g.active.id) value)) now) ≡ p
  answered_plain g marked first value =
      let granted = granted_answered o now mid.open_is g marked first value in
      (λ i. record (plain_now now) { force = force_by (granted i) now.force; closed = now.closed || closes (granted i) })
      ∙ ((λ i. record (plain_now now) { closed = or_false now.closed i }) ∙ mid.plain_is)

  -- it tells these messages behind those that it told
  pub mid_tells : (g : Given) → o.first ≡ working g false → o.last ≡ [] → o.nulls ≡ [] → GoOn o → (told own : List Said) → now.notices ≡ told → StartsAnew own → Tells g (told ++ own) → PublishesOf g (told ++ own)
      → All IsFramed own → All IsNotice own → Mid (record p { table = table_behind own p.table }) R o (onto own order)
  mid_tells g first last nulls go told own since starts tells publishes framed notices =
      let wrote = build_tells o order mid.open_is g first last nulls go mid.each told own since starts tells publishes framed notices in
      record {
        each = wrote.each;
        plain_is = ap plain_now wrote.now_is ∙ (λ i. record (mid.plain_is i) { table = table_behind own (mid.plain_is i).table });
        open_is = wrote.is;
        builds_are = subst (λ (n : Now). R n.builds) (sym wrote.now_is) mid.builds_are;
      }

  -- it is answered once it told all
  pub mid_answers : (g : Given) → o.first ≡ working g false → o.last ≡ [] → o.nulls ≡ [] → GoOn o → (ended : HasEnded g now.notices) → All (Shows p.table) ended.findings
      → IsFramed (build_answer g.active.id g.active.build ended.findings)
      → (Q : List Told → Type 0) → (R now.builds → Q (record { active = g.active; notices = now.notices; cleaned = [] } ∷ now.builds))
      → Mid p Q (record o { first = none }) (write (build_answer g.active.id g.active.build ended.findings) ∷ order)
  unfolding build_said
  mid_answers g first last nulls go ended shows framed Q remembers =
      let value = compile_result_data (record { origin_id = g.active.build.origin; status_code = build_status (list_any has_error ended.findings) }) in
      let table_is : now.table ≡ p.table = ap (λ (q : Plain). q.table) mid.plain_is in
      record {
        each = (build_answers o now mid.open_is g first last nulls go ended (subst (λ t. All (Shows t) ended.findings) (sym table_is) shows) framed, mid.each);
        plain_is = answered_plain g false first value;
        open_is = answered o now mid.open_is g false first value;
        builds_are = subst Q (sym (builds_answered o now mid.open_is g false first value)) (remembers mid.builds_are);
      }

  -- it is cancelled by these messages
  pub mid_cancels : (g : Given) → o.first ≡ working g true → (told cancels : List Said) → now.notices ≡ told → IsCancelledBy g told cancels → All IsFramed cancels → All IsNotice cancels
      → Mid (record p { table = table_behind cancels p.table }) R o (onto cancels order)
  mid_cancels g first told cancels since by framed notices =
      let wrote = build_cancels o order mid.open_is g first mid.each told cancels since by framed notices in
      record {
        each = wrote.each;
        plain_is = ap plain_now wrote.now_is ∙ (λ i. record (mid.plain_is i) { table = table_behind cancels (mid.plain_is i).table });
        open_is = wrote.is;
        builds_are = subst (λ (n : Now). R n.builds) (sym wrote.now_is) mid.builds_are;
      }

  -- and answered
  pub mid_answers_cancelled : (g : Given) → o.first ≡ working g true → (told cancels : List Said) → now.notices ≡ told ++ cancels → IsCancelledBy g told cancels
      → ShowsEither g.active g.table p.table → IsFramed (cancelled_said g.active.id g.active.build.origin)
      → (Q : List Told → Type 0) → (R now.builds → Q (record { active = g.active; notices = now.notices; cleaned = [] } ∷ now.builds))
      → Mid p Q (record o { first = none }) (write (cancelled_said g.active.id g.active.build.origin) ∷ order)
  unfolding cancelled_said
  mid_answers_cancelled g first told cancels since by shows framed Q remembers =
      let value = compile_result_data (record { origin_id = g.active.build.origin; status_code = statuses.Cancelled }) in
      let table_is : now.table ≡ p.table = ap (λ (q : Plain). q.table) mid.plain_is in
      let hand_is : g.table ≡ now.table_at_hand = (first_so o now mid.open_is g true first).1.table_is in
      record {
        each = (
          build_cancelled o now mid.open_is g first told cancels since by
              (subst (λ t. ShowsEither g.active t now.table) hand_is (subst (λ t. ShowsEither g.active g.table t) (sym table_is) shows)) framed,
          mid.each,
        );
        plain_is = answered_plain g true first value;
        open_is = answered o now mid.open_is g true first value;
        builds_are = subst Q (sym (builds_answered o now mid.open_is g true first value)) (remembers mid.builds_are);
      }

  -- ---- the tree answers

  module _ (id : Id) (number : ℕ) (v : Verdict) (first : o.first ≡ owing id number v) (last : o.last ≡ []) (nulls : o.nulls ≡ []) (handed : Option Entries) (paths : List (List ℕ)) (wants : Wants v paths) (held : IfSome handed (AreHeld paths)) where
    pub mid_handed : MayAsk v → Mid p R (record o { first = owing id number (handed_over handed v) }) (hand handed ∷ order)
    mid_handed asks =
        record {
          each = (may_hand o now mid.open_is id number v first last nulls handed paths wants held, mid.each);
          plain_is = mid.plain_is;
          open_is = handed_owing o now mid.open_is id number v first handed asks;
          builds_are = mid.builds_are;
        }

    pub mid_works : (build : Build) (entries : Entries) → handed ≡ Some entries → (g : Given) → v ≡ building build → AreGiven g
        → g.active ≡ record { id = id; number = number; build = build; entries = entries } → g.earlier ≡ now.builds → g.table ≡ p.table
        → Mid p R (record o { first = working g false }) (hand handed ∷ order)
    mid_works build entries handed_is g asks given active earlier table =
        let table_is : now.table ≡ p.table = ap (λ (q : Plain). q.table) mid.plain_is in
        record {
          each = (may_hand o now mid.open_is id number v first last nulls handed paths wants held, mid.each);
          plain_is = mid.plain_is;
          open_is =
              subst (λ h. IsOpen (record o { first = working g false }) (by_event (hand h) now)) (sym handed_is)
              (handed_working o now mid.open_is id number v first build entries g asks given active earlier (table ∙ sym table_is));
          builds_are = mid.builds_are;
        }

  -- ---- a body is taken, and the input ends

  -- nothing is owed at once
  pub record Rests : Type 0 where
    pub up : IsUp o.first
    pub go : GoOn o
    pub last : o.last ≡ []
    pub nulls : o.nulls ≡ []
    pub started : HasStarted o.first now
    pub behind : WaitsBehind o.first o.waiting
    pub goes_on : p.status ≡ None

  module _ (rests : Rests) where
    caught : IsCaughtUp now
    caught = caught_up o now mid.open_is rests.up rests.go rests.last rests.nulls rests.started rests.behind

    running : now.status ≡ None
    running = ap (λ (q : Plain). q.status) mid.plain_is ∙ rests.goes_on

    pub take_allowed : (body : List ℕ) → EachAllowed (take body ∷ order)
    take_allowed body = (record { answered = caught; goes_on = running }, mid.each)

    pub mid_took : (body : List ℕ) (o' : Open) → IsOpen o' (by_event (take body) now)
        → Mid (record p { taken = suc p.taken; status = exit_status (meaning body) p.closed }) R o' (take body ∷ order)
    mid_took body o' is =
        record {
          each = (record { answered = caught; goes_on = running }, mid.each);
          plain_is = (λ i. record (mid.plain_is i) { taken = suc (mid.plain_is i).taken; status = exit_status (meaning body) (mid.plain_is i).closed });
          open_is = is;
          builds_are = mid.builds_are;
        }

    pub mid_ended : (how : InputEnd)
        → Mid (record p { status = Some (end_status how) }) R
        (record { first = marked_head all_marks o.first; waiting = marked_where all_marks o.waiting; last = []; nulls = nulls_for_end how }) (ends how ∷ order)
    mid_ended how =
        record {
          each = (record { answered = caught; goes_on = running }, mid.each);
          plain_is = (λ i. record (mid.plain_is i) { status = Some (end_status how) });
          open_is = took_end o now mid.open_is rests.up rests.last rests.nulls how;
          builds_are = mid.builds_are;
        }
