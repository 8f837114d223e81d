-- A request that waits is taken up: it is a build that waits for its documents, or it is refused.
use Rattle.std.proofs.Common.{◌≡◌, ℕ, ℤ, List, [], ◌∷◌, map, false, All, Option, Some, None, refl, ap, sym, ◌∙◌, subst, true≢false}
use Rattle.std.specs.Prelude.{is_some}
use Rattle.std.proofs.lemmas.List.Elements.{All-head, All-nil, All-tail}
use Rattle.rpc_peer.specs.Said.{IsId}
use Rattle.session_core.proofs.Moving.{recalls_same}
use Rattle.session_verdicts.specs.Judging.{Fits, IsCleaningOf, IsPlanOf, IsRereadOf, queued_call}
use Rattle.session_core.specs.Moving.{IsOwedFirst, IsUnmarked, RunsOn, with_first}
use Rattle.session_verdicts.specs.Plans.{Plan}
use Rattle.session_core.specs.Standing.{Carries, GoesOn, HeadFits, Loses, MidOf, Moves, Recalls}
use Rattle.session_core.specs.State.{asked_of, plain_of, said_out, waiting_of}
use Rattle.session_core.specs.Reloading.{Cleans}
use Rattle.session_core.specs.Taking.{HasTaken, IsTakenUp, Plans, Rereads}
use Rattle.session_core.specs.declared.head.Head.{Head}
use Rattle.session_core.specs.declared.head.Phase.TheVariants as phases
use Rattle.session_core.specs.declared.session.Core.{Core}
use Rattle.session_verdicts.specs.declared.verdicts.Answer.TheVariants as answers
use Rattle.session_verdicts.specs.declared.verdicts.Queued.{Queued}
use Rattle.session_verdicts.specs.declared.verdicts.Reason.{Reason}
use Rattle.session_law.proofs.MidLaws.{mid_up}
use Rattle.session_law.specs.Lawful.{EachAllowed}
use Rattle.session_law.specs.Methods.{Call, Found, Verdict, all_found, unknown_at, found_build, found_clean, found_from, taken_in, to_build, to_reload, to_clean}
use Rattle.session_law.specs.Open.{First, IsOneDue, Mid, Open, Plain, none, owing}
use Rattle.session_law.specs.Order.{Event, onto}
use Rattle.session_law.specs.Past.{after}
use Rattle.session_law.specs.Requests.{Asked}
use Rattle.build_messages.specs.Outgoing.{outgoing_said}
use Rattle.build_messages.specs.declared.outgoing.Outgoing.{Outgoing}
use Rattle.session_queue.specs.declared.waiting.Waiting.{Waiting}
use Rattle.target_graph.specs.Workspace.{Space}

-- what is refused as it is taken up is a refusal
found_refused : (force : Option Space) (space : Space) (origin : Option (List ℕ)) (found : Found) (reason : Reason) → Fits (found_build space origin found) (answers.Refused reason)
    → IsOwedFirst force (found_build space origin found)
found_refused force space origin (all_found targets) reason fits = absurd fits
found_refused force space origin (unknown_at index) reason fits = tt

cleaned_refused : (force : Option Space) (space : Space) (found : Found) (reason : Reason) → Fits (found_clean space found) (answers.Refused reason) → IsOwedFirst force (found_clean space found)
cleaned_refused force space (all_found targets) reason fits = absurd fits
cleaned_refused force space (unknown_at index) reason fits = tt

pub taken_refused : (force : Option Space) (call : Call) (reason : Reason) → Fits (taken_in force call) (answers.Refused reason) → IsOwedFirst force (taken_in force call)
taken_refused None call reason fits = absurd fits
taken_refused (Some space) (to_build targets origin) reason fits = found_refused (Some space) space origin (found_from space 0 targets) reason fits
taken_refused (Some space) to_reload reason fits = absurd fits
taken_refused (Some space) (to_clean targets) reason fits = cleaned_refused (Some space) space (found_from space 0 targets) reason fits

-- nothing else is owed at once
one_due : (first : First) (last : List Asked) (nulls : List ℤ) → last ≡ [] → nulls ≡ [] → IsOneDue first last nulls
one_due first last nulls none_last none_null = subst (λ l. IsOneDue first l nulls) (sym none_last) (subst (λ ns. IsOneDue first [] ns) (sym none_null) tt)

-- the request comes to the head
comes : (core : Core) (waiting : Waiting Queued) (o : Open) (rest : List Asked) (order : List Event) → o.first ≡ none → o.waiting ≡ asked_of waiting ∷ rest → RunsOn o → MidOf core o order
    → MidOf core (record o { first = owing waiting.id waiting.number (taken_in core.workspace (queued_call waiting.call)); waiting = rest }) order
comes core waiting o rest order first waits runs mid =
    mid_up (plain_of core) (Recalls core) o (onto (said_out core) order) mid (asked_of waiting) rest first waits
    (All-head IsUnmarked (asked_of waiting) rest (subst (All IsUnmarked) waits runs.waiting))

pub takes_plan : (old new : Core) (waiting : Waiting Queued) (plan : Plan) → IsId waiting.id → IsPlanOf old.workspace (taken_in old.workspace (queued_call waiting.call)) plan
    → Plans old new waiting.id waiting.number plan → IsTakenUp old new waiting
takes_plan old new waiting plan named of plans o rest order first waits last nulls runs mid =
    let workspace : new.workspace ≡ old.workspace = ap (λ (core : Core). core.workspace) plans in
    let plain : plain_of new ≡ plain_of old = ap plain_of plans in
    let kept : new.kept ≡ old.kept = ap (λ (core : Core). core.kept) plans in
    let out : new.out.items ≡ old.out.items = ap (λ (core : Core). core.out.items) plans in
    let head : Head = record { id = waiting.id; number = waiting.number; cancelled = false; phase = phases.Planned plan } in
    let v : Verdict = taken_in old.workspace (queued_call waiting.call) in
    record {
      first = owing waiting.id waiting.number v;
      fits =
          subst (λ (h : Option Head). HeadFits new h (after (onto (said_out new) order)) (owing waiting.id waiting.number v)) (sym (ap (λ (core : Core). core.head) plans))
          (named, record { space = of.space; in_force = workspace ∙ of.in_force; within = of.within; is = ap (owing waiting.id waiting.number) of.is });
      mid =
          subst (λ (items : List Outgoing). Mid (plain_of new) (Recalls new) (record o { first = owing waiting.id waiting.number v; waiting = rest }) (onto (map outgoing_said items) order)) (sym out)
          (subst (λ (q : Plain). Mid q (Recalls new) (record o { first = owing waiting.id waiting.number v; waiting = rest }) (onto (said_out old) order)) (sym plain)
          (subst (λ R. Mid (plain_of old) R (record o { first = owing waiting.id waiting.number v; waiting = rest }) (onto (said_out old) order)) (recalls_same old new workspace kept)
          (comes old waiting o rest order first waits runs mid)));
    }

pub takes_reread : (old new : Core) (waiting : Waiting Queued) → IsId waiting.id → IsRereadOf old.workspace (taken_in old.workspace (queued_call waiting.call))
    → Rereads old new waiting.id waiting.number → IsTakenUp old new waiting
takes_reread old new waiting named of rereads o rest order first waits last nulls runs mid =
    let workspace : new.workspace ≡ old.workspace = ap (λ (core : Core). core.workspace) rereads in
    let plain : plain_of new ≡ plain_of old = ap plain_of rereads in
    let kept : new.kept ≡ old.kept = ap (λ (core : Core). core.kept) rereads in
    let out : new.out.items ≡ old.out.items = ap (λ (core : Core). core.out.items) rereads in
    let v : Verdict = taken_in old.workspace (queued_call waiting.call) in
    record {
      first = owing waiting.id waiting.number v;
      fits =
          subst (λ (h : Option Head). HeadFits new h (after (onto (said_out new) order)) (owing waiting.id waiting.number v)) (sym (ap (λ (core : Core). core.head) rereads))
          (named, record { space = of.space; in_force = workspace ∙ of.in_force; is = ap (owing waiting.id waiting.number) of.is });
      mid =
          subst (λ (items : List Outgoing). Mid (plain_of new) (Recalls new) (record o { first = owing waiting.id waiting.number v; waiting = rest }) (onto (map outgoing_said items) order)) (sym out)
          (subst (λ (q : Plain). Mid q (Recalls new) (record o { first = owing waiting.id waiting.number v; waiting = rest }) (onto (said_out old) order)) (sym plain)
          (subst (λ R. Mid (plain_of old) R (record o { first = owing waiting.id waiting.number v; waiting = rest }) (onto (said_out old) order)) (recalls_same old new workspace kept)
          (comes old waiting o rest order first waits runs mid)));
    }

-- a cleaning is answered as it is taken up
pub takes_cleaning : (old new : Core) (waiting : Waiting Queued) (targets : List ℕ) → IsCleaningOf old.workspace (taken_in old.workspace (queued_call waiting.call)) targets
    → Cleans old new waiting.id targets → new.head ≡ None → IsTakenUp old new waiting
takes_cleaning old new waiting targets of cleans gone o rest order first waits last nulls runs mid =
    let v : Verdict = taken_in old.workspace (queued_call waiting.call) in
    let up : Open = record o { first = owing waiting.id waiting.number v; waiting = rest } in
    record {
      first = none;
      fits = subst (λ (h : Option Head). HeadFits new h (after (onto (said_out new) order)) none) (sym gone) refl;
      mid = cleans up waiting.number of.space of.in_force (ap (owing waiting.id waiting.number) of.is)
          (record { one = one_due (owing waiting.id waiting.number v) o.last o.nulls last nulls; first = tt; waiting = All-tail IsUnmarked (asked_of waiting) rest (subst (All IsUnmarked) waits runs.waiting); last = runs.last })
          order (comes old waiting o rest order first waits runs mid);
    }

pub takes_refusal : (old new : Core) (waiting : Waiting Queued) (reason : Reason) → Fits (taken_in old.workspace (queued_call waiting.call)) (answers.Refused reason)
    → ((o : Open) (number : ℕ) (v : Verdict) → o.first ≡ owing waiting.id number v → RunsOn o → IsOwedFirst old.workspace v → Fits v (answers.Refused reason) → Moves old new o (record o { first = none }))
    → new.head ≡ None → IsTakenUp old new waiting
takes_refusal old new waiting reason fits answered gone o rest order first waits last nulls runs mid =
    let v : Verdict = taken_in old.workspace (queued_call waiting.call) in
    let up : Open = record o { first = owing waiting.id waiting.number v; waiting = rest } in
    record {
      first = none;
      fits = subst (λ (h : Option Head). HeadFits new h (after (onto (said_out new) order)) none) (sym gone) refl;
      mid = answered up waiting.number v refl
          (record { one = one_due (owing waiting.id waiting.number v) o.last o.nulls last nulls; first = tt; waiting = All-tail IsUnmarked (asked_of waiting) rest (subst (All IsUnmarked) waits runs.waiting); last = runs.last })
          (taken_refused old.workspace (queued_call waiting.call) reason fits) fits order (comes old waiting o rest order first waits runs mid);
    }

-- ---- one request after another

module _ (x y : Core) (waiting : Waiting Queued) (queue : List (Waiting Queued)) (was : x.queue ≡ waiting ∷ queue) (none_there : x.head ≡ None) (goes : GoesOn x)
    (same : y.queue ≡ queue) where
  waits_are : waiting_of x ≡ asked_of waiting ∷ map asked_of queue
  waits_are = ap (map asked_of) was

  pub carries_one : IsTakenUp (record x { queue = queue }) y waiting → Carries x y
  carries_one taken order whole =
      let nothing : whole.first ≡ none = subst (λ (h : Option Head). HeadFits x h (after (onto (said_out x) order)) whole.first) none_there whole.fits in
      let o : Open = with_first x none [] [] in
      let mid : MidOf x o order = subst (λ f. MidOf x (with_first x f [] []) order) nothing whole.mid in
      let runs : RunsOn o = record { one = tt; first = tt; waiting = goes.waiting; last = All-nil IsUnmarked } in
      let has : HasTaken y o (map asked_of queue) order = taken o (map asked_of queue) order refl waits_are refl refl runs mid in
      record {
        first = has.first;
        fits = has.fits;
        mid = subst (λ (q : List (Waiting Queued)). MidOf y (record o { first = has.first; waiting = map asked_of q }) order) (sym same) has.mid;
      }

  pub unmarked_rest : All IsUnmarked (waiting_of y)
  unmarked_rest =
      subst (λ (q : List (Waiting Queued)). All IsUnmarked (map asked_of q)) (sym same)
      (All-tail IsUnmarked (asked_of waiting) (map asked_of queue) (subst (All IsUnmarked) waits_are goes.waiting))

  pub loses_one : y.out.items ≡ x.out.items → Loses x y
  loses_one out order whole = subst (λ (items : List Outgoing). EachAllowed (onto (map outgoing_said items) order)) (sym out) whole.mid.each

pub carries_on : (a b c : Core) → Carries a b → Carries b c → Carries a c
carries_on a b c one two order whole = two order (one order whole)

pub loses_on : (a b c : Core) → Carries a b → Loses b c → Loses a c
loses_on a b c one two order whole = two order (one order whole)

pub head_none : (head : Option Head) → is_some head ≡ false → head ≡ None
head_none None is = refl
head_none (Some head) is = absurd (true≢false is)
