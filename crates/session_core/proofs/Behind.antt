-- The request that was taken last waits: behind the others, or at the head for the workspace file.
use Rattle.std.proofs.Common.{◌≡◌, ◌++◌, ℕ, List, [], ◌∷◌, map, false, All, Option, Some, None, refl, ap, sym, ◌∙◌, subst}
use Rattle.std.proofs.lemmas.List.{map-append}
use Rattle.std.proofs.lemmas.List.Elements.{All-append, All-cons, All-nil}
use Rattle.rpc_peer.specs.Said.{IsId}
use Rattle.rpc_peer.specs.declared.message.Id.{Id}
use Rattle.session_verdicts.specs.Judging.{HasQueuedTexts, queued_call}
use Rattle.session_core.specs.Moving.{HasWaitingTexts, IsUnmarked}
use Rattle.session_core.specs.Standing.{HeadFits, Recalls, Whole}
use Rattle.session_core.specs.State.{asked_of, plain_of, said_out, waiting_of}
use Rattle.session_core.specs.declared.head.Head.{Head}
use Rattle.session_core.specs.declared.head.Phase.TheVariants as phases
use Rattle.session_core.specs.declared.session.Core.{Core}
use Rattle.session_verdicts.specs.declared.verdicts.Queued.{Queued}
use Rattle.session_law.proofs.MidLaws.{mid_behind, mid_first}
use Rattle.session_law.specs.Methods.{asking, queued}
use Rattle.session_law.specs.Open.{Mid, asking_for, none, owing}
use Rattle.session_law.specs.Order.{Event, onto}
use Rattle.session_law.specs.Past.{after}
use Rattle.session_queue.specs.declared.waiting.Waiting.{Waiting}

module _ (old : Core) (id : Id) (number : ℕ) (call : Queued) where
  abbrev waits : Waiting Queued
  waits = record { id = id; number = number; call = call; cancelled = false }

  abbrev longer : Core
  longer = record old { queue = old.queue ++ waits ∷ [] }

  waiting_is : waiting_of longer ≡ waiting_of old ++ asking_for id number (queued (queued_call call)) ∷ []
  waiting_is = map-append asked_of old.queue (waits ∷ [])

  whole_longer : (order : List Event) → Whole old (asking_for id number (queued (queued_call call)) ∷ []) [] order → Whole longer [] [] order
  whole_longer order whole =
      record {
        first = whole.first;
        fits = fits_same old.head whole.fits;
        mid =
            subst (λ w. Mid (plain_of longer) (Recalls longer) (record { first = whole.first; waiting = w; last = []; nulls = [] }) (onto (said_out longer) order)) (sym waiting_is)
            (mid_behind (plain_of old) (Recalls old) (record { first = whole.first; waiting = waiting_of old; last = asking_for id number (queued (queued_call call)) ∷ []; nulls = [] })
            (onto (said_out old) order) whole.mid id number (queued_call call) refl);
      }
    where
      fits_same : (head : Option Head) → HeadFits old head (after (onto (said_out old) order)) whole.first → HeadFits longer head (after (onto (said_out old) order)) whole.first
      fits_same None fits = fits
      fits_same (Some head) fits = (fits.0, by head.phase fits.1)
        where
          by : (phase : Rattle.session_core.specs.declared.head.Phase.Phase) → Rattle.session_core.specs.Standing.PhaseFits old head phase (after (onto (said_out old) order)) whole.first
              → Rattle.session_core.specs.Standing.PhaseFits longer head phase (after (onto (said_out old) order)) whole.first
          by (phases.Opening root) it = it
          by phases.Rereading it = it
          by (phases.Planned plan) it = it
          by (phases.Built b origin) it =
              record { given = it.given; id_is = it.id_is; space_is = it.space_is; origin_is = it.origin_is; is = it.is; at_work = it.at_work }

  pub whole_behind : (new : Core) → new ≡ record old { queue = new.queue } → new.queue ≡ old.queue ++ waits ∷ []
      → (order : List Event) → Whole old (asking_for id number (queued (queued_call call)) ∷ []) [] order → Whole new [] [] order
  whole_behind new same queue order whole =
      let is : new ≡ longer = same ∙ (λ i. record old { queue = queue i }) in
      subst (λ (core : Core). Whole core [] [] order) (sym is) (whole_longer order whole)

  pub texts_behind : (queue : List (Waiting Queued)) → queue ≡ old.queue ++ waits ∷ [] → IsId id → HasQueuedTexts call → All HasWaitingTexts old.queue → All HasWaitingTexts queue
  texts_behind queue is named texts all =
      subst (All HasWaitingTexts) (sym is)
      (All-append HasWaitingTexts old.queue (waits ∷ []) all (All-cons HasWaitingTexts waits [] (record { named = named; texts = texts }) (All-nil HasWaitingTexts)))

  pub goes_behind : (queue : List (Waiting Queued)) → queue ≡ old.queue ++ waits ∷ [] → All IsUnmarked (waiting_of old) → All IsUnmarked (map asked_of queue)
  goes_behind queue is all =
      subst (λ (q : List (Waiting Queued)). All IsUnmarked (map asked_of q)) (sym is)
      (subst (All IsUnmarked) (sym waiting_is)
      (All-append IsUnmarked (waiting_of old) (asked_of waits ∷ []) all (All-cons IsUnmarked (asked_of waits) [] refl (All-nil IsUnmarked))))

-- ---- an initialize waits at the head

module _ (old : Core) (id : Id) (number : ℕ) (root : List ℕ) (nobody : old.head ≡ None) (empty : old.queue ≡ []) (force : old.workspace ≡ None) where
  abbrev up : Head
  up = record { id = id; number = number; cancelled = false; phase = phases.Opening root }

  pub whole_asked : (new : Core) → new ≡ record old { head = Some up; tree = new.tree } → IsId id
      → (order : List Event) → Whole old (asking_for id number (asking root) ∷ []) [] order → Whole new [] [] order
  whole_asked new same named order whole =
      let asked : Core = record old { head = Some up; tree = new.tree } in
      let nothing : whole.first ≡ none = subst (λ (h : Option Head). HeadFits old h (after (onto (said_out old) order)) whole.first) nobody whole.fits in
      subst (λ (core : Core). Whole core [] [] order) (sym same)
      (record {
        first = owing id number (asking root);
        fits = (named, (refl, force));
        mid =
            mid_first (plain_of old) (Recalls old) (record { first = whole.first; waiting = waiting_of old; last = asking_for id number (asking root) ∷ []; nulls = [] })
            (onto (said_out old) order) whole.mid id number (asking root) nothing (ap (map asked_of) empty) refl;
      })
