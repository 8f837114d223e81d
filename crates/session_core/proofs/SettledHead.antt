-- The build at the head was cancelled and its request answered: what is open then is what the core keeps.
use Rattle.std.proofs.Common.{◌≡◌, ℕ, List, map, true, Option, Some, None, refl, ap, sym, ◌∙◌, subst}
use Rattle.rpc_peer.specs.Said.{IsId}
use Rattle.rpc_peer.specs.declared.message.Id.{Id}
use Rattle.session_build.specs.AtWork.{IsAtWork}
use Rattle.session_build.specs.declared.building.Build.{Build}
use Rattle.session_core.specs.Moving.{SettlesAll, WasMarked, with_first}
use Rattle.session_core.specs.Standing.{HeadFits, IsWorking, MidOf}
use Rattle.session_core.specs.State.{asked_of, said_out}
use Rattle.session_core.specs.declared.head.Head.{Head}
use Rattle.session_core.specs.declared.head.Phase.TheVariants as phases
use Rattle.session_core.specs.declared.session.Core.{Core}
use Rattle.session_verdicts.specs.declared.verdicts.Queued.{Queued}
use Rattle.session_law.specs.Course.{Given}
use Rattle.session_law.specs.Open.{Open, none, working}
use Rattle.session_law.specs.Order.{Event, onto}
use Rattle.session_law.specs.Past.{after}
use Rattle.session_queue.specs.declared.waiting.Waiting.{Waiting}
use Rattle.task_stream.specs.Showing.{shows}

-- what a core promises that cancels this build
abbrev Cancels : Core → Core → Id → Build → Option (List ℕ) → Type 0
Cancels old new id b origin =
    (o : Open) (g : Given) (order : List Event) → MidOf old o order → o.first ≡ working g true → g.active.id ≡ id → g.active.build.origin ≡ origin
    → old.workspace ≡ Some g.active.build.space → IsAtWork g b (after (onto (said_out old) order)).notices old.kept.keys (shows old.shown)
    → MidOf new (record o { first = none }) order

pub settles_head : (old taken new : Core) (id : Id) (b : Build) (origin : Option (List ℕ)) → WasMarked old.head id b origin → taken ≡ record old { head = None }
    → new.head ≡ taken.head → new.queue ≡ taken.queue → Cancels taken new id b origin → SettlesAll old new
settles_head old taken new id b origin was same head queue cancels last nulls order whole =
    let marked : Head = record { id = id; number = was.number; cancelled = true; phase = phases.Built b origin } in
    let fits : IsId id × IsWorking old marked b origin (after (onto (said_out old) order)) whole.first =
    subst (λ (h : Option Head). HeadFits old h (after (onto (said_out old) order)) whole.first) was.is whole.fits in
    let it = fits.1 in
    let gone : new.head ≡ None = head ∙ ap (λ (core : Core). core.head) same in
    let waits : new.queue ≡ old.queue = queue ∙ ap (λ (core : Core). core.queue) same in
    let mid : MidOf new (record (with_first old whole.first last nulls) { first = none }) order =
    subst (λ x. Cancels x new id b origin) same cancels (with_first old whole.first last nulls) it.given order whole.mid it.is it.id_is it.origin_is it.space_is it.at_work in
    record {
      first = none;
      fits = subst (λ (h : Option Head). HeadFits new h (after (onto (said_out new) order)) none) (sym gone) refl;
      mid = subst (λ (q : List (Waiting Queued)). MidOf new (record (with_first old none last nulls) { waiting = map asked_of q }) order) (sym waits) mid;
    }

pub settles_after : (a b c : Core) → SettlesAll a b → SettlesAll b c → SettlesAll a c
settles_after a b c one two last nulls order whole = two last nulls order (one last nulls order whole)
