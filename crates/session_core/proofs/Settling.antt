-- The requests that wait and are to be cancelled are answered, one after another.
use Rattle.std.proofs.Common.{◌≡◌, ◌++◌, List, [], ◌∷◌, map, Bool, true, false, cond, All, Option, Some, None, Result, Ok, Err, OnErr, OnOk, refl, ap, sym, ◌∙◌, subst}
use Rattle.std.proofs.lemmas.List.{map-append}
use Rattle.std.proofs.lemmas.List.Elements.{All-append, All-cons, All-head, All-nil, All-tail}
use Rattle.session_core.specs.Moving.{BesideQueue, HasWaitingTexts, HeadRunsOn, IsUnmarked, KeepsNotices, LosesAll, LosesIn, QueueTexts, Settles, SettlesAll, with_first}
use Rattle.session_build.specs.AtWork.{IsAtWork}
use Rattle.session_build.specs.declared.kept.Kept.{Kept}
use Rattle.session_core.specs.Standing.{HeadFits, HeadGoesOn, IsUpHead, IsUpPhase, MidOf, Moves, PhaseFits}
use Rattle.session_core.specs.declared.head.Head.{Head}
use Rattle.session_core.specs.declared.head.Phase.{Phase}
use Rattle.session_core.specs.declared.head.Phase.TheVariants as phases
use Rattle.session_law.specs.Past.{Now, after}
use Rattle.task_stream.specs.Showing.{shows}
use Rattle.task_stream.specs.declared.shown.Shown.{Shown}
use Rattle.session_core.specs.State.{asked_of, said_out, waiting_of}
use Rattle.session_core.specs.declared.session.Core.{Core}
use Rattle.session_verdicts.specs.declared.verdicts.Queued.{Queued}
use Rattle.session_law.proofs.OpenLaws.{all_left, all_right}
use Rattle.session_law.specs.Lawful.{EachAllowed}
use Rattle.session_law.specs.Open.{First, IsUp, Open}
use Rattle.session_law.specs.Order.{onto}
use Rattle.build_messages.specs.Outgoing.{outgoing_said}
use Rattle.build_messages.specs.declared.outgoing.Outgoing.{Outgoing}
use Rattle.session_law.specs.Requests.{Asked}
use Rattle.session_queue.proofs.CallerLaws.{TakesMarked, split_marked}
use Rattle.session_queue.specs.Waiting.{AreApart, first_marked, ids, without}
use Rattle.session_queue.specs.declared.waiting.Waiting.{Waiting}

pub unmarked_before : (queue : List (Waiting Queued)) → first_marked queue ≡ None → All IsUnmarked (map asked_of queue)
unmarked_before [] nothing = All-nil IsUnmarked
unmarked_before (waiting ∷ queue) nothing = by waiting.cancelled refl (unmarked_before queue)
  where
    by : (b : Bool) → waiting.cancelled ≡ b → (first_marked queue ≡ None → All IsUnmarked (map asked_of queue)) → All IsUnmarked (map asked_of (waiting ∷ queue))
    by true is rest =
        let found : Some waiting ≡ None = ap (λ (c : Bool). cond c (Some waiting) (first_marked queue)) (sym is) ∙ nothing in
        absurd (cc)
    by false is rest =
        All-cons IsUnmarked (asked_of waiting) (map asked_of queue) is
        (rest (ap (λ (c : Bool). cond c (Some waiting) (first_marked queue)) (sym is) ∙ nothing))

-- what is said of those that wait
pub texts_split : (queue new : List (Waiting Queued)) (waiting : Waiting Queued) → TakesMarked queue waiting new → All HasWaitingTexts queue
    → HasWaitingTexts waiting × All HasWaitingTexts new
texts_split queue new waiting takes all =
    let whole : All HasWaitingTexts (takes.before ++ waiting ∷ takes.after) = subst (All HasWaitingTexts) takes.was all in
    let behind = all_right HasWaitingTexts takes.before (waiting ∷ takes.after) whole in (
      All-head HasWaitingTexts waiting takes.after behind,
      subst (All HasWaitingTexts) (sym takes.is)
          (All-append HasWaitingTexts takes.before takes.after (all_left HasWaitingTexts takes.before (waiting ∷ takes.after) whole) (All-tail HasWaitingTexts waiting takes.after behind)),
    )

pub settles_same : (core : Core) → Settles core core
settles_same core first last nulls goes order mid = mid

pub settles_on : (a b c : Core) → Settles a b → Settles b c → Settles a c
settles_on a b c one two first last nulls goes order mid = two first last nulls goes order (one first last nulls goes order mid)

pub on_err_any : {A E P : Type 0} (result : Result A E) → P → OnErr result P
on_err_any (Ok a) p = tt
on_err_any (Err e) p = p

pub on_ok_any : {A E P : Type 0} (result : Result A E) → P → OnOk result P
on_ok_any (Ok a) p = p
on_ok_any (Err e) p = tt

-- one of them
pub settles_one : (x y : Core) (queue : List (Waiting Queued)) (waiting : Waiting Queued) → TakesMarked x.queue waiting queue → y.queue ≡ queue
    → ((o : Open) (before rest : List Asked) → o.waiting ≡ before ++ asked_of waiting ∷ rest → HeadRunsOn o.first → All IsUnmarked before → waiting.cancelled ≡ true
    → Moves (record x { queue = queue }) y o (record o { waiting = before ++ rest })) → Settles x y
settles_one x y queue waiting takes same answered first last nulls goes order mid =
    let o : Open = with_first x first last nulls in
    let ws : List Asked = map asked_of takes.before in
    let rs : List Asked = map asked_of takes.after in
    let waits : waiting_of x ≡ ws ++ asked_of waiting ∷ rs = ap (map asked_of) takes.was ∙ map-append asked_of takes.before (waiting ∷ takes.after) in
    let left : waiting_of y ≡ ws ++ rs = ap (map asked_of) (same ∙ takes.is) ∙ map-append asked_of takes.before takes.after in
    subst (λ list. MidOf y (record o { waiting = list }) order) (sym left)
    (answered o ws rs waits goes (unmarked_before takes.before takes.none_before) takes.marked order mid)

-- the first that is marked was taken
pub takes_it : (queue new : List (Waiting Queued)) (result : Option (Waiting Queued)) (waiting : Waiting Queued) → result ≡ first_marked queue → result ≡ Some waiting
    → AreApart (ids queue) → new ≡ without waiting.id queue → TakesMarked queue waiting new
takes_it queue new result waiting first is apart others =
    subst (TakesMarked queue waiting) (sym others) (split_marked queue waiting apart (sym first ∙ is))

pub texts_same : (a b : Core) → b.queue ≡ a.queue → QueueTexts a → QueueTexts b
texts_same a b same texts = subst (λ (queue : List (Waiting Queued)). All HasWaitingTexts queue) (sym same) texts

-- where memory was missing nothing was written
pub settles_lost : (a b c : Core) → Settles a b → c.out.items ≡ b.out.items → LosesIn a c
settles_lost a b c settles same first last nulls order goes mid =
    subst (λ (items : List Outgoing). EachAllowed (onto (map outgoing_said items) order)) (sym same) (settles first last nulls goes order mid).each

-- where none is marked the queue stays
pub settles_idle : (a b : Core) (queue : List (Waiting Queued)) → queue ≡ b.queue → Settles a b → Settles a (record b { queue = queue })
settles_idle a b queue same settles = subst (λ (q : List (Waiting Queued)). Settles a (record b { queue = q })) (sym same) settles

pub texts_idle : (b : Core) (queue : List (Waiting Queued)) → queue ≡ b.queue → QueueTexts b → QueueTexts (record b { queue = queue })
texts_idle b queue same texts = subst (λ (q : List (Waiting Queued)). All HasWaitingTexts q) (sym same) texts

pub unmarked_idle : (b : Core) (queue : List (Waiting Queued)) → queue ≡ b.queue → first_marked b.queue ≡ None → All IsUnmarked (waiting_of (record b { queue = queue }))
unmarked_idle b queue same nothing = subst (λ (q : List (Waiting Queued)). All IsUnmarked (map asked_of q)) (sym same) (unmarked_before b.queue nothing)

-- ---- whole states

pub fits_on : (old new : Core) (head : Option Head) (now later : Now) (first : First) → new.workspace ≡ old.workspace → new.kept ≡ old.kept → new.shown ≡ old.shown
    → later.notices ≡ now.notices → HeadFits old head now first → HeadFits new head later first
fits_on old new None now later first workspace kept shown notices fits = fits
fits_on old new (Some head) now later first workspace kept shown notices fits = (fits.0, by head.phase fits.1)
  where
    by : (phase : Phase) → PhaseFits old head phase now first → PhaseFits new head phase later first
    by (phases.Opening root) it = (it.0, workspace ∙ it.1)
    by phases.Rereading it = record { space = it.space; in_force = workspace ∙ it.in_force; is = it.is }
    by (phases.Planned plan) it = record { space = it.space; in_force = workspace ∙ it.in_force; within = it.within; is = it.is }
    by (phases.Built b origin) it =
        record {
          given = it.given;
          id_is = it.id_is;
          space_is = workspace ∙ it.space_is;
          origin_is = it.origin_is;
          is = it.is;
          at_work =
              subst (λ ns. IsAtWork it.given b ns new.kept.keys (shows new.shown)) (sym notices)
              (subst (λ (k : Kept). IsAtWork it.given b now.notices k.keys (shows new.shown)) (sym kept)
              (subst (λ (s : Shown). IsAtWork it.given b now.notices old.kept.keys (shows s)) (sym shown) it.at_work));
        }

pub runs_first : (core : Core) (head : Option Head) (now : Now) (first : First) → IsUpHead head → HeadGoesOn head → HeadFits core head now first → HeadRunsOn first
runs_first core None now first up goes fits = subst HeadRunsOn (sym fits) tt
runs_first core (Some head) now first up goes fits = by head.phase up fits.1
  where
    by : (phase : Phase) → IsUpPhase phase → PhaseFits core head phase now first → HeadRunsOn first
    by (phases.Opening root) up it = absurd up
    by phases.Rereading up it = absurd up
    by (phases.Planned plan) up it = absurd up
    by (phases.Built b origin) up it = subst HeadRunsOn (sym it.is) goes

pub up_first : (core : Core) (head : Option Head) (now : Now) (first : First) → IsUpHead head → HeadFits core head now first → IsUp first
up_first core None now first up fits = subst IsUp (sym fits) tt
up_first core (Some head) now first up fits = by head.phase up fits.1
  where
    by : (phase : Phase) → IsUpPhase phase → PhaseFits core head phase now first → IsUp first
    by (phases.Opening root) up it = absurd up
    by phases.Rereading up it = absurd up
    by (phases.Planned plan) up it = absurd up
    by (phases.Built b origin) up it = subst IsUp (sym it.is) tt

-- where the head goes on, those that wait are settled
pub settles_whole : (old new : Core) → IsUpHead old.head → HeadGoesOn old.head → Settles old new → KeepsNotices old new → BesideQueue old new → SettlesAll old new
settles_whole old new up goes settles notices beside last nulls order whole =
    record {
      first = whole.first;
      fits =
          subst (λ (h : Option Head). HeadFits new h (after (onto (said_out new) order)) whole.first) (sym beside.head)
          (fits_on old new old.head (after (onto (said_out old) order)) (after (onto (said_out new) order)) whole.first beside.workspace beside.kept beside.shown (notices order) whole.fits);
      mid = settles whole.first last nulls (runs_first old old.head (after (onto (said_out old) order)) whole.first up goes whole.fits) order whole.mid;
    }

pub loses_whole : (old new : Core) → IsUpHead old.head → HeadGoesOn old.head → LosesIn old new → LosesAll old new
loses_whole old new up goes loses last nulls order whole =
    loses whole.first last nulls order (runs_first old old.head (after (onto (said_out old) order)) whole.first up goes whole.fits) whole.mid

pub loses_behind : (a b c : Core) → SettlesAll a b → LosesAll b c → LosesAll a c
loses_behind a b c settles loses last nulls order whole = loses last nulls order (settles last nulls order whole)

-- where nothing was written nothing is lost
pub loses_none : (old new : Core) → new.out.items ≡ old.out.items → LosesAll old new
loses_none old new same last nulls order whole =
    subst (λ (items : List Outgoing). EachAllowed (onto (map outgoing_said items) order)) (sym same) whole.mid.each

pub on_ok_both : {A E : Type 0} (P Q : Type 0) (result : Result A E) → OnOk result P → OnOk result Q → OnOk result (P × Q)
on_ok_both P Q (Ok a) p q = (p, q)
on_ok_both P Q (Err e) p q = tt
