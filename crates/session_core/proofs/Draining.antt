-- A build that waits for its checks stays at the head, or it is cancelled, and its jobs are to be drained.
use Rattle.std.proofs.Common.{◌≡◌, ◌≢◌, ◌⊎◌, inl, inr, ◌||◌, ℕ, Bool, true, false, Option, Some, None, true≢false, refl, ap, sym, ◌∙◌, subst}
use Rattle.std.proofs.lemmas.Option.{none-some}
use Rattle.rpc_peer.specs.declared.message.Id.{Id}
use Rattle.session_build.specs.declared.building.Went.{Went}
use Rattle.session_build.specs.declared.building.Went.TheVariants.{On, Ended}
use Rattle.session_core.proofs.Awaiting.{awaits_some}
use Rattle.session_core.proofs.Giving.{unbuilt_awaits}
use Rattle.session_core.specs.Building.{GoesOnBy}
use Rattle.session_core.specs.Handing.{HasWent}
use Rattle.session_core.specs.Marking.{marked, marked_head}
use Rattle.session_core.specs.Settled.{Awaits, AwaitsHead, BuildStays, DrainsCancelled, IsSettled, IsUnbuilt, NeedsNothing, SettlesRest, StaysOrDrains}
use Rattle.session_core.specs.Standing.{HeadGoesOn, IsUpHead}
use Rattle.session_core.specs.State.{Rest, rest_of}
use Rattle.session_core.specs.declared.head.Head.{Head}
use Rattle.session_core.specs.declared.jobs.Awaiting.{Awaiting}
use Rattle.session_core.specs.declared.session.Core.{Core}
use Rattle.worker_pool.specs.Jobs.{CheckTree}

-- ---- what is drained by a call

module _ (old new : Rest) (settled : IsSettled old) (needs : NeedsNothing old) (up : IsUpHead old.head) (after : IsSettled new) (jobs : new.jobs ≡ old.jobs) (given : new.given ≡ old.given) where
  still : new.head ≡ old.head → (number : ℕ) → Awaits old number → Awaits new number
  still same number awaits =
      subst (λ (h : Option Head). AwaitsHead h new.jobs new.given number) (sym same)
      (subst (λ g. AwaitsHead old.head new.jobs g number) (sym given) (subst (λ j. AwaitsHead old.head j old.given number) (sym jobs) awaits))

  not_drained : new.drains ≡ old.drains → new.drains ≡ true → ⊥
  not_drained same is = true≢false (sym is ∙ (same ∙ needs.drains))

  where_stays : BuildStays old.head new.head → new.drains ≡ old.drains → DrainsCancelled old new
  where_stays (inl same) drains = record { all = λ number awaits. inl (still same number awaits); none_else = λ is. absurd (not_drained drains is) }
  where_stays (inr none) drains =
      record {
        all = λ number awaits. absurd (unbuilt_awaits old.head old.jobs old.given number none awaits);
        none_else = λ is. absurd (not_drained drains is);
      }

  where_gone : old.head ≢ None → new.drains ≡ true → DrainsCancelled old new
  where_gone some is =
      record {
        all = λ number awaits. inr is;
        none_else = λ drained.
            let found = awaits_some old settled needs up some in
            (found.0, found.1, unbuilt_awaits new.head new.jobs new.given found.0 (after.sound.drains is));
      }

  pub drains_cancelled : StaysOrDrains old new → DrainsCancelled old new
  drains_cancelled (inl both) = where_stays both.0 both.1
  drains_cancelled (inr both) = where_gone both.0 both.1

-- ---- step by step

-- the head and what is to be drained stay in the next step
pub stays_on : (old mid new : Rest) → StaysOrDrains old mid → new.head ≡ mid.head → new.drains ≡ mid.drains → StaysOrDrains old new
stays_on old mid new (inl (inl same, drains)) head is = inl (inl (head ∙ same), is ∙ drains)
stays_on old mid new (inl (inr none, drains)) head is = inl (inr none, is ∙ drains)
stays_on old mid new (inr (some, drains)) head is = inr (some, is ∙ drains)

pub is_some_head : (head : Option Head) (h : Head) → head ≡ Some h → head ≢ None
is_some_head head h is none = none-some h (sym none ∙ is)

-- where no request is at the head none is taken from it
pub stays_taken_up : (head x y : Option Head) → BuildStays head x → x ≡ None → BuildStays head y
stays_taken_up head x y (inl same) none = inr (subst (λ (h : Option Head). IsUnbuilt h) (sym (sym same ∙ none)) tt)
stays_taken_up head x y (inr unbuilt) none = inr unbuilt

-- a mark that doesn't cancel the head leaves it as it was
unmarked_head : (by : Id → Bool) (head : Option Head) → HeadGoesOn head → HeadGoesOn (marked_head by head) → marked_head by head ≡ head
unmarked_head by None was goes = refl
unmarked_head by (Some head) was goes = λ i. Some (record head { cancelled = (goes ∙ sym was) i })

-- what is marked is answered, and then the next request is taken up
module _ (by : Id → Bool) (old mid new : Core) (was : HeadGoesOn old.head) (goes : HeadGoesOn mid.head) (stays : BuildStays mid.head new.head) (drains : new.drains ≡ mid.drains) where
  head_stays : mid.head ≡ old.head → BuildStays mid.head new.head → BuildStays old.head new.head
  head_stays same (inl is) = inl (is ∙ same)
  head_stays same (inr none) = inr (subst (λ (h : Option Head). IsUnbuilt h) same none)

  is_settled : SettlesRest (rest_of (marked by old)) (rest_of mid) → StaysOrDrains (rest_of old) (rest_of new)
  is_settled (inl is) =
      let head : mid.head ≡ marked_head by old.head = ap (λ (r : Rest). r.head) is in
      let same : mid.head ≡ old.head = head ∙ unmarked_head by old.head was (subst (λ (h : Option Head). HeadGoesOn h) head goes) in
      inl (head_stays same stays, drains ∙ ap (λ (r : Rest). r.drains) is)
  is_settled (inr gone) =
      inr (λ none. gone.0 (ap (λ (h : Option Head). marked_head by h) none), drains ∙ ap (λ (r : Rest). r.drains) gone.1)

  pub cancel_drains : (is_marked : Core) → is_marked ≡ marked by old → SettlesRest (rest_of is_marked) (rest_of mid) → StaysOrDrains (rest_of old) (rest_of new)
  cancel_drains is_marked are settles = is_settled (subst (λ (core : Core). SettlesRest (rest_of core) (rest_of mid)) are settles)
