-- What a core keeps beside its messages, from step to step.
use Rattle.std.proofs.Common.{◌≡◌, ◌≤◌, ◌<◌, ◌+◌, ◌*◌, inl, inr, ◌||◌, suc, List, [], ◌∷◌, length, map, Bool, true, false, cond, All, Option, Some, None, refl, ap, sym, ◌∙◌, subst, arith, true≢false}
use Rattle.std.specs.Prelude.{IfSome, IsSome, not}
use Rattle.std.proofs.Math.Bool.{or-true}
use Rattle.std.proofs.lemmas.List.Elements.{All-cons, All-head, All-nil, All-tail}
use Rattle.rpc_peer.specs.declared.message.Id.{Id}
use Rattle.session_core.specs.Marking.{marked, marked_all, marked_head}
use Rattle.session_core.specs.Moving.{Beside, BesideHead, BesideQueue, HasWaitingTexts, IsUnmarked}
use Rattle.session_core.specs.Settled.{AreNumbered, HasBegun, HasNone, HeadPlanFits, HeadStays, HeadWants, IfBuilt, IsAsking, IsSettled, IsSound, IsUnbuilt, SettlesHeadRest, SettlesRest, TakesUpRest, answered, head_left, left_to_do, planned, planned_rest, reread, reread_rest, steps_limit}
use Rattle.session_core.specs.Standing.{GoesOn, HeadGoesOn, HeadRests, IsUpHead}
use Rattle.session_core.specs.State.{Rest, asked_of, rest_of}
use Rattle.session_core.specs.declared.head.Head.{Head}
use Rattle.session_core.specs.declared.session.Core.{Core}
use Rattle.session_verdicts.specs.declared.verdicts.Queued.{Queued}
use Rattle.session_core.proofs.Needing.{jobs_on}
use Rattle.session_queue.specs.Waiting.{kept_of, marked_where}
use Rattle.session_queue.specs.declared.waiting.Waiting.{Waiting}
use Rattle.target_graph.specs.Workspace.{Space}

-- ---- those that are to be cancelled are settled

pub rest_settled : (old new : Core) → BesideQueue old new → new.queue ≡ kept_of old.queue → rest_of new ≡ record (rest_of old) { queue = kept_of old.queue }
rest_settled old new beside leaves =
    λ i. record {
      head = beside.head i;
      queue = leaves i;
      workspace = beside.workspace i;
      tree = beside.needs.tree i;
      drains = beside.needs.drains i;
      jobs = beside.needs.jobs.jobs i;
      given = beside.needs.jobs.given i;
      status = beside.status i;
      dead = beside.dead i;
    }

abbrev keeping : Rest → Rest
keeping rest = record rest { queue = kept_of rest.queue }

pub settles_rest : (a b c : Rest) → SettlesHeadRest a b → c ≡ record b { queue = kept_of b.queue } → SettlesRest a c
settles_rest a b c (inl same) is = inl (is ∙ ap keeping same)
settles_rest a b c (inr gone) is = inr (gone.0, is ∙ ap keeping gone.1)

-- ---- all of them

none_kept : (queue : List (Waiting Queued)) → kept_of (marked_where (λ waiting. true) queue) ≡ []
none_kept [] = refl
none_kept (waiting ∷ queue) =
    let rest = kept_of (marked_where (λ waiting. true) queue) in
    ap (λ (b : Bool). cond (not b) (record waiting { cancelled = waiting.cancelled || true } ∷ rest) rest) (or-true waiting.cancelled) ∙ none_kept queue

no_head : (head : Option Head) → HeadGoesOn (marked_head (λ id. true) head) → marked_head (λ id. true) head ≡ None
no_head None goes = refl
no_head (Some head) goes = absurd (true≢false (sym (or-true head.cancelled) ∙ goes))

none_was : (head : Option Head) → marked_head (λ id. true) head ≡ None → head ≡ None
none_was None gone = refl
none_was (Some head) gone = absurd (cc)

pub none_left : (old marked new : Core) → marked ≡ marked_all old → SettlesRest (rest_of marked) (rest_of new) → HeadGoesOn new.head → HasNone (rest_of old) (rest_of new)
none_left old marked new are settles goes = by (subst (λ (core : Core). SettlesRest (rest_of core) (rest_of new)) are settles)
  where
    by : SettlesRest (rest_of (marked_all old)) (rest_of new) → HasNone (rest_of old) (rest_of new)
    by (inl is) =
        let head : new.head ≡ marked_head (λ id. true) old.head = ap (λ (r : Rest). r.head) is in
        let gone = no_head old.head (subst HeadGoesOn head goes) in
        record {
          stays = inl (inr (subst (λ (h : Option Head). IsUnbuilt h) (sym (none_was old.head gone)) tt), ap (λ (r : Rest). r.drains) is);
          drains = old.drains;
          is = is ∙ (λ i. record (rest_of old) { head = gone i; queue = none_kept old.queue i });
        }
    by (inr gone) =
        record {
          stays = inr (λ none. gone.0 (ap (λ (h : Option Head). marked_head (λ id. true) h) none), ap (λ (r : Rest). r.drains) gone.1);
          drains = true;
          is = gone.1 ∙ (λ i. record (rest_of old) { head = None; queue = none_kept old.queue i; drains = true });
        }

no_begun : (force : Option Space) (head : Option Head) (queue : List (Waiting Queued)) → HasBegun force head queue → HasBegun force None []
no_begun None head queue begun = (tt, refl)
no_begun (Some space) head queue begun = tt

-- where no request is open all is settled
pub settled_none : (old new : Rest) → IsSound old → old.tree ≡ None → HasNone old new → IsSettled new
settled_none old new sound tree has =
    subst IsSettled (sym has.is)
    (record {
      sound = record {
        rests = tt;
        texts = All-nil HasWaitingTexts;
        goes_on = tt;
        waiting = All-nil (λ (waiting : Waiting Queued). waiting.cancelled ≡ false);
        begun = no_begun old.workspace old.head old.queue sound.begun;
        plan = tt;
        tree = subst (λ t. IfSome t (HeadWants None)) (sym tree) tt;
        numbers = sound.numbers;
        checks = tt;
        drains = λ drains. tt;
      };
      behind = refl;
    })

-- ---- a request is taken up

pub beside_on : (a b c : Core) → BesideHead a b → BesideHead b c → BesideHead a c
beside_on a b c one two =
    record {
      taken = two.taken ∙ one.taken;
      status = two.status ∙ one.status;
      workspace = two.workspace ∙ one.workspace;
      closed = two.closed ∙ one.closed;
      dead = two.dead ∙ one.dead;
      jobs = jobs_on b c a two.jobs one.jobs;
    }

unmarked_all : (queue : List (Waiting Queued)) → All (λ waiting. waiting.cancelled ≡ false) queue → All IsUnmarked (map asked_of queue)
unmarked_all [] all = All-nil IsUnmarked
unmarked_all (waiting ∷ queue) all =
    All-cons IsUnmarked (asked_of waiting) (map asked_of queue) (All-head (λ (waiting : Waiting Queued). waiting.cancelled ≡ false) waiting queue all)
    (unmarked_all queue (All-tail (λ (waiting : Waiting Queued). waiting.cancelled ≡ false) waiting queue all))

pub goes_on : (core : Core) → IsSound (rest_of core) → GoesOn core
goes_on core sound = record { head = sound.goes_on; waiting = unmarked_all core.queue sound.waiting }

unmarked_back : (queue : List (Waiting Queued)) → All IsUnmarked (map asked_of queue) → All (λ waiting. waiting.cancelled ≡ false) queue
unmarked_back [] all = All-nil (λ (waiting : Waiting Queued). waiting.cancelled ≡ false)
unmarked_back (waiting ∷ queue) all =
    All-cons (λ (waiting : Waiting Queued). waiting.cancelled ≡ false) waiting queue (All-head IsUnmarked (asked_of waiting) (map asked_of queue) all)
    (unmarked_back queue (All-tail IsUnmarked (asked_of waiting) (map asked_of queue) all))

any_begun : (force : Option Space) (head : Option Head) (queue : List (Waiting Queued)) → IsSome force → HasBegun force head queue
any_begun None head queue some = absurd (true≢false (sym some))
any_begun (Some space) head queue some = tt

-- one more request waits
pub sound_behind : (old new : Core) → IsSound (rest_of old) → new ≡ record old { queue = new.queue } → All HasWaitingTexts new.queue → GoesOn new → IsSome old.workspace → IsSound (rest_of new)
sound_behind old new sound same texts goes some =
    subst IsSound (sym (ap rest_of same))
    (record {
      rests = sound.rests;
      texts = texts;
      goes_on = sound.goes_on;
      waiting = unmarked_back new.queue goes.waiting;
      begun = any_begun old.workspace old.head new.queue some;
      plan = sound.plan;
      tree = sound.tree;
      numbers = sound.numbers;
      checks = sound.checks;
      drains = sound.drains;
    })

-- a request that waits finds a workspace in force
pub some_begun : (force : Option Space) (head : Option Head) (queue rest : List (Waiting Queued)) (waiting : Waiting Queued) → HasBegun force head queue → queue ≡ waiting ∷ rest → IsSome force
some_begun None head queue rest waiting begun was = absurd (full (sym was ∙ begun.1))
  where
    IsFull : List (Waiting Queued) → Type 0
    IsFull [] = ⊥
    IsFull (w ∷ others) = Unit {0}

    full : waiting ∷ rest ≡ [] → ⊥
    full same = subst IsFull same tt
some_begun (Some space) head queue rest waiting begun was = refl

module _ (r s : Rest) (waiting : Waiting Queued) (queue : List (Waiting Queued)) (sound : IsSound r) (nobody : r.head ≡ None) (was : r.queue ≡ waiting ∷ queue) where
  texts_are : All HasWaitingTexts (waiting ∷ queue)
  texts_are = subst (All HasWaitingTexts) was sound.texts

  behind_it : All (λ (w : Waiting Queued). w.cancelled ≡ false) queue
  behind_it =
      All-tail (λ (w : Waiting Queued). w.cancelled ≡ false) waiting queue
      (subst (λ (q : List (Waiting Queued)). All (λ (w : Waiting Queued). w.cancelled ≡ false) q) was sound.waiting)

  begun_rest : (head : Option Head) → HasBegun r.workspace head queue
  begun_rest head = by r.workspace (some_begun r.workspace r.head r.queue queue waiting sound.begun was)
    where
      by : (force : Option Space) → IsSome force → HasBegun force head queue
      by None some = absurd (true≢false (sym some))
      by (Some space) some = tt

  pub sound_taken : TakesUpRest (record r { queue = queue }) s waiting.id waiting.number → IsSound s
  sound_taken (answered same) =
      subst IsSound (sym same)
      (record {
        rests = sound.rests;
        texts = All-tail HasWaitingTexts waiting queue texts_are;
        goes_on = sound.goes_on;
        waiting = behind_it;
        begun = begun_rest r.head;
        plan = sound.plan;
        tree = sound.tree;
        numbers = sound.numbers;
        checks = sound.checks;
        drains = sound.drains;
      })
  sound_taken (planned plan fits same) =
      subst IsSound (sym same)
      (record {
        rests = ((All-head HasWaitingTexts waiting queue texts_are).named, tt);
        texts = All-tail HasWaitingTexts waiting queue texts_are;
        goes_on = refl;
        waiting = behind_it;
        begun = begun_rest (planned_rest r waiting.id waiting.number plan).head;
        plan = fits;
        tree = refl;
        numbers = sound.numbers;
        checks = tt;
        drains = λ drains. tt;
      })
  sound_taken (reread force same) =
      subst IsSound (sym same)
      (record {
        rests = ((All-head HasWaitingTexts waiting queue texts_are).named, tt);
        texts = All-tail HasWaitingTexts waiting queue texts_are;
        goes_on = refl;
        waiting = behind_it;
        begun = begun_rest (reread_rest r waiting.id waiting.number).head;
        plan = force;
        tree = refl;
        numbers = sound.numbers;
        checks = tt;
        drains = λ drains. tt;
      })

  pub asking_taken : TakesUpRest (record r { queue = queue }) s waiting.id waiting.number → IsAsking s
  asking_taken (answered same) = subst IsAsking (sym same) (λ nothing. subst IsUpHead (sym nobody) tt)
  asking_taken (planned plan fits same) = subst IsAsking (sym same) (λ nothing. absurd (cc))
  asking_taken (reread force same) = subst IsAsking (sym same) (λ nothing. absurd (cc))

  pub stays_taken : (head : Option Head) → TakesUpRest (record r { queue = queue }) s waiting.id waiting.number → HeadStays head s.head
  stays_taken head (answered same) = inr (subst (λ h. IsUnbuilt h) (sym (ap (λ (x : Rest). x.head) same ∙ nobody)) tt)
  stays_taken head (planned plan fits same) = inr (subst (λ h. IsUnbuilt h) (sym (ap (λ (x : Rest). x.head) same)) tt)
  stays_taken head (reread force same) = inr (subst (λ h. IsUnbuilt h) (sym (ap (λ (x : Rest). x.head) same)) tt)

  left_is : left_to_do r ≡ suc (length queue) * (steps_limit + 2) + 0
  left_is = λ i. length (was i) * (steps_limit + 2) + head_left (nobody i)

  pub less_taken : TakesUpRest (record r { queue = queue }) s waiting.id waiting.number → left_to_do s < left_to_do r
  less_taken (answered same) =
      let is : left_to_do s ≡ length queue * (steps_limit + 2) + 0 = ap left_to_do same ∙ (λ i. length queue * (steps_limit + 2) + head_left (nobody i)) in
      omega (arith, is, left_is)
  less_taken (planned plan fits same) =
      let is : left_to_do s ≡ length queue * (steps_limit + 2) + suc steps_limit = ap left_to_do same in
      omega (arith, is, left_is)
  less_taken (reread force same) =
      let is : left_to_do s ≡ length queue * (steps_limit + 2) + suc steps_limit = ap left_to_do same in
      omega (arith, is, left_is)

-- ---- those with some id are settled

-- what of it is of the head, the tree and the jobs
record IsLinked (rest : Rest) : Type 0 where
  begun : HasBegun rest.workspace rest.head rest.queue
  plan : HeadPlanFits rest.workspace rest.head
  numbers : rest.jobs ≤ rest.given
  checks : IfBuilt rest.head (AreNumbered rest.jobs rest.given)
  drains : rest.drains ≡ true → IsUnbuilt rest.head

module _ (by : Id → Bool) (old : Core) (sound : IsSound (rest_of old)) where
  none_there : old.queue ≡ [] → kept_of (marked_where (λ waiting. by waiting.id) old.queue) ≡ []
  none_there nothing = ap (λ (q : List (Waiting Queued)). kept_of (marked_where (λ waiting. by waiting.id) q)) nothing

  begun_marked : (force : Option Space) (head : Option Head) → HasBegun force head old.queue → HasBegun force (marked_head by head) (kept_of (marked_where (λ waiting. by waiting.id) old.queue))
  begun_marked None None begun = (tt, none_there begun.1)
  begun_marked None (Some head) begun = (begun.0, none_there begun.1)
  begun_marked (Some space) head begun = tt

  plan_marked : (head : Option Head) → HeadPlanFits old.workspace head → HeadPlanFits old.workspace (marked_head by head)
  plan_marked None plan = plan
  plan_marked (Some head) plan = plan

  checks_marked : (head : Option Head) → IfBuilt head (AreNumbered old.jobs old.given) → IfBuilt (marked_head by head) (AreNumbered old.jobs old.given)
  checks_marked None checks = checks
  checks_marked (Some head) checks = checks

  drains_marked : (head : Option Head) → IsUnbuilt head → IsUnbuilt (marked_head by head)
  drains_marked None unbuilt = unbuilt
  drains_marked (Some head) unbuilt = unbuilt

  gone_begun : (force : Option Space) (head : Option Head) → HasBegun force head old.queue → HasBegun force None (kept_of (marked_where (λ waiting. by waiting.id) old.queue))
  gone_begun None head begun = (tt, none_there begun.1)
  gone_begun (Some space) head begun = tt

  linked_marked : (new : Rest) → SettlesRest (rest_of (marked by old)) new → IsLinked new
  linked_marked new (inl is) =
      subst IsLinked (sym is)
      (record { begun = begun_marked old.workspace old.head sound.begun; plan = plan_marked old.head sound.plan; numbers = sound.numbers; checks = checks_marked old.head sound.checks; drains = λ drains. drains_marked old.head (sound.drains drains) })
  linked_marked new (inr gone) =
      subst IsLinked (sym gone.1) (record { begun = gone_begun old.workspace old.head sound.begun; plan = tt; numbers = sound.numbers; checks = tt; drains = λ drains. tt })

  tree_marked : (new : Rest) → SettlesRest (rest_of (marked by old)) new → new.tree ≡ old.tree
  tree_marked new (inl is) = ap (λ (r : Rest). r.tree) is
  tree_marked new (inr gone) = ap (λ (r : Rest). r.tree) gone.1

pub sound_marked : (by : Id → Bool) (old is_marked new : Core) → is_marked ≡ marked by old → IsSound (rest_of old) → old.tree ≡ None → SettlesRest (rest_of is_marked) (rest_of new)
    → HeadRests new.head → All HasWaitingTexts new.queue → GoesOn new → IsSound (rest_of new)
sound_marked by old is_marked new are sound tree settles rests texts goes =
    let settled : SettlesRest (rest_of (marked by old)) (rest_of new) = subst (λ (core : Core). SettlesRest (rest_of core) (rest_of new)) are settles in
    let linked : IsLinked (rest_of new) = linked_marked by old sound (rest_of new) settled in
    record {
      rests = rests;
      texts = texts;
      goes_on = goes.head;
      waiting = unmarked_back new.queue goes.waiting;
      begun = linked.begun;
      plan = linked.plan;
      tree = subst (λ t. IfSome t (HeadWants new.head)) (sym (tree_marked by old sound (rest_of new) settled ∙ tree)) tt;
      numbers = linked.numbers;
      checks = linked.checks;
      drains = linked.drains;
    }

pub head_gone : (old : Rest) (new : Core) → HasNone old (rest_of new) → IsUpHead new.head
head_gone old new has = subst (λ (h : Option Head). IsUpHead h) (sym (ap (λ (r : Rest). r.head) has.is)) tt

-- ---- an initialize at the head is answered

-- the head is answered, and a workspace stays in force
pub reloaded_sound : (old new : Core) → IsSound (rest_of old) → old.tree ≡ None → rest_of new ≡ record (rest_of old) { head = None; workspace = new.workspace } → IsSome new.workspace → IsSound (rest_of new)
reloaded_sound old new sound tree is force =
    subst IsSound (sym is)
    (record {
      rests = tt;
      texts = sound.texts;
      goes_on = tt;
      waiting = sound.waiting;
      begun = begun_so new.workspace force;
      plan = tt;
      tree = subst (λ t. IfSome t (HeadWants None)) (sym tree) tt;
      numbers = sound.numbers;
      checks = tt;
      drains = λ drains. tt;
    })
  where
    begun_so : (later : Option Space) → IsSome later → HasBegun later None old.queue
    begun_so None force = absurd (true≢false (sym force))
    begun_so (Some space) force = tt

pub opened_sound : (old new : Core) → IsSound (rest_of old) → old.tree ≡ None → Beside (record old { head = None }) new → (new.workspace ≡ None → old.workspace ≡ None) → IsSound (rest_of new)
opened_sound old new sound tree beside force =
    subst IsSound (sym is)
    (record {
      rests = tt;
      texts = sound.texts;
      goes_on = tt;
      waiting = sound.waiting;
      begun = begun_so new.workspace force;
      plan = tt;
      tree = subst (λ t. IfSome t (HeadWants None)) (sym tree) tt;
      numbers = sound.numbers;
      checks = tt;
      drains = λ drains. tt;
    })
  where
    is : rest_of new ≡ record (rest_of old) { head = None; workspace = new.workspace }
    is =
        λ i. record {
          head = beside.head i;
          queue = beside.queue i;
          workspace = new.workspace;
          tree = beside.needs.tree i;
          drains = beside.needs.drains i;
          jobs = beside.needs.jobs.jobs i;
          given = beside.needs.jobs.given i;
          status = beside.status i;
          dead = beside.dead i;
        }

    begun_so : (later : Option Space) → (later ≡ None → old.workspace ≡ None) → HasBegun later None old.queue
    begun_so None force = (tt, (subst (λ f. HasBegun f old.head old.queue) (force refl) sound.begun).1)
    begun_so (Some space) force = tt
