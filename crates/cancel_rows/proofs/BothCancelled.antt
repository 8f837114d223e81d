-- A right row: a compile is at work and another waits behind it. Of each document of the first a client shows what it showed
-- before, or the list that the build found, which was published already. The client cancels the second, then the first. The
-- second is answered alone; then the check of the first that is out finishes, its target and itself, each as cancelled, and it
-- is answered.
use Rattle.std.proofs.Common.{◌≡◌, ◌≢◌, ◌⊎◌, inl, inr, ◌++◌, ◌&&◌, ℕ, suc, List, [], ◌∷◌, get_or, Bool, true, false, All, AllPairs, arith, Option, Some, None, Ok, refl, sym, ap, subst, ◌∙◌, append-nil}
use Rattle.std.specs.Prelude.{codes}
use Rattle.std.proofs.lemmas.List.Elements.{All-append, All-cons, All-nil}
use Rattle.std.proofs.lemmas.List.Kept.{AllPairs-cons}
use Rattle.bsp_records.specs.Table.{Table}
use Rattle.bsp_records.specs.declared.identifiers.BuildTargetIdentifier.{BuildTargetIdentifier}
use Rattle.rpc_peer.specs.Meaning.{meaning}
use Rattle.rpc_peer.specs.OpenIds.{same_id}
use Rattle.rpc_peer.specs.Said.{Said, notification}
use Rattle.rpc_peer.specs.declared.message.Id.{Id}
use Rattle.serde_json.specs.Data.{Data}
use Rattle.cancel_rows.proofs.OneCheck.{by, starts_told}
use Rattle.cancel_rows.specs.OneCheck.{HasOneOut, answered_cancelled, build_gives_up, check_gives_up, gives_up, target_gives_up}
use Rattle.session_law.proofs.CancelLaws.{all_of_cancel}
use Rattle.session_law.proofs.MidLaws.{mid_answers_cancelled, mid_cancelled, mid_cancels, mid_took}
use Rattle.session_law.proofs.RequestLaws.{IsUnmarked, same_id_refl}
use Rattle.session_law.proofs.TakeLaws.{took_note}
use Rattle.session_law.proofs.TaskLaws.{tasks_show_nothing}
use Rattle.session_law.proofs.WrittenLaws.{IsNotice, all_noticed}
use Rattle.session_law.specs.Builds.{cancelled_said, table_behind}
use Rattle.session_law.specs.Cancelling.{IsCancelledBy}
use Rattle.session_law.specs.Course.{Given}
use Rattle.session_law.specs.History.{Told}
use Rattle.session_law.specs.IsFramed.{IsFramed}
use Rattle.session_law.specs.Lawful.{EachAllowed, Lawful}
use Rattle.session_law.specs.Methods.{queued, to_build}
use Rattle.session_law.specs.Open.{IsLater, IsOpen, IsWaiting, Mid, Open, Plain, none, working, asking_for, plain_now, working_on}
use Rattle.session_law.specs.Order.{Event, onto, take, write}
use Rattle.session_law.specs.Past.{Now, after, by_event, exit_status}
use Rattle.session_law.specs.Requests.{Asked, cancelled_id, cancels, has_this_id}
use Rattle.session_law.specs.ShowsOldOrNew.{ShowsEither, ShowsFound, ShowsSame}
use Rattle.session_law.specs.Tasks.{finish_said}
use Rattle.session_law.specs.TasksInOrder.{IsGivenBy}
use Rattle.session_law.specs.declared.BuildDocument.{BuildDocument}

-- the client cancels the request with this id
pub record IsCancelOf (body : List ℕ) (id : Id) : Type 0 where
  pub params : Data
  pub means : meaning body ≡ Ok (notification (codes "$/cancelRequest") (Some params))
  pub names : cancelled_id (Some params) ≡ Some id

-- which requests it marks
marks : {body : List ℕ} {id : Id} → (cancel : IsCancelOf body id) (asked : Asked) (b : Bool) → same_id id asked.id ≡ b → cancels (codes "$/cancelRequest") (Some cancel.params) asked ≡ b
marks cancel asked b same = ap (λ i. has_this_id i asked) cancel.names ∙ same

-- it ends nothing
goes_on : {body : List ℕ} {id : Id} → IsCancelOf body id → (closed : Bool) → exit_status (meaning body) closed ≡ None
goes_on cancel closed = ap (λ m. exit_status m closed) cancel.means

-- nothing is claimed of the builds that were answered
abbrev AnyBuilds : List Told → Type 0
AnyBuilds builds = Unit {0}

-- of each document the list that the build finds is shown, or the one that was shown as it was handed its documents
abbrev pub ShowsEach : Given → Table → Type 0
ShowsEach g table = All (λ document. ShowsFound g.active table document ⊎ ShowsSame table g.table document) g.documents

-- so it is before anything is published
pub shows_old : (g : Given) (table : Table) → table ≡ g.table → ShowsEach g table
shows_old g table same k d h = inr (ap (λ t. t (get_or g.documents k d).key.document (get_or g.documents k d).key.target) same)

-- and where the list of one document was
pub shows_new : (g : Given) (table : Table) (before rest : List BuildDocument) (document : BuildDocument) → g.documents ≡ before ++ document ∷ rest → ShowsFound g.active table document
    → All (ShowsSame table g.table) before → All (ShowsSame table g.table) rest → ShowsEach g table
shows_new g table before rest document are found first last =
    subst (All (λ d. ShowsFound g.active table d ⊎ ShowsSame table g.table d)) (sym are)
    (All-append (λ d. ShowsFound g.active table d ⊎ ShowsSame table g.table d) before (document ∷ rest) (λ k d h. inr (first k d h))
    (All-cons (λ d. ShowsFound g.active table d ⊎ ShowsSame table g.table d) document rest (inl found) (λ k d h. inr (last k d h))))

module _ (past : List Event) (lawful : EachAllowed past) (g : Given) (id : Id) (number : ℕ) (targets : List BuildTargetIdentifier) (origin : Option (List ℕ))
    (open_is : (after past).requests ≡ working_on g false ∷ asking_for id number (queued (to_build targets origin)) ∷ []) (apart : same_id id g.active.id ≡ false)
    (by_build : IsGivenBy g.active (after past) g) (told : List Said) (told_is : (after past).notices ≡ told) (one : HasOneOut g told)
    (shown_each : ShowsEach g (after past).table) (nulls_is : (after past).nulls ≡ []) (status_is : (after past).status ≡ None)
    (first second : List ℕ) (cancels_first : IsCancelOf first g.active.id) (cancels_second : IsCancelOf second id)
    (framed : All IsFramed (gives_up g)) (framed_first : IsFramed (answered_cancelled g)) (framed_second : IsFramed (cancelled_said id origin)) where
  abbrev waits : Asked
  waits = asking_for id number (queued (to_build targets origin))

  -- the order behind each step
  abbrev second_taken : List Event
  second_taken = take second ∷ past

  abbrev second_answered : List Event
  second_answered = write (cancelled_said id origin) ∷ second_taken

  abbrev first_taken : List Event
  first_taken = take first ∷ second_answered

  abbrev gave_up : List Event
  gave_up = onto (gives_up g) first_taken

  abbrev all_answered : List Event
  all_answered = write (answered_cancelled g) ∷ gave_up

  -- what the session is beside what is open
  abbrev plain : Plain
  plain = plain_now (after past)

  abbrev plain_second : Plain
  plain_second = record plain { taken = suc plain.taken; status = exit_status (meaning second) plain.closed }

  abbrev plain_first : Plain
  plain_first = record plain_second { taken = suc plain_second.taken; status = exit_status (meaning first) plain_second.closed }

  abbrev plain_given_up : Plain
  plain_given_up = record plain_first { table = table_behind (gives_up g) plain.table }

  -- what is open
  abbrev both : Open
  both = record { first = working g false; waiting = waits ∷ []; last = []; nulls = [] }

  abbrev second_marked : Open
  second_marked = record { first = working g false; waiting = record waits { cancelled = true } ∷ []; last = []; nulls = [] }

  abbrev first_alone : Open
  first_alone = record { first = working g false; waiting = []; last = []; nulls = [] }

  abbrev first_marked : Open
  first_marked = record { first = working g true; waiting = []; last = []; nulls = [] }

  abbrev nothing : Open
  nothing = record { first = none; waiting = []; last = []; nulls = [] }

  -- ---- at the start

  at_start : Mid plain AnyBuilds both past
  at_start =
      record {
        each = lawful;
        plain_is = refl;
        open_is = record {
          head = working_on g false ∷ [];
          first_is = (refl, by_build);
          requests_are = open_is;
          waits = All-cons IsWaiting waits [] (record { call = to_build targets origin; is = refl }) (All-nil IsWaiting);
          apart =
              subst (AllPairs IsLater) (sym open_is)
              (AllPairs-cons IsLater (working_on g false) (waits ∷ []) (All-cons (IsLater (working_on g false)) waits [] apart (All-nil (IsLater (working_on g false))))
              (AllPairs-cons IsLater waits [] (All-nil (IsLater waits)) (λ i j d h k. absurd (omega (arith, h, k)))));
          nulls_are = nulls_is;
        };
        builds_are = tt;
      }

  -- ---- the second is cancelled

  took_second : Mid plain_second AnyBuilds second_marked second_taken
  took_second =
      mid_took plain AnyBuilds both past at_start
      (record {
        up = tt;
        go = record { one = tt; first = refl; waiting = All-cons IsUnmarked waits [] refl (All-nil IsUnmarked); last = All-nil IsUnmarked };
        last = refl;
        nulls = refl;
        started = subst (λ ms. ms ≢ []) (sym told_is) (starts_told one.course);
        behind = tt;
        goes_on = status_is;
      })
      second second_marked
      (subst (λ o. IsOpen o (by_event (take second) (after past)))
      (λ i. record {
        first = working g (marks cancels_second (working_on g false) false apart i);
        waiting = record waits { cancelled = marks cancels_second waits true (same_id_refl id) i && true } ∷ [];
        last = [];
        nulls = [];
      })
      (took_note both (after past) at_start.open_is tt refl refl second (codes "$/cancelRequest") (Some cancels_second.params) cancels_second.means))

  -- ---- it is answered

  answered_second : Mid plain_second AnyBuilds first_alone second_answered
  answered_second =
      mid_cancelled plain_second AnyBuilds second_marked second_taken took_second [] [] (record waits { cancelled = true }) refl (to_build targets origin) refl refl (All-nil IsUnmarked) refl framed_second

  -- what was told stands as it was
  told_still : (after second_answered).notices ≡ told
  unfolding cancelled_said
  told_still = append-nil (after past).notices ∙ told_is

  table_still : (after second_answered).table ≡ (after past).table
  unfolding cancelled_said
  table_still = refl

  -- ---- the first is cancelled

  took_first : Mid plain_first AnyBuilds first_marked first_taken
  took_first =
      mid_took plain_second AnyBuilds first_alone second_answered answered_second
      (record {
        up = tt;
        go = record { one = tt; first = refl; waiting = All-nil IsUnmarked; last = All-nil IsUnmarked };
        last = refl;
        nulls = refl;
        started = subst (λ ms. ms ≢ []) (sym told_still) (starts_told one.course);
        behind = tt;
        goes_on = goes_on cancels_second (after past).closed;
      })
      first first_marked
      (subst (λ o. IsOpen o (by_event (take first) (after second_answered)))
      (λ i. record { first = working g (marks cancels_first (working_on g false) true (same_id_refl g.active.id) i); waiting = []; last = []; nulls = [] })
      (took_note first_alone (after second_answered) answered_second.open_is tt refl refl first (codes "$/cancelRequest")
      (Some cancels_first.params) cancels_first.means))

  -- ---- it gives up

  by_these : IsCancelledBy g told (gives_up g)
  by_these = by g told by_build.are one

  notices : All IsNotice (gives_up g)
  unfolding finish_said
  notices =
      All-cons IsNotice (check_gives_up g) (target_gives_up g ∷ build_gives_up g ∷ []) refl
      (All-cons IsNotice (target_gives_up g) (build_gives_up g ∷ []) refl
      (All-cons IsNotice (build_gives_up g) [] refl (All-nil IsNotice)))

  gave : Mid plain_given_up AnyBuilds first_marked gave_up
  gave = mid_cancels plain_first AnyBuilds first_marked first_taken took_first g refl told (gives_up g) told_still by_these framed notices

  told_all : (after gave_up).notices ≡ told ++ (gives_up g)
  told_all = ap (λ (now : Now). now.notices) (all_noticed (gives_up g) first_taken notices) ∙ ap (λ ms. ms ++ (gives_up g)) told_still

  -- ---- it is answered

  -- none of these messages changes what a client shows
  shown_still : table_behind (gives_up g) (after past).table ≡ (after past).table
  shown_still = tasks_show_nothing (gives_up g) (after past).table (λ k d h. (all_of_cancel by_these k d h).tells)

  shows : ShowsEither g.active g.table (table_behind (gives_up g) (after past).table)
  shows =
      record {
        documents = g.documents;
        of_build = by_build.are.documents;
        each = subst (ShowsEach g) (sym shown_still) shown_each;
      }

  answered_first : Mid plain_given_up AnyBuilds nothing all_answered
  answered_first =
      mid_answers_cancelled plain_given_up AnyBuilds first_marked gave_up gave g refl told (gives_up g) told_all by_these shows framed_first AnyBuilds (λ any. any)

  -- Each of these steps is allowed, in this order.
  pub both_are_cancelled : Lawful all_answered
  both_are_cancelled = record { each = answered_first.each }

  -- And behind them no request is open.
  pub none_is_left : (after all_answered).requests ≡ []
  none_is_left = answered_first.open_is.requests_are ∙ ap (λ head. head ++ []) answered_first.open_is.first_is
