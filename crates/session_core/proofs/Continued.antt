-- The build at the head went on by the outcome of a check.
use Rattle.std.proofs.Common.{◌≡◌, ◌+◌, ◌-◌, ◌++◌, ℕ, suc, List, [], ◌∷◌, map, Bool, false, All, Option, Some, None, refl, ap, sym, ◌∙◌, subst, arith}
use Rattle.std.specs.Prelude.{IfSome}
use Rattle.std.proofs.lemmas.List.Elements.{All-nil}
use Rattle.bsp_records.specs.Limits.{origin_limit}
use Rattle.bsp_records.specs.Table.{Table}
use Rattle.json_shape.specs.Shapes.{IsTextWithin}
use Rattle.rpc_peer.specs.Said.{IsId, Said}
use Rattle.session_build.specs.AtWork.{IsAtWork, IsWith, Rests, Runs}
use Rattle.session_build.specs.Building.{IsBuilt}
use Rattle.build_messages.specs.Outgoing.{outgoing_said}
use Rattle.session_build.specs.Remembering.{Remembers}
use Rattle.session_build.specs.declared.building.Build.{Build}
use Rattle.session_build.specs.declared.building.Went.{Went}
use Rattle.session_build.specs.declared.building.Remains.{Remains}
use Rattle.session_build.specs.declared.building.Went.TheVariants.{On, Ended}
use Rattle.build_messages.specs.declared.outgoing.Outgoing.{Outgoing}
use Rattle.session_build.proofs.RestLaws.{work_is}
use Rattle.session_core.proofs.Built.{ends_on, tells_on}
use Rattle.session_verdicts.proofs.Framing.{framed_build}
use Rattle.session_core.proofs.Moving.{onto-push}
use Rattle.session_core.specs.Building.{GoesOnBy, TookBuild}
use Rattle.session_core.specs.Handing.{HasWent, built_head}
use Rattle.session_core.specs.Moving.{IsUnmarked, with_first}
use Rattle.session_core.specs.Settled.{IfBuilt, IsBack, IsJob, IsSettled, IsWorkOf}
use Rattle.session_core.specs.Standing.{HeadFits, HeadGoesOn, HeadRests, IsQuiet, IsWorking, Recalls, RemembersIn, Whole}
use Rattle.session_core.specs.State.{plain_of, rest_of, said_out, waiting_of}
use Rattle.session_core.specs.declared.head.Head.{Head}
use Rattle.session_core.specs.declared.head.Phase.TheVariants as phases
use Rattle.session_core.specs.declared.jobs.Awaiting.{Awaiting}
use Rattle.session_core.specs.declared.session.Core.{Core}
use Rattle.session_law.proofs.AnewLaws.{outcome_anew}
use Rattle.session_law.proofs.CoursePublishes.{course_publishes, ended_publishes}
use Rattle.session_law.proofs.OpenLaws.{GoOn}
use Rattle.session_law.proofs.WorkLaws.{first_so, build_answer}
use Rattle.session_law.proofs.WrittenLaws.{StartsAnew, all_noticed}
use Rattle.session_law.specs.Builds.{build_said, table_behind}
use Rattle.session_law.specs.Course.{Given, Tells}
use Rattle.session_law.specs.IsFramed.{IsFramed}
use Rattle.session_law.specs.Open.{IsFirst, IsOpen, Mid, Open, none, working}
use Rattle.session_law.specs.Order.{Event, onto, write}
use Rattle.session_law.specs.Past.{Now, after}
use Rattle.session_law.specs.Requests.{Active}
use Rattle.session_law.specs.TasksInOrder.{IsGivenBy}
use Rattle.task_stream.specs.Showing.{shows}
use Rattle.worker_pool.specs.Jobs.{CheckTree, JobTree, check_work}

-- the head is the build that this outcome is awaited for, and goes on
abbrev pub awaiting_head : Awaiting → Head
awaiting_head it = record { id = it.id; number = it.number; cancelled = false; phase = phases.Built it.build it.origin }

module _ (old new : Core) (it : Awaiting) (is : old.head ≡ Some (awaiting_head it)) (quiet : IsQuiet old) (goes : All IsUnmarked (waiting_of old)) (work : CheckTree)
    (of_check : IsWorkOf it.build it.check (check_work work)) (went_by : GoesOnBy (record old { head = None }) new it work) (short : IfSome it.origin (IsTextWithin origin_limit))
    (order : List Event) (whole : Whole old [] [] order) where
  abbrev o : Open
  o = with_first old whole.first [] []

  abbrev now : Now
  now = after order

  onto_is : (later : List Event) → onto (said_out old) later ≡ later
  onto_is later = ap (λ (items : List Outgoing). onto (map outgoing_said items) later) quiet

  mid : Mid (plain_of old) (Recalls old) o order
  mid = subst (Mid (plain_of old) (Recalls old) o) (onto_is order) whole.mid

  fits : IsId it.id × IsWorking old (awaiting_head it) it.build it.origin now whole.first
  fits =
      subst (λ (ev : List Event). HeadFits old (Some (awaiting_head it)) (after ev) whole.first) (onto_is order)
      (subst (λ (h : Option Head). HeadFits old h (after (onto (said_out old) order)) whole.first) is whole.fits)

  abbrev g : Given
  g = fits.1.given

  abbrev own : List Said
  own = went_by.gone.own

  at_work : IsAtWork g it.build now.notices old.kept.keys (shows old.shown)
  at_work = fits.1.at_work

  given_so : IsGivenBy g.active now g
  given_so = (first_so (record o { first = working g false }) now (subst (λ f. IsOpen (record o { first = f }) now) fits.1.is mid.open_is) g false refl).1

  known : Remembers g.active.build.space g.earlier old.kept
  known =
      subst (λ bs. Remembers g.active.build.space bs old.kept) (sym given_so.earlier_is)
      (subst (λ f. RemembersIn f old.kept now.builds) fits.1.space_is mid.builds_are)

  gone : IsWith g went_by.went (now.notices ++ own) (shows new.shown) new.kept
  gone = went_by.gone.goes g now.notices at_work known (work_is it.build it.check work of_check g now.notices old.kept.keys (shows old.shown) at_work)

  course : (f : Given) → IsFirst (working f false) now (mid.open_is).head → Mid (plain_of old) (Recalls old) (record o { first = working f false }) order
  course f first =
      record {
        each = mid.each;
        plain_is = mid.plain_is;
        open_is = record { head = mid.open_is.head; first_is = first; requests_are = mid.open_is.requests_are; waits = mid.open_is.waits; apart = mid.open_is.apart; nulls_are = mid.open_is.nulls_are };
        builds_are = mid.builds_are;
      }

  go : (f : Given) → GoOn (record o { first = working f false })
  go f = record { one = tt; first = refl; waiting = goes; last = All-nil IsUnmarked }

  first_here : IsFirst (working g false) now (mid.open_is).head
  first_here = subst (λ f. IsFirst f now (mid.open_is).head) fits.1.is mid.open_is.first_is

  told_is : went_by.told ≡ own
  told_is = went_by.gone.tells.are

  said_is : (messages : List Said) → said_out new ≡ said_out old ++ messages → onto (said_out new) order ≡ onto messages order
  said_is messages said = ap (λ ms. onto ms order) (said ∙ ap (λ (items : List Outgoing). map outgoing_said items ++ messages) quiet)

  -- what it tells goes on with no list
  anew : StartsAnew own
  anew = outcome_anew own went_by.gone.one

  shown_before : (document target : List ℕ) → shows old.shown document target ≡ table_behind now.notices g.table document target
  shown_before = at_work.going.on.kept

  notices_so : (after (onto own order)).notices ≡ now.notices ++ own
  notices_so = ap (λ (n : Now). n.notices) (all_noticed own order went_by.gone.tells.notices)

  builds_so : (after (onto own order)).builds ≡ now.builds
  builds_so = ap (λ (n : Now). n.builds) (all_noticed own order went_by.gone.tells.notices)

  -- it waits for its checks
  module _ (b : Build) (went_is : went_by.went ≡ On b) where
    on : IsAtWork g b (now.notices ++ own) new.kept.keys (shows new.shown) × Remembers g.active.build.space g.earlier new.kept
    on = subst (λ w. IsWith g w (now.notices ++ own) (shows new.shown) new.kept) went_is gone

    goes_so : HasWent (record old { head = None; kept = new.kept; shown = new.shown }) new it.id it.number it.origin (On b) went_by.told
    goes_so = subst (λ w. HasWent (record old { head = None; kept = new.kept; shown = new.shown }) new it.id it.number it.origin w went_by.told) went_is went_by.goes

    abbrev rested : Core
    rested = record old { head = Some (built_head it.id it.number b it.origin); kept = new.kept; shown = new.shown; out = new.out }

    order_is : onto (said_out new) order ≡ onto own order
    order_is = said_is went_by.told goes_so.1 ∙ ap (λ ms. onto ms order) told_is

    told_mid : Mid (plain_of rested) (Recalls old) (record o { first = working g false }) (onto own order)
    told_mid =
        tells_on (plain_of old) (Recalls old) (record o { first = working g false }) order (course g first_here) refl refl (go g) g refl now.notices own refl anew went_by.gone.tells.framed went_by.gone.tells.notices
        (shows new.shown) shown_before on.0.going.on.kept (Tells.settling on.0.going.stage on.0.going.on.course) (course_publishes given_so.are on.0.going.on.course)

    recalls : Recalls rested (after (onto own order)).builds
    recalls =
        subst (λ f. RemembersIn f new.kept (after (onto own order)).builds) (sym fits.1.space_is)
        (subst (λ bs. Remembers g.active.build.space bs new.kept) (given_so.earlier_is ∙ sym builds_so) on.1)

    rested_whole : Whole rested [] [] order
    rested_whole =
        record {
          first = working g false;
          fits = (
            fits.0,
            record {
              given = g;
              id_is = fits.1.id_is;
              space_is = fits.1.space_is;
              origin_is = fits.1.origin_is;
              is = refl;
              at_work =
                  subst (λ (ev : List Event). IsAtWork g b (after ev).notices new.kept.keys (shows new.shown)) (sym order_is)
                  (subst (λ ns. IsAtWork g b ns new.kept.keys (shows new.shown)) (sym notices_so) on.0);
            },
          );
          mid =
              subst (λ (ev : List Event). Mid (plain_of rested) (Recalls rested) (record { first = working g false; waiting = waiting_of old; last = []; nulls = [] }) ev) (sym order_is)
              (record { each = told_mid.each; plain_is = told_mid.plain_is; open_is = told_mid.open_is; builds_are = recalls });
        }

    waits_whole : Whole new [] [] order
    waits_whole = subst (λ (core : Core). Whole core [] [] order) (sym goes_so.0) rested_whole

  -- it told all
  module _ (failed : Bool) (remains : Remains) (went_is : went_by.went ≡ Ended failed remains) where
    ends : IsBuilt g.active g.earlier g.table (shows new.shown) new.kept (now.notices ++ own) failed
    ends = subst (λ w. IsWith g w (now.notices ++ own) (shows new.shown) new.kept) went_is gone

    abbrev of : Given
    of = ends.given

    first_of : IsFirst (working of false) now (mid.open_is).head
    first_of = (
      first_here.0 ∙ (λ i. record { id = (sym ends.active_is i).id; number = (sym ends.active_is i).number; verdict = Rattle.session_law.specs.Methods.built (sym ends.active_is i).build (sym ends.active_is i).entries; cancelled = false } ∷ []),
      record { are = ends.are; active_is = refl; earlier_is = ends.earlier_is ∙ given_so.earlier_is; table_is = ends.table_is ∙ given_so.table_is },
    )

    ends_so : HasWent (record old { head = None; kept = new.kept; shown = new.shown }) new it.id it.number it.origin (Ended failed remains) went_by.told
    ends_so = subst (λ w. HasWent (record old { head = None; kept = new.kept; shown = new.shown }) new it.id it.number it.origin w went_by.told) went_is went_by.goes

    abbrev answered : Core
    answered = record old { head = None; kept = new.kept; shown = new.shown; out = new.out; remains = new.remains }

    id_so : of.active.id ≡ it.id
    id_so = ap (λ (a : Active). a.id) ends.active_is ∙ fits.1.id_is

    origin_so : of.active.build.origin ≡ it.origin
    origin_so = ap (λ (a : Active). a.build.origin) ends.active_is ∙ fits.1.origin_is

    answer_is : build_answer of.active.id of.active.build ends.ended.findings ≡ build_said it.id it.origin failed
    answer_is = λ i. build_said (id_so i) (origin_so i) (sym ends.failed_is i)

    written_is : onto (said_out new) order ≡ write (build_said it.id it.origin failed) ∷ onto own order
    written_is =
        said_is (went_by.told ++ build_said it.id it.origin failed ∷ []) ends_so.1
        ∙ (ap (λ ms. onto (ms ++ build_said it.id it.origin failed ∷ []) order) told_is ∙ onto-push own (build_said it.id it.origin failed) order)

    keeps : Recalls old now.builds → RemembersIn old.workspace new.kept (record { active = of.active; notices = now.notices ++ own; cleaned = [] } ∷ now.builds)
    keeps before =
        subst (λ f. RemembersIn f new.kept (record { active = of.active; notices = now.notices ++ own; cleaned = [] } ∷ now.builds)) (sym fits.1.space_is)
        (subst (λ bs. Remembers g.active.build.space (record { active = of.active; notices = now.notices ++ own; cleaned = [] } ∷ bs) new.kept) given_so.earlier_is
        (subst (λ (a : Active). Remembers g.active.build.space (record { active = a; notices = now.notices ++ own; cleaned = [] } ∷ g.earlier) new.kept) (sym ends.active_is) ends.remembers))

    ended_mid : Mid (plain_of answered) (Recalls answered) (record o { first = none }) (write (build_answer of.active.id of.active.build ends.ended.findings) ∷ onto own order)
    ended_mid =
        ends_on (plain_of old) (Recalls old) (record o { first = working of false }) order (course of first_of) refl refl (go of) of refl now.notices own refl anew
        went_by.gone.tells.framed went_by.gone.tells.notices (shows new.shown) (λ document target. shown_before document target ∙ ap (λ (t : Table). table_behind now.notices t document target) (sym ends.table_is))
        (λ document target. ends.shown document target ∙ ap (λ (t : Table). table_behind (now.notices ++ own) t document target) (sym ends.table_is)) ends.ended (ended_publishes ends.are ends.ended) ends.shows
        (subst IsFramed (sym answer_is) (framed_build it.id it.origin failed fits.0 short)) (Recalls answered) keeps

    answered_whole : Whole answered [] [] order
    answered_whole =
        record {
          first = none;
          fits = refl;
          mid =
              subst (λ (ev : List Event). Mid (plain_of answered) (Recalls answered) (record { first = none; waiting = waiting_of old; last = []; nulls = [] }) ev) (sym written_is)
              (subst (λ m. Mid (plain_of answered) (Recalls answered) (record o { first = none }) (write m ∷ onto own order)) answer_is ended_mid);
        }

    ends_whole : Whole new [] [] order
    ends_whole = subst (λ (core : Core). Whole core [] [] order) (sym ends_so.0) answered_whole

  pub continued : Whole new [] [] order
  continued = by went_by.went refl
    where
      by : (went : Went) → went_by.went ≡ went → Whole new [] [] order
      by (On b) went_is = waits_whole b went_is
      by (Ended failed remains) went_is = ends_whole failed remains went_is

-- ---- the build was taken out at the head, for one of its jobs

module _ (old new : Core) (job : JobTree) (it : Awaiting) (took : TookBuild old new job.number it) (settled : IsSettled (rest_of old)) (back : IsBack (rest_of old) job) where
  as_head : Head
  as_head = record { id = it.id; number = it.number; cancelled = took.cancelled; phase = phases.Built it.build it.origin }

  pub was_head : old.head ≡ Some (awaiting_head it)
  was_head =
      let goes : took.cancelled ≡ false = subst (λ (h : Option Head). HeadGoesOn h) took.is settled.sound.goes_on in
      took.is ∙ (λ i. Some (record (awaiting_head it) { cancelled = goes i }))

  abbrev k : ℕ
  k = it.check - 1

  number_is : suc k ≡ it.check
  number_is = let some = took.some in omega (arith, some)

  at_is : job.number ≡ old.jobs + k
  at_is = let at = took.at in let some = took.some in omega (arith, at, some)

  is_job : IsJob it.build k job
  is_job = subst (λ (h : Option Head). IfBuilt h (λ b. (k : ℕ) → job.number ≡ old.jobs + k → IsJob b k job)) was_head back.right k at_is

  pub check_runs : (pair : ℕ) × Runs it.build it.check pair
  check_runs = (is_job.pair, subst (λ n. Runs it.build n is_job.pair) number_is is_job.runs)

  pub check_work_is : IsWorkOf it.build it.check job.work
  check_work_is = subst (λ n. IsWorkOf it.build n job.work) number_is is_job.work

  rested_head : HeadRests (Some (awaiting_head it))
  rested_head = subst (λ (h : Option Head). HeadRests h) was_head settled.sound.rests

  pub build_rests : Rests it.build
  build_rests = rested_head.1.0

  pub origin_short : IfSome it.origin (IsTextWithin origin_limit)
  origin_short = rested_head.1.1
