-- The build at the head began, by what the tree handed out.
use Rattle.std.proofs.Common.{◌≡◌, ◌++◌, ℕ, List, [], ◌∷◌, map, Bool, false, All, Option, Some, None, refl, ap, sym, ◌∙◌, subst}
use Rattle.std.specs.Prelude.{IfSome}
use Rattle.std.proofs.lemmas.List.Elements.{All-nil}
use Rattle.bsp_records.specs.Table.{Table}
use Rattle.ob_text.specs.Held.{Entries}
use Rattle.rpc_peer.specs.Said.{IsId, Said}
use Rattle.session_build.specs.AtWork.{IsAtWork, IsBegun, IsWith}
use Rattle.session_build.specs.Building.{IsBuilt}
use Rattle.session_build.specs.Documents.{requested}
use Rattle.build_messages.specs.Outgoing.{outgoing_said}
use Rattle.session_build.specs.Remembering.{Remembers}
use Rattle.session_build.specs.declared.building.Went.{Went}
use Rattle.build_messages.specs.declared.outgoing.Outgoing.{Outgoing}
use Rattle.session_build.specs.declared.building.Build.{Build}
use Rattle.session_build.specs.declared.building.Remains.{Remains}
use Rattle.session_build.specs.declared.building.Went.TheVariants.{On, Ended}
use Rattle.session_core.proofs.Built.{ends_on, tells_on}
use Rattle.session_verdicts.proofs.Framing.{framed_build}
use Rattle.session_core.proofs.Handed.{owed_building, some_same, wants_building}
use Rattle.session_core.specs.Acting.{Acts}
use Rattle.session_core.specs.Building.{BeginsBy, request_for}
use Rattle.session_core.specs.Handing.{HasWent, built_head}
use Rattle.session_core.specs.Moving.{IsUnmarked, with_first}
use Rattle.session_verdicts.specs.Plans.{Plan, build_in}
use Rattle.session_core.specs.Settled.{IsPlannedIn, PhaseWants}
use Rattle.session_core.specs.Standing.{HeadFits, IsQuiet, Recalls, RemembersIn, Whole}
use Rattle.session_core.specs.State.{plain_of, said_out, waiting_of}
use Rattle.session_core.specs.declared.head.Head.{Head}
use Rattle.session_core.specs.declared.head.Phase.TheVariants as phases
use Rattle.session_core.specs.declared.session.Core.{Core}
use Rattle.session_law.proofs.AnewLaws.{course_anew, ended_anew}
use Rattle.session_law.proofs.CoursePublishes.{course_publishes, ended_publishes}
use Rattle.session_law.proofs.MidLaws.{mid_works}
use Rattle.session_core.proofs.Moving.{onto-push}
use Rattle.session_law.proofs.OpenLaws.{GoOn}
use Rattle.session_law.proofs.WrittenLaws.{all_noticed}
use Rattle.session_law.specs.Builds.{build_said, table_behind}
use Rattle.session_law.specs.IsFramed.{IsFramed}
use Rattle.session_law.specs.Course.{AreGiven, Given, Tells}
use Rattle.session_law.specs.Lawful.{AreHeld}
use Rattle.session_law.specs.Methods.{building}
use Rattle.session_law.specs.Open.{Mid, Open, none, owing, working}
use Rattle.session_law.specs.Order.{Event, hand, onto, write}
use Rattle.session_law.specs.Past.{Now, after}
use Rattle.session_law.specs.Requests.{Active}
use Rattle.target_graph.specs.Workspace.{Space}
use Rattle.task_stream.specs.Showing.{shows}
use Rattle.session_law.proofs.WorkLaws.{build_answer}

module _ (old new : Core) (head : Head) (is : old.head ≡ Some head) (quiet : IsQuiet old) (goes : All IsUnmarked (waiting_of old))
    (handed : Option Entries) (paths : List (List ℕ)) (held : IfSome handed (AreHeld paths)) (plan : Plan) (phase : head.phase ≡ phases.Planned plan) (planned : IsPlannedIn old.workspace plan)
    (wanted : PhaseWants head.phase paths) (entries : Entries) (handed_is : handed ≡ Some entries) (begins : BeginsBy (record old { head = None }) new head.id head.number plan entries)
    (named : IsId head.id) where
  abbrev space : Space
  space = planned.space

  space_is : begins.space ≡ space
  space_is = some_same (sym begins.in_force ∙ planned.in_force)

  abbrev active : Active
  active = record { id = head.id; number = head.number; build = build_in space plan; entries = entries }

  -- what the core is behind the hand, with nothing written yet
  module _ (order : List Event) (whole : Whole old [] [] order) where
    abbrev o : Open
    o = with_first old whole.first [] []

    abbrev now : Now
    now = after order

    onto_is : (later : List Event) → onto (said_out old) later ≡ later
    onto_is later = ap (λ (items : List Outgoing). onto (map outgoing_said items) later) quiet

    mid : Mid (plain_of old) (Recalls old) o order
    mid = subst (Mid (plain_of old) (Recalls old) o) (onto_is order) whole.mid

    first_is : whole.first ≡ owing head.id head.number (building (build_in space plan))
    first_is =
        owed_building old head plan phase space planned.in_force (after (onto (said_out old) order)) whole.first
        (subst (λ (h : Option Head). HeadFits old h (after (onto (said_out old) order)) whole.first) is whole.fits).1

    remembers : Remembers space now.builds old.kept
    remembers = subst (λ f. RemembersIn f old.kept now.builds) planned.in_force mid.builds_are

    begun : IsBegun active now.builds (shows old.shown) begins.went begins.begun.own (shows new.shown) new.kept
    begun =
        subst (λ s. Remembers s now.builds old.kept → IsBegun (requested s (request_for head.number plan) entries head.id) now.builds (shows old.shown) begins.went begins.begun.own (shows new.shown) new.kept)
        space_is (begins.begun.begins head.id now.builds) remembers

    -- it is on this course
    works : (g : Given) → AreGiven g → g.active ≡ active → g.earlier ≡ now.builds → g.table ≡ shows old.shown
        → Mid (plain_of old) (Recalls old) (record o { first = working g false }) (hand handed ∷ order)
    works g are active_is earlier_is table_is =
        mid_works (plain_of old) (Recalls old) o order mid head.id head.number (building (build_in space plan)) first_is refl refl handed paths (wants_building old head plan phase space planned.in_force paths planned.within wanted) held
        (build_in space plan) entries handed_is g refl are active_is earlier_is table_is

    go : (g : Given) → GoOn (record o { first = working g false })
    go g = record { one = tt; first = refl; waiting = goes; last = All-nil IsUnmarked }

    said_is : (messages : List Said) → said_out new ≡ said_out old ++ messages → onto (said_out new) (hand handed ∷ order) ≡ onto messages (hand handed ∷ order)
    said_is messages said = ap (λ ms. onto ms (hand handed ∷ order)) (said ∙ ap (λ (items : List Outgoing). map outgoing_said items ++ messages) quiet)

    told_is : begins.told ≡ begins.begun.own
    told_is = begins.begun.tells.are

    abbrev past : List Event
    past = hand handed ∷ order

    -- it waits for its checks
    module _ (b : Build) (went_is : begins.went ≡ On b) where
      abbrev g : Given
      g = begun.given

      it : IsWith g (On b) begins.begun.own (shows new.shown) new.kept
      it = subst (λ w. IsWith g w begins.begun.own (shows new.shown) new.kept) went_is begun.goes

      abbrev goes_so : HasWent (record old { head = None; kept = new.kept; shown = new.shown; jobs = old.given }) new head.id head.number plan.origin (On b) begins.told
      goes_so = subst (λ w. HasWent (record old { head = None; kept = new.kept; shown = new.shown; jobs = old.given }) new head.id head.number plan.origin w begins.told) went_is begins.goes

      abbrev rested : Core
      rested = record old { head = Some (built_head head.id head.number b plan.origin); kept = new.kept; shown = new.shown; jobs = old.given; out = new.out }

      order_is : onto (said_out new) past ≡ onto begins.begun.own past
      order_is = said_is begins.told goes_so.1 ∙ ap (λ ms. onto ms past) told_is

      on_course : Mid (plain_of old) (Recalls old) (record o { first = working g false }) past
      on_course = works g begun.are begun.active_is begun.earlier_is begun.table_is

      told_mid : Mid (plain_of rested) (Recalls old) (record o { first = working g false }) (onto begins.begun.own past)
      told_mid =
          tells_on (plain_of old) (Recalls old) (record o { first = working g false }) past on_course refl refl (go g) g refl [] begins.begun.own refl (course_anew it.0.going.on.course) begins.begun.tells.framed begins.begun.tells.notices (shows new.shown)
          (λ document target. ap (λ (t : Table). t document target) (sym begun.table_is)) it.0.going.on.kept
          (Tells.settling it.0.going.stage it.0.going.on.course) (course_publishes begun.are it.0.going.on.course)

      notices_so : (after (onto begins.begun.own past)).notices ≡ begins.begun.own
      notices_so = ap (λ (n : Now). n.notices) (all_noticed begins.begun.own past begins.begun.tells.notices)

      builds_so : (after (onto begins.begun.own past)).builds ≡ now.builds
      builds_so = ap (λ (n : Now). n.builds) (all_noticed begins.begun.own past begins.begun.tells.notices)

      recalls : Recalls rested (after (onto begins.begun.own past)).builds
      recalls =
          subst (λ f. RemembersIn f new.kept (after (onto begins.begun.own past)).builds) (sym planned.in_force)
          (subst (λ bs. Remembers space bs new.kept) (sym (builds_so ∙ sym begun.earlier_is))
          (subst (λ (a : Active). Remembers a.build.space g.earlier new.kept) begun.active_is it.1))

      rested_whole : Whole rested [] [] past
      rested_whole =
          record {
            first = working g false;
            fits = (
              named,
              record {
                given = g;
                id_is = ap (λ (a : Active). a.id) begun.active_is;
                space_is = planned.in_force ∙ ap (λ (a : Active). Some a.build.space) (sym begun.active_is);
                origin_is = ap (λ (a : Active). a.build.origin) begun.active_is;
                is = refl;
                at_work =
                    subst (λ (ev : List Event). IsAtWork g b (after ev).notices new.kept.keys (shows new.shown)) (sym order_is)
                    (subst (λ ns. IsAtWork g b ns new.kept.keys (shows new.shown)) (sym notices_so) it.0);
              },
            );
            mid =
                subst (λ (ev : List Event). Mid (plain_of rested) (Recalls rested) (record { first = working g false; waiting = waiting_of old; last = []; nulls = [] }) ev) (sym order_is)
                (record { each = told_mid.each; plain_is = told_mid.plain_is; open_is = told_mid.open_is; builds_are = recalls });
          }

      waits_whole : Whole new [] [] past
      waits_whole = subst (λ (core : Core). Whole core [] [] past) (sym goes_so.0) rested_whole

    -- it told all
    module _ (failed : Bool) (remains : Remains) (went_is : begins.went ≡ Ended failed remains) where
      ends : IsBuilt begun.given.active begun.given.earlier begun.given.table (shows new.shown) new.kept begins.begun.own failed
      ends = subst (λ w. IsWith begun.given w begins.begun.own (shows new.shown) new.kept) went_is begun.goes

      abbrev of : Given
      of = ends.given

      active_so : of.active ≡ active
      active_so = ends.active_is ∙ begun.active_is

      earlier_so : of.earlier ≡ now.builds
      earlier_so = ends.earlier_is ∙ begun.earlier_is

      table_so : of.table ≡ shows old.shown
      table_so = ends.table_is ∙ begun.table_is

      ends_so : HasWent (record old { head = None; kept = new.kept; shown = new.shown; jobs = old.given }) new head.id head.number plan.origin (Ended failed remains) begins.told
      ends_so = subst (λ w. HasWent (record old { head = None; kept = new.kept; shown = new.shown; jobs = old.given }) new head.id head.number plan.origin w begins.told) went_is begins.goes

      abbrev answered : Core
      answered = record old { head = None; kept = new.kept; shown = new.shown; jobs = old.given; out = new.out; remains = new.remains }

      answer_is : build_answer of.active.id of.active.build ends.ended.findings ≡ build_said head.id plan.origin failed
      answer_is = λ i. build_said (active_so i).id (active_so i).build.origin (sym ends.failed_is i)

      written_is : onto (said_out new) past ≡ write (build_said head.id plan.origin failed) ∷ onto begins.begun.own past
      written_is =
          said_is (begins.told ++ build_said head.id plan.origin failed ∷ []) ends_so.1
          ∙ (ap (λ ms. onto (ms ++ build_said head.id plan.origin failed ∷ []) past) told_is ∙ onto-push begins.begun.own (build_said head.id plan.origin failed) past)

      keeps : Recalls old now.builds → RemembersIn old.workspace new.kept (record { active = of.active; notices = begins.begun.own; cleaned = [] } ∷ now.builds)
      keeps known =
          subst (λ f. RemembersIn f new.kept (record { active = of.active; notices = begins.begun.own; cleaned = [] } ∷ now.builds)) (sym planned.in_force)
          (subst (λ bs. Remembers space (record { active = of.active; notices = begins.begun.own; cleaned = [] } ∷ bs) new.kept) begun.earlier_is
          (subst (λ (a : Active). Remembers space (record { active = a; notices = begins.begun.own; cleaned = [] } ∷ begun.given.earlier) new.kept) (sym ends.active_is)
          (subst (λ (a : Active). Remembers a.build.space (record { active = begun.given.active; notices = begins.begun.own; cleaned = [] } ∷ begun.given.earlier) new.kept) begun.active_is ends.remembers)))

      ended_mid : Mid (plain_of answered) (Recalls answered) (record o { first = none }) (write (build_answer of.active.id of.active.build ends.ended.findings) ∷ onto begins.begun.own past)
      ended_mid =
          ends_on (plain_of old) (Recalls old) (record o { first = working of false }) past (works of ends.are active_so earlier_so table_so) refl refl (go of) of refl [] begins.begun.own refl (ended_anew ends.ended)
          begins.begun.tells.framed begins.begun.tells.notices (shows new.shown) (λ document target. ap (λ (t : Table). t document target) (sym table_so))
          (λ document target. ends.shown document target ∙ ap (λ (t : Table). table_behind begins.begun.own t document target) (sym ends.table_is)) ends.ended (ended_publishes ends.are ends.ended) ends.shows
          (subst IsFramed (sym answer_is) (framed_build head.id plan.origin failed named begins.short)) (Recalls answered) keeps

      answered_whole : Whole answered [] [] past
      answered_whole =
          record {
            first = none;
            fits = refl;
            mid =
                subst (λ (ev : List Event). Mid (plain_of answered) (Recalls answered) (record { first = none; waiting = waiting_of old; last = []; nulls = [] }) ev) (sym written_is)
                (subst (λ m. Mid (plain_of answered) (Recalls answered) (record o { first = none }) (write m ∷ onto begins.begun.own past)) answer_is ended_mid);
          }

      ends_whole : Whole new [] [] past
      ends_whole = subst (λ (core : Core). Whole core [] [] past) (sym ends_so.0) answered_whole

    by_went : (went : Went) → begins.went ≡ went → Whole new [] [] (hand handed ∷ order)
    by_went (On b) went_is = waits_whole b went_is
    by_went (Ended failed remains) went_is = ends_whole failed remains went_is

  pub begins_hand : Acts old new (hand handed)
  begins_hand order whole = by_went order whole begins.went refl
