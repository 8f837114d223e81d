-- The active build tells and is answered, or it is cancelled: what is allowed, and what is open behind it.
use Rattle.std.proofs.Common.{◌≡◌, ◌++◌, ◌||◌, ℕ, List, [], ◌∷◌, Bool, true, false, All, Option, Some, None, refl, ap, sym, ◌∙◌, subst, append-nil}
use Rattle.std.specs.Prelude.{is_some, if◌then◌else◌}
use Rattle.std.specs.List.{list_any}
use Rattle.std.proofs.lemmas.List.Elements.{All-nil}
use Rattle.bsp_records.specs.Results.{compile_result_data}
use Rattle.bsp_records.specs.declared.results.StatusCode.TheVariants as statuses
use Rattle.rpc_peer.specs.declared.message.Id.{Id}
use Rattle.rpc_peer.specs.OpenIds.{same_id}
use Rattle.rpc_peer.specs.Said.{Said, result}
use Rattle.serde_json.specs.Data.{Data}
use Rattle.session_law.proofs.MoveLaws.{Keeps, same_first}
use Rattle.session_law.proofs.OpenLaws.{GoOn, all_queued, apart_without, is_active, marked_first, unmarked}
use Rattle.session_law.proofs.RequestLaws.{HasOther, none_at_once, same_id_refl}
use Rattle.session_law.proofs.WriteLaws.{IsFree, allowed_build, allowed_cancelled, left_open, owed_first, owed_open}
use Rattle.session_law.proofs.WrittenLaws.{IsNotice, PublishesOf, StartsAnew, Works, all_cancelled, all_noticed, all_told, noticed}
use Rattle.session_law.specs.Builds.{CleanBuild, Finding, Shows, build_said, build_status, cancelled_said, has_error}
use Rattle.session_law.specs.Cancelling.{IsCancelledBy}
use Rattle.session_law.specs.Course.{Given, HasEnded, Tells}
use Rattle.session_law.specs.History.{Told}
use Rattle.session_law.specs.IsFramed.{IsFramed}
use Rattle.session_law.specs.Lawful.{EachAllowed, WriteAllowed}
use Rattle.session_law.specs.Methods.{built, Build}
use Rattle.session_law.specs.Open.{AreApart, IsFirst, IsOpen, IsUp, Open, none, working, working_on}
use Rattle.session_law.specs.Order.{Event, onto, write}
use Rattle.session_law.specs.Past.{Now, after, builds_by, by_event, cleaned_by, granted_in, standing}
use Rattle.session_law.specs.RefusesExactly.{IsGranted}
use Rattle.session_law.specs.Requests.{Active, Asked, active_of, first_up, is_open, owed_to}
use Rattle.session_law.specs.ShowsCleanBuild.{ShowsAll}
use Rattle.session_law.specs.ShowsOldOrNew.{ShowsEither}
use Rattle.session_law.specs.TasksInOrder.{HasToldAll, IsGivenBy}

abbrev pub build_answer : Id → Build → List Finding → Said
build_answer id build findings = build_said id build.origin (list_any has_error findings)

-- notifications leave open what is open
pub noticed_open : (o : Open) (now : Now) (messages : List Said) → IsOpen o now → IsOpen o (noticed messages now)
noticed_open o now messages is =
    record {
      head = is.head;
      first_is = same_first o.first now (noticed messages now) is.head (record { force = refl; builds = refl; table = refl }) is.first_is;
      requests_are = is.requests_are;
      waits = is.waits;
      apart = is.apart;
      nulls_are = is.nulls_are;
    }

-- what holds once these messages were written
pub record Wrote (o : Open) (messages : List Said) (order : List Event) : Type 0 where
  pub each : EachAllowed (onto messages order)
  pub is : IsOpen o (after (onto messages order))
  pub now_is : after (onto messages order) ≡ noticed messages (after order)

wrote : (o : Open) (messages : List Said) (order : List Event) → IsOpen o (after order) → All IsNotice messages → EachAllowed (onto messages order) → Wrote o messages order
wrote o messages order is notices each =
    let same = all_noticed messages order notices in
    record { each = each; is = subst (IsOpen o) (sym same) (noticed_open o (after order) messages is); now_is = same }

module _ (o : Open) (now : Now) (is : IsOpen o now) (g : Given) (marked : Bool) (first : o.first ≡ working g marked) where
  abbrev one : Asked
  one = working_on g marked

  abbrev behind : List Asked
  behind = o.waiting ++ o.last

  pub first_so : IsFirst (working g marked) now is.head
  first_so = subst (λ f. IsFirst f now is.head) first is.first_is

  at_head : now.requests ≡ one ∷ behind
  at_head = is.requests_are ∙ ap (λ h. h ++ behind) first_so.0

  none_before : All (HasOther g.active.id) []
  none_before = All-nil (HasOther g.active.id)

  pub works : Works g.active g now
  works = record { is_active = is_active o now g marked is first; by_build = first_so.1 }

  there : is_open g.active.id now.requests ≡ true
  there = ap is_some (owed_open now [] behind one at_head none_before)

  -- what is open behind its answer, and which builds were answered
  pub answered : (value : Data) → IsOpen (record o { first = none }) (by_event (write (result (Some g.active.id) value)) now)
  answered value =
      let requests = left_open now [] behind one at_head none_before in
      record {
        head = [];
        first_is = refl;
        requests_are = requests;
        waits = is.waits;
        apart = subst AreApart (sym requests) (apart_without [] behind one (subst AreApart at_head is.apart));
        nulls_are = is.nulls_are;
      }

  pub granted_answered : (value : Data) → granted_in (result (Some g.active.id) value) now ≡ Some (built g.active.build g.active.entries)
  granted_answered value = ap (λ requests. owed_to g.active.id (first_up now.force requests)) at_head ∙ owed_first now.force behind one

  pub builds_answered : (value : Data) → (by_event (write (result (Some g.active.id) value)) now).builds
      ≡ record { active = g.active; notices = now.notices; cleaned = [] } ∷ now.builds
  builds_answered value =
      let m = result (Some g.active.id) value in
      let own : Told = record { active = g.active; notices = now.notices; cleaned = [] } in
      ap (λ w. cleaned_by w (builds_by m (active_of now.requests) now.notices now.builds)) (granted_answered value)
      ∙ (ap (λ a. builds_by m a now.notices now.builds) works.is_active
      ∙ ap (λ same. if same then own ∷ now.builds else now.builds) (same_id_refl g.active.id))

  granted : (value : Data) → IsGranted (owed_to g.active.id (standing now)) value
  granted value = subst (λ v. IsGranted v value) (sym (granted_answered value)) tt

-- ---- the build goes on

-- nothing is owed at once beside it
free_beside : (o : Open) (now : Now) (is : IsOpen o now) (g : Given) (marked : Bool) → o.first ≡ working g marked → o.last ≡ [] → o.nulls ≡ [] → IsFree now
free_beside o now is g marked first last nulls = record { requests = none_at_once now.requests (all_queued o now is (subst IsUp (sym first) tt) last); nulls = is.nulls_are ∙ nulls }

-- it tells these messages behind those that it told
pub build_tells : (o : Open) (order : List Event) (is : IsOpen o (after order)) (g : Given) → o.first ≡ working g false → o.last ≡ [] → o.nulls ≡ [] → GoOn o → EachAllowed order
    → (told own : List Said) → (after order).notices ≡ told → StartsAnew own → Tells g (told ++ own) → PublishesOf g (told ++ own) → All IsFramed own → All IsNotice own → Wrote o own order
build_tells o order is g first last nulls go each told own since starts tells publishes framed notices =
    wrote o own order is notices
    (all_told g.active g (told ++ own) tells publishes own order told each (works o (after order) is g false first) (free_beside o (after order) is g false first last nulls) (unmarked o (after order) is go) since starts framed notices refl)

-- it is answered once it told all
pub build_answers : (o : Open) (now : Now) (is : IsOpen o now) (g : Given) → o.first ≡ working g false → o.last ≡ [] → o.nulls ≡ [] → GoOn o → (ended : HasEnded g now.notices)
    → All (Shows now.table) ended.findings → IsFramed (build_answer g.active.id g.active.build ended.findings) → WriteAllowed now (build_answer g.active.id g.active.build ended.findings)
unfolding build_said
build_answers o now is g first last nulls go ended shows framed =
    let value = compile_result_data (record { origin_id = g.active.build.origin; status_code = build_status (list_any has_error ended.findings) }) in
    allowed_build now g.active (is_active o now g false is first) (free_beside o now is g false first last nulls) (unmarked o now is go) value (there o now is g false first) (granted o now is g false first value)
    (record { findings = ended.findings; clean = ended.clean; value_is = refl })
    (record { findings = ended.findings; clean = ended.clean; shows = shows })
    (record { given = g; by_build = (works o now is g false first).by_build; ended = ended })
    framed

-- ---- the build is cancelled

pub build_cancels : (o : Open) (order : List Event) (is : IsOpen o (after order)) (g : Given) → o.first ≡ working g true → EachAllowed order
    → (told cancels : List Said) → (after order).notices ≡ told → IsCancelledBy g told cancels → All IsFramed cancels → All IsNotice cancels → Wrote o cancels order
build_cancels o order is g first each told cancels since by framed notices =
    wrote o cancels order is notices
    (all_cancelled g.active g told cancels by (working_on g true) refl cancels order [] each (works o (after order) is g true first) (marked_first o (after order) g is first)
    (since ∙ sym (append-nil told)) framed notices refl)

pub build_cancelled : (o : Open) (now : Now) (is : IsOpen o now) (g : Given) → o.first ≡ working g true → (told cancels : List Said) → now.notices ≡ told ++ cancels
    → IsCancelledBy g told cancels → ShowsEither g.active now.table_at_hand now.table → IsFramed (cancelled_said g.active.id g.active.build.origin)
    → WriteAllowed now (cancelled_said g.active.id g.active.build.origin)
unfolding cancelled_said
build_cancelled o now is g first told cancels since by shows framed =
    allowed_cancelled now g.active (is_active o now g true is first) (working_on g true) (marked_first o now g is first)
    (compile_result_data (record { origin_id = g.active.build.origin; status_code = statuses.Cancelled }))
    (there o now is g true first)
    (record { given = g; by_build = (works o now is g true first).by_build; course = told; cancels = cancels; told = since; all = by }, refl)
    shows framed
