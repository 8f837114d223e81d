-- The law: behind each event of a lawful order, all that a client shows is of the workspace in force. Along the order it is also
-- so that what is shown is what was shown as the tree answered last, with what was told since.
use Rattle.std.proofs.Common.{◌≡◌, ◌≢◌, ◌++◌, ℕ, List, [], ◌∷◌, Bool, true, false, All, Option, Some, None, append-nil, refl, sym, ap, subst, ◌∙◌}
use Rattle.std.specs.Prelude.{if◌then◌else◌}
use Rattle.std.proofs.lemmas.List.Elements.{All-head, All-tail}
use Rattle.std.proofs.lemmas.List.Sums.{fold-append}
use Rattle.bsp_records.specs.Table.{Table}
use Rattle.bsp_records.specs.declared.diagnostics.DiagnosticRecord.{DiagnosticRecord}
use Rattle.ob_text.specs.declared.held.Held.{Held}
use Rattle.reload_rows.proofs.Clearing.{LeavesOrClears, reload_leaves, reload_own, was_shown}
use Rattle.reload_rows.proofs.Publishing.{next_own}
use Rattle.reload_rows.proofs.Standing.{Fits, FitsBehind, IsBehind, Stands, all_come_up, behind_anew, behind_without, handed_stands, marked_stands, opened_stands, without_stands}
use Rattle.reload_rows.specs.Own.{IsOwn, ShowsOwn}
use Rattle.rpc_peer.specs.Meaning.{meaning}
use Rattle.rpc_peer.specs.OpenIds.{same_id}
use Rattle.rpc_peer.specs.Said.{Said, request, notification, result, failure}
use Rattle.rpc_peer.specs.declared.message.Id.{Id}
use Rattle.serde_json.specs.Data.{Data}
use Rattle.session_law.proofs.CancelLaws.{cancels_other}
use Rattle.session_law.proofs.OpenLaws.{all_right}
use Rattle.session_law.proofs.PublishedLaws.{IsOther, other_shows}
use Rattle.session_law.proofs.WrittenLaws.{no_response}
use Rattle.session_law.specs.Builds.{cancelled_said, is_publication, shown_by, table_behind}
use Rattle.session_law.specs.CancelsForCause.{CancelsAs, refused_cancelled}
use Rattle.session_law.specs.If.{If}
use Rattle.session_law.specs.Lawful.{Allowed, EachAllowed, GoesOnOrCancels, Lawful, WriteAllowed}
use Rattle.session_law.specs.Methods.{Call, Found, Verdict, all_found, unknown_at, answering, asking, building, built, cleaning, closing, due_in, found_build, found_clean, found_from, opening, queued, refusal, reloading, rereading, to_build, to_clean, to_reload}
use Rattle.session_law.specs.Order.{Event, ends, hand, take, write}
use Rattle.session_law.specs.Past.{Now, after, by_event, force_by}
use Rattle.session_law.specs.PublishesInBuildsOnly.{ReloadsNext, TellsAs, TellsBy}
use Rattle.session_law.specs.Reloading.{Reloads, space_in}
use Rattle.session_law.specs.Requests.{Active, Asked, active_as, active_of, first_marked, first_up, owed_to, without}
use Rattle.session_law.specs.ShowsCleanBuild.{PublishesNext, ShowsFor}
use Rattle.target_graph.specs.Workspace.{Space}
use Rattle.task_stream.specs.declared.shown.TableKey.{TableKey}

-- what is so behind each event
pub record Keeps (now : Now) : Type 0 where
  pub own : ShowsOwn now.force now.table
  pub since : now.table ≡ table_behind now.notices now.table_at_hand
  pub stands : Stands now.force now.table_at_hand now.requests

-- ---- a notification

-- where a request is to be cancelled, nothing is published
cancels_publish_none : (asked : Asked) (v : Verdict) (now : Now) (method : List ℕ) (params : Option Data) → CancelsAs asked v now (notification method params)
    → IsOther (notification method params)
unfolding cancelled_said refused_cancelled
cancels_publish_none asked (built build entries) now method params owed =
    All-head IsOther (notification method params) owed.rest
    (all_right IsOther owed.before (notification method params ∷ owed.rest) (cancels_other owed.cancels))
cancels_publish_none asked (queued (to_build targets origin)) now method params owed = absurd (cc)
cancels_publish_none asked (queued to_reload) now method params owed = absurd (cc)
cancels_publish_none asked (queued (to_clean targets)) now method params owed = absurd (cc)
cancels_publish_none asked (building build) now method params owed = absurd (cc)
cancels_publish_none asked (rereading space) now method params owed = absurd (cc)
cancels_publish_none asked (asking root) now method params owed = absurd owed
cancels_publish_none asked (opening root file) now method params owed = absurd owed
cancels_publish_none asked (reloading space file) now method params owed = absurd owed
cancels_publish_none asked (cleaning space targets) now method params owed = absurd owed
cancels_publish_none asked (answering space question) now method params owed = absurd owed
cancels_publish_none asked closing now method params owed = absurd owed
cancels_publish_none asked (refusal code text) now method params owed = absurd owed

other_own : (force : Option Space) (m : Said) (table : Table) → IsOther m → ShowsOwn force table → ShowsOwn force (shown_by m table)
other_own force m table other own = subst (ShowsOwn force) (sym (other_shows m table other)) own

-- a build at the head
build_own : (now : Now) (active : Active) (marked : Option Asked) (method : List ℕ) (params : Option Data) → GoesOnOrCancels marked now (notification method params)
    → active_of now.requests ≡ Some active → now.force ≡ Some active.build.space → ShowsOwn now.force now.table → ShowsOwn now.force (shown_by (notification method params) now.table)
build_own now active (Some asked) method params owed at force own =
    other_own now.force (notification method params) now.table (cancels_publish_none asked asked.verdict now method params owed.for_cause) own
build_own now active None method params owed at force own = by (is_publication m) refl (subst (λ a. ShowsFor m a now) at owed.shows)
  where
    m : Said
    m = notification method params

    by : (b : Bool) → is_publication m ≡ b → If (is_publication m) (PublishesNext active now m) → ShowsOwn now.force (shown_by m now.table)
    by false other next = other_own now.force m now.table other own
    by true one next =
        let published : PublishesNext active now m = subst (λ b. If b (PublishesNext active now m)) one next in
        subst (λ f. ShowsOwn f (shown_by m now.table)) (sym force) (next_own active now m published now.table (subst (λ f. ShowsOwn f now.table) force own))

-- a reload at the head
next_leaves : (space : Space) (file : Held) (now : Now) (m : Said) → ReloadsNext space file now m → LeavesOrClears m
next_leaves space file now m next =
    All-head LeavesOrClears m next.rest (all_right LeavesOrClears now.notices (m ∷ next.rest) (subst (All LeavesOrClears) next.next (reload_leaves next.reloads)))

leaves_own : (force : Option Space) (m : Said) (table : Table) → LeavesOrClears m → ShowsOwn force table → ShowsOwn force (shown_by m table)
leaves_own force m table leaves own key shown = own key (was_shown m table key leaves shown)

head_own : (now : Now) (asked : Asked) (others : List Asked) (v : Verdict) (method : List ℕ) (params : Option Data) → now.requests ≡ asked ∷ others → asked.verdict ≡ v
    → Fits now.force now.table_at_hand v → TellsAs asked.id v now (notification method params) → GoesOnOrCancels (first_marked now.requests) now (notification method params)
    → ShowsOwn now.force now.table → ShowsOwn now.force (shown_by (notification method params) now.table)
head_own now asked others (built build entries) method params open_is is fits tells owed own =
    let active : Active = record { id = asked.id; number = asked.number; build = build; entries = entries } in
    build_own now active (first_marked now.requests) method params owed (ap active_of open_is ∙ ap (active_as asked) is) fits own
head_own now asked others (reloading space file) method params open_is is fits tells owed own =
    leaves_own now.force (notification method params) now.table (next_leaves space file now (notification method params) tells) own
head_own now asked others (queued call) method params open_is is fits tells owed own = no_response (notification method params) (sym tells)
head_own now asked others (asking root) method params open_is is fits tells owed own = no_response (notification method params) (sym tells)
head_own now asked others (opening root file) method params open_is is fits tells owed own = no_response (notification method params) (sym tells)
head_own now asked others (building build) method params open_is is fits tells owed own = no_response (notification method params) (sym tells)
head_own now asked others (rereading space) method params open_is is fits tells owed own = no_response (notification method params) (sym tells)
head_own now asked others (cleaning space targets) method params open_is is fits tells owed own = no_response (notification method params) (sym tells)
head_own now asked others (answering space question) method params open_is is fits tells owed own = no_response (notification method params) (sym tells)
head_own now asked others closing method params open_is is fits tells owed own = no_response (notification method params) (sym tells)
head_own now asked others (refusal code text) method params open_is is fits tells owed own = no_response (notification method params) (sym tells)

told_own : (now : Now) (requests : List Asked) (method : List ℕ) (params : Option Data) → now.requests ≡ requests → Stands now.force now.table_at_hand requests
    → TellsBy requests now (notification method params) → GoesOnOrCancels (first_marked now.requests) now (notification method params)
    → ShowsOwn now.force now.table → ShowsOwn now.force (shown_by (notification method params) now.table)
told_own now [] method params open_is stands tells owed own = no_response (notification method params) (sym tells)
told_own now (asked ∷ others) method params open_is stands tells owed own = head_own now asked others asked.verdict method params open_is refl stands.0 tells owed own

-- ---- a response

-- the workspace in force, and what is open, once a request was answered
record Answered (force : Option Space) (hand table : Table) (requests : List Asked) : Type 0 where
  own : ShowsOwn force table
  stands : Stands force hand requests

-- what is owed to the request at the head is granted
record Granted (force new : Option Space) (table : Table) : Type 0 where
  own : ShowsOwn new table
  behind : (v : Verdict) → FitsBehind force v → FitsBehind new v

stays_in : (force : Option Space) (table : Table) → ShowsOwn force table → Granted force force table
stays_in force table own = record { own = own; behind = λ v fits. fits }

found_stays : (space : Space) (table : Table) (origin : Option (List ℕ)) (found : Found) → ShowsOwn (Some space) table
    → Granted (Some space) (force_by (Some (found_build space origin found)) (Some space)) table
found_stays space table origin (all_found targets) own = stays_in (Some space) table own
found_stays space table origin (unknown_at index) own = stays_in (Some space) table own

clean_stays : (space : Space) (table : Table) (found : Found) → ShowsOwn (Some space) table → Granted (Some space) (force_by (Some (found_clean space found)) (Some space)) table
clean_stays space table (all_found targets) own = stays_in (Some space) table own
clean_stays space table (unknown_at index) own = stays_in (Some space) table own

call_stays : (force : Option Space) (table : Table) (call : Call) → ShowsOwn force table → Granted force (force_by (Some (due_in force (queued call))) force) table
call_stays None table call own = stays_in None table own
call_stays (Some space) table (to_build targets origin) own = found_stays space table origin (found_from space 0 targets) own
call_stays (Some space) table to_reload own = stays_in (Some space) table own
call_stays (Some space) table (to_clean targets) own = clean_stays space table (found_from space 0 targets) own

granted : (now : Now) (id asked : Id) (value : Data) (v : Verdict) → Keeps now → Fits now.force now.table_at_hand v → TellsAs asked v now (result (Some id) value) → same_id id asked ≡ true
    → Granted now.force (force_by (Some (due_in now.force v)) now.force) now.table
granted now id asked value (queued call) keeps fits tells same = call_stays now.force now.table call keeps.own
granted now id asked value (opening root file) keeps fits tells same = record {
  own = λ key shown. absurd (subst (λ f. ShowsOwn f now.table) fits keeps.own key shown);
  behind = λ v behind. behind_anew now.force (space_in root file) v behind;
}
granted now id asked value (reloading space file) keeps fits tells same =
    let told : Reloads space file now.table_at_hand now.notices = subst (λ b. If b (Reloads space file now.table_at_hand now.notices)) same tells in
    record {
      own = subst (ShowsOwn (Some (space_in space.root file))) (sym keeps.since) (reload_own told fits.1);
      behind = λ v behind. behind_anew now.force (space_in space.root file) v behind;
    }
granted now id asked value (asking root) keeps fits tells same = stays_in now.force now.table keeps.own
granted now id asked value (building build) keeps fits tells same = stays_in now.force now.table keeps.own
granted now id asked value (built build entries) keeps fits tells same = stays_in now.force now.table keeps.own
granted now id asked value (rereading space) keeps fits tells same = stays_in now.force now.table keeps.own
granted now id asked value (cleaning space targets) keeps fits tells same = stays_in now.force now.table keeps.own
granted now id asked value (answering space question) keeps fits tells same = stays_in now.force now.table keeps.own
granted now id asked value closing keeps fits tells same = stays_in now.force now.table keeps.own
granted now id asked value (refusal code text) keeps fits tells same = stays_in now.force now.table keeps.own

-- one behind the head changes nothing
behind_stays : (force : Option Space) (v : Verdict) → FitsBehind force v → force_by (Some v) force ≡ force
behind_stays force (queued call) fits = refl
behind_stays force (answering space question) fits = refl
behind_stays force closing fits = refl
behind_stays force (refusal code text) fits = refl
behind_stays force (asking root) fits = absurd fits
behind_stays force (opening root file) fits = absurd fits
behind_stays force (building build) fits = absurd fits
behind_stays force (built build entries) fits = absurd fits
behind_stays force (rereading space) fits = absurd fits
behind_stays force (reloading space file) fits = absurd fits
behind_stays force (cleaning space targets) fits = absurd fits

others_stay : (force : Option Space) (id : Id) (requests : List Asked) → All (IsBehind force) requests → force_by (owed_to id requests) force ≡ force
others_stay force id [] all = refl
others_stay force id (asked ∷ others) all = by (same_id id asked.id) (others_stay force id others (All-tail (IsBehind force) asked others all))
  where
    by : (b : Bool) → force_by (owed_to id others) force ≡ force → force_by (if b then Some asked.verdict else owed_to id others) force ≡ force
    by true rest = behind_stays force asked.verdict (All-head (IsBehind force) asked others all)
    by false rest = rest

all_anew : (force new : Option Space) → ((v : Verdict) → FitsBehind force v → FitsBehind new v) → (requests : List Asked) → All (IsBehind force) requests → All (IsBehind new) requests
all_anew force new anew requests all k d h = anew _ (all k d h)

answers : (now : Now) (id : Id) (value : Data) (requests : List Asked) → Keeps now → Stands now.force now.table_at_hand requests → TellsBy requests now (result (Some id) value)
    → Answered (force_by (owed_to id (first_up now.force requests)) now.force) now.table_at_hand now.table (without id requests)
answers now id value [] keeps stands tells = record { own = keeps.own; stands = tt }
answers now id value (asked ∷ others) keeps stands tells = by (same_id id asked.id) refl
  where
    by : (b : Bool) → same_id id asked.id ≡ b
        → Answered (force_by (if b then Some (due_in now.force asked.verdict) else owed_to id others) now.force) now.table_at_hand now.table (if b then others else asked ∷ without id others)
    by true same =
        let new : Option Space = force_by (Some (due_in now.force asked.verdict)) now.force in
        let so : Granted now.force new now.table = granted now id asked.id value asked.verdict keeps stands.0 tells same in
        record { own = so.own; stands = all_come_up new now.table_at_hand others (all_anew now.force new so.behind others stands.1) }
    by false other =
        subst (λ f. Answered f now.table_at_hand now.table (asked ∷ without id others)) (sym (others_stay now.force id others stands.1))
        (record { own = keeps.own; stands = (stands.0, behind_without now.force id others stands.1) })

-- ---- each event

told_since : (now : Now) (m : Said) → now.table ≡ table_behind now.notices now.table_at_hand → shown_by m now.table ≡ table_behind (now.notices ++ m ∷ []) now.table_at_hand
told_since now m since = ap (shown_by m) since ∙ sym (fold-append (λ shows it. shown_by it shows) now.table_at_hand now.notices (m ∷ []))

silent_since : (now : Now) → now.table ≡ table_behind now.notices now.table_at_hand → now.table ≡ table_behind (now.notices ++ []) now.table_at_hand
silent_since now since = since ∙ ap (λ ns. table_behind ns now.table_at_hand) (sym (append-nil now.notices))

wrote : (now : Now) (m : Said) → Keeps now → WriteAllowed now m → Keeps (by_event (write m) now)
wrote now (notification method params) keeps allowed = record {
  own = told_own now now.requests method params refl keeps.stands allowed.in_builds allowed.by_marks keeps.own;
  since = told_since now (notification method params) keeps.since;
  stands = keeps.stands;
}
wrote now (request id method params) keeps allowed = record { own = keeps.own; since = silent_since now keeps.since; stands = keeps.stands }
wrote now (result None value) keeps allowed = record { own = keeps.own; since = silent_since now keeps.since; stands = keeps.stands }
wrote now (result (Some id) value) keeps allowed =
    let so = answers now id value now.requests keeps keeps.stands allowed.in_builds in
    record { own = so.own; since = silent_since now keeps.since; stands = so.stands }
wrote now (failure None code text) keeps allowed = record { own = keeps.own; since = silent_since now keeps.since; stands = keeps.stands }
wrote now (failure (Some id) code text) keeps allowed =
    record { own = keeps.own; since = silent_since now keeps.since; stands = without_stands now.force now.table_at_hand id now.requests keeps.stands }

keeps_on : (event : Event) (now : Now) → Keeps now → Allowed now event → Keeps (by_event event now)
keeps_on (take body) now keeps allowed = record {
  own = keeps.own;
  since = keeps.since;
  stands = opened_stands now.force now.table_at_hand now.closed _ now.requests allowed.answered.requests keeps.stands (meaning body);
}
keeps_on (ends how) now keeps allowed = record {
  own = keeps.own;
  since = keeps.since;
  stands = marked_stands now.force now.table_at_hand (λ asked. true) now.requests keeps.stands;
}
keeps_on (hand handed) now keeps allowed = record {
  own = keeps.own;
  since = refl;
  stands = handed_stands now.force now.table_at_hand now.table keeps.own handed now.requests keeps.stands;
}
keeps_on (write m) now keeps allowed = wrote now m keeps allowed

pub keeps_all : (order : List Event) → EachAllowed order → Keeps (after order)
keeps_all [] each = record { own = λ key shown. shown refl; since = refl; stands = tt }
keeps_all (event ∷ past) each = keeps_on event (after past) (keeps_all past each.1) each.0

pub shows_own : (order : List Event) → Lawful order → ShowsOwn (after order).force (after order).table
shows_own order lawful = (keeps_all order lawful.each).own

-- so any other document shows nothing
nothing_else : (list : List DiagnosticRecord) → ¬ (list ≢ []) → list ≡ []
nothing_else [] never = refl
nothing_else (one ∷ others) never = absurd (never (λ none. cc))

pub others_show_nothing : (order : List Event) → Lawful order → (key : TableKey) → ¬ (IsOwn (after order).force key) → (after order).table key.document key.target ≡ []
others_show_nothing order lawful key other = nothing_else ((after order).table key.document key.target) (λ shown. other (shows_own order lawful key shown))
