-- A reload tells what it drops and which targets changed, message after message, and is answered behind that.
use Rattle.std.proofs.Common.{◌≡◌, ◌++◌, ◌||◌, ℕ, List, [], ◌∷◌, map, Bool, true, false, All, Option, Some, None, refl, ap, sym, ◌∙◌, subst, append-nil, append_assoc, true≢false}
use Rattle.std.specs.Prelude.{flat_map, if◌then◌else◌, is_some}
use Rattle.std.proofs.lemmas.List.Elements.{All-append, All-cons, All-head, All-nil, All-tail}
use Rattle.bsp_records.specs.Table.{Table}
use Rattle.bsp_records.specs.declared.diagnostics.DiagnosticRecord.{DiagnosticRecord}
use Rattle.bsp_records.specs.declared.publishing.PublishDiagnosticsParams.{PublishDiagnosticsParams}
use Rattle.ob_text.specs.declared.held.Held.{Held}
use Rattle.reload_rules.specs.declared.change.ChangedTarget.{ChangedTarget}
use Rattle.rpc_peer.specs.declared.message.Id.{Id}
use Rattle.rpc_peer.specs.Said.{Said, request, notification, result, failure}
use Rattle.rpc_peer.specs.OpenIds.{same_id}
use Rattle.serde_json.specs.Data.{Data, null}
use Rattle.session_law.proofs.MidLaws.{mid_granted}
use Rattle.session_law.proofs.MoveLaws.{at_head, nothing_null, owes, queued_behind, stands_first}
use Rattle.session_law.proofs.OpenLaws.{GoOn, unmarked}
use Rattle.session_law.proofs.RequestLaws.{IsOfQueue, none_at_once, same_id_refl}
use Rattle.session_law.proofs.WorkLaws.{noticed_open}
use Rattle.session_law.proofs.WriteLaws.{IsFree, first_free, if_so}
use Rattle.session_law.proofs.WrittenLaws.{IsNotice, all_noticed, no_response, noticed, one_noticed}
use Rattle.session_law.specs.AnswersFirst.{first_at_once}
use Rattle.session_law.specs.Builds.{is_publication, publication_said, table_behind}
use Rattle.session_law.specs.History.{Told, all_cleaned}
use Rattle.session_law.specs.IsFramed.{IsFramed}
use Rattle.session_law.specs.Lawful.{EachAllowed, GoesOnOrCancels, WriteAllowed}
use Rattle.session_law.specs.Methods.{Call, Found, Verdict, all_found, unknown_at, asking, opening, queued, building, built, rereading, reloading, cleaning, answering, closing, refusal, due_in, found_build, found_clean, found_from, taken_up, to_build, to_reload, to_clean}
use Rattle.session_law.specs.Open.{IsOpen, Mid, Open, Plain, none, owing, asking_for, plain_now}
use Rattle.session_law.specs.Order.{Event, onto, write}
use Rattle.session_law.specs.Past.{Now, after, by_event}
use Rattle.session_law.specs.PublishesInBuildsOnly.{ReloadsNext, TellsBy}
use Rattle.session_law.specs.RefusesExactly.{IsGranted, IsWorkspace}
use Rattle.session_law.specs.Reloading.{Reloads, changes_said, clears, clears_shown, keys_dropped, space_in, tells_changes}
use Rattle.session_law.specs.Requests.{Asked, active_of, first_marked, is_open, owed_to}
use Rattle.session_law.specs.TasksInOrder.{TellsFor, is_of_task}
use Rattle.session_law.specs.ShowsCleanBuild.{ShowsFor}
use Rattle.session_law.specs.TakesUpInOrder.{AnswersFor}
use Rattle.target_graph.specs.Workspace.{Space}
use Rattle.task_stream.specs.Pieces.{pieces}
use Rattle.task_stream.specs.declared.shown.TableKey.{TableKey}

-- ---- what it tells

-- the message is a notification, and tells of no task
pub record IsNews (m : Said) : Type 0 where
  pub notice : IsNotice m
  pub untasked : is_of_task m ≡ false

published_news : (ps : List PublishDiagnosticsParams) → All IsNews (map publication_said ps)
published_news [] = All-nil IsNews
published_news (p ∷ ps) = All-cons IsNews (publication_said p) (map publication_said ps) (record { notice = refl; untasked = refl }) (published_news ps)

cleared_news : (key : TableKey) (shown : List DiagnosticRecord) → All IsNews (clears_shown key shown)
cleared_news key [] = All-nil IsNews
cleared_news key (one ∷ others) = published_news (pieces key None [])

clears_news : (table : Table) (keys : List TableKey) → All IsNews (clears table keys)
clears_news table [] = All-nil IsNews
clears_news table (key ∷ keys) =
    All-append IsNews (clears_shown key (table key.document key.target)) (clears table keys) (cleared_news key (table key.document key.target)) (clears_news table keys)

changes_news : (root : List ℕ) (changes : List ChangedTarget) → All IsNews (tells_changes root changes)
unfolding changes_said
changes_news root [] = All-nil IsNews
changes_news root (change ∷ changes) = All-cons IsNews (changes_said root (change ∷ changes)) [] (record { notice = refl; untasked = refl }) (All-nil IsNews)

pub reloads_news : (space : Space) (file : Held) (table : Table) (messages : List Said) → Reloads space file table messages → All IsNews messages
reloads_news space file table messages reloads =
    subst (All IsNews) (sym reloads.are)
    (All-append IsNews (clears table (keys_dropped space file)) (tells_changes space.root reloads.changes) (clears_news table (keys_dropped space file)) (changes_news space.root reloads.changes))

all_notices : (messages : List Said) → All IsNews messages → All IsNotice messages
all_notices [] news = All-nil IsNotice
all_notices (m ∷ messages) news = All-cons IsNotice m messages (All-head IsNews m messages news).notice (all_notices messages (All-tail IsNews m messages news))

-- ---- at the head

abbrev is_reloading : Verdict → Bool
is_reloading (reloading space file) = true
is_reloading v = false

found_anew : (space : Space) (origin : Option (List ℕ)) (found : Found) → is_reloading (found_build space origin found) ≡ false
found_anew space origin (all_found targets) = refl
found_anew space origin (unknown_at index) = refl

cleaned_anew : (space : Space) (found : Found) → is_reloading (found_clean space found) ≡ false
cleaned_anew space (all_found targets) = refl
cleaned_anew space (unknown_at index) = refl

-- being taken up leads to no file
taken_anew : (call : Call) (space : Space) → is_reloading (taken_up call space) ≡ false
taken_anew (to_build targets origin) space = found_anew space origin (found_from space 0 targets)
taken_anew to_reload space = refl
taken_anew (to_clean targets) space = cleaned_anew space (found_from space 0 targets)

-- what is a reload with its file at the head was one before it was judged there
reloading_judged : (force : Option Space) (judged : Verdict) (space : Space) (file : Held) → due_in force judged ≡ reloading space file → judged ≡ reloading space file
reloading_judged None (queued call) space file is = is
reloading_judged (Some now) (queued call) space file is = absurd (true≢false (sym (ap is_reloading is) ∙ taken_anew call now))
reloading_judged force (asking root) space file is = is
reloading_judged force (opening root f) space file is = is
reloading_judged force (building build) space file is = is
reloading_judged force (built build entries) space file is = is
reloading_judged force (rereading s) space file is = is
reloading_judged force (reloading s f) space file is = is
reloading_judged force (cleaning s targets) space file is = is
reloading_judged force (answering s question) space file is = is
reloading_judged force closing space file is = is
reloading_judged force (refusal code text) space file is = is

-- such a reload is at the head
pub record Rereads (id : Id) (number : ℕ) (space : Space) (file : Held) (now : Now) : Type 0 where
  pub behind : List Asked
  pub requests_are : now.requests ≡ asking_for id number (reloading space file) ∷ behind
  pub queued : All IsOfQueue behind
  pub nulls : now.nulls ≡ []
  pub unmarked : first_marked now.requests ≡ None

rereads : (o : Open) (now : Now) (is : IsOpen o now) (id : Id) (number : ℕ) (space : Space) (file : Held) → o.first ≡ owing id number (reloading space file) → GoOn o → Rereads id number space file now
rereads o now is id number space file first go =
    let owed = owes o now is id number (reloading space file) first in
    record {
      behind = o.waiting ++ o.last;
      requests_are =
          at_head o now is id number (reloading space file) first
          ∙ ap (λ v. asking_for id number v ∷ (o.waiting ++ o.last)) (reloading_judged now.force owed.judged space file owed.stands);
      queued = queued_behind o now is id number (reloading space file) first go;
      nulls = nothing_null o now is id number (reloading space file) first go;
      unmarked = unmarked o now is go;
    }

-- nothing else is owed at once
free_beside : (id : Id) (number : ℕ) (space : Space) (file : Held) (now : Now) → Rereads id number space file now → IsFree now
free_beside id number space file now stands =
    record {
      requests =
          ap first_at_once stands.requests_are
          ∙ none_at_once (asking_for id number (reloading space file) ∷ stands.behind) (All-cons IsOfQueue (asking_for id number (reloading space file)) stands.behind refl stands.queued);
      nulls = stands.nulls;
    }

-- ---- it tells

module _ (id : Id) (number : ℕ) (space : Space) (file : Held) (table : Table) (messages : List Said) (accepted : IsWorkspace space.root file) (reloads : Reloads space file table messages) where
  -- how far it is: it told these
  record Reread (done : List Said) (now : Now) : Type 0 where
    stands : Rereads id number space file now
    since : now.notices ≡ done
    table_is : now.table_at_hand ≡ table

  news_allowed : (now : Now) (done rest : List Said) (method : List ℕ) (params : Option Data) → Reread done now → messages ≡ done ++ notification method params ∷ rest
      → IsFramed (notification method params) → is_of_task (notification method params) ≡ false → WriteAllowed now (notification method params)
  news_allowed now done rest method params so whole framed untasked =
      let m = notification method params in
      let none_active : active_of now.requests ≡ None = ap active_of so.stands.requests_are in
      let next : ReloadsNext space file now m = record {
        accepted = accepted;
        messages = messages;
        reloads = subst (λ t. Reloads space file t messages) (sym so.table_is) reloads;
        rest = rest;
        next = subst (λ d. messages ≡ d ++ m ∷ rest) (sym so.since) whole;
      } in
      record {
        framed = framed;
        once = tt;
        in_builds = subst (λ requests. TellsBy requests now m) (sym so.stands.requests_are) next;
        by_marks = subst (λ o. GoesOnOrCancels o now m) (sym so.stands.unmarked) (record {
          first = first_free now m (free_beside id number space file now so.stands);
          exact = tt;
          in_order = tt;
          shows = subst (λ a. ShowsFor m a now) (sym none_active) tt;
          tasks = subst (λ a. TellsFor m a now) (sym none_active) untasked;
        });
      }

  one_told : (order : List Event) (done rest : List Said) (m : Said) → EachAllowed order → Reread done (after order) → messages ≡ done ++ m ∷ rest → IsFramed m → IsNews m
      → EachAllowed (write m ∷ order)
  one_told order done rest (notification method params) each so whole framed news = (news_allowed (after order) done rest method params so whole framed news.untasked, each)
  one_told order done rest (request id' method params) each so whole framed news = no_response (request id' method params) news.notice
  one_told order done rest (result id' value) each so whole framed news = no_response (result id' value) news.notice
  one_told order done rest (failure id' code text) each so whole framed news = no_response (failure id' code text) news.notice

  told_more : (now : Now) (done : List Said) (m : Said) → IsNotice m → Reread done now → Reread (done ++ m ∷ []) (by_event (write m) now)
  told_more now done m notice so =
      subst (Reread (done ++ m ∷ [])) (sym (one_noticed m now notice))
      (record {
        stands = record { behind = so.stands.behind; requests_are = so.stands.requests_are; queued = so.stands.queued; nulls = so.stands.nulls; unmarked = so.stands.unmarked };
        since = ap (λ d. d ++ m ∷ []) so.since;
        table_is = so.table_is;
      })

  all_told : (rest : List Said) (order : List Event) (done : List Said) → EachAllowed order → Reread done (after order) → messages ≡ done ++ rest → All IsFramed rest → All IsNews rest
      → EachAllowed (onto rest order)
  all_told [] order done each so whole framed news = each
  all_told (m ∷ rest) order done each so whole framed news =
      all_told rest (write m ∷ order) (done ++ m ∷ [])
      (one_told order done rest m each so whole (All-head IsFramed m rest framed) (All-head IsNews m rest news))
      (told_more (after order) done m (All-head IsNews m rest news).notice so)
      (whole ∙ sym (append_assoc done (m ∷ []) rest)) (All-tail IsFramed m rest framed) (All-tail IsNews m rest news)

  -- and is answered once it told all
  answer_allowed : (o : Open) (now : Now) (is : IsOpen o now) → o.first ≡ owing id number (reloading space file) → Rereads id number space file now → now.notices ≡ messages → now.table_at_hand ≡ table
      → IsFramed (result (Some id) null) → WriteAllowed now (result (Some id) null)
  answer_allowed o now is first stands since table_is framed =
      let m = result (Some id) null in
      let none_active : active_of now.requests ≡ None = ap active_of stands.requests_are in
      let told : Reloads space file now.table_at_hand now.notices = subst (λ t. Reloads space file t now.notices) (sym table_is) (subst (Reloads space file table) (sym since) reloads) in
      record {
        framed = framed;
        once = ap (λ requests. is_open id requests) stands.requests_are ∙ ap (λ b. is_some (if b then Some (reloading space file) else owed_to id stands.behind)) (same_id_refl id);
        in_builds = subst (λ requests. TellsBy requests now m) (sym stands.requests_are) (if_so (same_id id id) (Reloads space file now.table_at_hand now.notices) told);
        by_marks = subst (λ o. GoesOnOrCancels o now m) (sym stands.unmarked) (record {
          first = first_free now m (free_beside id number space file now stands);
          exact = subst (λ o. IsGranted o null) (sym (stands_first o now is id number (reloading space file) first)) (accepted, refl);
          in_order = subst (AnswersFor m) (sym none_active) tt;
          shows = subst (λ a. ShowsFor m a now) (sym none_active) tt;
          tasks = subst (λ a. TellsFor m a now) (sym none_active) tt;
        });
      }

-- the whole of it, behind the answer of the tree
pub mid_reloads : (p : Plain) (R : List Told → Type 0) (o : Open) (order : List Event) → Mid p R o order → (id : Id) (number : ℕ) (space : Space) (file : Held)
    → o.first ≡ owing id number (reloading space file) → GoOn o → (after order).notices ≡ [] → (after order).table_at_hand ≡ p.table
    → IsWorkspace space.root file → (messages : List Said) → Reloads space file p.table messages → All IsFramed messages → IsFramed (result (Some id) null)
    → (Q : List Told → Type 0) → (R (after order).builds → Q (all_cleaned (keys_dropped space file) (after order).builds))
    → Mid (record p { table = table_behind messages p.table; force = Some (space_in space.root file) }) Q (record o { first = none }) (write (result (Some id) null) ∷ onto messages order)
mid_reloads p R o order mid id number space file first go fresh shown accepted messages reloads framed answered Q remembers =
    let news : All IsNews messages = reloads_news space file p.table messages reloads in
    let now = after order in
    let same : after (onto messages order) ≡ noticed messages now = all_noticed messages order (all_notices messages news) in
    let start : Reread id number space file p.table messages accepted reloads [] now = record { stands = rereads o now mid.open_is id number space file first go; since = fresh; table_is = shown } in
    let told : Mid (record p { table = table_behind messages p.table }) R o (onto messages order) = record {
      each = all_told id number space file p.table messages accepted reloads messages order [] mid.each start refl framed news;
      plain_is = ap plain_now same ∙ (λ i. record (mid.plain_is i) { table = table_behind messages (mid.plain_is i).table });
      open_is = subst (IsOpen o) (sym same) (noticed_open o now messages mid.open_is);
      builds_are = subst (λ (n : Now). R n.builds) (sym same) mid.builds_are;
    } in
    let behind = after (onto messages order) in
    mid_granted (record p { table = table_behind messages p.table }) R o (onto messages order) told id number (reloading space file) first go null
    (answer_allowed id number space file p.table messages accepted reloads o behind told.open_is first (rereads o behind told.open_is id number space file first go)
    (ap (λ (n : Now). n.notices) same ∙ ap (λ ns. ns ++ messages) fresh) (ap (λ (n : Now). n.table_at_hand) same ∙ shown) answered)
    refl refl Q (subst (λ (n : Now). R n.builds → Q (all_cleaned (keys_dropped space file) n.builds)) (sym same) remembers)
