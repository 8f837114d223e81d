-- What a build publishes on its course: the lists of the documents that are settled, and nothing else.
use Rattle.std.proofs.Common.{◌≡◌, ◌++◌, ℕ, suc, List, [], ◌∷◌, length, get_or, filter, Bool, true, false, cond, All, Contains, Option, Some, None, refl, sym, ap, subst, ◌∙◌, arith}
use Rattle.std.specs.Prelude.{if◌then◌else◌}
use Rattle.std.proofs.lemmas.Bool.{false≢true}
use Rattle.std.proofs.lemmas.List.{append-nil}
use Rattle.std.proofs.lemmas.List.Elements.{All-append, All-cons, All-nil, All-head, All-map, All-same, All-tail, filter-append}
use Rattle.std.proofs.lemmas.List.Sums.{fold-append}
use Rattle.std.specs.List.{list_any}
use Rattle.bsp_records.specs.Diagnostics.{publish_diagnostics_params_in}
use Rattle.bsp_records.specs.Table.{Table}
use Rattle.rpc_peer.specs.Said.{Said, request, notification, result, failure}
use Rattle.session_law.proofs.ListLaws.{contains_map}
use Rattle.session_law.proofs.StageLaws.{stage_sound}
use Rattle.session_law.proofs.TaskLaws.{finish_tells, start_tells}
use Rattle.session_law.specs.Builds.{Finding, Publishes, PublishesSome, Shows, build_status, has_error, is_publication, list_said, none, one_more, publication_said, published_if, records_of, shown_by, table_behind}
use Rattle.session_law.specs.Course.{Course, Given, HasEnded, Stage, all_finish, all_start, begins, checked, known, pairs_in, report_of, starts, targets_finish, targets_start}
use Rattle.session_law.specs.Tasks.{build_finishes, build_starts, check_finishes, check_starts, target_finishes, target_starts}
use Rattle.target_graph.specs.Workspace.{id_of}
use Rattle.task_stream.specs.Pieces.{pieces}

-- ---- messages that publish, and others

abbrev pub IsPublication : Said → Type 0
IsPublication m = is_publication m ≡ true

abbrev pub IsOther : Said → Type 0
IsOther m = is_publication m ≡ false

-- what is published of one document is publications
pub all_publications : (table : Table) (origin : Option (List ℕ)) (finding : Finding) (own : List Said) → Publishes table origin finding own → All IsPublication own
all_publications table origin finding own publishes k d h = by (is_publication (get_or own k d)) refl
  where
    listed : All IsPublication (list_said origin finding)
    listed = All-map IsPublication publication_said (pieces finding.document.key origin (records_of finding.list)) (λ n p within. refl)

    absent : ¬ (Shows table finding)
    absent shows = omega (arith, h, ap length (publishes.same shows))

    by : (b : Bool) → is_publication (get_or own k d) ≡ b → is_publication (get_or own k d) ≡ true
    by true is = is
    by false is = absurd (false≢true (sym is ∙ All-same IsPublication own (list_said origin finding) (publishes.other absent) listed k d h))

pub filter_all : (messages : List Said) → All IsPublication messages → filter is_publication messages ≡ messages
filter_all [] all = refl
filter_all (m ∷ messages) all =
    ap (λ b. cond b (m ∷ filter is_publication messages) (filter is_publication messages)) (All-head IsPublication m messages all)
    ∙ ap (λ ms. m ∷ ms) (filter_all messages (All-tail IsPublication m messages all))

pub filter_none : (messages : List Said) → All IsOther messages → filter is_publication messages ≡ []
filter_none [] all = refl
filter_none (m ∷ messages) all =
    ap (λ b. cond b (m ∷ filter is_publication messages) (filter is_publication messages)) (All-head IsOther m messages all)
    ∙ filter_none messages (All-tail IsOther m messages all)

-- ---- other messages show nothing

pub other_shows : (m : Said) (table : Table) → IsOther m → shown_by m table ≡ table
other_shows (notification method None) table other = refl
other_shows (notification method (Some params)) table other =
    ap (λ b. published_if (if b then Some (publish_diagnostics_params_in params) else None) table) other
other_shows (request id method params) table other = refl
other_shows (result id value) table other = refl
other_shows (failure id code text) table other = refl

one_filtered : (m : Said) (messages : List Said) (table : Table)
    → ((t : Table) → table_behind (filter is_publication messages) t ≡ table_behind messages t)
    → table_behind (filter is_publication (m ∷ messages)) table ≡ table_behind (m ∷ messages) table
one_filtered m messages table rest = by (is_publication m) refl
  where
    by : (b : Bool) → is_publication m ≡ b
        → table_behind (cond (is_publication m) (m ∷ filter is_publication messages) (filter is_publication messages)) table ≡ table_behind messages (shown_by m table)
    by true is = ap (λ b. table_behind (cond b (m ∷ filter is_publication messages) (filter is_publication messages)) table) is ∙ rest (shown_by m table)
    by false is =
        ap (λ b. table_behind (cond b (m ∷ filter is_publication messages) (filter is_publication messages)) table) is
        ∙ (rest table ∙ ap (table_behind messages) (sym (other_shows m table is)))

-- so a client that reads the publications alone shows the same
pub table_filtered : (messages : List Said) (table : Table) → table_behind (filter is_publication messages) table ≡ table_behind messages table
table_filtered [] table = refl
table_filtered (m ∷ messages) table = one_filtered m messages table (table_filtered messages)

-- ---- the messages of tasks

starts_other : (g : Given) (i : ℕ) (targets : List ℕ) → All IsOther (targets_start g i targets)
starts_other g i [] = All-nil IsOther
starts_other g i (target ∷ targets) =
    All-cons IsOther (target_starts g.active.number i (id_of g.active.build.space target)) (targets_start g (suc i) targets)
    (start_tells _).no_publication (starts_other g (suc i) targets)

pub all_start_other : (g : Given) → All IsOther (all_start g)
all_start_other g = All-cons IsOther (build_starts g.active.number) (targets_start g 1 g.closure) (start_tells _).no_publication (starts_other g 1 g.closure)

finishes_other : (g : Given) (s : Stage) (findings : List Finding) (i : ℕ) (targets : List ℕ) → All IsOther (targets_finish g s findings i targets)
finishes_other g s findings i [] = All-nil IsOther
finishes_other g s findings i (target ∷ targets) =
    All-cons IsOther (target_finishes g.active.number i (report_of g s findings (id_of g.active.build.space target))) (targets_finish g s findings (suc i) targets)
    (finish_tells _).no_publication (finishes_other g s findings (suc i) targets)

pub all_finish_other : (g : Given) (s : Stage) (findings : List Finding) → All IsOther (all_finish g s findings)
all_finish_other g s findings =
    let last : Said = build_finishes g.active.number (build_status (list_any has_error findings)) in
    All-append IsOther (targets_finish g s findings 1 g.closure) (last ∷ []) (finishes_other g s findings 1 g.closure)
    (All-cons IsOther last [] (finish_tells _).no_publication (All-nil IsOther))

-- ---- a course

one_published : (table shown : Table) (origin : Option (List ℕ)) (done : List Finding) (before after own : List Said) (finding : Finding)
    → PublishesSome table origin done before → ¬ (Contains done finding) → shown ≡ table_behind before table → Publishes shown origin finding own → after ≡ before ++ own
    → PublishesSome table origin (done ++ finding ∷ []) after
one_published table shown origin done before after own finding published absent same publishes is =
    subst (PublishesSome table origin (done ++ finding ∷ [])) (sym is)
    (one_more finding own published absent (subst (λ (t : Table). Publishes t origin finding own) same publishes))

-- a document that isn't settled isn't among those that are
pub fresh : (settled : List Finding) (finding : Finding) → ¬ (Contains (pairs_in settled) finding.document.pair) → ¬ (Contains settled finding)
fresh settled finding new there = new (contains_map (λ (f : Finding). f.document.pair) settled finding there)

own_behind : (messages own : List Said) → All IsPublication own → filter is_publication (messages ++ own) ≡ filter is_publication messages ++ own
own_behind messages own all = filter-append is_publication messages own ∙ ap (λ ms. filter is_publication messages ++ ms) (filter_all own all)

other_behind : (messages others : List Said) → All IsOther others → filter is_publication (messages ++ others) ≡ filter is_publication messages
other_behind messages others all =
    filter-append is_publication messages others
    ∙ (ap (λ ms. filter is_publication messages ++ ms) (filter_none others all) ∙ append-nil (filter is_publication messages))

own_behind_other : (messages own : List Said) (m : Said) → IsOther m → All IsPublication own → filter is_publication (messages ++ m ∷ own) ≡ filter is_publication messages ++ own
own_behind_other messages own m other all =
    filter-append is_publication messages (m ∷ own)
    ∙ ap (λ ms. filter is_publication messages ++ ms)
    (ap (λ b. cond b (m ∷ filter is_publication own) (filter is_publication own)) other ∙ filter_all own all)

shown_behind_other : (messages : List Said) (m : Said) (table : Table) → IsOther m → table_behind (messages ++ m ∷ []) table ≡ table_behind (filter is_publication messages) table
shown_behind_other messages m table other =
    fold-append (λ shows it. shown_by it shows) table messages (m ∷ [])
    ∙ (other_shows m (table_behind messages table) other ∙ sym (table_filtered messages table))

pub published_some : {g : Given} {s : Stage} {messages : List Said} → Course g s messages → PublishesSome g.table g.active.build.origin s.settled (filter is_publication messages)
published_some {g} starts = subst (PublishesSome g.table g.active.build.origin []) (sym (filter_none (all_start g) (all_start_other g))) none
published_some {g} (known {s = before} {messages = messages} finding own course next is_known settles) =
    one_published g.table (table_behind messages g.table) g.active.build.origin before.settled (filter is_publication messages) (filter is_publication (messages ++ own)) own finding
    (published_some course)
    (fresh before.settled finding (λ there. next.ready.is_new ((stage_sound course).settled_taken finding.document.pair there)))
    (sym (table_filtered messages g.table)) settles.publishes
    (own_behind messages own (all_publications (table_behind messages g.table) g.active.build.origin finding own settles.publishes))
published_some {g} (begins {s = before} {messages = messages} document i course next due task) =
    let start : Said = check_starts g.active.number (suc (length before.begun)) i document.key.document in
    subst (PublishesSome g.table g.active.build.origin before.settled)
    (sym (other_behind messages (start ∷ []) (All-cons IsOther start [] (start_tells _).no_publication (All-nil IsOther))))
    (published_some course)
published_some {g} (checked {s = before} {messages = messages} finding j i own course waiting runs task settles) =
    let finish : Said = check_finishes g.active.number j i (build_status (has_error finding)) in
    let shown : Table = table_behind (messages ++ finish ∷ []) g.table in
    one_published g.table shown g.active.build.origin before.settled (filter is_publication messages) (filter is_publication (messages ++ finish ∷ own)) own finding
    (published_some course) (fresh before.settled finding runs.unfinished)
    (shown_behind_other messages finish g.table (finish_tells _).no_publication) settles.publishes
    (own_behind_other messages own finish (finish_tells _).no_publication (all_publications shown g.active.build.origin finding own settles.publishes))

-- nothing is published by the reports
pub published_whole : {g : Given} {messages : List Said} → (ended : HasEnded g messages)
    → PublishesSome g.table g.active.build.origin ended.stage.settled (filter is_publication messages)
published_whole {g} {messages} ended =
    subst (PublishesSome g.table g.active.build.origin ended.stage.settled)
    (sym (ap (filter is_publication) ended.are ∙ other_behind ended.settling (all_finish g ended.stage ended.findings) (all_finish_other g ended.stage ended.findings)))
    (published_some ended.course)
