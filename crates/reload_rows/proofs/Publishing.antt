-- What a build publishes is of documents of its workspace.
use Rattle.std.proofs.Common.{◌≡◌, ◌⊎◌, inl, inr, ◌++◌, ◌&&◌, ◌==◌, ℕ, List, [], ◌∷◌, length, map, filter, Bool, true, false, All, Contains, Option, Some, None, refl, sym, ap, subst, ◌∙◌, arith}
use Rattle.std.specs.Prelude.{if◌then◌else◌}
use Rattle.std.specs.Cmp.Lexicographic.{pointwise}
use Rattle.std.proofs.lemmas.Bool.{false≢true}
use Rattle.std.proofs.lemmas.List.{get_or-map}
use Rattle.std.proofs.lemmas.List.Elements.{All-append, All-cons, All-contains, All-head, All-map, All-nil, All-same, All-weaker}
use Rattle.std.proofs.lemmas.Option.{get_or_from_slice_get, slice_get_within}
use Rattle.std.proofs.lemmas.Slice.Eq.{bytes_eq-Decides}
use Rattle.bsp_records.specs.Diagnostics.{diagnostic_data, diagnostic_in, publish_diagnostics_params_data, publish_diagnostics_params_in}
use Rattle.bsp_records.specs.Shown.{publication}
use Rattle.bsp_records.specs.Table.{Table}
use Rattle.bsp_records.specs.Writing.{array_with}
use Rattle.bsp_records.specs.declared.diagnostics.DiagnosticRecord.{DiagnosticRecord}
use Rattle.bsp_records.specs.declared.publishing.PublishDiagnosticsParams.{PublishDiagnosticsParams}
use Rattle.json_shape.specs.Shapes.{values_in}
use Rattle.ob_text.specs.Held.{Entries}
use Rattle.reload_rows.proofs.Clearing.{IsSame}
use Rattle.reload_rows.specs.Own.{HasKey, ShowsOwn}
use Rattle.rpc_peer.specs.Said.{Said}
use Rattle.session_law.proofs.ListLaws.{contains_at, contains_map_back}
use Rattle.session_law.proofs.OpenLaws.{all_left, all_right}
use Rattle.session_law.specs.Builds.{Finding, IsFindingOf, IsPairOf, Publishes, PublishesSome, Shows, build_document, list_said, none, one_more, publication_said, records_of, shown_by, table_behind, is_publication, target_at}
use Rattle.session_law.specs.Methods.{Build}
use Rattle.session_law.specs.Past.{Now}
use Rattle.session_law.specs.Requests.{Active}
use Rattle.session_law.specs.ShowsCleanBuild.{PublishesNext}
use Rattle.session_law.specs.declared.BuildDocument.{BuildDocument}
use Rattle.target_graph.specs.Address.{document_address}
use Rattle.target_graph.specs.Workspace.{Space, id_of, pairs_of, path_at}
use Rattle.target_graph.specs.declared.target.Pair.{Pair}
use Rattle.task_stream.specs.Pieces.{later_pieces, piece, pieces}
use Rattle.task_stream.specs.declared.shown.TableKey.{TableKey}

-- ---- one publication

-- it is about the key
pub record IsAbout (key : TableKey) (p : PublishDiagnosticsParams) : Type 0 where
  pub document : p.text_document.uri ≡ key.document
  pub target : p.build_target.uri ≡ key.target

-- as a client reads it
abbrev pub as_read : PublishDiagnosticsParams → PublishDiagnosticsParams
as_read p = publish_diagnostics_params_in (publish_diagnostics_params_data p)

read_of_parts : (document target : List ℕ) (origin : Option (List ℕ)) (reset : Bool) (records : List DiagnosticRecord)
    → IsAbout (record { document = document; target = target }) (as_read (publication document target origin reset records))
read_of_parts document target None reset records = record { document = refl; target = refl }
read_of_parts document target (Some origin) reset records = record { document = refl; target = refl }

pub read_about : (key : TableKey) (p : PublishDiagnosticsParams) → IsAbout key p → IsAbout key (as_read p)
read_about key p about =
    let read = read_of_parts p.text_document.uri p.build_target.uri p.origin_id p.reset p.diagnostics in
    record { document = read.document ∙ about.document; target = read.target ∙ about.target }

-- one that is read as empty is empty
abbrev is_none : List DiagnosticRecord → Bool
is_none [] = true
is_none (one ∷ others) = false

none_listed : (records : List DiagnosticRecord) → map diagnostic_in (values_in (array_with (map diagnostic_data records))) ≡ [] → records ≡ []
none_listed [] empty = refl
none_listed (one ∷ others) empty = absurd (false≢true (ap is_none empty))

empty_of_parts : (document target : List ℕ) (origin : Option (List ℕ)) (reset : Bool) (records : List DiagnosticRecord)
    → (as_read (publication document target origin reset records)).diagnostics ≡ [] → records ≡ []
empty_of_parts document target None reset records empty = none_listed records empty
empty_of_parts document target (Some origin) reset records empty = none_listed records empty

pub read_empty : (p : PublishDiagnosticsParams) → (as_read p).diagnostics ≡ [] → p.diagnostics ≡ []
read_empty p empty = empty_of_parts p.text_document.uri p.build_target.uri p.origin_id p.reset p.diagnostics empty

both_same : (a b c d : List ℕ) → (pointwise ◌==◌ a b && pointwise ◌==◌ c d) ≡ true → (a ≡ b) × (c ≡ d)
both_same a b c d is = by (pointwise ◌==◌ a b) refl (pointwise ◌==◌ c d) refl is
  where
    by : (x : Bool) → pointwise ◌==◌ a b ≡ x → (y : Bool) → pointwise ◌==◌ c d ≡ y → (x && y) ≡ true → (a ≡ b) × (c ≡ d)
    by true first true second both = ((bytes_eq-Decides a b).0 first, (bytes_eq-Decides c d).0 second)
    by true first false second both = absurd (false≢true both)
    by false first y second both = absurd (false≢true both)

-- at another key the table stays
elsewhere : (key other : TableKey) (p : PublishDiagnosticsParams) → IsAbout key p → (table : Table) → (key ≡ other) ⊎ IsSame (shown_by (publication_said p) table) table other
elsewhere key other p about table = by (pointwise ◌==◌ read.text_document.uri other.document && pointwise ◌==◌ read.build_target.uri other.target) refl
  where
    read : PublishDiagnosticsParams
    read = as_read p

    at : IsAbout key read
    at = read_about key p about

    by : (b : Bool) → (pointwise ◌==◌ read.text_document.uri other.document && pointwise ◌==◌ read.build_target.uri other.target) ≡ b
        → (key ≡ other) ⊎ IsSame (shown_by (publication_said p) table) table other
    by true is =
        let same = both_same read.text_document.uri other.document read.build_target.uri other.target is in
        inl (λ i. record { document = (sym at.document ∙ same.0) i; target = (sym at.target ∙ same.1) i })
    by false is =
        inr (ap (λ b. if b then (if read.reset then read.diagnostics else table other.document other.target ++ read.diagnostics) else table other.document other.target) is)

-- ---- messages that show what is of a workspace alone

-- a table that shows such lists alone still does behind the message
abbrev pub KeepsOwn : Space → Said → Type 0
KeepsOwn space m = (table : Table) → ShowsOwn (Some space) table → ShowsOwn (Some space) (shown_by m table)

about_own : (space : Space) (key : TableKey) → HasKey space key → (p : PublishDiagnosticsParams) → IsAbout key p → KeepsOwn space (publication_said p)
about_own space key has p about table own other shown = by (elsewhere key other p about table)
  where
    by : (key ≡ other) ⊎ IsSame (shown_by (publication_said p) table) table other → HasKey space other
    by (inl same) = subst (HasKey space) same has
    by (inr same) = own other (λ blank. shown (same ∙ blank))

pieces_about : (key : TableKey) (origin : Option (List ℕ)) (records : List DiagnosticRecord) → All (IsAbout key) (pieces key origin records)
pieces_about key origin records =
    All-cons (IsAbout key) (piece key origin true (_)) (map (piece key origin false) (later_pieces records))
    (record { document = refl; target = refl })
    (All-map (IsAbout key) (piece key origin false) (later_pieces records) (λ k d h. record { document = refl; target = refl }))

list_own : (space : Space) (origin : Option (List ℕ)) (finding : Finding) → HasKey space finding.document.key → All (KeepsOwn space) (list_said origin finding)
list_own space origin finding has =
    let key = finding.document.key in
    let list = pieces key origin (records_of finding.list) in
    All-map (KeepsOwn space) publication_said list
    (All-weaker (IsAbout key) (λ p. KeepsOwn space (publication_said p)) (about_own space key has) list (pieces_about key origin (records_of finding.list)))

publishes_own : (space : Space) (table : Table) (origin : Option (List ℕ)) (finding : Finding) (own : List Said) → Publishes table origin finding own → HasKey space finding.document.key
    → All (KeepsOwn space) own
publishes_own space table origin finding own publishes has k d h =
    All-same (KeepsOwn space) own (list_said origin finding) (publishes.other absent) (list_own space origin finding has) k d h
  where
    absent : ¬ (Shows table finding)
    absent shows = omega (arith, h, ap length (publishes.same shows))

-- ---- the documents of a build

pair_key : (space : Space) (q : ℕ) (targets : List ℕ) → IsPairOf space.targets targets q → HasKey space (build_document space q).key
pair_key space q targets is =
    let pairs = pairs_of space.targets in
    let within = slice_get_within pairs q is.pair is.there in
    let here = get_or_from_slice_get pairs q is.pair is.pair is.there in
    let path : is.pair.path ≡ path_at space.targets q = sym (get_or-map (λ (x : Pair). x.path) pairs q is.pair [] within ∙ ap (λ (x : Pair). x.path) here) in
    let target : is.pair.target ≡ target_at space.targets q = sym (get_or-map (λ (x : Pair). x.target) pairs q is.pair 0 within ∙ ap (λ (x : Pair). x.target) here) in
    record {
      pair = is.pair;
      listed = contains_at pairs q is.pair is.there;
      is = (λ i. record { document = document_address space.root (path i); target = id_of space (target i) });
    }

finding_key : (build : Build) (entries : Entries) (finding : Finding) → IsFindingOf build entries finding → HasKey build.space finding.document.key
finding_key build entries finding is =
    let from = contains_map_back (build_document build.space) is.of_build.pairs finding.document (subst (λ ds. Contains ds finding.document) is.of_build.are is.there) in
    let pair_is = All-contains (IsPairOf build.space.targets is.of_build.closure) is.of_build.pairs from.0 is.of_build.each from.1 in
    subst (λ (document : BuildDocument). HasKey build.space document.key) from.2 (pair_key build.space from.0 is.of_build.closure pair_is)

pub published_own : {build : Build} {entries : Entries} {table : Table} {done : List Finding} {messages : List Said} → PublishesSome table build.origin done messages
    → All (IsFindingOf build entries) done → All (KeepsOwn build.space) messages
published_own {build} {entries} none each = All-nil (KeepsOwn build.space)
published_own {build} {entries} {table} (one_more {done = done} {messages = messages} finding own before absent publishes) each =
    All-append (KeepsOwn build.space) messages own (published_own before (all_left (IsFindingOf build entries) done (finding ∷ []) each))
    (publishes_own build.space (table_behind messages table) build.origin finding own publishes
    (finding_key build entries finding (All-head (IsFindingOf build entries) finding [] (all_right (IsFindingOf build entries) done (finding ∷ []) each))))

pub next_own : (active : Active) (now : Now) (m : Said) → PublishesNext active now m → KeepsOwn active.build.space m
next_own active now m next =
    let all : All (KeepsOwn active.build.space) next.published = published_own {build = active.build} {entries = active.entries} next.publishes next.each in
    All-head (KeepsOwn active.build.space) m next.rest
    (all_right (KeepsOwn active.build.space) (filter is_publication now.notices) (m ∷ next.rest) (subst (All (KeepsOwn active.build.space)) next.next all))
