-- Wrong rows of a reload that was handed its file, and what it may publish at all. Where the file is accepted and drops one document
-- that is shown, the reload writes three messages: the empty list, the changes, and its answer.
use Rattle.std.proofs.Common.{◌≡◌, ◌≢◌, ◌++◌, ℕ, List, [], ◌∷◌, length, drop, true, All, Contains, length-append, Option, Some, None, refl, sym, ap, subst, ◌∙◌, arith}
use Rattle.std.specs.Prelude.{codes, map}
use Rattle.std.proofs.lemmas.Bool.{false≢true}
use Rattle.std.proofs.lemmas.List.Elements.{All-append, All-cons, All-head, All-nil}
use Rattle.std.proofs.lemmas.Option.{same_Some}
use Rattle.bsp_records.specs.Diagnostics.{publish_diagnostics_params_data}
use Rattle.bsp_records.specs.Notices.{did_change_params_data}
use Rattle.bsp_records.specs.Table.{Table}
use Rattle.bsp_records.specs.declared.diagnostics.DiagnosticRecord.{DiagnosticRecord}
use Rattle.bsp_records.specs.declared.publishing.PublishDiagnosticsParams.{PublishDiagnosticsParams}
use Rattle.ob_text.specs.declared.held.Held.{Held}
use Rattle.reload_rows.proofs.Clearing.{IsBlank, changes_other}
use Rattle.reload_rows.proofs.Messages.{cancels_without_refusal, list_is_no_change, same_first, tells_whole}
use Rattle.reload_rows.proofs.Pairs.{dropped_is_gone}
use Rattle.reload_rows.proofs.Publishing.{IsAbout, as_read, read_about, read_empty}
use Rattle.reload_rows.proofs.Telling.{IsNextOf, all_told, by_reload, granted, next_told, owed}
use Rattle.reload_rows.specs.OneDropped.{DropsOne, empty_list, list_cleared, targets_changed, tells}
use Rattle.reload_rows.specs.Own.{HasKey, IsShown}
use Rattle.reload_rules.specs.declared.change.ChangedTarget.{ChangedTarget}
use Rattle.rpc_peer.specs.Said.{Said, notification, result, failure}
use Rattle.serde_json.specs.Data.{Data, null}
use Rattle.session_law.proofs.ListLaws.{contains_first, contains_later}
use Rattle.session_law.proofs.OpenLaws.{all_right}
use Rattle.session_law.specs.Builds.{is_publication, publication_in, publication_said}
use Rattle.session_law.specs.Lawful.{GoesOnOrCancels, WriteAllowed}
use Rattle.session_law.specs.Methods.{reloading, workspace_refused}
use Rattle.session_law.specs.Order.{Event}
use Rattle.session_law.specs.Past.{after}
use Rattle.session_law.specs.PublishesInBuildsOnly.{ReloadsNext}
use Rattle.session_law.specs.RefusesExactly.{IsRefused, IsWorkspace}
use Rattle.session_law.specs.Reloading.{Reloads, changes_said, clears, clears_shown, event_of, keys_dropped, space_in, tells_changes}
use Rattle.session_law.specs.Requests.{Asked, first_marked}
use Rattle.target_graph.specs.Workspace.{Space}
use Rattle.task_stream.specs.Pieces.{piece}
use Rattle.task_stream.specs.declared.shown.TableKey.{TableKey}

-- no list is one that has more behind it
no_more : (messages rest : List Said) (m : Said) → messages ≡ messages ++ m ∷ rest → ⊥
no_more messages rest m same = omega (arith, ap length same, length-append messages (m ∷ rest))

-- ---- what it publishes

-- the publication is of one of these documents, of which something is shown, and has no diagnostics
record ClearsOne (keys : List TableKey) (table : Table) (key : TableKey) (p : PublishDiagnosticsParams) : Type 0 where
  there : Contains keys key
  shown : IsShown table key
  empty : p.diagnostics ≡ []

-- the message publishes nothing else
abbrev OnlyClears : List TableKey → Table → Said → Type 0
OnlyClears keys table m = (p : PublishDiagnosticsParams) (key : TableKey) → IsAbout key p → publication_said p ≡ m → ClearsOne keys table key p

cleared_one : (keys : List TableKey) (table : Table) (own : TableKey) → Contains keys own → IsShown table own → OnlyClears keys table (empty_list own)
cleared_one keys table own there shown p key about same =
    let read : as_read p ≡ as_read (piece own None true []) = same_Some (as_read p) (as_read (piece own None true [])) (ap publication_in same) in
    let at : IsAbout key (as_read p) = read_about key p about in
    let document : own.document ≡ key.document = sym (ap (λ (q : PublishDiagnosticsParams). q.text_document.uri) read) ∙ at.document in
    let target : own.target ≡ key.target = sym (ap (λ (q : PublishDiagnosticsParams). q.build_target.uri) read) ∙ at.target in
    let one : own ≡ key = (λ i. record { document = document i; target = target i }) in
    record {
      there = subst (Contains keys) one there;
      shown = subst (IsShown table) one shown;
      empty = read_empty p (ap (λ (q : PublishDiagnosticsParams). q.diagnostics) read);
    }

shown_one : (keys : List TableKey) (table : Table) (own : TableKey) (list : List DiagnosticRecord) → table own.document own.target ≡ list → Contains keys own
    → All (OnlyClears keys table) (clears_shown own list)
shown_one keys table own [] is there = All-nil (OnlyClears keys table)
shown_one keys table own (one ∷ others) is there =
    All-cons (OnlyClears keys table) (empty_list own) [] (cleared_one keys table own there (λ blank. let none : [] ≡ one ∷ others = sym blank ∙ is in absurd (cc)))
    (All-nil (OnlyClears keys table))

clears_ones : (keys : List TableKey) (table : Table) (some : List TableKey) → ((key : TableKey) → Contains some key → Contains keys key) → All (OnlyClears keys table) (clears table some)
clears_ones keys table [] within = All-nil (OnlyClears keys table)
clears_ones keys table (first ∷ some) within =
    All-append (OnlyClears keys table) (clears_shown first (table first.document first.target)) (clears table some)
    (shown_one keys table first (table first.document first.target) refl (within first (contains_first first some)))
    (clears_ones keys table some (λ key there. within key (contains_later first some key there)))

changes_none : (keys : List TableKey) (table : Table) (root : List ℕ) (changes : List ChangedTarget) → All (OnlyClears keys table) (tells_changes root changes)
changes_none keys table root [] = All-nil (OnlyClears keys table)
changes_none keys table root (change ∷ changes) =
    All-cons (OnlyClears keys table) (changes_said root (change ∷ changes)) []
    (λ p key about same. absurd (false≢true (sym (changes_other root (change ∷ changes)) ∙ sym (ap is_publication same)))) (All-nil (OnlyClears keys table))

reload_clears : {space : Space} {file : Held} {table : Table} {messages : List Said} → Reloads space file table messages → All (OnlyClears (keys_dropped space file) table) messages
reload_clears {space} {file} {table} {messages} reloads =
    let keys = keys_dropped space file in
    subst (All (OnlyClears keys table)) (sym reloads.are)
    (All-append (OnlyClears keys table) (clears table keys) (tells_changes space.root reloads.changes)
    (clears_ones keys table keys (λ key there. there)) (changes_none keys table space.root reloads.changes))

module _ (past : List Event) (asked : Asked) (others : List Asked) (open_is : (after past).requests ≡ asked ∷ others) (space : Space) (file : Held) (is : asked.verdict ≡ reloading space file) where
  published : (p : PublishDiagnosticsParams) (key : TableKey) → IsAbout key p → WriteAllowed (after past) (publication_said p)
      → ClearsOne (keys_dropped space file) (after past).table_at_hand key p
  published p key about allowed =
      let Only = OnlyClears (keys_dropped space file) (after past).table_at_hand in
      let next : ReloadsNext space file (after past) (publication_said p) = by_reload (after past) asked others open_is space file is (publication_said p) allowed in
      let only : Only (publication_said p) =
      All-head Only (publication_said p) next.rest
      (all_right Only (after past).notices (publication_said p ∷ next.rest) (subst (All Only) next.next (reload_clears next.reloads))) in
      only p key about refl

  -- A list is published of a document that the new workspace has too, with whatever diagnostics, or with none.
  pub not_a_list_that_stays : (p : PublishDiagnosticsParams) (key : TableKey) → IsAbout key p → HasKey (space_in space.root file) key → WriteAllowed (after past) (publication_said p) → ⊥
  not_a_list_that_stays p key about has allowed = dropped_is_gone space file key (published p key about allowed).there has

  -- A list is published of a document of which nothing is shown.
  pub not_a_list_where_none_is_shown : (p : PublishDiagnosticsParams) (key : TableKey) → IsAbout key p → IsBlank (after past).table_at_hand key → WriteAllowed (after past) (publication_said p) → ⊥
  not_a_list_where_none_is_shown p key about blank allowed = (published p key about allowed).shown blank

  -- A list is published that isn't empty.
  pub not_a_list_with_diagnostics : (p : PublishDiagnosticsParams) → p.diagnostics ≢ [] → WriteAllowed (after past) (publication_said p) → ⊥
  not_a_list_with_diagnostics p some allowed =
      some (published p (record { document = p.text_document.uri; target = p.build_target.uri }) (record { document = refl; target = refl }) allowed).empty

  -- It is answered with something else than null.
  pub not_answered_otherwise : first_marked (after past).requests ≡ None → (value : Data) → value ≢ null → WriteAllowed (after past) (result (Some asked.id) value) → ⊥
  not_answered_otherwise unmarked value other allowed = other (granted (after past) asked others open_is space file is unmarked value allowed).1

  -- It is refused although its file is accepted, behind whatever it told.
  module _ (accepted : IsWorkspace space.root file) where
    pub not_refused : (text : List ℕ) → WriteAllowed (after past) (failure (Some asked.id) workspace_refused text) → ⊥
    not_refused text allowed = by (first_marked (after past).requests) allowed.by_marks
      where
        m : Said
        m = failure (Some asked.id) workspace_refused text

        by : (marked : Option Asked) → GoesOnOrCancels marked (after past) m → ⊥
        by (Some other) cancels = cancels_without_refusal other other.verdict (after past) asked.id text cancels.for_cause
        by None goes_on =
            let so = subst (λ o. IsRefused o workspace_refused text) (owed (after past) asked others open_is space file is) goes_on.exact in
            accepted.accepted.faultless so.kind so.name so.refused.fault

  -- ---- it drops one document that is shown

  module _ (one : DropsOne space file (after past).table_at_hand) where
    abbrev list : Said
    list = list_cleared space file (after past).table_at_hand one

    abbrev changes : Said
    changes = targets_changed space file (after past).table_at_hand one

    abbrev all : List Said
    all = tells space file (after past).table_at_hand one

    next : (method : List ℕ) (params : Option Data) → WriteAllowed (after past) (notification method params) → IsNextOf all (after past).notices (notification method params)
    next method params allowed =
        next_told (after past) asked others open_is space file is all (tells_whole space file (after past).table_at_hand one) method params allowed

    told : (value : Data) → WriteAllowed (after past) (result (Some asked.id) value) → all ≡ (after past).notices
    told value allowed = all_told (after past) asked others open_is space file is all (tells_whole space file (after past).table_at_hand one) value allowed

    -- ---- it told nothing yet

    module _ (told_is : (after past).notices ≡ []) where
      next_is_list : (method : List ℕ) (params : Option Data) → WriteAllowed (after past) (notification method params) → notification method params ≡ list
      next_is_list method params allowed =
          let it = next method params allowed in
          sym (same_first list (notification method params) (changes ∷ []) it.rest (it.whole ∙ ap (λ ms. ms ++ notification method params ∷ it.rest) told_is))

      -- It is answered before the list.
      pub not_answered_before_the_list : (value : Data) → WriteAllowed (after past) (result (Some asked.id) value) → ⊥
      not_answered_before_the_list value allowed = omega (arith, ap length (told value allowed ∙ told_is))

      -- The changes are told before the list.
      pub not_the_changes_before_the_list : WriteAllowed (after past) changes → ⊥
      unfolding changes_said
      not_the_changes_before_the_list allowed =
          list_is_no_change space file (after past).table_at_hand one
          (next_is_list (codes "buildTarget/didChange") (Some (did_change_params_data (record { changes = map (event_of space.root) (one.change ∷ one.changes) }))) allowed)

    -- ---- it told the list

    module _ (told_is : (after past).notices ≡ list ∷ []) where
      next_is_changes : (method : List ℕ) (params : Option Data) → WriteAllowed (after past) (notification method params) → notification method params ≡ changes
      next_is_changes method params allowed =
          let it = next method params allowed in
          let m = notification method params in
          let rest : changes ∷ [] ≡ m ∷ it.rest = ap (drop 1) (it.whole ∙ ap (λ ms. ms ++ m ∷ it.rest) told_is) in
          sym (same_first changes m [] it.rest rest)

      -- It is answered before the changes are told.
      pub not_answered_before_the_changes : (value : Data) → WriteAllowed (after past) (result (Some asked.id) value) → ⊥
      not_answered_before_the_changes value allowed = omega (arith, ap length (told value allowed ∙ told_is))

      -- The list is told twice.
      pub not_the_list_twice : WriteAllowed (after past) list → ⊥
      not_the_list_twice allowed =
          list_is_no_change space file (after past).table_at_hand one
          (sym (next_is_changes (codes "build/publishDiagnostics") (Some (publish_diagnostics_params_data (piece one.key None true []))) allowed))

    -- ---- it told all

    module _ (told_is : (after past).notices ≡ all) where
      -- Something more is told: the list or the changes once more, or whatever else.
      pub not_told_more : (method : List ℕ) (params : Option Data) → WriteAllowed (after past) (notification method params) → ⊥
      not_told_more method params allowed =
          let it = next method params allowed in
          no_more all it.rest (notification method params) (it.whole ∙ ap (λ ms. ms ++ notification method params ∷ it.rest) told_is)
