-- What tells the messages of a reload from others.
use Rattle.std.proofs.Common.{◌≡◌, ◌≢◌, ◌++◌, ℕ, ℤ, Bool, List, [], ◌∷◌, get_or, false, Option, Some, None, refl, sym, ap, ◌∙◌}
use Rattle.std.specs.Ordering.{int_eq}
use Rattle.std.proofs.lemmas.Bool.{false≢true}
use Rattle.bsp_records.specs.Table.{Table}
use Rattle.bsp_records.specs.declared.diagnostics.DiagnosticRecord.{DiagnosticRecord}
use Rattle.ob_text.specs.declared.held.Held.{Held}
use Rattle.reload_rows.proofs.Clearing.{changes_other}
use Rattle.reload_rows.specs.OneDropped.{DropsOne, answered, empty_list, list_cleared, targets_changed, tells}
use Rattle.rpc_peer.specs.Said.{Said, request, notification, result, failure}
use Rattle.rpc_peer.specs.declared.message.Id.{Id}
use Rattle.session_law.specs.Builds.{cancelled_said, is_publication}
use Rattle.session_law.specs.CancelsForCause.{CancelsAs, refused_cancelled}
use Rattle.session_law.specs.Methods.{Verdict, answering, asking, building, built, cleaning, closing, opening, queued, refusal, reloading, rereading, to_build, to_clean, to_reload, workspace_refused}
use Rattle.session_law.specs.Past.{Now}
use Rattle.session_law.specs.Reloading.{Reloads, clears, clears_shown, tells_changes}
use Rattle.session_law.specs.Requests.{Asked}
use Rattle.target_graph.specs.Workspace.{Space}
use Rattle.task_stream.specs.declared.shown.TableKey.{TableKey}

-- ---- what the reload of these rows tells

shown_clears : (key : TableKey) (list : List DiagnosticRecord) → list ≢ [] → clears_shown key list ≡ empty_list key ∷ []
shown_clears key [] shown = absurd (shown refl)
shown_clears key (one ∷ others) shown = refl

pub tells_whole : (space : Space) (file : Held) (table : Table) (one : DropsOne space file table) → Reloads space file table (tells space file table one)
tells_whole space file table one = record {
  changes = one.change ∷ one.changes;
  changed = one.changed;
  are = sym (ap (λ cleared. cleared ++ tells_changes space.root (one.change ∷ one.changes))
      (ap (clears table) one.drops
      ∙ (ap (λ ms. ms ++ []) (shown_clears one.key (table one.key.document one.key.target) one.shown))));
}

pub list_is_no_change : (space : Space) (file : Held) (table : Table) (one : DropsOne space file table) → targets_changed space file table one ≢ list_cleared space file table one
list_is_no_change space file table one same = false≢true (sym (changes_other space.root (one.change ∷ one.changes)) ∙ ap is_publication same)

pub same_first : (x y : Said) (xs ys : List Said) → x ∷ xs ≡ y ∷ ys → x ≡ y
same_first x y xs ys same = ap (λ ms. get_or ms 0 x) same

-- ---- what is owed to a request that is to be cancelled

-- it isn't answered as a reload is
pub cancels_without_null : (asked : Asked) (v : Verdict) (now : Now) (id : Id) → CancelsAs asked v now (answered id) → ⊥
unfolding cancelled_said refused_cancelled
cancels_without_null asked (built build entries) now id owed = let is = owed.1 in absurd (cc)
cancels_without_null asked (queued (to_build targets origin)) now id owed = absurd (cc)
cancels_without_null asked (queued to_reload) now id owed = absurd (cc)
cancels_without_null asked (queued (to_clean targets)) now id owed = absurd (cc)
cancels_without_null asked (building build) now id owed = absurd (cc)
cancels_without_null asked (rereading space) now id owed = absurd (cc)
cancels_without_null asked (asking root) now id owed = owed
cancels_without_null asked (opening root file) now id owed = owed
cancels_without_null asked (reloading space file) now id owed = owed
cancels_without_null asked (cleaning space targets) now id owed = owed
cancels_without_null asked (answering space question) now id owed = owed
cancels_without_null asked closing now id owed = owed
cancels_without_null asked (refusal code text) now id owed = owed

-- the code of a refusal
abbrev code_in : Said → Option ℤ
code_in (failure id code text) = Some code
code_in (result id value) = None
code_in (notification method params) = None
code_in (request id method params) = None

abbrev is_refused : Option ℤ → Bool
is_refused (Some code) = int_eq workspace_refused code
is_refused None = false

-- and not refused as a workspace is
refused_so : (id other : Id) (text : List ℕ) → failure (Some id) workspace_refused text ≡ refused_cancelled other → ⊥
unfolding refused_cancelled
refused_so id other text same = false≢true (sym (ap (λ m. is_refused (code_in m)) same))

cancelled_so : (id other : Id) (text : List ℕ) (origin : Option (List ℕ)) → failure (Some id) workspace_refused text ≡ cancelled_said other origin → ⊥
unfolding cancelled_said
cancelled_so id other text origin same = false≢true (sym (ap (λ m. is_refused (code_in m)) same))

pub cancels_without_refusal : (asked : Asked) (v : Verdict) (now : Now) (id : Id) (text : List ℕ) → CancelsAs asked v now (failure (Some id) workspace_refused text) → ⊥
cancels_without_refusal asked (built build entries) now id text owed = cancelled_so id asked.id text build.origin owed.1
cancels_without_refusal asked (queued (to_build targets origin)) now id text owed = cancelled_so id asked.id text origin owed
cancels_without_refusal asked (queued to_reload) now id text owed = refused_so id asked.id text owed
cancels_without_refusal asked (queued (to_clean targets)) now id text owed = refused_so id asked.id text owed
cancels_without_refusal asked (building build) now id text owed = cancelled_so id asked.id text build.origin owed
cancels_without_refusal asked (rereading space) now id text owed = refused_so id asked.id text owed
cancels_without_refusal asked (asking root) now id text owed = owed
cancels_without_refusal asked (opening root file) now id text owed = owed
cancels_without_refusal asked (reloading space file) now id text owed = owed
cancels_without_refusal asked (cleaning space targets) now id text owed = owed
cancels_without_refusal asked (answering space question) now id text owed = owed
cancels_without_refusal asked closing now id text owed = owed
cancels_without_refusal asked (refusal code message) now id text owed = owed
