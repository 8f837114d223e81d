-- What a reload tells: the cleared lists, and behind them the targets that changed.
use Rattle.std.proofs.Common.{◌≡◌, ◌++◌, ℕ, List, [], ◌∷◌, map, false, refl, ap, sym, ◌∙◌, subst, append-nil, append_assoc, lit≤}
use Rattle.std.specs.Prelude.{codes, None}
use Rattle.std.specs.List.{All}
use Rattle.std.proofs.lemmas.List.{map_push}
use Rattle.std.proofs.lemmas.List.Elements.{All-append, All-cons, All-nil, All-push}
use Rattle.std.proofs.lemmas.List.Sums.{fold-append}
use Rattle.bsp_records.proofs.AnswerLaws.{changes_print}
use Rattle.bsp_records.specs.Notices.{HasEventTexts, did_change_params_data}
use Rattle.bsp_records.specs.ShortAnswers.{IsShortChange, IsShortEvent}
use Rattle.bsp_records.specs.Table.{Table}
use Rattle.bsp_records.specs.declared.diagnostics.DiagnosticRecord.{DiagnosticRecord}
use Rattle.bsp_records.specs.declared.notices.BuildTargetEvent.{BuildTargetEvent}
use Rattle.bsp_records.specs.declared.publishing.PublishDiagnosticsParams.{PublishDiagnosticsParams}
use Rattle.reload_messages.specs.Cleared.{HasCleared}
use Rattle.reload_messages.specs.Told.{HasTold, HasToldChanges}
use Rattle.reload_rules.specs.Changes.{AreChanges}
use Rattle.reload_rules.specs.Dropped.{dropped}
use Rattle.reload_rules.specs.declared.change.ChangedTarget.{ChangedTarget}
use Rattle.rpc_peer.specs.Said.{Said}
use Rattle.serde_json.specs.Written.{has_float}
use Rattle.session_law.proofs.BareLaws.{bare_other, bare_publication}
use Rattle.session_law.proofs.NoticeLaws.{framed_notice}
use Rattle.session_law.specs.Builds.{publication_said, shown_by, table_behind}
use Rattle.session_law.specs.IsFramed.{IsFramed}
use Rattle.session_law.specs.Reloading.{changes_said, clears, clears_shown, event_of, key_of, tells_changes}
use Rattle.session_law.specs.Verdicts.{IsBare}
use Rattle.target_graph.specs.Workspace.{Space}
use Rattle.task_stream.specs.Pieces.{pieces}
use Rattle.task_stream.specs.declared.shown.TableKey.{TableKey}

-- these changes as they are told
pub record AreEvents (root : List ℕ) (changes : List ChangedTarget) (events : List BuildTargetEvent) : Type 0 where
  pub are : events ≡ map (event_of root) changes
  pub texts : All HasEventTexts events
  pub short : All IsShortEvent events

pub one_event : (root : List ℕ) (changes : List ChangedTarget) (change : ChangedTarget) (events : List BuildTargetEvent) (event : BuildTargetEvent)
    → AreEvents root changes events → event ≡ event_of root change → HasEventTexts event → IsShortEvent event → AreEvents root (changes ++ change ∷ []) (events ++ event ∷ [])
one_event root changes change events event all is texts short = record {
  are = ap (λ (es : List BuildTargetEvent). es ++ event ∷ []) all.are ∙ (ap (λ (e : BuildTargetEvent). map (event_of root) changes ++ e ∷ []) is ∙ sym (map_push (event_of root) changes change));
  texts = All-push HasEventTexts events event all.texts texts;
  short = All-push IsShortEvent events event all.short short;
}

-- the notification of changes fits a frame
pub framed_changes : (root : List ℕ) (changes : List ChangedTarget) → has_float (did_change_params_data (record { changes = map (event_of root) changes })) ≡ false
    → IsShortChange (record { changes = map (event_of root) changes }) → IsFramed (changes_said root changes)
unfolding changes_said
framed_changes root changes exact short =
    framed_notice (codes "buildTarget/didChange") (did_change_params_data (record { changes = map (event_of root) changes })) refl refl (lit≤ tt) exact
    (changes_print (record { changes = map (event_of root) changes }) short)

-- where none changed, nothing is told
pub none_told : (old new : Space) (changes : List ChangedTarget) (messages : List Said) → AreChanges old.targets new.targets changes → changes ≡ [] → HasToldChanges old new messages messages
none_told old new changes messages are none = record {
  changes = [];
  changed = subst (AreChanges old.targets new.targets) none are;
  behind = sym (append-nil messages);
  framed = All-nil IsFramed;
}

pub changes_told : (old new : Space) (changes : List ChangedTarget) (before after : List Said) → AreChanges old.targets new.targets changes → (changes ≡ [] → ⊥)
    → after ≡ before ++ changes_said old.root changes ∷ [] → IsFramed (changes_said old.root changes) → HasToldChanges old new before after
changes_told old new [] before after are some behind framed = absurd (some refl)
changes_told old new (change ∷ changes) before after are some behind framed = record {
  changes = change ∷ changes;
  changed = are;
  behind = behind;
  framed = All-cons IsFramed (changes_said old.root (change ∷ changes)) [] framed (All-nil IsFramed);
}

-- it shows nothing
changes_show : (root : List ℕ) (changes : List ChangedTarget) (table : Table) → table_behind (tells_changes root changes) table ≡ table
unfolding changes_said
changes_show root [] table = refl
changes_show root (change ∷ changes) table = refl

pub told_all : (old new : Space) (shown shows : Table) (before middle after : List Said)
    → HasCleared shown shows (map (key_of old) (dropped old.targets new.targets)) before middle → HasToldChanges old new middle after → HasTold old new shown shows before after
told_all old new shown shows before middle after cleared told =
    let lists = clears shown (map (key_of old) (dropped old.targets new.targets)) in
    let changes = tells_changes old.root told.changes in
    record {
      own = lists ++ changes;
      behind = told.behind ∙ (ap (λ ms. ms ++ changes) cleared.behind ∙ append_assoc before lists changes);
      changes = told.changes;
      changed = told.changed;
      are = refl;
      framed = All-append IsFramed lists changes cleared.framed told.framed;
      kept = λ document target.
          cleared.kept document target
          ∙ ap (λ (t : Table). t document target) (sym (fold-append (λ table m. shown_by m table) shown lists changes ∙ changes_show old.root told.changes (table_behind lists shown)));
    }

-- ---- no check finishes by it

published_bare : (ps : List PublishDiagnosticsParams) → All IsBare (map publication_said ps)
published_bare [] = All-nil IsBare
published_bare (p ∷ ps) = All-cons IsBare (publication_said p) (map publication_said ps) (bare_publication (publication_said p) refl) (published_bare ps)

cleared_bare : (key : TableKey) (list : List DiagnosticRecord) → All IsBare (clears_shown key list)
cleared_bare key [] = All-nil IsBare
cleared_bare key (one ∷ others) = published_bare (pieces key None [])

clears_bare : (table : Table) (keys : List TableKey) → All IsBare (clears table keys)
clears_bare table [] = All-nil IsBare
clears_bare table (key ∷ keys) =
    let list = table key.document key.target in
    All-append IsBare (clears_shown key list) (clears table keys) (cleared_bare key list) (clears_bare table keys)

changes_bare : (root : List ℕ) (changes : List ChangedTarget) → All IsBare (tells_changes root changes)
unfolding changes_said
changes_bare root [] = All-nil IsBare
changes_bare root (change ∷ changes) =
    All-cons IsBare (changes_said root (change ∷ changes)) [] (bare_other (changes_said root (change ∷ changes)) refl) (All-nil IsBare)

pub reload_bare : (old new : Space) (shown shows : Table) (before after : List Said) (told : HasTold old new shown shows before after) → All IsBare told.own
reload_bare old new shown shows before after told =
    let keys = map (key_of old) (dropped old.targets new.targets) in
    subst (All IsBare) (sym told.are)
    (All-append IsBare (clears shown keys) (tells_changes old.root told.changes) (clears_bare shown keys) (changes_bare old.root told.changes))
