-- A reload at the head is answered, and a cleaning: what was so in the middle of a step is so behind it.
use Rattle.std.proofs.Common.{◌≡◌, ◌++◌, ℕ, List, [], ◌∷◌, map, true, Option, Some, None, Result, Ok, Err, refl, ap, sym, ◌∙◌, subst}
use Rattle.std.proofs.lemmas.List.{map-append}
use Rattle.bsp_records.specs.Results.{clean_cache_result_data}
use Rattle.build_rules.specs.World.{handed_at}
use Rattle.ob_text.specs.Held.{Entries}
use Rattle.ob_text.specs.declared.held.Held.{Held}
use Rattle.reload_messages.specs.Told.{HasTold}
use Rattle.reload_rules.specs.Changes.{AreChanges}
use Rattle.reload_rules.specs.Dropped.{dropped}
use Rattle.rpc_peer.specs.Said as peer
use Rattle.rpc_peer.specs.Said.{Said, IsId, result}
use Rattle.rpc_peer.specs.declared.message.Id.{Id}
use Rattle.rpc_peer.specs.declared.message.Message.{Message}
use Rattle.serde_json.specs.Data.{null}
use Rattle.build_messages.specs.Outgoing.{outgoing_said}
use Rattle.session_build.specs.Remembering.{Remembers}
use Rattle.build_messages.specs.declared.outgoing.Outgoing.{Outgoing}
use Rattle.build_messages.specs.declared.outgoing.Outgoing.TheVariants as waiting
use Rattle.session_core.proofs.Cancelled.{onto-append}
use Rattle.session_verdicts.proofs.Framing.{framed_cleaned, framed_null}
use Rattle.session_core.proofs.Moving.{goes, onto-push, space_is}
use Rattle.session_verdicts.specs.Judging.{Fits}
use Rattle.session_core.specs.Moving.{IsOwedFirst, RunsOn}
use Rattle.session_core.specs.Reloading as reload
use Rattle.session_core.specs.Reloading.{Cleans, IsFresh, IsReread, ReloadsTo}
use Rattle.session_core.specs.Standing.{IsQuiet, MidOf, Moves, Recalls, RemembersIn, Whole}
use Rattle.session_core.specs.State.{plain_of, rest_of, said_out}
use Rattle.session_core.specs.declared.head.Head.{Head}
use Rattle.session_core.specs.declared.session.Core.{Core}
use Rattle.session_verdicts.specs.declared.verdicts.Answer.TheVariants as answers
use Rattle.session_verdicts.specs.declared.verdicts.Reason.{Reason}
use Rattle.session_law.proofs.MidLaws.{mid_first_answered}
use Rattle.session_law.proofs.ReloadLaws.{mid_reloads}
use Rattle.session_law.specs.Builds.{table_behind}
use Rattle.session_law.specs.History.{Told, all_cleaned}
use Rattle.session_law.specs.Methods.{Verdict, cleaning, reloading, rereading, workspace_path}
use Rattle.session_law.specs.Open.{Mid, Open, Plain, none, owing}
use Rattle.session_law.specs.Order.{Event, hand, onto, write}
use Rattle.session_law.specs.Past.{after}
use Rattle.session_law.specs.Reloading.{Reloads, key_of, keys_dropped, keys_of_targets, space_in, tells_changes, clears}
use Rattle.session_law.specs.Requests.{handed_over}
use Rattle.target_graph.specs.Faults.{Accepted, file_targets}
use Rattle.target_graph.specs.Workspace.{Space}
use Rattle.task_stream.specs.Showing.{shows}

-- ---- the tree just answered

pub fresh_hand : (old : Core) (handed : Option Entries) → IsQuiet old → (order : List Event) → Whole old [] [] order
    → IsFresh (record old { head = None }) (after (onto (said_out (record old { head = None })) (hand handed ∷ order)))
fresh_hand old handed quiet order whole =
    let same : onto (said_out old) (hand handed ∷ order) ≡ hand handed ∷ order = ap (λ (items : List Outgoing). onto (map outgoing_said items) (hand handed ∷ order)) quiet in
    let before : onto (said_out old) order ≡ order = ap (λ (items : List Outgoing). onto (map outgoing_said items) order) quiet in
    let table : (after order).table ≡ shows old.shown = ap (λ past. (after past).table) (sym before) ∙ ap (λ (p : Plain). p.table) whole.mid.plain_is in
    record {
      untold = ap (λ past. (after past).notices) same;
      shown = ap (λ past. (after past).table_at_hand) same ∙ table;
    }

pub reloaded_rest : (old : Core) (head : Option Head) (new : Core) → head ≡ None
    → new ≡ record old { head = head; out = new.out; shown = new.shown; kept = new.kept; workspace = new.workspace } → rest_of new ≡ record (rest_of old) { head = None; workspace = new.workspace }
reloaded_rest old head new gone same =
    ap rest_of same ∙ ap (λ h. record (rest_of old) { head = h; workspace = new.workspace }) gone

-- ---- a reload to another workspace

-- an answer is said behind what was told
pub said_behind : (out said : List Said) (told queued : List Outgoing) (message : Message) (answer : Said) → said ≡ out ++ map outgoing_said queued
    → queued ≡ told ++ waiting.Message message ∷ [] → peer.said message ≡ answer → said ≡ out ++ (map outgoing_said told ++ answer ∷ [])
said_behind out said told queued message answer all are is =
    all
    ∙ ap (λ (ms : List Said). out ++ ms)
    (ap (map outgoing_said) are ∙ (map-append outgoing_said told (waiting.Message message ∷ []) ∙ ap (λ (m : Said). map outgoing_said told ++ m ∷ []) is))

module _ (old new : Core) (id : Id) (named : IsId id) (next : Space) (all : List Said)
    (force : new.workspace ≡ Some next) (said : said_out new ≡ said_out old ++ (all ++ result (Some id) null ∷ []))
    (closed : new.closed ≡ old.closed) (taken : new.taken ≡ old.taken) (status : new.status ≡ old.status) where
  module _ (space : Space) (in_force : old.workspace ≡ Some space) (told : HasTold space next (shows old.shown) (shows new.shown) [] all)
      (remembers : (builds : List Told) → Remembers space builds old.kept → Remembers next (all_cleaned (map (key_of space) (dropped space.targets next.targets)) builds) new.kept) where
    all_own : all ≡ told.own
    all_own = told.behind

    module _ (file : Held) (accepted : Accepted file space.root next) where
      targets_are : next.targets ≡ file_targets file
      targets_are = accepted.all_targets

      reloads : Reloads space file (shows old.shown) told.own
      reloads = record {
        changes = told.changes;
        changed = subst (λ ts. AreChanges space.targets ts told.changes) targets_are told.changed;
        are = told.are ∙ ap (λ ts. clears (shows old.shown) (map (key_of space) (dropped space.targets ts)) ++ tells_changes space.root told.changes) targets_are;
      }

      plain_is : plain_of new ≡ record (plain_of old) { table = table_behind told.own (shows old.shown); force = Some (space_in space.root file) }
      plain_is =
          λ i. record {
            force = (force ∙ sym (space_is space.root file next accepted)) i;
            closed = closed i;
            table = λ document target. told.kept document target i;
            taken = taken i;
            status = status i;
          }

      keeps : (builds : List Told) → Recalls old builds → Recalls new (all_cleaned (keys_dropped space file) builds)
      keeps builds recalls =
          let known : Remembers space builds old.kept = subst (λ f. RemembersIn f old.kept builds) in_force recalls in
          subst (λ f. RemembersIn f new.kept (all_cleaned (keys_dropped space file) builds)) (sym force)
          (subst (λ ts. Remembers next (all_cleaned (map (key_of space) (dropped space.targets ts)) builds) new.kept) targets_are (remembers builds known))

      pub core_reloads : (o : Open) (number : ℕ) (order : List Event) → o.first ≡ owing id number (reloading space file) → RunsOn o → IsFresh old (after (onto (said_out old) order)) → MidOf old o order
          → MidOf new (record o { first = none }) order
      core_reloads o number order first runs fresh mid =
          let so_far = onto (said_out old) order in
          let order_is : onto (said_out new) order ≡ write (result (Some id) null) ∷ onto told.own so_far =
          ap (λ ms. onto ms order) (said ∙ ap (λ ms. said_out old ++ (ms ++ result (Some id) null ∷ [])) all_own)
          ∙ (onto-append (said_out old) (told.own ++ result (Some id) null ∷ []) order ∙ onto-push told.own (result (Some id) null) so_far) in
          subst (λ (p : Plain). Mid p (Recalls new) (record o { first = none }) (onto (said_out new) order)) (sym plain_is)
          (subst (Mid (record (plain_of old) { table = table_behind told.own (shows old.shown); force = Some (space_in space.root file) }) (Recalls new) (record o { first = none })) (sym order_is)
          (mid_reloads (plain_of old) (Recalls old) o so_far mid id number space file first (goes o runs) fresh.untold fresh.shown
          (record { space = next; accepted = accepted }) told.own reloads told.framed (framed_null id named) (Recalls new) (keeps (after so_far).builds)))

  pub reloads_to : ((space : Space) → old.workspace ≡ Some space → HasTold space next (shows old.shown) (shows new.shown) [] all)
      → ((space : Space) → old.workspace ≡ Some space → (builds : List Told) → Remembers space builds old.kept → Remembers next (all_cleaned (map (key_of space) (dropped space.targets next.targets)) builds) new.kept)
      → ReloadsTo old new id next
  reloads_to told remembers file accepted o number space order in_force first runs fresh mid =
      core_reloads space in_force (told space in_force) (remembers space in_force) file (accepted space in_force) o number order first runs fresh mid

-- ---- by what the tree holds of the workspace file

-- the file that was read, or none, and what it was judged to be
module _ (old : Core) (handed : Option Entries) (read : Result Space Reason) (is : (space : Space) → old.workspace ≡ Some space → IsReread space handed read) where
  pub reread_root : (next : Space) → read ≡ Ok next → (space : Space) → old.workspace ≡ Some space → space.root ≡ next.root
  reread_root next same space in_force = by handed (subst (IsReread space handed) same (is space in_force))
    where
      by : (h : Option Entries) → IsReread space h (Ok next) → space.root ≡ next.root
      by None gone = absurd gone
      by (Some entries) accepted = sym accepted.at_root

  module _ (new : Core) (id : Id) where
    pub reloads_by : (next : Space) → read ≡ Ok next → ReloadsTo old new id next → reload.Reloads old new id handed
    reloads_by next same changes = by handed (λ space in_force. subst (IsReread space handed) same (is space in_force))
      where
        by : (h : Option Entries) → ((space : Space) → old.workspace ≡ Some space → IsReread space h (Ok next)) → reload.Reloads old new id h
        by None gone o number space order in_force first runs fresh mid = absurd (gone space in_force)
        by (Some entries) accepted o number space order in_force first runs fresh mid =
            changes (handed_at entries workspace_path) accepted o number space order in_force first runs fresh mid

    pub reloads_refused : (reason : Reason) → read ≡ Err reason
        → ((o : Open) (number : ℕ) (v : Verdict) → o.first ≡ owing id number v → RunsOn o → IsOwedFirst old.workspace v → Fits v (answers.Refused reason) → Moves old new o (record o { first = none }))
        → reload.Reloads old new id handed
    reloads_refused reason same refuses = by handed (λ space in_force. subst (IsReread space handed) same (is space in_force))
      where
        by : (h : Option Entries) → ((space : Space) → old.workspace ≡ Some space → IsReread space h (Err reason)) → reload.Reloads old new id h
        by None fits o number space order in_force first runs fresh mid = refuses o number (handed_over None (rereading space)) first runs tt (fits space in_force) order mid
        by (Some entries) fits o number space order in_force first runs fresh mid =
            refuses o number (reloading space (handed_at entries workspace_path)) first runs tt (fits space in_force) order mid

-- ---- a cleaning

pub core_cleans : (old new : Core) (id : Id) (targets : List ℕ) → IsId id → said_out new ≡ said_out old ++ result (Some id) (clean_cache_result_data (record { cleaned = true })) ∷ []
    → new ≡ record old { out = new.out; kept = new.kept }
    → ((space : Space) → old.workspace ≡ Some space → (builds : List Told) → Remembers space builds old.kept → Remembers space (all_cleaned (keys_of_targets space targets) builds) new.kept)
    → Cleans old new id targets
core_cleans old new id targets named said same remembers o number space in_force first runs order mid =
    let answer = result (Some id) (clean_cache_result_data (record { cleaned = true })) in
    let so_far = onto (said_out old) order in
    let workspace : new.workspace ≡ old.workspace = ap (λ (core : Core). core.workspace) same in
    let keeps : Recalls old (after so_far).builds → Recalls new (all_cleaned (keys_of_targets space targets) (after so_far).builds) =
    λ recalls. subst (λ f. RemembersIn f new.kept (all_cleaned (keys_of_targets space targets) (after so_far).builds)) (sym (workspace ∙ in_force))
    (remembers space in_force (after so_far).builds (subst (λ f. RemembersIn f old.kept (after so_far).builds) in_force recalls)) in
    subst (λ (p : Plain). Mid p (Recalls new) (record o { first = none }) (onto (said_out new) order)) (sym (ap plain_of same))
    (subst (Mid (plain_of old) (Recalls new) (record o { first = none })) (sym (ap (λ ms. onto ms order) said ∙ onto-push (said_out old) answer order))
    (mid_first_answered (plain_of old) (Recalls old) o so_far mid id number (cleaning space targets) first (goes o runs) (clean_cache_result_data (record { cleaned = true })) refl refl (framed_cleaned id named) refl
    (Recalls new) keeps))
